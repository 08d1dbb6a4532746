-- The edge that has the image of a wire on one side, where there is one.
use Rattle.std.proofs.Common.{ℕ, ◌≡◌, List, Option, Some, None, sym, ◌∙◌, subst}
use Rattle.chyp_graph.specs.PlainGraph.{PlainGraph}
use Rattle.chyp_graph.specs.Validity.{IsValid}
use Rattle.chyp_pairs.specs.declared.pair.Pair.{Pair}
use Rattle.chyp_pairs.specs.declared.pair.Pair.TheVariants.{Wires}
use Rattle.chyp_pairs.specs.Pairs.{Has, IsMatching, image, wire_there}
use Rattle.chyp_iso.specs.Port.{IsPortAt, Side}
use Rattle.chyp_iso.proofs.Ports.{once}
use Rattle.chyp_iso.proofs.Steps.{there-wires, wires-there}
use Rattle.chyp_iso.proofs.Ups.{HasEnd}

module _ (g : PlainGraph) (t : IsValid g) (ps : List Pair) (m : IsMatching ps) (side : Side) where
  -- the edge j has the image of the wire v on this side
  abbrev pub HasImage : ℕ → ℕ → Type 0
  HasImage v j = (w i : ℕ) × Has ps (Wires v w) × IsPortAt g side j i w

  pub no-image : (v : ℕ) → image wire_there ps v ≡ None → (j : ℕ) → HasImage v j → ⊥
  no-image v e j h = let both : ◌≡◌ {A = Option ℕ} None (Some h.0) = sym e ∙ wires-there ps m v h.0 h.2 in cc

  one-image : (v w x : ℕ) → image wire_there ps v ≡ Some w → Has ps (Wires v x) → x ≡ w
  one-image v w x e h = let both : ◌≡◌ {A = Option ℕ} (Some x) (Some w) = sym (wires-there ps m v x h) ∙ e in cc

  pub no-end : (v w : ℕ) (r : Option (ℕ × ℕ)) → image wire_there ps v ≡ Some w → HasEnd g side w r → r ≡ None → (j : ℕ) → HasImage v j → ⊥
  no-end v w r e h n j x = h.none n j x.1 (subst (IsPortAt g side j x.1) (one-image v w x.0 e x.2) x.3)

  pub the-end : (v w k i : ℕ) → image wire_there ps v ≡ Some w → IsPortAt g side k i w → HasImage v k × ((j : ℕ) → HasImage v j → j ≡ k)
  the-end v w k i e p = ((w, i, there-wires ps v w e, p), λ j x. (once g t side j x.1 k i w (subst (IsPortAt g side j x.1) (one-image v w x.0 e x.2) x.3) p).0)
