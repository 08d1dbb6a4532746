-- What goes into an edge, where the term around it changes.
use Rattle.std.proofs.Common.{◌≡◌, List, map, length, get_or, ◌⊎◌, inl, inr, sym, ◌∙◌, ap, zero-add}
use Rattle.chyp_term.specs.Morphism.{Morphism, then, dom, IsTyped}
use Rattle.chyp_term.specs.Perm.{count_from}
use Rattle.chyp_term.proofs.Positions.{map-map}
use Rattle.chyp_theory.proofs.Congruence.{length-run}
use Rattle.chyp_theory.proofs.Peeling.{ins, length-ins_of, map-get_or}
use Rattle.chyp_theory.proofs.Renaming.{Producer, In, Target, map-src}
use Rattle.chyp_theory.proofs.Running.{EdgeOf, run, src, Alike}

-- what makes a wire, where edges are renamed
abbrev pub rename : {E F : Type 0} → (E → F) → Producer E → Producer F
rename f (In j) = In j
rename f (Target e i) = Target (f e) i

-- into an edge of an alike term
pub src-along : {s t : Morphism} → IsTyped s → (k : Alike s t) → (e : EdgeOf t)
    → map (rename k.to) (src s (λ e i. Target e i) (ins s) (k.from e)) ≡ src t (λ e i. Target e i) (ins t) e
src-along {s} {t} ts k e =
    map-src (rename k.to) s ts (λ e i. Target e i) (ins s) (length-ins_of s) (k.from e)
    ∙ ap (λ l. src s (λ e i. Target (k.to e) i) l (k.from e))
    (map-map (rename k.to) (λ j. In j) (count_from 0 (length (dom s))) ∙ ap (λ m. map (λ j. In j) (count_from 0 m)) (ap length k.doms))
    ∙ sym (k.srcs (λ e i. Target e i) (ins t) (length-ins_of t ∙ ap length (sym k.doms)) (k.from e))
    ∙ ap (src t (λ e i. Target e i) (ins t)) (k.to_from e)

-- into an edge of the first of two terms
pub src-first : (s t : Morphism) → IsTyped s → (e : EdgeOf s)
    → map (rename {F = EdgeOf s ⊎ EdgeOf t} (λ e. inl e)) (src s (λ e i. Target e i) (ins s) e) ≡ src s (λ e i. Target (inl e) i) (ins (then s t)) e
src-first s t ts e =
    map-src (rename (λ e. inl e)) s ts (λ e i. Target e i) (ins s) (length-ins_of s) e
    ∙ ap (λ l. src s (λ e i. Target (inl e) i) l e) (map-map (rename (λ e. inl e)) (λ j. In j) (count_from 0 (length (dom s))))

-- into an edge of the second of two terms, through what comes out of the first
module _ (k m : Morphism) (ty : IsTyped (then k m)) where
  abbrev pub before : List (Producer (EdgeOf (then k m)))
  before = run k (λ e i. Target (inl e) i) (ins (then k m))

  abbrev pub lifted : Producer (EdgeOf m) → Producer (EdgeOf (then k m))
  lifted (In j) = get_or before j (In 0)
  lifted (Target e i) = Target (inr e) i

  before-size : length before ≡ length (dom m)
  before-size = length-run k ty.0 (λ e i. Target (inl e) i) (ins (then k m)) (length-ins_of (then k m)) ∙ ap length ty.2

  pub later : (e : EdgeOf m) → map lifted (src m (λ e i. Target e i) (ins m) e) ≡ src (then k m) (λ e i. Target e i) (ins (then k m)) (inr e)
  later e =
      map-src lifted m ty.1 (λ e i. Target e i) (ins m) (length-ins_of m) e
      ∙ ap (λ l. src m (λ e i. Target (inr e) i) l e)
      (map-map lifted (λ j. In j) (count_from 0 (length (dom m)))
      ∙ ap (λ n. map (λ j. get_or before j (In 0)) (count_from 0 n)) (sym before-size)
      ∙ map-get_or before (In 0) 0 (λ j. get_or before j (In 0)) (λ j. ap (λ i. get_or before i (In 0)) (zero-add j)))
