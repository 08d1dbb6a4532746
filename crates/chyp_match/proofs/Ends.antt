-- From paired wires to their edges.
use Rattle.std.proofs.Common.{ℕ, ◌≡◌, Bool, true, false, List, [], ◌∷◌, Option, Some, None, inl, refl, sym, ◌∙◌, subst, eq-eqb, eqb-true}
use Rattle.std.specs.Bool.{MatchBool}
use Rattle.chyp_graph.specs.PlainGraph.{PlainGraph}
use Rattle.chyp_graph.specs.Validity.{IsValid}
use Rattle.chyp_pairs.specs.declared.pair.Pair.{Pair}
use Rattle.chyp_pairs.specs.declared.pair.Pair.TheVariants.{Wires, Edges}
use Rattle.chyp_pairs.specs.Pairs.{Has, Pairs}
use Rattle.chyp_iso.specs.Port.{IsPortAt, Side, port_pairs}
use Rattle.chyp_iso.specs.Following.{Fits, Includes}
use Rattle.chyp_iso.proofs.Followed.{passes-none}
use Rattle.chyp_iso.proofs.Ports.{once}
use Rattle.chyp_iso.proofs.Ups.{HasEnd, same-cond, up-seeds}
use Rattle.chyp_match.specs.Embedding.{Embedding}
use Rattle.chyp_match.specs.Following.{IsFollowedUp, Maps, Refutes, keeps_place}
use Rattle.chyp_match.proofs.Embedded.{embedding-port, made-closed, made-maps, made_by, maps-made}

-- what the embedding does to the ports
pub up-maps : (g h : PlainGraph) (ps : List Pair) (side : Side) (v w : ℕ) (r q : Option (ℕ × ℕ)) → IsValid h → Has ps (Wires v w) → HasEnd g side v r → HasEnd h side w q → (iso : Embedding g h)
    → Maps iso ps → Maps iso [] → Maps iso (port_pairs r q)
up-maps g h ps side v w r q t k a b iso m n p l =
    made-maps g h iso p (up-seeds g h ps side v w r q k a b (made_test iso) (made-closed g h t iso) (λ x y. maps-made g h iso x (m x y)) (passes-none (made_test iso)) p l)
  where
    made_test : Embedding g h → Pair → Bool
    made_test iso = made_by iso

-- an embedding takes ports to ports at one place
pub up-place : (g h : PlainGraph) → IsValid h → (side : Side) (v w : ℕ) (r q : Option (ℕ × ℕ)) → HasEnd g side v r → HasEnd h side w q → (iso : Embedding g h) → iso.wire v ≡ w
    → keeps_place r q ≡ true
up-place g h t side v w None q a b iso m = refl
up-place g h t side v w (Some x) None a b iso m =
    absurd (b.none refl (iso.edge x.0) x.1 (subst (λ z. IsPortAt h side (iso.edge x.0) x.1 z) m (embedding-port g h iso side x.0 x.1 v a.there)))
up-place g h t side v w (Some x) (Some y) a b iso m =
    let p = subst (λ z. IsPortAt h side (iso.edge x.0) x.1 z) m (embedding-port g h iso side x.0 x.1 v a.there) in
    eq-eqb x.1 y.1 (once h t side (iso.edge x.0) x.1 y.0 y.1 w p b.there).1

-- the wires are followed where the edges of their ports are paired
pub up-followed : (g h : PlainGraph) → IsValid g → (ps : List Pair) (side : Side) (v w : ℕ) (r q : Option (ℕ × ℕ)) → HasEnd g side v r → HasEnd h side w q → keeps_place r q ≡ true
    → Includes (port_pairs r q) ps → IsFollowedUp g h ps side v w
up-followed g h s ps side v w None q a b e k = λ d i p. absurd (a.none refl d i p)
up-followed g h s ps side v w (Some x) None a b e k = cc
up-followed g h s ps side v w (Some x) (Some y) a b e k = λ d i p.
    let o = once g s side d i x.0 x.1 v p a.there in
    (y.0, subst (λ j. IsPortAt h side y.0 j w) (sym (o.1 ∙ same)) b.there, subst (λ z. Has ps (Edges z y.0)) (sym o.0) paired)
  where
    same : x.1 ≡ y.1
    same = eqb-true x.1 y.1 e

    paired : Has ps (Edges x.0 y.0)
    paired = k (Edges x.0 y.0) (subst (λ l. Has l (Edges x.0 y.0)) (sym (same-cond x.1 y.1 (Edges x.0 y.0 ∷ []) same)) (inl refl))

pub up-answer : (g h : PlainGraph) (s t : Pairs) (side : Side) (v w : ℕ) (r q : Option (ℕ × ℕ)) (b : Bool) → Fits g h s → Has s.pairs (Wires v w) → HasEnd g side v r → HasEnd h side w q
    → MatchBool b ((keeps_place r q ≡ true) × Includes (port_pairs r q) t.pairs) (keeps_place r q ≡ true → Refutes g h (port_pairs r q) s.pairs)
    → MatchBool b (IsFollowedUp g h t.pairs side v w) (Refutes g h [] s.pairs)
up-answer g h s t side v w r q true f k x y m = up-followed g h f.first_valid t.pairs side v w r q x y m.0 m.1
up-answer g h s t side v w r q false f k x y m = λ iso c n.
    m (up-place g h f.second_valid side v w r q x y iso (c (Wires v w) k)) iso c (up-maps g h s.pairs side v w r q f.second_valid k x y iso c n)
