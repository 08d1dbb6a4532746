-- From paired wires to their edges.
use Rattle.std.proofs.Common.{[], ℕ, ◌<◌, ◌≡◌, Bool, true, false, cond, eqb, List, ◌∷◌, length, Option, Some, None, slice_get, option_map, IfSome, IsNone, Contains, ◌↔◌, ◌⊎◌, inl, inr, refl}
use Rattle.std.proofs.Common.{sym, ◌∙◌, ap, subst, eq-eqb, eqb-true}
use Rattle.std.specs.Bool.{MatchBool}
use Rattle.std.specs.Option.{option_and_then}
use Rattle.std.proofs.lemmas.Bool.{cases_Bool}
use Rattle.chyp_term.proofs.Permuted.{found, in_map}
use Rattle.chyp_term.proofs.Members.{Contains-member}
use Rattle.chyp_graph.specs.PlainGraph.{Edge, PlainGraph, renamed}
use Rattle.chyp_graph.specs.Isomorphism.{Isomorphic}
use Rattle.chyp_graph.specs.Validity.{IsValid}
use Rattle.chyp_pairs.specs.declared.pair.Pair.{Pair}
use Rattle.chyp_pairs.specs.declared.pair.Pair.TheVariants.{Wires, Edges}
use Rattle.chyp_iso.specs.Pair.{WiresFit}
use Rattle.chyp_pairs.specs.Pairs.{Has, Pairs}
use Rattle.chyp_iso.specs.Port.{IsPortAt, Side, at_one_place, port_pairs, ports_on, the_sources, the_targets}
use Rattle.chyp_iso.specs.Following.{Fits, Includes, IsClosedUnder, IsFollowedUp, Leads, Maps, Passes, Refutes}
use Rattle.chyp_iso.proofs.Followed.{Leads-seeds, iso-port, made-closed, made-maps, made_by, maps-made, passes-none, passes-one}
use Rattle.chyp_iso.proofs.Ports.{below-edge, once, port-no_end, wire-below}

renamed-back : (f : ℕ → ℕ) (side : Side) (d : Edge) (i y : ℕ) → slice_get (ports_on side (renamed f d)) i ≡ Some y → (x : ℕ) × (slice_get (ports_on side d) i ≡ Some x) × (f x ≡ y)
renamed-back f the_sources d i y e = in_map f d.sources i y e
renamed-back f the_targets d i y e = in_map f d.targets i y e

pub iso-back : (g h : PlainGraph) (iso : Isomorphic g h) (side : Side) (f i w : ℕ) → IsPortAt h side f i w → (v : ℕ) × IsPortAt g side (iso.edge_back f) i v × (iso.wire v ≡ w)
iso-back g h iso side f i w p =
    let l = below-edge h side f i w p in
    let e = iso.edge_back f in
    let d = found g.edges e (iso.edges.back f l) in
    let q : slice_get h.edges f ≡ Some (renamed iso.wire d.0) = ap (slice_get h.edges) (sym (iso.edges.there_back f l)) ∙ iso.ports e (iso.edges.back f l) ∙ ap (option_map (renamed iso.wire)) d.1 in
    let r : slice_get (ports_on side (renamed iso.wire d.0)) i ≡ Some w = sym (ap (option_and_then (λ x. slice_get (ports_on side x) i)) q) ∙ p in
    let x = renamed-back iso.wire side d.0 i w r in
    (x.0, ap (option_and_then (λ y. slice_get (ports_on side y) i)) d.1 ∙ x.1, x.2)

-- the wires have these ports, or none
pub record HasEnd (g : PlainGraph) (side : Side) (v : ℕ) (port : Option (ℕ × ℕ)) : Type 0 where
  pub there : IfSome port (λ p. IsPortAt g side p.0 p.1 v)
  pub none : port ≡ None → (e i : ℕ) → IsPortAt g side e i v → ⊥

pub end-targets : (g : PlainGraph) → IsValid g → (v : ℕ) (r : Option (ℕ × ℕ)) → IfSome r (λ p. IsPortAt g the_targets p.0 p.1 v) → IsNone r ↔ Contains g.inputs v → HasEnd g the_targets v r
end-targets g t v r a b = record {
  there = a;
  none = λ q e i p. port-no_end (λ x. x.targets) g.edges (length g.wires) g.inputs t.producers e i v p (Contains-member g.inputs v (b.0 (none r q)));
}
  where
    none : (o : Option (ℕ × ℕ)) → o ≡ None → IsNone o
    none None q = refl
    none (Some x) q = cc

pub end-sources : (g : PlainGraph) → IsValid g → (v : ℕ) (r : Option (ℕ × ℕ)) → IfSome r (λ p. IsPortAt g the_sources p.0 p.1 v) → IsNone r ↔ Contains g.outputs v → HasEnd g the_sources v r
end-sources g t v r a b = record {
  there = a;
  none = λ q e i p. port-no_end (λ x. x.sources) g.edges (length g.wires) g.outputs t.consumers e i v p (Contains-member g.outputs v (b.0 (none r q)));
}
  where
    none : (o : Option (ℕ × ℕ)) → o ≡ None → IsNone o
    none None q = refl
    none (Some x) q = cc

pub end-edge : (g : PlainGraph) (side : Side) (v : ℕ) (r : Option (ℕ × ℕ)) → IfSome r (λ p. IsPortAt g side p.0 p.1 v) → IfSome r (λ p. p.0 < length g.edges)
end-edge g side v None a = tt
end-edge g side v (Some p) a = below-edge g side p.0 p.1 v a

pub same-cond : (i j : ℕ) (ps : List Pair) → i ≡ j → cond (eqb i j) ps [] ≡ ps
same-cond i j ps e = rw (eq-eqb i j e) refl

-- the edges of the two ports follow from the wires
pub up-seeds : (g h : PlainGraph) (ps : List Pair) (side : Side) (v w : ℕ) (r q : Option (ℕ × ℕ)) → Has ps (Wires v w) → HasEnd g side v r → HasEnd h side w q
    → (test : Pair → Bool) → IsClosedUnder g h test → Passes test ps → Passes test [] → Passes test (port_pairs r q)
up-seeds g h ps side v w None None k a b test c p n = n
up-seeds g h ps side v w None (Some y) k a b test c p n = n
up-seeds g h ps side v w (Some x) None k a b test c p n = n
up-seeds g h ps side v w (Some x) (Some y) k a b test c p n = go (cases_Bool (eqb x.1 y.1))
  where
    go : (eqb x.1 y.1 ≡ true) ⊎ (eqb x.1 y.1 ≡ false) → Passes test (cond (eqb x.1 y.1) (Edges x.0 y.0 ∷ []) [])
    go (inr e) = rw e n
    go (inl e) = rw e (passes-one test (Edges x.0 y.0) (c.up side x.0 y.0 x.1 v w (p (Wires v w) k) a.there (subst (λ i. IsPortAt h side y.0 i w) (sym (eqb-true x.1 y.1 e)) b.there)))

-- what the isomorphism does to the ports
pub up-maps : (g h : PlainGraph) (ps : List Pair) (side : Side) (v w : ℕ) (r q : Option (ℕ × ℕ)) → IsValid h → Has ps (Wires v w) → HasEnd g side v r
    → HasEnd h side w q → (iso : Isomorphic g h) → Maps iso ps → Maps iso [] → Maps iso (port_pairs r q)
up-maps g h ps side v w r q t k a b iso m n p l =
    made-maps g h iso p (up-seeds g h ps side v w r q k a b (made_test iso) (made-closed g h t iso) (λ x y. maps-made g h iso x (m x y)) (passes-none (made_test iso)) p l)
  where
    made_test : Isomorphic g h → Pair → Bool
    made_test iso = made_by iso

-- an isomorphism takes ports to ports at one place
pub up-place : (g h : PlainGraph) → IsValid g → IsValid h → (side : Side) (v w : ℕ) (r q : Option (ℕ × ℕ)) → v < length g.wires → HasEnd g side v r
    → HasEnd h side w q → (iso : Isomorphic g h) → iso.wire v ≡ w → at_one_place r q ≡ true
up-place g h s t side v w None None l a b iso m = refl
up-place g h s t side v w None (Some y) l a b iso m =
    let x = iso-back g h iso side y.0 y.1 w b.there in
    let e : x.0 ≡ v = sym (iso.wires.back_there x.0 (wire-below g s side _ _ x.0 x.1)) ∙ ap iso.wire_back (x.2 ∙ sym m) ∙ iso.wires.back_there v l in
    absurd (a.none refl (iso.edge_back y.0) y.1 (subst (λ z. IsPortAt g side (iso.edge_back y.0) y.1 z) e x.1))
up-place g h s t side v w (Some x) None l a b iso m =
    absurd (b.none refl (iso.edge x.0) x.1 (subst (λ z. IsPortAt h side (iso.edge x.0) x.1 z) m (iso-port g h iso side x.0 x.1 v a.there)))
up-place g h s t side v w (Some x) (Some y) l a b iso m =
    let p = subst (λ z. IsPortAt h side (iso.edge x.0) x.1 z) m (iso-port g h iso side x.0 x.1 v a.there) in
    eq-eqb x.1 y.1 (once h t side (iso.edge x.0) x.1 y.0 y.1 w p b.there).1

-- the wires are followed where the edges of their ports are paired
pub up-followed : (g h : PlainGraph) → IsValid g → IsValid h → (ps : List Pair) (side : Side) (v w : ℕ) (r q : Option (ℕ × ℕ)) → HasEnd g side v r
    → HasEnd h side w q → at_one_place r q ≡ true → Includes (port_pairs r q) ps → IsFollowedUp g h ps side v w
up-followed g h s t ps side v w None None a b e k = record {
  there = λ d i p. absurd (a.none refl d i p);
  back = λ d i p. absurd (b.none refl d i p);
}
up-followed g h s t ps side v w None (Some y) a b e k = cc
up-followed g h s t ps side v w (Some x) None a b e k = cc
up-followed g h s t ps side v w (Some x) (Some y) a b e k = record {
  there = λ d i p.
      let o = once g s side d i x.0 x.1 v p a.there in
      (y.0, subst (λ j. IsPortAt h side y.0 j w) (sym (o.1 ∙ same)) b.there, subst (λ z. Has ps (Edges z y.0)) (sym o.0) paired);
  back = λ d i p.
      let o = once h t side d i y.0 y.1 w p b.there in
      (x.0, subst (λ j. IsPortAt g side x.0 j v) (same ∙ sym o.1) a.there, subst (λ z. Has ps (Edges x.0 z)) (sym o.0) paired);
}
  where
    same : x.1 ≡ y.1
    same = eqb-true x.1 y.1 e

    paired : Has ps (Edges x.0 y.0)
    paired = k (Edges x.0 y.0) (subst (λ l. Has l (Edges x.0 y.0)) (sym (same-cond x.1 y.1 (Edges x.0 y.0 ∷ []) same)) (inl refl))

-- what the step to the ports answers
pub up-leads : (g h : PlainGraph) (s t : Pairs) (side : Side) (v w : ℕ) (r q : Option (ℕ × ℕ)) → Has s.pairs (Wires v w) → HasEnd g side v r → HasEnd h side w q
    → Leads g h (port_pairs r q) s t → Leads g h [] s t
up-leads g h s t side v w r q k a b l = Leads-seeds g h [] (port_pairs r q) s t l (up-seeds g h s.pairs side v w r q k a b)

pub up-answer : (g h : PlainGraph) (s t : Pairs) (side : Side) (v w : ℕ) (r q : Option (ℕ × ℕ)) (b : Bool) → Fits g h s → Has s.pairs (Wires v w) → HasEnd g side v r → HasEnd h side w q
    → MatchBool b ((at_one_place r q ≡ true) × Includes (port_pairs r q) t.pairs) (at_one_place r q ≡ true → Refutes g h (port_pairs r q) s.pairs)
    → MatchBool b (IsFollowedUp g h t.pairs side v w) (Refutes g h [] s.pairs)
up-answer g h s t side v w r q true f k x y m = up-followed g h f.first_valid f.second_valid t.pairs side v w r q x y m.0 m.1
up-answer g h s t side v w r q false f k x y m = λ iso c n.
    let fit : WiresFit g h v w = f.pairs (Wires v w) k in
    m (up-place g h f.first_valid f.second_valid side v w r q fit.there x y iso (c (Wires v w) k)) iso c (up-maps g h s.pairs side v w r q f.second_valid k x y iso c n)
