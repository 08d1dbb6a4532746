-- A term in a context, in a graph.
use Rattle.std.proofs.Common.{ℕ, ◌+◌, ◌<◌, ◌≡◌, true, not, List, map, length, take, drop, Option, Some, None, slice_index, inl, inr, refl, sym, ◌∙◌, ap, subst, arith, length-append}
use Rattle.std.proofs.Common.{length-drop, take-append-drop, zero-add}
use Rattle.std.specs.List.{AllByRecursion}
use Rattle.chyp_base.specs.declared.sort.Sort.{Sort}
use Rattle.chyp_term.specs.Derivation.{identity}
use Rattle.chyp_term.specs.Morphism.{Morphism, then, beside, dom, IsTyped}
use Rattle.chyp_term.specs.Perm.{count_from}
use Rattle.chyp_term.specs.Positions.{place_of, is_there, is_apart}
use Rattle.chyp_term.proofs.Closure.{index-get, get-index}
use Rattle.chyp_term.proofs.Distinct.{all-map}
use Rattle.chyp_term.proofs.Inverses.{place-found}
use Rattle.chyp_term.proofs.Positions.{slice_get-length, map-map, apart-none}
use Rattle.chyp_theory.proofs.Congruence.{length-run}
use Rattle.chyp_theory.proofs.Peeling.{get_or-count}
use Rattle.chyp_theory.proofs.Renaming.{Producer, In, Target}
use Rattle.chyp_theory.proofs.Running.{EdgeOf, label_of, run, src}
use Rattle.chyp_graph.specs.PlainGraph.{PlainGraph}
use Rattle.chyp_laws.proofs.Drawing.{IsWire}
use Rattle.chyp_laws.proofs.Draws.{Draws, ins-size, edge-below, edge-apart, wire-apart}
use Rattle.chyp_term.proofs.Apart.{Apart, Apart-split, all-split, all-index}
use Rattle.chyp_laws.proofs.Front.{IsEarly, front_linear, front_early}
use Rattle.chyp_term.proofs.SameMembers.{none-not}

-- x in the context of b before it, of a behind it, and of the wires K beside it
abbrev pub context : List Sort → Morphism → Morphism → Morphism → Morphism
context K b a x = then b (then (beside (identity K) x) a)

-- the wires ws and the edges es of g are those of l in the context
pub record Placed (K : List Sort) (b a l : Morphism) (lG g : PlainGraph) (dl : Draws l lG) (es ws : List ℕ) : Type 0 where
  pub d : Draws (context K b a l) g
  pub es_size : length es ≡ length lG.edges
  pub ws_size : length ws ≡ length lG.wires
  pub es_at : (e : EdgeOf l) → slice_index es (dl.edge e) ≡ d.edge (inr (inl (inr e)))
  pub ws_target : (e : EdgeOf l) (i : ℕ) → i < length (label_of l e).cod → slice_index ws (dl.wire (Target e i)) ≡ d.wire (Target (inr (inl (inr e))) i)
  pub ws_in : map (slice_index ws) lG.inputs ≡ drop (length K) (run b (λ e i. d.wire (Target (inl e) i)) g.inputs)

module _ {K : List Sort} {b a l : Morphism} {lG g : PlainGraph} (ty : IsTyped (context K b a l)) {dl : Draws l lG} {es ws : List ℕ}
    (p : Placed K b a l lG g dl es ws) where
  -- what comes out of b
  abbrev pub outs : List ℕ
  outs = run b (λ e i. p.d.wire (Target (inl e) i)) g.inputs

  -- those of them that go into l
  abbrev pub ends : List ℕ
  ends = drop (length K) outs

  pub outs_size : length outs ≡ length K + length (dom l)
  outs_size = length-run b ty.0 _ g.inputs (ins-size p.d) ∙ ap length ty.2 ∙ length-append K (dom l)

  pub ends_size : length ends ≡ length (dom l)
  ends_size = let q = outs_size in length-drop (length K) outs ∙ omega arith

  pub outs_apart : Apart outs
  outs_apart = (front_linear ty p.d).outs

  pub rest_ends : Apart (take (length K) outs) × Apart ends × AllByRecursion (λ x. AllByRecursion (λ y. ¬ (x ≡ y)) ends) (take (length K) outs)
  rest_ends = Apart-split (take (length K) outs) ends (subst Apart (sym (take-append-drop (length K) outs)) outs_apart)

  pub split_early : AllByRecursion (λ w. IsEarly (p.d.from w)) (take (length K) outs) × AllByRecursion (λ w. IsEarly (p.d.from w)) ends
  split_early =
      all-split (λ w. IsEarly (p.d.from w)) (take (length K) outs) ends
      (subst (AllByRecursion (λ w. IsEarly (p.d.from w))) (sym (take-append-drop (length K) outs)) (front_early ty p.d).0)

  pub source_early : (e : EdgeOf b) → AllByRecursion (λ w. IsEarly (p.d.from w)) (src b (λ e i. p.d.wire (Target (inl e) i)) g.inputs e)
  source_early e = (front_early ty p.d).1 e

  pub source_apart : (e : EdgeOf b) → AllByRecursion (λ w. AllByRecursion (λ x. ¬ (w ≡ x)) ends) (src b (λ e i. p.d.wire (Target (inl e) i)) g.inputs e)
  source_apart e = all-map (λ w. AllByRecursion (λ x. ¬ (w ≡ x)) outs) (λ w. AllByRecursion (λ x. ¬ (w ≡ x)) ends)
      (λ w h. (all-split (λ x. ¬ (w ≡ x)) (take (length K) outs) ends (subst (AllByRecursion (λ x. ¬ (w ≡ x))) (sym (take-append-drop (length K) outs)) h)).1)
      (src b (λ e i. p.d.wire (Target (inl e) i)) g.inputs e) ((front_linear ty p.d).taken e)

  pub input_at : (j : ℕ) → j < length (dom l) → slice_index ws (dl.wire (In j)) ≡ slice_index ends j
  input_at j h =
      sym (ap (λ z. slice_index z j)
      (sym p.ws_in ∙ ap (map (slice_index ws)) dl.inputs ∙ map-map (slice_index ws) (λ j. dl.wire (In j)) (count_from 0 (length (dom l))))
      ∙ get_or-count (λ j. slice_index ws (dl.wire (In j))) 0 (length (dom l)) j 0 h ∙ ap (λ k. slice_index ws (dl.wire (In k))) (zero-add j))

  -- what is no end and no target of l is outside
  pub outside : (w : ℕ) → AllByRecursion (λ x. ¬ (w ≡ x)) ends
      → ((e : EdgeOf l) (i : ℕ) → i < length (label_of l e).cod → p.d.wire (Target (inr (inl (inr e))) i) ≡ w → ⊥) → is_apart ws w ≡ true
  outside w f t = go (place_of w ws) refl
    where
      found_at : (v : ℕ) → slice_index ws v ≡ w → v < length lG.wires → (x : Producer (EdgeOf l)) → IsWire l x → dl.wire x ≡ v → ⊥
      found_at v e h (In j) q r =
          all-index (λ x. ¬ (w ≡ x)) ends f j (subst (λ n. j < n) (sym ends_size) q) (sym e ∙ ap (slice_index ws) (sym r) ∙ input_at j q)
      found_at v e h (Target d i) q r = t d i q (sym (p.ws_target d i q) ∙ ap (slice_index ws) r ∙ e)

      go : (o : Option ℕ) → place_of w ws ≡ o → is_apart ws w ≡ true
      go None e = ap (λ o. not (is_there o)) e
      go (Some v) e =
          let s = place-found w ws v e in
          let h : v < length lG.wires = subst (λ n. v < n) p.ws_size (slice_get-length ws v w s) in
          absurd (found_at v (index-get ws v w s) h (dl.from v) (dl.from_valid v h) (dl.wire_from v h))

  pub early_outside : (w : ℕ) → IsEarly (p.d.from w) → AllByRecursion (λ x. ¬ (w ≡ x)) ends → is_apart ws w ≡ true
  early_outside w h f = outside w f (λ e i l q. subst IsEarly (ap p.d.from (sym q) ∙ p.d.from_wire (Target (inr (inl (inr e))) i) l) h)

  late_not_early : (e : EdgeOf a) (i : ℕ) → i < length (label_of a e).cod → IsEarly (p.d.from (p.d.wire (Target (inr (inr e)) i))) → ⊥
  late_not_early e i h q = subst IsEarly (p.d.from_wire (Target (inr (inr e)) i) h) q

  pub late_not_end : (e : EdgeOf a) (i : ℕ) → i < length (label_of a e).cod → AllByRecursion (λ x. ¬ (p.d.wire (Target (inr (inr e)) i) ≡ x)) ends
  late_not_end e i h =
      all-map (λ w. IsEarly (p.d.from w)) (λ x. ¬ (p.d.wire (Target (inr (inr e)) i) ≡ x))
      (λ x y q. late_not_early e i h (subst (λ z. IsEarly (p.d.from z)) (sym q) y)) ends split_early.1

  -- what edges of a make is outside the image
  pub late_outside : (e : EdgeOf a) (i : ℕ) → i < length (label_of a e).cod → is_apart ws (p.d.wire (Target (inr (inr e)) i)) ≡ true
  late_outside e i h = outside _ (late_not_end e i h) (λ d j l q. no d j (wire-apart p.d (Target (inr (inl (inr d))) j) (Target (inr (inr e)) i) l h q))
    where
      no : (d : EdgeOf l) (j : ℕ) → ◌≡◌ {A = Producer (EdgeOf (context K b a l))} (Target (inr (inl (inr d))) j) (Target (inr (inr e)) i) → ⊥
      no d j q = cc

  -- the images are inside
  pub inside : (v : ℕ) → v < length ws → is_apart ws (slice_index ws v) ≡ true → ⊥
  inside v h q = none-not (slice_index ws v) ws v (get-index ws v h) (apart-none ws (slice_index ws v) q)

  pub mid_inside : (e : EdgeOf l) (i : ℕ) → i < length (label_of l e).cod → is_apart ws (p.d.wire (Target (inr (inl (inr e))) i)) ≡ true → ⊥
  mid_inside e i h q =
      inside (dl.wire (Target e i)) (subst (λ n. dl.wire (Target e i) < n) (sym p.ws_size) (dl.wire_below (Target e i) h))
      (ap (is_apart ws) (p.ws_target e i h) ∙ q)

  pub end_inside : (j : ℕ) → j < length (dom l) → is_apart ws (slice_index ends j) ≡ true → ⊥
  end_inside j h q = inside (dl.wire (In j)) (subst (λ n. dl.wire (In j) < n) (sym p.ws_size) (dl.wire_below (In j) h)) (ap (is_apart ws) (input_at j h) ∙ q)

  pub edge_inside : (e : EdgeOf l) → is_apart es (p.d.edge (inr (inl (inr e)))) ≡ true → ⊥
  edge_inside e q =
      let h : dl.edge e < length es = subst (λ n. dl.edge e < n) (sym p.es_size) (edge-below dl e) in
      none-not (slice_index es (dl.edge e)) es (dl.edge e) (get-index es (dl.edge e) h)
      (apart-none es (slice_index es (dl.edge e)) (ap (is_apart es) (p.es_at e) ∙ q))

  -- the edges of b and a are outside the image
  pub edge_outside : (x : EdgeOf (context K b a l)) → ((e : EdgeOf l) → x ≡ inr (inl (inr e)) → ⊥) → is_apart es (p.d.edge x) ≡ true
  edge_outside x f = go (place_of (p.d.edge x) es) refl
    where
      go : (o : Option ℕ) → place_of (p.d.edge x) es ≡ o → is_apart es (p.d.edge x) ≡ true
      go None e = ap (λ o. not (is_there o)) e
      go (Some v) e =
          let s = place-found (p.d.edge x) es v e in
          let y = dl.edge_onto v (subst (λ n. v < n) p.es_size (slice_get-length es v _ s)) in
          absurd (f y.0 (edge-apart p.d x (inr (inl (inr y.0))) (sym (index-get es v _ s) ∙ ap (slice_index es) (sym y.2) ∙ p.es_at y.0)))
