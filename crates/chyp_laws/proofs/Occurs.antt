-- A term in a context occurs in the context's graph.
use Rattle.std.proofs.Common.{ℕ, zero, suc, ◌<◌, ◌≡◌, true, List, [], ◌∷◌, map, length, drop, Some, option_map, slice_get, slice_index, inl, inr, refl, sym, ◌∙◌, ap, ap₂, subst, arith}
use Rattle.std.specs.Prelude.{Contains}
use Rattle.std.specs.List.{AllByRecursion}
use Rattle.std.proofs.lemmas.List.{drop-map}
use Rattle.chyp_base.specs.declared.sort.Sort.{Sort}
use Rattle.chyp_term.specs.Morphism.{Morphism, dom, cod, IsTyped}
use Rattle.chyp_term.specs.Perm.{count_from}
use Rattle.chyp_term.specs.Positions.{is_apart}
use Rattle.chyp_term.proofs.Permuted.{drop-left}
use Rattle.chyp_term.proofs.Positions.{slice_get-length, map-map, some-same}
use Rattle.chyp_theory.proofs.Renaming.{Producer, In, Target, map-src, map-count, same-src}
use Rattle.chyp_theory.proofs.Running.{EdgeOf, label_of, src}
use Rattle.chyp_graph.specs.PlainGraph.{Edge, PlainGraph, renamed}
use Rattle.chyp_term.proofs.Rearrangement.{all-count}
use Rattle.chyp_laws.proofs.Drawing.{IsWire, sort_at, drawn}
use Rattle.chyp_laws.proofs.Draws.{Draws, ins-size, edge-apart, wire-apart}
use Rattle.chyp_pattern.specs.Occurrence.{IsReached, first, next, IsOccurrence}
use Rattle.chyp_term.proofs.Apart.{all-index, Apart-index}
use Rattle.chyp_laws.proofs.Front.{IsEarly, outs_sorts}
use Rattle.chyp_theory.proofs.Linear.{on_left, on_right}
use Rattle.chyp_term.proofs.SameMembers.{contains-all, contains-at}
use Rattle.chyp_laws.proofs.Placed.{context, Placed, outs, ends, ends_size, rest_ends, source_early, source_apart, split_early, input_at, early_outside, late_outside, inside, edge_inside}

module _ {K : List Sort} {b a l : Morphism} {lG g : PlainGraph} (ty : IsTyped (context K b a l)) {dl : Draws l lG} {es ws : List ℕ}
    (p : Placed K b a l lG g dl es ws) where
  ends_sorts : map (slice_get g.wires) (ends ty p) ≡ map (λ x. Some x) (dom l)
  ends_sorts =
      sym (drop-map (slice_get g.wires) (length K) (outs ty p))
      ∙ ap (drop (length K)) (outs_sorts ty p.d)
      ∙ drop-map (λ x. Some x) (length K) (cod b) ∙ ap (map (λ x. Some x)) (ap (drop (length K)) ty.2 ∙ drop-left K (dom l) (length K) refl)

  pub end_sort : (j : ℕ) → j < length (dom l) → slice_get g.wires (slice_index (ends ty p) j) ≡ slice_get (dom l) j
  end_sort j h = go (ends ty p) (dom l) ends_sorts j h
    where
      parts : {A : Type 0} (x y : A) (us vs : List A) → x ∷ us ≡ y ∷ vs → (x ≡ y) × (us ≡ vs)
      parts x y us vs e = (cc, cc)

      go : (xs : List ℕ) (ys : List Sort) → map (slice_get g.wires) xs ≡ map (λ x. Some x) ys → (j : ℕ) → j < length ys
          → slice_get g.wires (slice_index xs j) ≡ slice_get ys j
      go [] [] e j h = absurd (omega arith)
      go [] (y ∷ ys) e j h = cc
      go (x ∷ xs) [] e j h = absurd (omega arith)
      go (x ∷ xs) (y ∷ ys) e zero h = (parts (slice_get g.wires x) (Some y) (map (slice_get g.wires) xs) (map (λ z. Some z) ys) e).0
      go (x ∷ xs) (y ∷ ys) e (suc j) h = go xs ys (parts (slice_get g.wires x) (Some y) (map (slice_get g.wires) xs) (map (λ z. Some z) ys) e).1 j (omega arith)

  image : Producer (EdgeOf l) → ℕ
  image x = slice_index ws (dl.wire x)

  target_not_end : (e : EdgeOf l) (i j : ℕ) → i < length (label_of l e).cod → j < length (dom l)
      → p.d.wire (Target (inr (inl (inr e))) i) ≡ slice_index (ends ty p) j → ⊥
  target_not_end e i j h r q =
      let z = all-index (λ w. IsEarly (p.d.from w)) (ends ty p) (split_early ty p).1 j
      (subst (λ n. j < n) (sym (ends_size ty p)) r) in
      subst IsEarly (ap p.d.from (sym q) ∙ p.d.from_wire (Target (inr (inl (inr e))) i) h) z

  image_apart : (x y : Producer (EdgeOf l)) → IsWire l x → IsWire l y → image x ≡ image y → x ≡ y
  unfolding image
  image_apart (In i) (In j) h r q =
      ap In (Apart-index (ends ty p) (rest_ends ty p).1 i j
      (subst (λ n. i < n) (sym (ends_size ty p)) h) (subst (λ n. j < n) (sym (ends_size ty p)) r)
      (sym (input_at ty p i h) ∙ q ∙ input_at ty p j r))
  image_apart (In i) (Target e j) h r q = absurd (target_not_end e j i r h (sym (p.ws_target e j r) ∙ sym q ∙ input_at ty p i h))
  image_apart (Target e i) (In j) h r q = absurd (target_not_end e i j h r (sym (p.ws_target e i h) ∙ q ∙ input_at ty p j r))
  image_apart (Target d i) (Target e j) h r q =
      on_right d e i j (on_left (inr d) (inr e) i j
      (on_right (inl (inr d)) (inl (inr e)) i j
      (wire-apart p.d (Target (inr (inl (inr d))) i) (Target (inr (inl (inr e))) j) h r (sym (p.ws_target d i h) ∙ q ∙ p.ws_target e j r))))

  wires_apart : (i j : ℕ) → i < length lG.wires → j < length lG.wires → slice_index ws i ≡ slice_index ws j → i ≡ j
  unfolding image
  wires_apart i j h r q =
      sym (dl.wire_from i h)
      ∙ ap dl.wire (image_apart (dl.from i) (dl.from j) (dl.from_valid i h) (dl.from_valid j r)
      (ap (slice_index ws) (dl.wire_from i h) ∙ q ∙ sym (ap (slice_index ws) (dl.wire_from j r))))
      ∙ dl.wire_from j r

  edges_apart : (i j : ℕ) → i < length lG.edges → j < length lG.edges → slice_index es i ≡ slice_index es j → i ≡ j
  edges_apart i j h r q =
      let x = dl.edge_onto i h in
      let y = dl.edge_onto j r in
      sym x.2 ∙ ap dl.edge (inner x.0 y.0
      (edge-apart p.d (inr (inl (inr x.0))) (inr (inl (inr y.0)))
      (sym (p.es_at x.0) ∙ ap (slice_index es) x.2 ∙ q ∙ sym (ap (slice_index es) y.2) ∙ p.es_at y.0))) ∙ y.2
    where
      inner : (x y : EdgeOf l) → ◌≡◌ {A = EdgeOf (context K b a l)} (inr (inl (inr x))) (inr (inl (inr y))) → x ≡ y
      inner x y q = cc

  sort : (x : Producer (EdgeOf l)) → IsWire l x → slice_get g.wires (image x) ≡ sort_at l x
  unfolding image
  sort (In j) h = ap (slice_get g.wires) (input_at ty p j h) ∙ end_sort j h
  sort (Target e i) h = ap (slice_get g.wires) (p.ws_target e i h) ∙ p.d.sorts (Target (inr (inl (inr e))) i) h

  sorts : (v : ℕ) → v < length lG.wires → slice_get g.wires (slice_index ws v) ≡ slice_get lG.wires v
  unfolding image
  sorts v h =
      ap (λ z. slice_get g.wires (slice_index ws z)) (sym (dl.wire_from v h)) ∙ sort (dl.from v) (dl.from_valid v h)
      ∙ sym (dl.sorts (dl.from v) (dl.from_valid v h)) ∙ ap (slice_get lG.wires) (dl.wire_from v h)

  tl : IsTyped l
  tl = ty.1.0.1

  pub same_drawn : (e : EdgeOf l)
      → drawn (context K b a l) (λ e i. p.d.wire (Target e i)) g.inputs (inr (inl (inr e))) ≡ renamed (slice_index ws)
      (drawn l (λ e i. dl.wire (Target e i)) lG.inputs e)
  same_drawn e = ap₂ (λ x y. record { name = (label_of l e).name; sources = x; targets = y })
      (sym (map-src (slice_index ws) l tl (λ e i. dl.wire (Target e i)) lG.inputs (ins-size dl) e
      ∙ same-src l _ (λ e i. p.d.wire (Target (inr (inl (inr e))) i)) p.ws_target (map (slice_index ws) lG.inputs) e
      ∙ ap (λ z. src l (λ e i. p.d.wire (Target (inr (inl (inr e))) i)) z e) p.ws_in))
      (sym (map-map (slice_index ws) (λ i. dl.wire (Target e i)) (count_from 0 (length (label_of l e).cod))
      ∙ map-count (λ i. slice_index ws (dl.wire (Target e i))) (λ i. p.d.wire (Target (inr (inl (inr e))) i)) 0 (length (label_of l e).cod)
      (λ i _ h. p.ws_target e i (omega arith))))

  ports : (k : ℕ) → k < length lG.edges → slice_get g.edges (slice_index es k) ≡ option_map (renamed (slice_index ws)) (slice_get lG.edges k)
  ports k h =
      let x = dl.edge_onto k h in
      ap (λ z. slice_get g.edges (slice_index es z)) (sym x.2) ∙ ap (slice_get g.edges) (p.es_at x.0) ∙ p.d.ports (inr (inl (inr x.0)))
      ∙ ap Some (same_drawn x.0)
      ∙ sym (ap (λ z. option_map (renamed (slice_index ws)) (slice_get lG.edges z)) (sym x.2) ∙ ap (option_map (renamed (slice_index ws))) (dl.ports x.0))

  -- ## convexity: what is reached lies behind

  IsLate : ℕ → Type 0
  IsLate k = (e : EdgeOf a) × (p.d.edge (inr (inr e)) ≡ k)

  edge_at : (x : EdgeOf (context K b a l)) (k : ℕ) (e : Edge) → p.d.edge x ≡ k → slice_get g.edges k ≡ Some e
      → e ≡ drawn (context K b a l) (λ e i. p.d.wire (Target e i)) g.inputs x
  edge_at x k e q s = some-same _ _ (sym s ∙ ap (slice_get g.edges) (sym q) ∙ p.d.ports x)

  not_front : (f : EdgeOf b) (w : ℕ) → Contains (src b (λ e i. p.d.wire (Target (inl e) i)) g.inputs f) w → is_apart ws w ≡ true
  not_front f w c = early_outside ty p w
      (contains-all (λ w. IsEarly (p.d.from w)) _ w (source_early ty p f) c)
      (contains-all (λ w. AllByRecursion (λ x. ¬ (w ≡ x)) (ends ty p)) _ w (source_apart ty p f) c)

  late_target : (f : EdgeOf a) (w : ℕ) → Contains (map (λ i. p.d.wire (Target (inr (inr f)) i)) (count_from 0 (length (label_of a f).cod))) w
      → (i : ℕ) × (i < length (label_of a f).cod) × (p.d.wire (Target (inr (inr f)) i) ≡ w)
  late_target f w c = contains-all (λ w. (i : ℕ) × (i < length (label_of a f).cod) × (p.d.wire (Target (inr (inr f)) i) ≡ w)) _ w
      (all-count (λ w. (i : ℕ) × (i < length (label_of a f).cod) × (p.d.wire (Target (inr (inr f)) i) ≡ w)) (λ i. p.d.wire (Target (inr (inr f)) i)) 0
      (length (label_of a f).cod) (λ i _ h. (i, omega arith, refl))) c

  image_outside : (w : ℕ) → Contains ws w → is_apart ws w ≡ true → ⊥
  image_outside w c q = let h = contains-at ws w c in inside ty p h.0 h.1 (ap (is_apart ws) h.2 ∙ q)

  -- an edge that takes what is no source of before is late
  must_be : (x : EdgeOf (context K b a l)) (k : ℕ) (e : Edge) → p.d.edge x ≡ k → slice_get g.edges k ≡ Some e → is_apart es k ≡ true → (w : ℕ)
      → Contains e.sources w
      → ((f : EdgeOf b) → Contains (src b (λ e i. p.d.wire (Target (inl e) i)) g.inputs f) w → ⊥) → IsLate k
  unfolding IsLate
  must_be (inl f) k e q s o w c n = absurd (n f (subst (λ z. Contains z.sources w) (edge_at (inl f) k e q s) c))
  must_be (inr (inl (inl f))) k e q s o w c n = absurd f
  must_be (inr (inl (inr f))) k e q s o w c n = absurd (edge_inside ty p f (ap (is_apart es) q ∙ o))
  must_be (inr (inr f)) k e q s o w c n = (f, q)

  reached_late : (k : ℕ) → IsReached g es ws k → IsLate k
  unfolding IsLate
  reached_late k (first {e = e} s o {w = w} cw cs) =
      let x = p.d.edge_onto k (slice_get-length g.edges k e s) in
      must_be x.0 k e x.2 s o w cs (λ f c. image_outside w cw (not_front f w c))
  reached_late k (next {j = j} {d = d} {e = e} r t s o {w = w} cd cs) =
      let x = p.d.edge_onto k (slice_get-length g.edges k e s) in
      let y = reached_late j r in
      let z = late_target y.0 w (subst (λ z. Contains z.targets w) (edge_at (inr (inr y.0)) j d y.1 t) cd) in
      must_be x.0 k e x.2 s o w cs (λ f c. subst IsEarly (ap p.d.from (sym z.2) ∙ p.d.from_wire (Target (inr (inr y.0)) z.0) z.1)
      (contains-all (λ w. IsEarly (p.d.from w)) _ w (source_early ty p f) c))

  convex : (k : ℕ) (e : Edge) (w : ℕ) → IsReached g es ws k → slice_get g.edges k ≡ Some e → Contains e.targets w → is_apart ws w ≡ true
  unfolding IsLate
  convex k e w r s c =
      let y = reached_late k r in
      let z = late_target y.0 w (subst (λ z. Contains z.targets w) (edge_at (inr (inr y.0)) k e y.1 s) c) in
      ap (is_apart ws) (sym z.2) ∙ late_outside ty p y.0 z.0 z.1

  -- the images of the edges and wires of l are a convex occurrence
  pub occurs : IsOccurrence lG g es ws
  occurs = record {
    edge_count = p.es_size;
    wire_count = p.ws_size;
    edges_apart = λ i j h r q. edges_apart i j (subst (λ n. i < n) p.es_size h) (subst (λ n. j < n) p.es_size r) q;
    wires_apart = λ i j h r q. wires_apart i j (subst (λ n. i < n) p.ws_size h) (subst (λ n. j < n) p.ws_size r) q;
    sorts = sorts;
    ports = ports;
    convex = convex;
  }
