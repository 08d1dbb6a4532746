-- The replaced graph is that of the context with the other term in it: its wires.
use Rattle.std.proofs.Common.{ℕ, ◌+◌, ◌-◌, ◌<◌, ◌≤◌, ◌≡◌, true, cond, ltb, List, ◌++◌, length, take, filter, Option, Some, None, slice_get, slice_index, ◌⊎◌, inl, inr, refl, sym, ◌∙◌}
use Rattle.std.proofs.Common.{ap, subst, arith, length-append, take-append-drop, zero-add, lt-ltb, le-ltb}
use Rattle.std.specs.List.{AllByRecursion}
use Rattle.std.proofs.lemmas.Bool.{cases_lt}
use Rattle.chyp_base.specs.declared.sort.Sort.{Sort}
use Rattle.chyp_term.specs.Morphism.{Morphism, dom, cod, IsTyped}
use Rattle.chyp_term.specs.Perm.{permuted, count_from}
use Rattle.chyp_term.specs.Positions.{place_of, is_apart}
use Rattle.chyp_term.proofs.Closure.{index-get}
use Rattle.chyp_term.proofs.Inverses.{place-found}
use Rattle.chyp_term.proofs.Permuted.{found, get_option, get-permuted, get-append_left, get-append_right, length-permuted}
use Rattle.chyp_term.proofs.Positions.{kept-get, slice_get-length, Under-filter}
use Rattle.chyp_theory.proofs.Peeling.{get_or-count}
use Rattle.chyp_theory.proofs.Renaming.{Producer, In, Target}
use Rattle.chyp_theory.proofs.Running.{EdgeOf}
use Rattle.chyp_graph.specs.PlainGraph.{PlainGraph}
use Rattle.chyp_graph.proofs.Inner.{kept-back, Kept}
use Rattle.chyp_term.proofs.Rearrangement.{all-count}
use Rattle.chyp_laws.proofs.Drawing.{IsWire, sort_at}
use Rattle.chyp_laws.proofs.Draws.{Draws, ins-size, wire-apart}
use Rattle.chyp_pattern.specs.Replacement.{kept_wires, replaced}
use Rattle.chyp_term.proofs.Apart.{all-index, all-split}
use Rattle.chyp_laws.proofs.Front.{IsEarly}
use Rattle.chyp_theory.proofs.Linear.{all-run}
use Rattle.chyp_laws.proofs.Occurs.{end_sort}
use Rattle.chyp_laws.proofs.Outer.{IsOuter, outer, outer_outer, outer_is, early_outer, outer_valid, outer_sort, none-all}
use Rattle.chyp_laws.proofs.Placed.{context, Placed, outs, ends, ends_size, split_early, outside, mid_inside}
use Rattle.chyp_laws.proofs.Rebound.{size, to_in, new_wire, in_kept, in_end}

module _ {K : List Sort} {b a l r : Morphism} {lG rG g : PlainGraph} (ty : IsTyped (context K b a l)) (tr : IsTyped r) (doms : dom l ≡ dom r)
    (cods : cod l ≡ cod r) {dl : Draws l lG} (dr : Draws r rG) {es ws : List ℕ} (p : Placed K b a l lG g dl es ws) where
  abbrev pub hole : ℕ
  hole = size ty tr doms cods dr p

  abbrev pub to : ℕ → ℕ
  to = to_in ty tr doms cods dr p

  abbrev pub mouth : List ℕ
  mouth = ends ty p

  abbrev pub wire : Producer (EdgeOf (context K b a r)) → ℕ
  wire = new_wire ty tr doms cods dr p

  within : Producer (EdgeOf r) → Producer (EdgeOf (context K b a r))
  within (In j) = outer (p.d.from (slice_index mouth j))
  within (Target e i) = Target (inr (inl (inr e))) i

  from : ℕ → Producer (EdgeOf (context K b a r))
  from w = cond (ltb w hole) (outer (p.d.from (slice_index (kept_wires g ws) w))) (within (dr.from (w - hole)))

  from-left : (w v : ℕ) → w < hole → slice_get (kept_wires g ws) w ≡ Some v → from w ≡ outer (p.d.from v)
  unfolding from
  from-left w v l e = rw (lt-ltb w hole l) (ap (λ z. outer (p.d.from z)) (index-get (kept_wires g ws) w v e))

  from-right : (w v : ℕ) → w ≡ hole + v → from w ≡ within (dr.from v)
  unfolding from
  from-right w v e = rw (le-ltb w hole (omega arith)) (ap (λ z. within (dr.from z)) (omega arith))

  wire-outer : (x : Producer (EdgeOf (context K b a r))) → IsOuter x → wire x ≡ to (p.d.wire (outer x))
  wire-outer (In j) o = refl
  wire-outer (Target (inl e) i) o = refl
  wire-outer (Target (inr (inl e)) i) o = absurd o
  wire-outer (Target (inr (inr e)) i) o = refl

  -- a kept wire
  kept_at : (w : ℕ) → w < length g.wires → is_apart ws w ≡ true → slice_get (kept_wires g ws) (length (filter (is_apart ws) (count_from 0 w))) ≡ Some w
  kept_at w h q = kept-get (is_apart ws) (length g.wires) w h q

  kept_below : (w : ℕ) → w < length g.wires → is_apart ws w ≡ true → length (filter (is_apart ws) (count_from 0 w)) < hole
  kept_below w h q = slice_get-length (kept_wires g ws) _ w (kept_at w h q)

  to_kept : (w : ℕ) → is_apart ws w ≡ true → to w ≡ length (filter (is_apart ws) (count_from 0 w))
  to_kept w q = in_kept ty tr doms cods dr p w q

  to_end : (j : ℕ) → j < length (dom l) → to (slice_index mouth j) ≡ hole + dr.wire (In j)
  to_end j h =
      in_end ty tr doms cods dr p j h
      ∙ ap (λ z. hole + z) (ap (λ z. slice_index z j) dr.inputs
      ∙ get_or-count (λ j. dr.wire (In j)) 0 (length (dom r)) j 0 (subst (λ n. j < n) (ap length doms) h) ∙ ap (λ k. dr.wire (In k)) (zero-add j))

  mouth_early : (j : ℕ) → j < length (dom l) → IsEarly (p.d.from (slice_index mouth j))
  mouth_early j h =
      all-index (λ w. IsEarly (p.d.from w)) mouth (split_early ty p).1 j
      (subst (λ n. j < n) (sym (ends_size ty p)) h)

  outs_below : AllByRecursion (λ w. w < length g.wires) (outs ty p)
  outs_below = (all-run (λ w. w < length g.wires) b ty.0 (λ e i. p.d.wire (Target (inl e) i)) g.inputs (ins-size p.d)
      (subst (AllByRecursion (λ w. w < length g.wires)) (sym p.d.inputs)
      (all-count (λ w. w < length g.wires) (λ j. p.d.wire (In j)) 0 (length (dom b)) (λ j _ h. p.d.wire_below (In j) (omega arith))))
      (λ e i h. p.d.wire_below (Target (inl e) i) h)).0

  mouth_below : (j : ℕ) → j < length (dom l) → slice_index mouth j < length g.wires
  mouth_below j h =
      all-index (λ w. w < length g.wires) mouth
      (all-split (λ w. w < length g.wires) (take (length K) (outs ty p)) mouth
      (subst (AllByRecursion (λ w. w < length g.wires)) (sym (take-append-drop (length K) (outs ty p))) outs_below)).1
      j (subst (λ n. j < n) (sym (ends_size ty p)) h)

  -- an outer wire is kept, or goes into l
  outer_case : (x : Producer (EdgeOf (context K b a l))) → IsWire (context K b a l) x → IsOuter x
      → (is_apart ws (p.d.wire x) ≡ true) ⊎ ((j : ℕ) × (j < length (dom l)) × (slice_index mouth j ≡ p.d.wire x))
  outer_case x v o = go (place_of (p.d.wire x) mouth) refl
    where
      no : (y : Producer (EdgeOf (context K b a l))) → IsOuter y → (e : EdgeOf l) (i : ℕ) → Target (inr (inl (inr e))) i ≡ y → ⊥
      no y o e i q = subst IsOuter (sym q) o

      go : (z : Option ℕ) → place_of (p.d.wire x) mouth ≡ z
          → (is_apart ws (p.d.wire x) ≡ true) ⊎ ((j : ℕ) × (j < length (dom l)) × (slice_index mouth j ≡ p.d.wire x))
      go None e =
          inl (outside ty p (p.d.wire x) (none-all (p.d.wire x) mouth e)
          (λ d i h q. no x o d i (wire-apart p.d (Target (inr (inl (inr d))) i) x h v q)))
      go (Some j) e =
          let s = place-found (p.d.wire x) mouth j e in
          inr (j, subst (λ n. j < n) (ends_size ty p) (slice_get-length mouth j _ s), index-get mouth j _ s)

  outer_from : (v : ℕ) → v < length g.wires → is_apart ws v ≡ true → IsOuter (p.d.from v)
  outer_from v h q = go (p.d.from v) (p.d.from_valid v h) (p.d.wire_from v h)
    where
      go : (x : Producer (EdgeOf (context K b a l))) → IsWire (context K b a l) x → p.d.wire x ≡ v → IsOuter x
      go (In j) i e = tt
      go (Target (inl d) j) i e = tt
      go (Target (inr (inl (inl d))) j) i e = absurd d
      go (Target (inr (inl (inr d))) j) i e = mid_inside ty p d j i (ap (is_apart ws) e ∙ q)
      go (Target (inr (inr d)) j) i e = tt

  kept_size : length (permuted g.wires (kept_wires g ws)) ≡ hole
  kept_size = length-permuted g.wires (kept_wires g ws) (Under-filter (is_apart ws) (length g.wires) 0 (length g.wires) (omega arith))

  -- the number of wires
  pub wires_size : length (replaced g lG rG es ws).wires ≡ hole + length rG.wires
  wires_size = length-append (permuted g.wires (kept_wires g ws)) rG.wires ∙ ap (λ n. n + length rG.wires) kept_size

  by_outer : (x : Producer (EdgeOf (context K b a r))) → (IsOuter x) ⊎ ((e : EdgeOf r) × (i : ℕ) × (x ≡ Target (inr (inl (inr e))) i))
  by_outer (In j) = inl tt
  by_outer (Target (inl e) i) = inl tt
  by_outer (Target (inr (inl (inl e))) i) = absurd e
  by_outer (Target (inr (inl (inr e))) i) = inr (e, i, refl)
  by_outer (Target (inr (inr e)) i) = inl tt

  old : Producer (EdgeOf (context K b a r)) → Producer (EdgeOf (context K b a l))
  old x = outer x

  old_valid : (x : Producer (EdgeOf (context K b a r))) → IsOuter x → IsWire (context K b a r) x → IsWire (context K b a l) (old x)
  unfolding old
  old_valid x o v = outer_valid K b a r l x o v

  OldCase : ℕ → Type 0
  OldCase w = (is_apart ws w ≡ true) ⊎ ((j : ℕ) × (j < length (dom l)) × (slice_index mouth j ≡ w))

  case_of : (x : Producer (EdgeOf (context K b a r))) → IsOuter x → IsWire (context K b a r) x → OldCase (p.d.wire (old x))
  unfolding OldCase old
  case_of x o v = outer_case (outer x) (outer_valid K b a r l x o v) (outer_is (⊥ ⊎ EdgeOf l) x o)

  wire_old : (x : Producer (EdgeOf (context K b a r))) → IsOuter x → wire x ≡ to (p.d.wire (old x))
  unfolding old
  wire_old x o = wire-outer x o

  old_old : (x : Producer (EdgeOf (context K b a r))) → IsOuter x → ◌≡◌ {A = Producer (EdgeOf (context K b a r))} (outer (old x)) x
  unfolding old
  old_old x o = outer_outer (⊥ ⊎ EdgeOf l) x o

  pub wire_below : (x : Producer (EdgeOf (context K b a r))) → IsWire (context K b a r) x → wire x < hole + length rG.wires
  unfolding OldCase
  wire_below x v = go x v (by_outer x)
    where
      low : (x : Producer (EdgeOf (context K b a r))) → IsOuter x → OldCase (p.d.wire (old x)) → p.d.wire (old x) < length g.wires
          → wire x < hole + length rG.wires
      low x o (inl q) h = let z = kept_below _ h q in rw (wire_old x o, to_kept _ q) (omega arith)
      low x o (inr (j, k, q)) h = let z = dr.wire_below (In j) (subst (λ n. j < n) (ap length doms) k) in rw (wire_old x o, ← q, to_end j k) (omega arith)

      go : (x : Producer (EdgeOf (context K b a r))) → IsWire (context K b a r) x
          → (IsOuter x) ⊎ ((e : EdgeOf r) × (i : ℕ) × (x ≡ Target (inr (inl (inr e))) i)) → wire x < hole + length rG.wires
      go x v (inl o) = low x o (case_of x o v) (p.d.wire_below (old x) (old_valid x o v))
      go x v (inr (e, i, q)) =
          subst (λ z. wire z < hole + length rG.wires) (sym q) (let z = dr.wire_below (Target e i) (subst (IsWire (context K b a r)) q v) in omega arith)

  from_wire : (x : Producer (EdgeOf (context K b a r))) → IsWire (context K b a r) x → from (wire x) ≡ x
  unfolding OldCase within
  from_wire x v = go x v (by_outer x)
    where
      low : (x : Producer (EdgeOf (context K b a r))) → IsOuter x → IsWire (context K b a r) x → OldCase (p.d.wire (old x)) → from (wire x) ≡ x
      low x o v (inl q) =
          let h = p.d.wire_below (old x) (old_valid x o v) in
          ap from (wire_old x o ∙ to_kept _ q) ∙ from-left _ (p.d.wire (old x)) (kept_below _ h q) (kept_at _ h q)
          ∙ ap outer (p.d.from_wire (old x) (old_valid x o v)) ∙ old_old x o
      low x o v (inr (j, k, q)) =
          ap from (wire_old x o ∙ ap to (sym q) ∙ to_end j k) ∙ from-right _ (dr.wire (In j)) refl
          ∙ ap within (dr.from_wire (In j) (subst (λ n. j < n) (ap length doms) k))
          ∙ ap (λ z. outer (p.d.from z)) q ∙ ap outer (p.d.from_wire (old x) (old_valid x o v)) ∙ old_old x o

      go : (x : Producer (EdgeOf (context K b a r))) → IsWire (context K b a r) x
          → (IsOuter x) ⊎ ((e : EdgeOf r) × (i : ℕ) × (x ≡ Target (inr (inl (inr e))) i)) → from (wire x) ≡ x
      go x v (inl o) = low x o v (case_of x o v)
      go x v (inr (e, i, q)) =
          ap (λ z. from (wire z)) q ∙ from-right _ (dr.wire (Target e i)) refl ∙ ap within (dr.from_wire (Target e i) (subst (IsWire (context K b a r)) q v))
          ∙ sym q

  -- a number of a kept wire
  kept_num : (w : ℕ) → w < hole → (v : ℕ) × (slice_get (kept_wires g ws) w ≡ Some v) × Kept (is_apart ws) (length g.wires) v w
  kept_num w h = let f = found (kept_wires g ws) w h in (f.0, f.1, kept-back (is_apart ws) (length g.wires) f.0 w f.1)

  wire_outer_back : (x : Producer (EdgeOf (context K b a l))) → IsOuter x → wire (outer x) ≡ to (p.d.wire x)
  wire_outer_back x o = wire-outer (outer x) (outer_is (⊥ ⊎ EdgeOf r) x o) ∙ ap (λ z. to (p.d.wire z)) (outer_outer (⊥ ⊎ EdgeOf r) x o)

  from_valid : (w : ℕ) → w < hole + length rG.wires → (w < hole) ⊎ (hole ≤ w) → IsWire (context K b a r) (from w)
  unfolding within
  from_valid w h (inl q) =
      let f = kept_num w q in
      subst (IsWire (context K b a r)) (sym (from-left w f.0 q f.1))
      (outer_valid K b a l r (p.d.from f.0) (outer_from f.0 f.2.below f.2.passes) (p.d.from_valid f.0 f.2.below))
  from_valid w h (inr q) =
      subst (IsWire (context K b a r)) (sym (from-right w (w - hole) (omega arith))) (go (dr.from (w - hole)) (dr.from_valid (w - hole) (omega arith)))
    where
      go : (x : Producer (EdgeOf r)) → IsWire r x → IsWire (context K b a r) (within x)
      go (In j) v =
          let k = subst (λ n. j < n) (sym (ap length doms)) v in
          outer_valid K b a l r (p.d.from (slice_index mouth j)) (early_outer _ (mouth_early j k)) (p.d.from_valid _ (mouth_below j k))
      go (Target e i) v = v

  wire_from : (w : ℕ) → w < hole + length rG.wires → (w < hole) ⊎ (hole ≤ w) → wire (from w) ≡ w
  unfolding within
  wire_from w h (inl q) =
      let f = kept_num w q in
      ap wire (from-left w f.0 q f.1) ∙ wire_outer_back (p.d.from f.0) (outer_from f.0 f.2.below f.2.passes) ∙ ap to (p.d.wire_from f.0 f.2.below)
      ∙ to_kept f.0 f.2.passes ∙ f.2.place
  wire_from w h (inr q) =
      ap wire (from-right w (w - hole) (omega arith)) ∙ go (dr.from (w - hole)) (dr.from_valid (w - hole) (omega arith))
      ∙ ap (λ z. hole + z) (dr.wire_from (w - hole) (omega arith)) ∙ omega arith
    where
      go : (x : Producer (EdgeOf r)) → IsWire r x → wire (within x) ≡ hole + dr.wire x
      go (In j) v =
          let k = subst (λ n. j < n) (sym (ap length doms)) v in
          wire_outer_back (p.d.from (slice_index mouth j)) (early_outer _ (mouth_early j k)) ∙ ap to (p.d.wire_from _ (mouth_below j k)) ∙ to_end j k
      go (Target e i) v = refl

  new_wires : List Sort
  new_wires = permuted g.wires (kept_wires g ws) ++ rG.wires

  at_right : (v : ℕ) → slice_get new_wires (hole + v) ≡ slice_get rG.wires v
  unfolding new_wires
  at_right v =
      ap (λ n. slice_get (permuted g.wires (kept_wires g ws) ++ rG.wires) (n + v)) (sym kept_size)
      ∙ get-append_right (permuted g.wires (kept_wires g ws)) rG.wires v

  at_left : (w : ℕ) → w < length g.wires → is_apart ws w ≡ true → slice_get new_wires (length (filter (is_apart ws) (count_from 0 w))) ≡ slice_get g.wires w
  unfolding new_wires
  at_left w h q =
      get-append_left (permuted g.wires (kept_wires g ws)) rG.wires _
      (subst (λ n. length (filter (is_apart ws) (count_from 0 w)) < n) (sym kept_size) (kept_below w h q))
      ∙ get-permuted g.wires (kept_wires g ws) (Under-filter (is_apart ws) (length g.wires) 0 (length g.wires) (omega arith)) _
      ∙ ap (get_option g.wires) (kept_at w h q)

  sorts : (x : Producer (EdgeOf (context K b a r))) → IsWire (context K b a r) x → slice_get new_wires (wire x) ≡ sort_at (context K b a r) x
  unfolding OldCase old
  sorts x v = go x v (by_outer x)
    where
      old_sort : (x : Producer (EdgeOf (context K b a r))) → IsOuter x → IsWire (context K b a r) x
          → slice_get g.wires (p.d.wire (old x)) ≡ sort_at (context K b a r) x
      old_sort x o v = p.d.sorts (old x) (old_valid x o v) ∙ outer_sort K b a r l x o

      low : (x : Producer (EdgeOf (context K b a r))) → IsOuter x → IsWire (context K b a r) x → OldCase (p.d.wire (old x))
          → slice_get new_wires (wire x) ≡ sort_at (context K b a r) x
      low x o v (inl q) = ap (slice_get new_wires) (wire_old x o ∙ to_kept _ q) ∙ at_left _ (p.d.wire_below (old x) (old_valid x o v)) q ∙ old_sort x o v
      low x o v (inr (j, k, q)) =
          ap (slice_get new_wires) (wire_old x o ∙ ap to (sym q) ∙ to_end j k) ∙ at_right (dr.wire (In j))
          ∙ dr.sorts (In j) (subst (λ n. j < n) (ap length doms) k) ∙ ap (λ z. slice_get z j) (sym doms)
          ∙ sym (end_sort ty p j k) ∙ ap (slice_get g.wires) q ∙ old_sort x o v

      go : (x : Producer (EdgeOf (context K b a r))) → IsWire (context K b a r) x
          → (IsOuter x) ⊎ ((e : EdgeOf r) × (i : ℕ) × (x ≡ Target (inr (inl (inr e))) i)) → slice_get new_wires (wire x) ≡ sort_at (context K b a r) x
      go x v (inl o) = low x o v (case_of x o v)
      go x v (inr (e, i, q)) =
          ap (λ z. slice_get new_wires (wire z)) q ∙ at_right (dr.wire (Target e i)) ∙ dr.sorts (Target e i) (subst (IsWire (context K b a r)) q v)
          ∙ ap (sort_at (context K b a r)) (sym q)

  -- the wires of the replaced graph
  pub record Wires : Type 0 where
    pub back : ℕ → Producer (EdgeOf (context K b a r))
    pub below : (x : Producer (EdgeOf (context K b a r))) → IsWire (context K b a r) x → wire x < length (replaced g lG rG es ws).wires
    pub back_valid : (w : ℕ) → w < length (replaced g lG rG es ws).wires → IsWire (context K b a r) (back w)
    pub wire_back : (w : ℕ) → w < length (replaced g lG rG es ws).wires → wire (back w) ≡ w
    pub back_wire : (x : Producer (EdgeOf (context K b a r))) → IsWire (context K b a r) x → back (wire x) ≡ x
    pub sort : (x : Producer (EdgeOf (context K b a r))) → IsWire (context K b a r) x
        → slice_get (replaced g lG rG es ws).wires (wire x) ≡ sort_at (context K b a r) x

  -- each wire of the context of r is one of the replaced graph
  pub wires : Wires
  unfolding new_wires
  wires = record {
    back = from;
    below = λ x v. subst (λ n. wire x < n) (sym wires_size) (wire_below x v);
    back_valid = λ w h. from_valid w (subst (λ n. w < n) wires_size h) (cases_lt w hole);
    wire_back = λ w h. wire_from w (subst (λ n. w < n) wires_size h) (cases_lt w hole);
    back_wire = from_wire;
    sort = sorts;
  }
