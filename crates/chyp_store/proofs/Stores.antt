-- Stores: slots and their order.
use Rattle.std.proofs.Common.{ℕ, zero, suc, ◌+◌, ◌<◌, ◌≤◌, ◌≡◌, ◌≢◌, not, cond, eqb, List, [], ◌∷◌, ◌++◌, length, Option, Some, None, All, slice_get, slice_set, ◌⊎◌, inl, inr, refl, sym}
use Rattle.std.proofs.Common.{◌∙◌, ap, arith, ne_eqb, eq-eqb}
use Rattle.std.specs.List.{cons_option, filter_map}
use Rattle.std.specs.Prelude.{option_map}
use Rattle.std.proofs.lemmas.Bool.{cases_eq}
use Rattle.std.proofs.lemmas.List.Elements.{All-cons, All-nil, filter_map-append}
use Rattle.std.proofs.Math.ListN.{length-set}
use Rattle.std.specs.Prelude.{IsSome, is_some}
use Rattle.slab.specs.Slab.{Slab, Updates, get, with_value}
use Rattle.slab.proofs.SlabLemmas.{ContainsKey-within, Updates-with_value}
use Rattle.std.proofs.lemmas.List.Sums.{sum_by-set}
use Rattle.chyp_term.proofs.Permuted.{get-append_left}
use Rattle.chyp_term.proofs.Positions.{slice_get-length, get-last}
use Rattle.chyp_term.proofs.Slices.{get-set_other, push-cases, set-cases}
use Rattle.chyp_store.specs.Items.{ids, item_at, with_item, without}
use Rattle.chyp_store.specs.Store.{HasRoom, IsKept, item_in, listed}
use Rattle.chyp_store.specs.declared.store.Slot.{Slot}
use Rattle.chyp_store.proofs.Listings.{filter_map-filter, filter_map-map, filter_map-same, if_passes}

module _ {T : Type 0} (slots : Slab (Slot T)) where
  -- what no slot has, the list has not
  pub listed-absent : (k : ℕ) → get slots k ≡ None → (order : List (Option ℕ)) → item_at k (listed slots order) ≡ None
  listed-absent k n [] = refl
  listed-absent k n (None ∷ rest) = listed-absent k n rest
  listed-absent k n (Some j ∷ rest) = at (get slots j) refl (listed-absent k n rest)
    where
      at : (o : Option (Slot T)) → get slots j ≡ o → item_at k (listed slots rest) ≡ None → item_at k (cons_option (option_map (λ s. (j, s.item)) (get slots j)) (listed slots rest)) ≡ None
      at None e r = rw e r
      at (Some s) e r = by (cases_eq k j)
        where
          by : (k ≡ j) ⊎ (k ≢ j) → item_at k (cons_option (option_map (λ s. (j, s.item)) (get slots j)) (listed slots rest)) ≡ None
          by (inl q) = let x : get slots k ≡ get slots j = ap (get slots) q in absurd (cc)
          by (inr d) = rw (e, ne_eqb k j d) r

  -- what a slot has that stands in the order, the list has
  pub listed-there : (k : ℕ) (s : Slot T) → get slots k ≡ Some s → (order : List (Option ℕ)) (p : ℕ) → slice_get order p ≡ Some (Some k) → item_at k (listed slots order) ≡ Some s.item
  listed-there k s g [] p h = cc
  listed-there k s g (o ∷ rest) zero h =
      let e : o ≡ Some k = cc in
      rw (e, g, eq-eqb k k refl) refl
  listed-there k s g (None ∷ rest) (suc p) h = listed-there k s g rest p h
  listed-there k s g (Some j ∷ rest) (suc p) h = at (get slots j) refl (listed-there k s g rest p h)
    where
      at : (o : Option (Slot T)) → get slots j ≡ o → item_at k (listed slots rest) ≡ Some s.item
          → item_at k (cons_option (option_map (λ s. (j, s.item)) (get slots j)) (listed slots rest)) ≡ Some s.item
      at None e r = rw e r
      at (Some t) e r = by (cases_eq k j)
        where
          by : (k ≡ j) ⊎ (k ≢ j) → item_at k (cons_option (option_map (λ s. (j, s.item)) (get slots j)) (listed slots rest)) ≡ Some s.item
          by (inl q) =
              let x : get slots k ≡ get slots j = ap (get slots) q in
              let y : s ≡ t = cc in
              rw (e, eq-eqb k j q) (ap (λ u. Some u.item) (sym y))
          by (inr d) = rw (e, ne_eqb k j d) r

module _ {T : Type 0} (slots : Slab (Slot T)) (order : List (Option ℕ)) (bound : ℕ) (kept : IsKept slots order bound) where
  -- the item under a number is that of its slot
  pub item-is : (k : ℕ) → item_at k (listed slots order) ≡ option_map (λ s. s.item) (get slots k)
  item-is k = at (get slots k) refl
    where
      at : (o : Option (Slot T)) → get slots k ≡ o → item_at k (listed slots order) ≡ option_map (λ s. s.item) (get slots k)
      at None e = listed-absent slots k e order ∙ sym (ap (option_map (λ s. s.item)) e)
      at (Some s) e = listed-there slots k s e order s.place (kept.placed k s e) ∙ sym (ap (option_map (λ s. s.item)) e)

  -- the slot of a number in the order
  pub slot-of : (p k : ℕ) → slice_get order p ≡ Some (Some k) → (s : Slot T) × (get slots k ≡ Some s) × (s.place ≡ p)
  slot-of p k h = at (get slots k) refl
    where
      at : (o : Option (Slot T)) → get slots k ≡ o → (s : Slot T) × (get slots k ≡ Some s) × (s.place ≡ p)
      at None e = let x = kept.there p k h in let y : option_map (λ s. s.place) (get slots k) ≡ None = ap (option_map (λ s. s.place)) e in absurd (cc)
      at (Some s) e = let x = kept.there p k h in let y : option_map (λ s. s.place) (get slots k) ≡ Some s.place = ap (option_map (λ s. s.place)) e in (s, e, cc)

  -- the numbers of the items are those that stand in the order
  pub listed-numbers : ids (listed slots order) ≡ filter_map (λ k. k) order
  listed-numbers = go order 0 (λ p k h. let x = slot-of p k h in (x.0, x.1, x.2 ∙ omega arith))
    where
      go : (os : List (Option ℕ)) (first : ℕ) → ((p k : ℕ) → slice_get os p ≡ Some (Some k) → (s : Slot T) × (get slots k ≡ Some s) × (s.place ≡ first + p))
          → ids (listed slots os) ≡ filter_map (λ k. k) os
      go [] first h = refl
      go (None ∷ os) first h = go os (suc first) (λ p k e. let x = h (suc p) k e in (x.0, x.1, x.2 ∙ omega arith))
      go (Some j ∷ os) first h = rw ((h 0 j refl).1) (ap (λ l. j ∷ l) (go os (suc first) (λ p k e. let x = h (suc p) k e in (x.0, x.1, x.2 ∙ omega arith))))

  -- all numbers are below the bound
  pub listed-below : All (λ e. e.0 < bound) (listed slots order)
  listed-below = go order
    where
      go : (os : List (Option ℕ)) → All (λ e. e.0 < bound) (listed slots os)
      go [] = All-nil (λ (e : ℕ × T). e.0 < bound)
      go (None ∷ os) = go os
      go (Some j ∷ os) = at (get slots j) refl (go os)
        where
          at : (o : Option (Slot T)) → get slots j ≡ o → All (λ e. e.0 < bound) (listed slots os) → All (λ e. e.0 < bound) (cons_option (option_map (λ s. (j, s.item)) (get slots j)) (listed slots os))
          at None e r = rw e r
          at (Some s) e r = rw e (All-cons (λ (e : ℕ × T). e.0 < bound) (j, s.item) (listed slots os) (kept.below j s e) r)

  -- a slot is taken out
  module _ (left : Slab (Slot T)) (k : ℕ) (s : Slot T) (there : get slots k ≡ Some s) (updates : Updates slots left k None) where
    pub removed-place : s.place < length order
    removed-place = slice_get-length order s.place (Some k) (kept.placed k s there)

    pub removed-kept : IsKept left (slice_set order s.place None) bound
    removed-kept = record {
      placed = λ j t h. placed j t h (cases_eq j k);
      there = λ p j h. stays p j (set-cases order s.place None p (Some j) removed-place h);
      below = λ j t h. below j t h (cases_eq j k);
    }
      where
        old : (j : ℕ) (t : Slot T) → get left j ≡ Some t → j ≢ k → get slots j ≡ Some t
        old j t h d = sym (updates.others j d) ∙ h

        gone : (j : ℕ) (t : Slot T) → get left j ≡ Some t → j ≡ k → ⊥
        gone j t h q = let x : get left j ≡ get left k = ap (get left) q in let y = updates.changed in absurd (cc)

        placed : (j : ℕ) (t : Slot T) → get left j ≡ Some t → (j ≡ k) ⊎ (j ≢ k) → slice_get (slice_set order s.place None) t.place ≡ Some (Some j)
        placed j t h (inl q) = absurd (gone j t h q)
        placed j t h (inr d) = at (cases_eq t.place s.place)
          where
            at : (t.place ≡ s.place) ⊎ (t.place ≢ s.place) → slice_get (slice_set order s.place None) t.place ≡ Some (Some j)
            at (inl q) =
                let a = kept.placed j t (old j t h d) in
                let b = kept.placed k s there in
                let x : slice_get order t.place ≡ slice_get order s.place = ap (slice_get order) q in
                let y : j ≡ k = cc in absurd (d y)
            at (inr e) = get-set_other order s.place t.place None e ∙ kept.placed j t (old j t h d)

        stays : (p j : ℕ) → ((p ≡ s.place) × (Some j ≡ None)) ⊎ ((p ≢ s.place) × (slice_get order p ≡ Some (Some j))) → option_map (λ t. t.place) (get left j) ≡ Some p
        stays p j (inl q) = let x = q.1 in absurd (cc)
        stays p j (inr q) = at (cases_eq j k)
          where
            at : (j ≡ k) ⊎ (j ≢ k) → option_map (λ t. t.place) (get left j) ≡ Some p
            at (inl e) =
                let u = slot-of p j q.1 in
                let x : get slots j ≡ get slots k = ap (get slots) e in
                let a = u.1 in
                let y : u.0 ≡ s = cc in
                let z : p ≡ s.place = sym u.2 ∙ ap (λ (v : Slot T). v.place) y in
                absurd (q.0 z)
            at (inr d) = ap (option_map (λ t. t.place)) (updates.others j d) ∙ kept.there p j q.1

        below : (j : ℕ) (t : Slot T) → get left j ≡ Some t → (j ≡ k) ⊎ (j ≢ k) → j < bound
        below j t h (inl q) = absurd (gone j t h q)
        below j t h (inr d) = kept.below j t (old j t h d)

    pub removed-listed : listed left (slice_set order s.place None) ≡ without k (listed slots order)
    removed-listed = filter_map-filter (item_in slots) (item_in left) (λ e. not (eqb k e.0)) order (slice_set order s.place None) (length-set order s.place None)
        (λ i x y a b. at i x y a (set-cases order s.place None i y removed-place b))
      where
        at : (i : ℕ) (x y : Option ℕ) → slice_get order i ≡ Some x → ((i ≡ s.place) × (y ≡ None)) ⊎ ((i ≢ s.place) × (slice_get order i ≡ Some y))
            → item_in left y ≡ if_passes (λ e. not (eqb k e.0)) (item_in slots x)
        at i x y a (inl q) =
            let b = kept.placed k s there in
            let c : slice_get order i ≡ slice_get order s.place = ap (slice_get order) q.0 in
            let d : x ≡ Some k = cc in
            rw (q.1, d, there, eq-eqb k k refl) refl
        at i x y a (inr q) = let b = q.1 in let e : y ≡ x = cc in rw e (other x a)
          where
            other : (x : Option ℕ) → slice_get order i ≡ Some x → item_in left x ≡ if_passes (λ e. not (eqb k e.0)) (item_in slots x)
            other None h = refl
            other (Some j) h = by (slot-of i j h)
              where
                by : (t : Slot T) × (get slots j ≡ Some t) × (t.place ≡ i)
                    → option_map {U = ℕ × T} (λ t. (j, t.item)) (get left j) ≡ if_passes (λ e. not (eqb k e.0)) (option_map {U = ℕ × T} (λ t. (j, t.item)) (get slots j))
                by u = on (cases_eq j k)
                  where
                    on : (j ≡ k) ⊎ (j ≢ k) → option_map {U = ℕ × T} (λ t. (j, t.item)) (get left j) ≡ if_passes (λ e. not (eqb k e.0)) (option_map {U = ℕ × T} (λ t. (j, t.item)) (get slots j))
                    on (inl e) =
                        let v : get slots j ≡ get slots k = ap (get slots) e in
                        let w = u.1 in
                        let y : u.0 ≡ s = cc in
                        absurd (q.0 (sym u.2 ∙ ap (λ (v : Slot T). v.place) y))
                    on (inr d) = rw (updates.others j d, u.1, ne_eqb k j (λ e. d (sym e))) refl

  -- a slot is added
  module _ (more : Slab (Slot T)) (k : ℕ) (item : T) (fresh : get slots k ≡ None) (updates : Updates slots more k (Some (record { place = length order; item = item }))) where
    pub added-kept : (above : ℕ) → bound ≤ above → k < above → IsKept more (order ++ Some k ∷ []) above
    added-kept above b c = record {
      placed = λ j t h. placed j t h (cases_eq j k);
      there = λ p j h. stays p j (push-cases order (Some k) p (Some j) h);
      below = λ j t h. below j t h (cases_eq j k);
    }
      where
        old : (j : ℕ) (t : Slot T) → get more j ≡ Some t → j ≢ k → get slots j ≡ Some t
        old j t h d = sym (updates.others j d) ∙ h

        placed : (j : ℕ) (t : Slot T) → get more j ≡ Some t → (j ≡ k) ⊎ (j ≢ k) → slice_get (order ++ Some k ∷ []) t.place ≡ Some (Some j)
        placed j t h (inl q) =
            let x : get more j ≡ get more k = ap (get more) q in
            let y = updates.changed in
            let z : Some t ≡ Some (record { place = length order; item = item }) = sym h ∙ x ∙ y in
            let p : t.place ≡ length order = ap (λ (o : Option (Slot T)). place_or o) z in
            rw (p, q) (get-last order (Some k) [])
          where
            place_or : Option (Slot T) → ℕ
            place_or None = 0
            place_or (Some t) = t.place
        placed j t h (inr d) =
            let g = kept.placed j t (old j t h d) in
            get-append_left order (Some k ∷ []) t.place (slice_get-length order t.place (Some j) g) ∙ g

        stays : (p j : ℕ) → (slice_get order p ≡ Some (Some j)) ⊎ ((p ≡ length order) × (Some j ≡ Some k)) → option_map (λ t. t.place) (get more j) ≡ Some p
        stays p j (inl h) = at (slot-of p j h) (cases_eq j k)
          where
            at : (t : Slot T) × (get slots j ≡ Some t) × (t.place ≡ p) → (j ≡ k) ⊎ (j ≢ k) → option_map (λ t. t.place) (get more j) ≡ Some p
            at u (inl e) = let x : get slots j ≡ get slots k = ap (get slots) e in let y = u.1 in absurd (cc)
            at u (inr d) = ap (option_map (λ t. t.place)) (updates.others j d) ∙ kept.there p j h
        stays p j (inr q) =
            let r = q.1 in
            let e : j ≡ k = cc in
            rw (e, updates.changed) (ap (λ x. Some x) (sym q.0))

        below : (j : ℕ) (t : Slot T) → get more j ≡ Some t → (j ≡ k) ⊎ (j ≢ k) → j < above
        below j t h (inl q) = omega arith
        below j t h (inr d) = let x = kept.below j t (old j t h d) in omega arith

    pub added-listed : listed more (order ++ Some k ∷ []) ≡ listed slots order ++ (k, item) ∷ []
    added-listed = filter_map-append (item_in more) order (Some k ∷ []) ∙ rw (updates.changed) (ap (λ l. l ++ (k, item) ∷ []) (filter_map-same (item_in more) (item_in slots) order at))
      where
        at : (i : ℕ) (x : Option ℕ) → slice_get order i ≡ Some x → item_in more x ≡ item_in slots x
        at i None h = refl
        at i (Some j) h = by (slot-of i j h) (cases_eq j k)
          where
            by : (t : Slot T) × (get slots j ≡ Some t) × (t.place ≡ i) → (j ≡ k) ⊎ (j ≢ k)
                → option_map {U = ℕ × T} (λ t. (j, t.item)) (get more j) ≡ option_map {U = ℕ × T} (λ t. (j, t.item)) (get slots j)
            by u (inl e) = let x : get slots j ≡ get slots k = ap (get slots) e in let y = u.1 in absurd (cc)
            by u (inr d) = ap (option_map {U = ℕ × T} (λ t. (j, t.item))) (updates.others j d)

  -- the item of a slot changes
  module _ (k : ℕ) (s : Slot T) (there : get slots k ≡ Some s) (item : T) where
    changed : Slab (Slot T)
    changed = with_value slots k (record { place = s.place; item = item })

    contains : IsSome (get slots k)
    contains = rw there refl

    pub changed-updates : Updates slots (with_value slots k (record { place = s.place; item = item })) k (Some (record { place = s.place; item = item }))
    changed-updates = Updates-with_value slots k (record { place = s.place; item = item }) contains

    pub changed-kept : IsKept (with_value slots k (record { place = s.place; item = item })) order bound
    changed-kept = record {
      placed = λ j t h. placed j t h (cases_eq j k);
      there = λ p j h. stays p j h (cases_eq j k);
      below = λ j t h. below j t h (cases_eq j k);
    }
      where
        old : (j : ℕ) (t : Slot T) → get (with_value slots k (record { place = s.place; item = item })) j ≡ Some t → j ≢ k → get slots j ≡ Some t
        old j t h d = sym (changed-updates.others j d) ∙ h

        placed : (j : ℕ) (t : Slot T) → get (with_value slots k (record { place = s.place; item = item })) j ≡ Some t → (j ≡ k) ⊎ (j ≢ k) → slice_get order t.place ≡ Some (Some j)
        placed j t h (inl q) =
            let x : get (with_value slots k (record { place = s.place; item = item })) j
            ≡ get (with_value slots k (record { place = s.place; item = item })) k = ap (get (with_value slots k (record { place = s.place; item = item }))) q in
            let z : Some t ≡ Some (record { place = s.place; item = item }) = sym h ∙ x ∙ changed-updates.changed in
            let p : t.place ≡ s.place = ap (λ (o : Option (Slot T)). place_or o) z in
            rw (p, q) (kept.placed k s there)
          where
            place_or : Option (Slot T) → ℕ
            place_or None = 0
            place_or (Some t) = t.place
        placed j t h (inr d) = kept.placed j t (old j t h d)

        stays : (p j : ℕ) → slice_get order p ≡ Some (Some j) → (j ≡ k) ⊎ (j ≢ k) → option_map (λ t. t.place) (get (with_value slots k (record { place = s.place; item = item })) j) ≡ Some p
        stays p j h (inl q) =
            let x : get (with_value slots k (record { place = s.place; item = item })) j
            ≡ get (with_value slots k (record { place = s.place; item = item })) k = ap (get (with_value slots k (record { place = s.place; item = item }))) q in
            let y : get slots j ≡ get slots k = ap (get slots) q in
            ap (option_map (λ t. t.place)) (x ∙ changed-updates.changed) ∙ sym (ap (option_map (λ t. t.place)) (y ∙ there)) ∙ kept.there p j h
        stays p j h (inr d) = ap (option_map (λ t. t.place)) (changed-updates.others j d) ∙ kept.there p j h

        below : (j : ℕ) (t : Slot T) → get (with_value slots k (record { place = s.place; item = item })) j ≡ Some t → (j ≡ k) ⊎ (j ≢ k) → j < bound
        below j t h (inl q) = rw q (kept.below k s there)
        below j t h (inr d) = kept.below j t (old j t h d)

    pub changed-listed : listed (with_value slots k (record { place = s.place; item = item })) order ≡ with_item k (listed slots order) item
    changed-listed = filter_map-map (item_in slots) (item_in (with_value slots k (record { place = s.place; item = item }))) (λ (e : ℕ × T). cond (eqb k e.0) (e.0, item) e) order at
      where
        at : (i : ℕ) (x : Option ℕ) → slice_get order i ≡ Some x
            → item_in (with_value slots k (record { place = s.place; item = item })) x ≡ option_map (λ (e : ℕ × T). cond (eqb k e.0) (e.0, item) e) (item_in slots x)
        at i None h = refl
        at i (Some j) h = by (slot-of i j h) (cases_eq j k)
          where
            by : (t : Slot T) × (get slots j ≡ Some t) × (t.place ≡ i) → (j ≡ k) ⊎ (j ≢ k)
                → item_in (with_value slots k (record { place = s.place; item = item })) (Some j) ≡ option_map (λ (e : ℕ × T). cond (eqb k e.0) (e.0, item) e) (item_in slots (Some j))
            by u (inl e) = rw (e, changed-updates.changed, there, eq-eqb k k refl) refl
            by u (inr d) = rw (changed-updates.others j d, u.1, ne_eqb k j (λ e. d (sym e))) refl

    pub changed-room : (capacity places room : ℕ) → HasRoom slots capacity places room → HasRoom (with_value slots k (record { place = s.place; item = item })) capacity places room
    changed-room capacity places room h =
        let x = sum_by-set (λ (o : Option (Slot T)). cond (is_some o) 1 0) slots.slots k (Some (record { place = s.place; item = item })) None (ContainsKey-within slots k contains) in
        let y = rw there at x in
        record { in_slots = omega (arith, y, h.in_slots); in_order = h.in_order; small = h.small }
