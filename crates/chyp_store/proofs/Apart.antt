-- No two listed items have one number.
use Rattle.std.proofs.Common.{ℕ, suc, ◌+◌, ◌≡◌, List, [], ◌∷◌, Option, Some, None, slice_get, ◌⊎◌, inl, inr, refl, sym, ◌∙◌, ap, arith}
use Rattle.std.specs.Prelude.{option_map}
use Rattle.slab.specs.Slab.{Slab, get}
use Rattle.chyp_term.proofs.Members.{Member, not_member-apart}
use Rattle.chyp_store.specs.Items.{AreDistinct, ids}
use Rattle.chyp_store.specs.Store.{IsKept, listed}
use Rattle.chyp_store.specs.declared.store.Slot.{Slot}

module _ {T : Type 0} (slots : Slab (Slot T)) where
  -- a number that is listed stands in the order
  pub listed-place : (os : List (Option ℕ)) (j : ℕ) → Member j (ids (listed slots os)) → (p : ℕ) × (slice_get os p ≡ Some (Some j))
  listed-place [] j m = absurd m
  listed-place (None ∷ os) j m = let r = listed-place os j m in (suc r.0, r.1)
  listed-place (Some i ∷ os) j m = at (get slots i) refl (listed-place os j)
    where
      at : (o : Option (Slot T)) → get slots i ≡ o → (Member j (ids (listed slots os)) → (p : ℕ) × (slice_get os p ≡ Some (Some j))) → (p : ℕ) × (slice_get (Some i ∷ os) p ≡ Some (Some j))
      at None e r = let n = rw e at m in let q = r n in (suc q.0, q.1)
      at (Some s) e r = by (rw e at m)
        where
          by : ((i ≡ j) ⊎ Member j (ids (listed slots os))) → (p : ℕ) × (slice_get (Some i ∷ os) p ≡ Some (Some j))
          by (inl q) = (0, ap (λ x. Some (Some x)) q)
          by (inr n) = let q = r n in (suc q.0, q.1)

  listed-from : (os : List (Option ℕ)) (first : ℕ) → ((p j : ℕ) → slice_get os p ≡ Some (Some j) → option_map (λ s. s.place) (get slots j) ≡ Some (first + p)) → AreDistinct (ids (listed slots os))
  listed-from [] first h = tt
  listed-from (None ∷ os) first h = listed-from os (suc first) (λ p j e. let x = h (suc p) j e in let y : first + suc p ≡ suc first + p = omega arith in rw y at x)
  listed-from (Some i ∷ os) first h = at (get slots i) refl (listed-from os (suc first) (λ p j e. let x = h (suc p) j e in let y : first + suc p ≡ suc first + p = omega arith in rw y at x))
    where
      at : (o : Option (Slot T)) → get slots i ≡ o → AreDistinct (ids (listed slots os)) → AreDistinct (ids (listed slots (Some i ∷ os)))
      at None e r = rw e r
      at (Some s) e r = rw e (not_member-apart (ids (listed slots os)) i (λ m. twice (listed-place os i m)), r)
        where
          twice : (p : ℕ) × (slice_get os p ≡ Some (Some i)) → ⊥
          twice q =
              let x = h 0 i refl in
              let y = h (suc q.0) i q.1 in
              let z : Some (first + 0) ≡ Some (first + suc q.0) = sym x ∙ y in
              let w : first + 0 ≡ first + suc q.0 = cc in
              omega arith

  pub listed-apart : (order : List (Option ℕ)) (bound : ℕ) → IsKept slots order bound → AreDistinct (ids (listed slots order))
  listed-apart order bound kept = listed-from order 0 (λ p j e. let x = kept.there p j e in let y : p ≡ 0 + p = omega arith in rw y at x)
