-- Items that are kept in the order in which they came, each under a number of its own.
use Rattle.std.specs.Prelude.{ℕ, ◌≡◌, ◌≤◌, ◌<◌, ◌+◌, ◌^◌, List, filter_map, Option, Some, option_map, slice_get, refl}
use Rattle.std.specs.Option.{option_and_then}
use Rattle.std.specs.Coded.{Coded, code_by, coded×, coded_ℕ, coded_list}
use Rattle.slab.specs.Slab.{Slab, get, slab_len}
use Rattle.chyp_store.specs.declared.store.Slot.{Slot}

-- the items with their numbers, how many more may come without memory, and a number that is above all of theirs
pub record Store (T : Type 0) : Type 0 where
  pub items : List (ℕ × T)
  pub room : ℕ
  pub bound : ℕ

-- a store is kept as the tuple of its fields
abbrev pub store_code : {T : Type 0} → Coded T → Coded (Store T)
store_code {T} code =
    code_by
    (List (ℕ × T) × (ℕ × ℕ))
    (coded× (coded_list (coded× coded_ℕ code)) (coded× coded_ℕ coded_ℕ))
    (λ s. (s.items, (s.room, s.bound)))
    (λ p. record { items = p.0; room = p.1.0; bound = p.1.1 })
    (λ _. refl)

module _ {T : Type 0} where
  -- the item of a slot, under its number
  abbrev pub item_in : Slab (Slot T) → Option ℕ → Option (ℕ × T)
  item_in slots entry = option_and_then (λ k. option_map (λ s. (k, s.item)) (get slots k)) entry

  -- the items that the places of an order have, in that order
  abbrev pub listed : Slab (Slot T) → List (Option ℕ) → List (ℕ × T)
  listed slots order = filter_map (item_in slots) order

  -- each slot stands at its place in the order, once, and the numbers are below the bound
  pub record IsKept (slots : Slab (Slot T)) (order : List (Option ℕ)) (bound : ℕ) : Type 0 where
    pub placed : (k : ℕ) (s : Slot T) → get slots k ≡ Some s → slice_get order s.place ≡ Some (Some k)
    pub there : (p k : ℕ) → slice_get order p ≡ Some (Some k) → option_map (λ s. s.place) (get slots k) ≡ Some p
    pub below : (k : ℕ) (s : Slot T) → get slots k ≡ Some s → k < bound

  -- so many more items can come without memory, and then each number fits
  pub record HasRoom (slots : Slab (Slot T)) (capacity places room : ℕ) : Type 0 where
    pub in_slots : slab_len slots + room ≤ slots.capacity
    pub in_order : places + room ≤ capacity
    pub small : 0 < room → slots.capacity ≤ 2 ^ 31
