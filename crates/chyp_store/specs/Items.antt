-- Lists of items under numbers.
use Rattle.std.specs.Prelude.{ℕ, ◌≡◌, true, not, cond, eqb, List, [], ◌∷◌, map, filter, Option}
use Rattle.std.specs.Map.{lookup}
use Rattle.chyp_term.specs.Positions.{is_apart}

module _ {T : Type 0} where
  -- the item under the number k
  abbrev pub item_at : ℕ → List (ℕ × T) → Option T
  item_at k items = lookup (eqb k) items

  -- without what is under the number k
  abbrev pub without : ℕ → List (ℕ × T) → List (ℕ × T)
  without k items = filter (λ e. not (eqb k e.0)) items

  -- without what is under these numbers
  abbrev pub without_all : List ℕ → List (ℕ × T) → List (ℕ × T)
  without_all ks items = filter (λ e. is_apart ks e.0) items

  -- with the item under the number k in place of what is there
  abbrev pub with_item : ℕ → List (ℕ × T) → T → List (ℕ × T)
  with_item k items item = map (λ e. cond (eqb k e.0) (e.0, item) e) items

  -- the numbers, in order
  abbrev pub ids : List (ℕ × T) → List ℕ
  ids items = map (λ e. e.0) items

-- no number stands twice in the list
abbrev pub AreDistinct : List ℕ → Type 0
AreDistinct [] = Unit {0}
AreDistinct (k ∷ ks) = (is_apart ks k ≡ true) × AreDistinct ks
