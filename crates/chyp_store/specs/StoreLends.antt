-- What a store ends as, where a `&mut` to one of its items is returned.
use Rattle.std.specs.Prelude.{ℕ, Option}
use Rattle.std.specs.Borrow.{LendsIf, Fml, RattleType, MutBor}
use Rattle.chyp_store.specs.Items.{with_item}
use Rattle.chyp_store.specs.Store.{Store}
use Rattle.chyp_store.specs.contracts.store.Store.{the_row}

module _ (T : RattleType) (s : MutBor (Store T.Denot)) (k : ℕ) where
  -- once the borrow r ends, the item under the number is the last one written through r, and at `None` the store stays as it is
  abbrev pub lends_item : Option (MutBor T.Denot) → Fml
  lends_item r = LendsIf (the_row T) T s r (λ w. record s.now { items = with_item k s.now.items w }) s.now
