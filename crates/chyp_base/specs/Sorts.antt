-- Lists of sorts, which lists of terms share.
use Rattle.std.specs.Prelude.{List}
use Rattle.chyp_base.specs.declared.sort.Sort.{Sort}
use Rattle.chyp_base.specs.declared.sorts.Items.{Items}
use Rattle.chyp_base.specs.declared.sorts.Items.TheVariants.{Owned, Shared}

-- the sorts of a list, whether it is shared or not
abbrev pub sorts_in : Items → List Sort
sorts_in (Owned list) = list.items
sorts_in (Shared list) = list.value.items
