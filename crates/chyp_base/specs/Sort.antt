-- Sorts, which are told apart by their names.
use Rattle.std.specs.Prelude.{Bool, []}
use Rattle.std.specs.Cmp.{IsEquivalence, on_equiv}
use Rattle.std.specs.Cmp.Lexicographic.{nat_list_eq_equiv}
use Rattle.std.specs.Str.{bytes_eq}
use Rattle.chyp_base.specs.declared.sort.Sort.{Sort}

-- the sort of the plain wire, which has the empty name
abbrev pub plain : Sort
plain = record { name = [] }

-- sorts are the same where their names are
abbrev pub same_sort : Sort → Sort → Bool
same_sort a b = bytes_eq a.name b.name

pub same_sort_equiv : IsEquivalence same_sort
same_sort_equiv = on_equiv (λ (s : Sort). s.name) nat_list_eq_equiv
