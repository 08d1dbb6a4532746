-- The test of sorts is true exactly where they are the same.
use Rattle.std.proofs.Common.{◌≡◌, ap}
use Rattle.std.proofs.lemmas.Slice.Eq.{bytes_eq-Decides}
use Rattle.std.specs.Bool.{Decides}
use Rattle.chyp_base.specs.Sort.{same_sort}
use Rattle.chyp_base.specs.declared.sort.Sort.{Sort}

pub same_sort-Decides : (a b : Sort) → Decides (same_sort a b) (a ≡ b)
same_sort-Decides a b =
    let names = bytes_eq-Decides a.name b.name in
    ((λ test. ap (λ n. record { name = n }) (names.0 test)), λ same. names.1 (ap (λ (s : Sort). s.name) same))
