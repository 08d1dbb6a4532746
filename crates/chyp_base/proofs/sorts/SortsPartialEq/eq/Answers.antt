use Rattle.std.proofs.Common.{rules}
use Rattle.std.proofs.lemmas.Slice.Eq.{slice_eq-Decides}
use Rattle.chyp_base.proofs.SortEquality.{same_sort-Decides}
use Rattle.chyp_base.proofs.sorts.SortsPartialEq.eq.Goals as goal

-- src/sorts.rt:68:5
pub returns-clause-same : goal.returns-clause-same
returns-clause-same c = slice_eq-Decides same_sort-Decides c.args.self.now c.args.other.now c.eq.result (search rules)
