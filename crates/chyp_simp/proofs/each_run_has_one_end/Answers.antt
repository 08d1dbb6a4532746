use Rattle.chyp_simp.specs.Run.{rules_of}
use Rattle.chyp_simp.proofs.Once.{ends-once}
use Rattle.chyp_simp.proofs.Some.{have-placements, some-end}
use Rattle.chyp_simp.proofs.each_run_has_one_end.Goals as goal

pub returns : goal.returns
returns c = λ equations g usable.
    let some = some-end (rules_of equations) (have-placements equations usable) g in
    record { ending = some.0; ends = some.1; only = λ other ends. ends-once (rules_of equations) g other some.0 ends some.1 }
