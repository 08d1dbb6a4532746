use Rattle.std.proofs.Common.{◌≡◌, All}
use Rattle.chyp_env.specs.Environment.{Binding, broken}
use Rattle.chyp_text_tests.proofs.imports.bind_each.Given as goal

abbrev pub invariant-loop-bound : goal.invariant-loop-bound
invariant-loop-bound l = All (λ (b : Binding). b.sense ≡ broken) l.initial.env → All (λ (b : Binding). b.sense ≡ broken) l.env
