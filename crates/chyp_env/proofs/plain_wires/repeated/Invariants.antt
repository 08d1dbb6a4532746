use Rattle.std.proofs.Common.{◌≡◌}
use Rattle.chyp_env.specs.Expansion.{plain_wires}
use Rattle.chyp_env.proofs.plain_wires.repeated.Given as goal

abbrev pub invariant-loop : goal.invariant-loop
invariant-loop l = l.sorts.items ≡ plain_wires l.counter
