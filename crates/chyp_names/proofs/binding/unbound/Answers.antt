use Rattle.std.proofs.Common.{sym}
use Rattle.chyp_env.specs.Entry.{entry_of}
use Rattle.chyp_names.specs.Binding.{nothing, again}
use Rattle.chyp_names.proofs.Stands.{found_bound}
use Rattle.chyp_names.proofs.binding.unbound.Goals as goal

pub returns-in_err-name-clause-none : goal.returns-in_err-name-clause-none
returns-in_err-name-clause-none c = rw c.from_residual.ensures (λ home imported number verdict none. nothing (sym c.in_err-name.ensures) none)

pub returns-in-Some-clause-none : goal.returns-in-Some-clause-none
returns-in-Some-clause-none c =
    λ home imported number verdict none. again (sym c.in_ok-name.ensures) (found_bound c.args.env.now c.in_ok-name.name.now (entry_of c.in-Some.field-0.now) c.in-Some.ensures.some)
