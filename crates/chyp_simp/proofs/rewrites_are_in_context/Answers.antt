use Rattle.chyp_simp.proofs.Contexts.{leads}
use Rattle.chyp_simp.proofs.Derived.{normal-form-derived}
use Rattle.chyp_simp.proofs.rewrites_are_in_context.Goals as goal

pub returns-clause-context : goal.returns-clause-context
returns-clause-context c = leads

pub returns-clause-derived : goal.returns-clause-derived
returns-clause-derived c = normal-form-derived
