use Rattle.chyp_theory.proofs.Wires.{derivation_equation}
use Rattle.chyp_theory.proofs.derivations_are_equations.Goals as goal

pub returns : goal.returns
returns c = λ E s t d. derivation_equation d
