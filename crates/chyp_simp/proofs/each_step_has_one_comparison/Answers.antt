use Rattle.chyp_simp.proofs.Comparing.{equal-derived, one-comparison}
use Rattle.chyp_simp.proofs.each_step_has_one_comparison.Goals as goal

pub returns-clause-one : goal.returns-clause-one
returns-clause-one c = one-comparison

pub returns-clause-derived : goal.returns-clause-derived
returns-clause-derived c = equal-derived
