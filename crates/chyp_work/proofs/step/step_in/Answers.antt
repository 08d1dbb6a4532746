use Rattle.std.proofs.Common.{subst}
use Rattle.chyp_match.specs.View.{Net}
use Rattle.chyp_work.specs.Board.{net}
use Rattle.chyp_work.specs.Step.{IsStepAt}
use Rattle.chyp_work.proofs.step.step_in.Goals as goal

pub returns-clause-step : goal.returns-clause-step
returns-clause-step c = subst (λ (n : Net). IsStepAt n c.args.site.now (net c.replace_in.new.board)) c.reserve.ensures.graph c.replace_in.ensures.step
