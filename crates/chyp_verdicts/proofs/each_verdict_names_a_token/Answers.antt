use Rattle.chyp_verdicts.proofs.Tokens.{token-within}
use Rattle.chyp_verdicts.proofs.each_verdict_names_a_token.Goals as goal

pub returns : goal.returns
returns c = token-within
