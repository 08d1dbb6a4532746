use Rattle.chyp_syntax.proofs.Numbered.{tokens_from-past}
use Rattle.chyp_syntax.proofs.tokens.expect_end.Goals as goal

pub returns-else-at-tokens-clause-there : goal.returns-else-at-tokens-clause-there
returns-else-at-tokens-clause-there c = tokens_from-past c.args.tokens.now c.args.at c.if-at-tokens.false
