use Rattle.std.proofs.Common.{◌∙◌}
use Rattle.chyp_lex.proofs.LexemeSteps.{comment_len-is}
use Rattle.chyp_lex.proofs.lexeme.comment_len.Goals as goal

pub returns : goal.returns
returns c = c.unwrap_or.ensures ∙ comment_len-is c.args.text.now c.memchr.result c.memchr.ensures
