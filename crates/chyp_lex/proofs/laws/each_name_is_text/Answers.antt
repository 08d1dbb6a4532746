use Rattle.chyp_lex.proofs.TextOfNames.{names_are_text}
use Rattle.chyp_lex.proofs.laws.each_name_is_text.Goals as goal

pub returns : goal.returns
returns c = names_are_text
