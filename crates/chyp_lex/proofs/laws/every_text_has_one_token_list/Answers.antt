use Rattle.chyp_lex.proofs.TokenLists.{one_token_list}
use Rattle.chyp_lex.proofs.laws.every_text_has_one_token_list.Goals as goal

pub returns : goal.returns
returns c = one_token_list
