use Rattle.std.proofs.Common.{◌+◌, get_or}
use Rattle.chyp_lex.specs.declared.token.Token.{Token}
use Rattle.chyp_lex.specs.declared.token.TokenKind.TheVariants.{Ident}
use Rattle.chyp_syntax.specs.Beginning.{tokens_from}
use Rattle.chyp_syntax.proofs.Numbered.{terminal, tokens_from-at, number_there}
use Rattle.chyp_syntax.proofs.tokens.number.Goals as goal

pub returns-clause-there : goal.returns-clause-there
returns-clause-there c =
    let tokens = c.args.tokens.now in
    let at = c.args.at in
    let default : Token = record { kind = Ident; start = 0; len = 0; value = 0 } in
    number_there (tokens_from tokens at) (tokens_from tokens (at + 1)) (at, terminal (get_or tokens at default))
    (tokens_from-at tokens at default c.in_ok-expect.ensures.within) c.in_ok-expect.ensures.there
