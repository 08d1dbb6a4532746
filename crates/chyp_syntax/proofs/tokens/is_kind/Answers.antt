use Rattle.std.proofs.Common.{sym, ◌∙◌, ◌+◌}
use Rattle.std.proofs.lemmas.Bool.{false≢true}
use denote.Enum.Bare.{same_true, true_same}
use Rattle.chyp_lex.specs.contracts.token.TokenKind.{the_type}
use Rattle.chyp_syntax.proofs.Numbered.{terminal, tokens_from-more, tokens_from-past, begins_there, kind_there, nothing_begins}
use Rattle.chyp_syntax.specs.Beginning.{tokens_from}
use Rattle.chyp_syntax.proofs.tokens.is_kind.Goals as goal

pub returns-in-Some : goal.returns-in-Some
returns-in-Some c =
    let tokens = c.args.tokens.now in
    let token = c.in-Some.token.now in
    let at = c.args.at in
    let kind = c.args.kind in
    let here = tokens_from-more tokens at token c.in-Some.ensures.lookup.3.0 c.in-Some.ensures.lookup.1 in (
      λ is. begins_there kind (tokens_from tokens at) (tokens_from tokens (at + 1)) (at, terminal token) here (same_true the_type tt token.kind kind (sym c.eq.ensures ∙ is)),
      λ begins. c.eq.ensures ∙ true_same the_type token.kind kind (kind_there kind (tokens_from tokens at) (tokens_from tokens (at + 1)) (at, terminal token) here begins),
    )

pub returns-in-None : goal.returns-in-None
returns-in-None c =
    let tokens = c.args.tokens.now in
    let none = tokens_from-past tokens c.args.at c.in-None.ensures.lookup.3 in
    (λ is. absurd (false≢true is), λ begins. absurd (nothing_begins c.args.kind (tokens_from tokens c.args.at) none begins))
