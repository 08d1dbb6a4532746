use Rattle.std.proofs.Common.{sym, subst, append-nil}
use Rattle.chyp_lex.specs.Names.{NamesAreText}
use Rattle.chyp_lex.specs.Tokens.{AreTokens}
use Rattle.chyp_check.proofs.tests.verdict_of.Goals as goal

pub lent-chunk-requires-clause-names : goal.lent-chunk-requires-clause-names
lent-chunk-requires-clause-names g c =
    let text = c.args.text.now in
    let tokens = c.in_ok-tokens.tokens.items in
    let are : AreTokens text tokens = subst (λ t. AreTokens t tokens) (append-nil text) c.in_ok-tokens.ensures.tokens in
    subst (NamesAreText text) (sym c.deref.ensures.value) (c.each_name_is_text.ensures text tokens are)
