use Rattle.std.proofs.Common.{◌≡◌, Some, slice_get, sym, ap, subst, ◌∙◌}
use Rattle.chyp_lex.specs.Names.{IsNameText}
use Rattle.chyp_text_tests.proofs.Naming.{is-name}
use Rattle.chyp_text_tests.proofs.names.check_name.Goals as goal

pub returns-then-is_whole : goal.returns-then-is_whole
returns-then-is_whole c =
    let text = c.as_bytes-text.result.now in
    let tokens = c.in_ok-tokens.tokens.items in
    let whole = c.is_whole.ensures in
    let yes = c.if-is_whole.true in
    let first : slice_get tokens 0 ≡ Some c.in-Some.token.now = ap (λ ts. slice_get ts 0) (sym c.deref.ensures.value) ∙ sym c.in-Some.ensures.value in
    subst IsNameText c.as_bytes-text.ensures.value
    (is-name text tokens c.in-Some.token.now (c.each_name_is_text.ensures text tokens c.in_ok-tokens.ensures.tokens) first (whole.start yes) (whole.len yes) (whole.name yes))
