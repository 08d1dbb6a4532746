use Rattle.std.proofs.lemmas.List.{take_rest}
use Rattle.std.proofs.Common.{sym, ◌∙◌}
use Rattle.chyp_lex.proofs.LexemeSteps.{next-is_word, next-is_dotted}
use Rattle.chyp_lex.proofs.name.name_or_bad.Goals as goal

pub returns-then-more-eq0-clause-next : goal.returns-then-more-eq0-clause-next
returns-then-more-eq0-clause-next c =
    let more = rw take_rest at c.members_len-more.ensures.value in
    rw (c.token-then-more-eq0.ensures, c.kind_of_word.ensures)
    (next-is_word c.args.text.now c.identifier_len-len.result c.identifier_len-len.ensures.value c.if-len-eq0.false (sym more ∙ c.if-more-eq0.true))

pub returns-clause-next : goal.returns-clause-next
returns-clause-next c =
    let more = rw take_rest at c.members_len-more.ensures.value in
    rw c.token-2.ensures (next-is_dotted c.args.text.now c.identifier_len-len.result c.members_len-more.result c.identifier_len-len.ensures.value c.if-len-eq0.false more c.if-more-eq0.false)
