use Rattle.std.proofs.Common.{take, sym, ◌∙◌}
use Rattle.chyp_lex.proofs.Pieces.{next-blanks, next-comment, next-number, next-is_other, next-is_symbol, symbol_of-value}
use Rattle.chyp_lex.proofs.lexeme.next_lexeme.Goals as goal

pub returns-then-is_blank-clause-next : goal.returns-then-is_blank-clause-next
returns-then-is_blank-clause-next c = rw (c.passed_over.ensures, c.blanks_len.ensures) (next-blanks c.args.text.now (sym c.is_blank.ensures ∙ c.if-is_blank.true))

pub returns-then-first-eq35-clause-next : goal.returns-then-first-eq35-clause-next
returns-then-first-eq35-clause-next c = rw (c.passed_over-then-first-eq35.ensures, c.comment_len.ensures) (next-comment c.args.text.now c.if-first-eq35.true)

pub returns-then-is_ascii_digit-clause-next : goal.returns-then-is_ascii_digit-clause-next
returns-then-is_ascii_digit-clause-next c = next-number c.args.text.now (sym c.is_ascii_digit.ensures.value ∙ c.if-is_ascii_digit.true) ∙ c.number.ensures.number

pub returns-in-Some-clause-next : goal.returns-in-Some-clause-next
returns-in-Some-clause-next c = rw c.token.ensures (next-is_symbol c.args.text.now (c.in-Some.len, c.in-Some.kind) c.requires (sym c.symbol.ensures ∙ c.in-Some.is))

pub returns-in-Some-clause-value : goal.returns-in-Some-clause-value
returns-in-Some-clause-value c =
    rw c.token.ensures (sym (symbol_of-value c.args.text.now (c.in-Some.len, c.in-Some.kind) (take c.in-Some.len c.args.text.now) c.requires (sym c.symbol.ensures ∙ c.in-Some.is)))

pub returns-in_default-clause-next : goal.returns-in_default-clause-next
returns-in_default-clause-next c =
    next-is_other c.args.text.now (sym c.is_blank.ensures ∙ c.if-is_blank.false) c.if-first-eq35.false (sym c.is_ascii_digit.ensures.value ∙ c.if-is_ascii_digit.false) (sym c.symbol.ensures
    ∙ c.in_default.is)
    ∙ c.name_or_bad.ensures.next
