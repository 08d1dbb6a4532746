use Rattle.std.proofs.Common.{sym, ◌∙◌}
use Rattle.std.proofs.lemmas.List.{take_rest}
use Rattle.chyp_lex.proofs.NameSteps.{member_len-is}
use Rattle.chyp_lex.proofs.Names.{member_len-no_name}
use Rattle.chyp_lex.proofs.name.member_len.Goals as goal

pub returns-then-len-eq0-clause-value : goal.returns-then-len-eq0-clause-value
returns-then-len-eq0-clause-value c =
    let name = rw take_rest at c.identifier_len-len.ensures.value in
    sym (member_len-no_name c.args.text.now (sym name ∙ c.if-len-eq0.true))

pub returns-else-len-eq0-clause-value : goal.returns-else-len-eq0-clause-value
returns-else-len-eq0-clause-value c =
    let name = rw take_rest at c.identifier_len-len.ensures.value in
    rw name (sym (member_len-is c.args.text.now c.if-text-ne46.false (λ none. c.if-len-eq0.false (name ∙ none))))
