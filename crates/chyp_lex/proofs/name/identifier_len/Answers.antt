use Rattle.std.proofs.Common.{sym}
use Rattle.std.proofs.lemmas.List.{take_rest}
use Rattle.chyp_lex.proofs.NameSteps.{identifier_len-is}
use Rattle.chyp_lex.proofs.name.identifier_len.Goals as goal

pub returns-clause-value : goal.returns-clause-value
returns-clause-value c =
    let more = rw take_rest at c.continuations_len-more.ensures.value in
    rw more (sym (identifier_len-is c.args.text.now c.start_len-first.result (sym c.start_len-first.ensures.value) c.if-first-eq0.false))
