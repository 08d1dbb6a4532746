use Rattle.std.proofs.Common.{sym, ◌∙◌, arith}
use Rattle.unicode_ident.specs.Ident.{is_xid_continue}
use Rattle.chyp_lex.proofs.Names.{character_len-le-length}
use Rattle.chyp_lex.proofs.NameSteps.{character_len-passes, character_len-fails}
use Rattle.chyp_lex.proofs.name.continue_len.Goals as goal

pub returns-then-is_xid_continue-clause-value : goal.returns-then-is_xid_continue-clause-value
returns-then-is_xid_continue-clause-value c =
    let is = character_len-passes is_xid_continue c.args.text.now c.in-Some.c (sym c.decode-found.ensures.char ∙ c.in-Some.is) (sym c.is_xid_continue.ensures.value ∙ c.if-is_xid_continue.true) in
    c.decode-found.ensures.size ∙ sym is

pub returns-then-is_xid_continue-clause-within : goal.returns-then-is_xid_continue-clause-within
returns-then-is_xid_continue-clause-within c =
    let is = character_len-passes is_xid_continue c.args.text.now c.in-Some.c (sym c.decode-found.ensures.char ∙ c.in-Some.is) (sym c.is_xid_continue.ensures.value ∙ c.if-is_xid_continue.true) in
    let within = character_len-le-length is_xid_continue c.args.text.now in
    omega (arith, c.decode-found.ensures.size)

pub returns-else-is_xid_continue-clause-value : goal.returns-else-is_xid_continue-clause-value
returns-else-is_xid_continue-clause-value c =
    sym (character_len-fails is_xid_continue c.args.text.now c.in-Some.c (sym c.decode-found.ensures.char ∙ c.in-Some.is) (sym c.is_xid_continue.ensures.value ∙ c.if-is_xid_continue.false))
