use Rattle.std.proofs.Common.{sym, ◌∙◌, arith}
use Rattle.chyp_lex.specs.Lexemes.{begins_identifier}
use Rattle.chyp_lex.proofs.Names.{character_len-le-length}
use Rattle.chyp_lex.proofs.NameSteps.{character_len-passes, character_len-fails}
use Rattle.chyp_lex.proofs.name.start_len.Goals as goal

pub returns-then-begins_identifier-clause-value : goal.returns-then-begins_identifier-clause-value
returns-then-begins_identifier-clause-value c =
    let is = character_len-passes begins_identifier c.args.text.now c.in-Some.c (sym c.decode-found.ensures.char ∙ c.in-Some.is) (sym c.begins_identifier.ensures ∙ c.if-begins_identifier.true) in
    c.decode-found.ensures.size ∙ sym is

pub returns-then-begins_identifier-clause-within : goal.returns-then-begins_identifier-clause-within
returns-then-begins_identifier-clause-within c =
    let is = character_len-passes begins_identifier c.args.text.now c.in-Some.c (sym c.decode-found.ensures.char ∙ c.in-Some.is) (sym c.begins_identifier.ensures ∙ c.if-begins_identifier.true) in
    let within = character_len-le-length begins_identifier c.args.text.now in
    omega (arith, c.decode-found.ensures.size)

pub returns-else-begins_identifier-clause-value : goal.returns-else-begins_identifier-clause-value
returns-else-begins_identifier-clause-value c =
    sym (character_len-fails begins_identifier c.args.text.now c.in-Some.c (sym c.decode-found.ensures.char ∙ c.in-Some.is) (sym c.begins_identifier.ensures ∙ c.if-begins_identifier.false))
