use Rattle.std.proofs.Common.{◌≡◌, [], drop, arith, refl, sym, ◌∙◌}
use Rattle.std.proofs.lemmas.Grind.{common_steps}
use Rattle.std.proofs.lemmas.List.{take_rest}
use Rattle.unicode_ident.specs.Ident.{is_xid_continue}
use Rattle.chyp_lex.specs.Longest.{character_len}
use Rattle.chyp_lex.proofs.Names.{character_len-le-length}
use Rattle.chyp_lex.proofs.NameSteps.{repeated-next, repeated-last, repeated-end, character_len-empty}
use Rattle.chyp_lex.proofs.name.continuations_len.Goals as goal

pub loop-at-preserved : goal.loop-at-preserved
loop-at-preserved c =
    let is : c.continue_len-len.result ≡ character_len is_xid_continue (drop c.loop-at.at c.args.text.now) = rw take_rest at c.continue_len-len.ensures.value in
    record {
      within = grind (arith, common_steps);
      left = repeated-next _ _ _ (character_len-le-length is_xid_continue) _ is c.if-len-eq0.false c.loop-at.invariant.left;
    }

pub returns-after-loop-at-clause-value : goal.returns-after-loop-at-clause-value
returns-after-loop-at-clause-value c = repeated-end _ _ _ (character_len-empty is_xid_continue [] refl) c.loop-at-test.false c.loop-at.invariant.left

pub returns-then-len-eq0-clause-value : goal.returns-then-len-eq0-clause-value
returns-then-len-eq0-clause-value c =
    let is : c.continue_len-len.result ≡ character_len is_xid_continue (drop c.loop-at.at c.args.text.now) = rw take_rest at c.continue_len-len.ensures.value in
    repeated-last _ _ _ (sym is ∙ c.if-len-eq0.true) c.loop-at.invariant.left
