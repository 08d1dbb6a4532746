use Rattle.std.proofs.Common.{◌-◌, ◌∙◌, arith, drop, length, subst}
use Rattle.std.specs.Io.KnownBytes.{Appends}
use Rattle.std.proofs.lemmas.List.{length-drop, length-take}
use Rattle.chyp_base.proofs.KnownBytes.{Appends-more}
use Rattle.chyp_svg.proofs.Escapes.{escaped-more, escaped-turn}
use Rattle.chyp_svg.proofs.label.write_escaped.Goals as goal
use Rattle.chyp_write.proofs.WritingLemmas.{writes-cut}

pub returns-in_err-write_text : goal.returns-in_err-write_text
returns-in_err-write_text g c =
    let i = c.loop-at.invariant in
    writes-cut _ _ _ _ _ _ _ c.from_residual.result _ _ _ _ i.written i.kept c.from_residual.ensures.0 c.in_err-write_text.ensures
    (escaped-turn c.args.text.now c.loop-at.at c.front-count.result.1 c.front-count.result.0.now c.front-count.ensures.same)

pub loop-at-preserved : goal.loop-at-preserved
loop-at-preserved g c =
    let i = c.loop-at.invariant in
    record {
      within = omega (
        arith,
        i.within,
        c.front-count.ensures.within,
        length-drop c.loop-at.at c.args.text.now,
        length-take (length c.args.text.now - c.loop-at.at) (drop c.loop-at.at c.args.text.now),
      );
      written = subst (Appends _ _) (escaped-more c.args.text.now c.loop-at.at c.front-count.result.1 c.front-count.result.0.now c.front-count.ensures.same)
          (Appends-more _ _ _ _ _ i.written c.in_ok-write_text.ensures.whole);
      kept = c.in_ok-write_text.ensures.kept ∙ i.kept;
    }
