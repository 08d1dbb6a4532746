use Rattle.std.proofs.Common.{rules}
use Rattle.std.proofs.lemmas.List.{take_rest}
use Rattle.std.proofs.Math.Seq.{take-add}
use Rattle.chyp_base.proofs.KnownBytes.{Appends-more}
use Rattle.chyp_write.proofs.write.write_text.Goals as goal

pub loop-at-preserved : goal.loop-at-preserved
loop-at-preserved g c =
    let b = c.in_ok-at.ensures in
    let i = c.loop-at.invariant in
    record {
      within = search rules;
      written = rw take-add (Appends-more _ _ _ _ _ i.written (rw take_rest at b.bytes));
      kept = search rules;
    }
