use Rattle.chyp_extract.specs.Extraction.{extracted}
use Rattle.chyp_nth.specs.Nth.{big, small}
use Rattle.chyp_nth.proofs.Limits.{measured, within}
use Rattle.chyp_nth.proofs.rewriting.read_back.Goals as goal

pub returns-then-not-is_small : goal.returns-then-not-is_small
returns-then-not-is_small c =
    let m = c.in_ok-measure.field-0 in
    big (λ h. c.if-not-is_small.ensures (measured (extracted c.args.graph.now) m.gens m.size m.depth c.in_ok-measure.ensures.gens c.in_ok-measure.ensures.size c.in_ok-measure.ensures.depth h))

pub returns : goal.returns
returns c =
    let m = c.in_ok-measure.field-0 in
    small (within (extracted c.args.graph.now) m.gens m.size m.depth c.in_ok-measure.ensures.gens c.in_ok-measure.ensures.size c.in_ok-measure.ensures.depth c.if-not-is_small.ensures)
    c.in_ok-extract.ensures
