use Rattle.std.proofs.Common.{arith}
use Rattle.chyp_layout_laws.proofs.Whole.{whole-kept}
use Rattle.chyp_layout_laws.proofs.picture_is_whole.Goals as goal

pub returns : goal.returns
returns c = whole-kept c.args.graph.now (record {
  valid = c.inputs.ensures.valid;
  few_points = c.requires.few;
  few_wires = let e = c.wire_count.ensures.count in let f = c.wire_count.ensures.few in omega arith;
  names = c.requires.names;
})
