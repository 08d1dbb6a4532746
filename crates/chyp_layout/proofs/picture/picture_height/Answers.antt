use Rattle.std.proofs.Common.{ap, arith, length, length-append}
use Rattle.chyp_graph.specs.PlainGraph.{sources_of, targets_of}
use Rattle.chyp_layout.proofs.Drawing.{height-start}
use Rattle.chyp_layout.proofs.picture.picture_height.Goals as goal

pub loop-column-init : goal.loop-column-init
loop-column-init c =
    let g = c.args.graph.now in
    let v = c.is_bounded.ensures.valid in
    let few = c.is_bounded.ensures.few_wires in
    let a = ap length c.inputs.ensures.inputs in
    let b = ap length c.outputs.ensures.outputs in
    let m = c.max-rim.ensures in
    let p = length-append g.inputs (targets_of g.edges) in
    let q = length-append g.outputs (sources_of g.edges) in
    let s = v.producers.size in
    let t = v.consumers.size in
    (height-start g _ (omega arith), omega arith)
