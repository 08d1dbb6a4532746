use Rattle.std.proofs.Common.{arith}
use Rattle.chyp_graph.specs.PlainGraph.{Edge}
use Rattle.chyp_layout.specs.PictureOf.{box_of}
use Rattle.chyp_layout.proofs.Drawing.{box-drawn}
use Rattle.chyp_layout.proofs.Sweeping.{ranked-more}
use Rattle.chyp_layout.proofs.picture.boxes.Goals as goal

pub loop-k-preserved : goal.loop-k-preserved
loop-k-preserved c =
    λ placed q.
    let g = c.args.graph.now in
    let k = c.loop-k.k in
    let l = c.loop-k-test.true in
    let n = c.edge_count-k-end.ensures.count in
    let e : Edge = record { name = c.edge.result.name.now; sources = c.edge.result.sources.now; targets = c.edge.result.targets.now } in
    ranked-more (λ p. box_of placed p.0 p.1) g.edges k e c.loop-k.boxes.items c.push.new.self.items _ c.edge.ensures (c.loop-k.invariant placed q) c.in_ok-push.ensures.items
    (box-drawn g placed k e c.args.spots.now (record { column = 0; place = 0; top = 0 }) c.in_ok-share.field-0 c.height.result q
    (omega arith) c.requires c.edge.ensures c.in_ok-share.ensures c.height.ensures.height)
