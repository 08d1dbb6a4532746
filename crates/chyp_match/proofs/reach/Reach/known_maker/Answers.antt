use Rattle.std.proofs.Common.{arith}
use Rattle.chyp_graph.specs.PlainGraph.{Edge}
use Rattle.chyp_term.proofs.Closure.{get-item}
use Rattle.chyp_term.proofs.Members.{get-member, member-Contains}
use Rattle.chyp_match.proofs.Reaching.{item-within, maker-below, maker-leads, makers-lead, known-there}
use Rattle.chyp_match.specs.Reach.{here}
use Rattle.chyp_match.proofs.reach.Reach.known_maker.Goals as goal

pub producer-requires : goal.producer-requires
producer-requires c =
    let e : Edge = record { name = c.edge.result.name.now; sources = c.edge.result.sources.now; targets = c.edge.result.targets.now } in
    item-within c.args.graph.now c.args.k e c.loop-w.w-index c.w-item.result c.valid.ensures.valid c.edge.ensures
    (get-item e.sources c.loop-w.w-index c.w-item.result c.loop-w-test.true c.w-item.is)

pub index-requires : goal.index-requires
index-requires c =
    let b = maker-below c.args.graph.now c.w-item.result _ _ c.in-Some.ensures.port in
    let s = c.requires.rows.size in
    let e = c.j.view_is in
    omega (arith, c.args.self.now.rows.ok.0)

pub returns-then-is_known : goal.returns-then-is_known
returns-then-is_known c =
    let g = c.args.graph.now in
    let e : Edge = record { name = c.edge.result.name.now; sources = c.edge.result.sources.now; targets = c.edge.result.targets.now } in
    let b = maker-below g c.w-item.result _ _ c.in-Some.ensures.port in
    let item = get-item e.sources c.loop-w.w-index c.w-item.result c.loop-w-test.true c.w-item.is in
    record {
      there = b;
      leads = maker-leads g c.w-item.result _ _ c.args.k c.in-Some.ensures.port
          (makers-lead g c.args.k c.args.k c.w-item.result e c.edge.ensures (member-Contains e.sources c.w-item.result (get-member e.sources c.loop-w.w-index c.w-item.result item)) here);
      row = λ row is. known-there g c.args.self.now.rows.items c.j.inside.0 _ c.index.result.now row c.requires.rows c.j.view_is b c.index.ensures is c.if-is_known.ensures;
    }
