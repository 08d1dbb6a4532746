use Rattle.chyp_graph.specs.PlainGraph.{Edge}
use Rattle.chyp_term.proofs.Closure.{get-item}
use Rattle.chyp_match.proofs.Reaching.{item-within, marked-to}
use Rattle.chyp_match.proofs.Walking.{more-none, more-room, more-then, none-marked, source-leads, visited}
use Rattle.chyp_match.proofs.reach.Reach.visit.Goals as goal

pub loop-w-init : goal.loop-w-init
loop-w-init c = record {
  under_way = c.requires.under_way;
  more = more-none c.args.self.now;
  makers = none-marked c.args.graph.now c.edge.result.sources.now c.args.self.now.spare.marks;
  walk = λ j k at l a. a;
}

pub mark_maker-requires-clause-there : goal.mark_maker-requires-clause-there
mark_maker-requires-clause-there c =
    let e : Edge = record { name = c.edge.result.name.now; sources = c.edge.result.sources.now; targets = c.edge.result.targets.now } in
    item-within c.args.graph.now c.index.result.now e c.loop-w.w-index c.w-item.result c.valid.ensures.valid c.edge.ensures
    (get-item e.sources c.loop-w.w-index c.w-item.result c.loop-w-test.true c.w-item.is)

pub loop-w-preserved : goal.loop-w-preserved
loop-w-preserved c =
    let g = c.args.graph.now in
    let e : Edge = record { name = c.edge.result.name.now; sources = c.edge.result.sources.now; targets = c.edge.result.targets.now } in
    let item = get-item e.sources c.loop-w.w-index c.w-item.result c.loop-w-test.true c.w-item.is in
    let i = c.loop-w.invariant in
    let m = c.mark_maker.ensures in
    record {
      under_way = m.under_way;
      more = more-then c.args.self.now c.loop-w.self c.mark_maker.new.self i.more m.more;
      makers = marked-to g e.sources c.loop-w.w-index c.w-item.result c.loop-w.self.spare.marks c.mark_maker.new.self.spare.marks item m.more.marks i.makers m.maker;
      walk = λ j k is l a.
          m.walk k c.args.at
          (source-leads g c.args.self.now.queue.items c.args.at c.index.result.now j k e c.loop-w.w-index c.w-item.result
          (get-item c.args.self.now.queue.items c.args.at c.index.result.now c.requires.there c.index.ensures) is c.edge.ensures item l)
          (i.walk j k is l a) (more-room c.args.self.now c.loop-w.self i.more c.args.at c.requires.there);
    }

pub returns-clause-walk : goal.returns-clause-walk
returns-clause-walk c = λ k a.
    let g = c.args.graph.now in
    let e : Edge = record { name = c.edge.result.name.now; sources = c.edge.result.sources.now; targets = c.edge.result.targets.now } in
    let i = c.loop-w.invariant in
    let at = get-item c.args.self.now.queue.items c.args.at c.index.result.now c.requires.there c.index.ensures in
    visited g k c.args.at c.index.result.now e c.loop-w.w-index c.args.self.now c.loop-w.self at c.edge.ensures c.loop-w-test.false i.makers i.more a (i.walk c.index.result.now k at)
