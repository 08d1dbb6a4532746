use Rattle.std.proofs.Common.{◌≡◌, true, Some, length, slice_get, slice_set, sym, ◌∙◌, ap, subst, arith}
use Rattle.std.proofs.Math.ListN.{length-set}
use Rattle.chyp_graph.specs.PlainGraph.{Edge}
use Rattle.chyp_graph.specs.Removal.{IsWaiting}
use Rattle.chyp_term.proofs.Closure.{get-item}
use Rattle.chyp_graph.proofs.Removing.{moved, moved-done, moved-on, other-none, source-below, source-place, source-within, sources-within, waiting-same}
use Rattle.chyp_graph.proofs.removal.Removal.make_source_live.Goals as goal

pub index_mut-requires : goal.index_mut-requires
index_mut-requires c =
    let b = source-within c.args.graph.now c.requires.valid c.args.k c.args.i c.args.w c.requires.source in
    let e = c.requires.removal.wires in
    let o = c.args.self.now.live.ok.0 in
    let v : c.w.inside.0 ≡ c.args.w = c.w.view_is in
    omega arith

pub index-requires : goal.index-requires
index-requires c =
    let b = source-below c.args.graph.now c.args.k c.args.i c.args.w c.requires.source in
    let e = c.requires.removal.edges in
    let o = c.args.self.now.waits.ok.0 in
    let v : c.k.inside.0 ≡ c.args.k = c.k.view_is in
    omega arith

pub returns-then-index-i-clause-removal : goal.returns-then-index-i-clause-removal
returns-then-index-i-clause-removal c =
    let g = c.args.graph.now in
    let r = c.args.self.now in
    let wire = source-within g c.requires.valid c.args.k c.args.i c.args.w c.requires.source in
    let b = source-below g c.args.k c.args.i c.args.w c.requires.source in
    let e = c.requires.removal.edges in
    let v : c.k.inside.0 ≡ c.args.k = c.k.view_is in
    let at : slice_get r.waits.items c.k.inside.0 ≡ Some c.index.result.now = get-item r.waits.items c.k.inside.0 c.index.result.now (omega arith) c.index.ensures in
    subst (λ w. IsWaiting g (slice_set r.live.items w true) r.waits.items r.order.items) (sym c.w.view_is)
    (waiting-same g r.live.items r.waits.items r.order.items c.args.w c.requires.removal wire c.requires.made
    (other-none g c.requires.valid r.waits.items c.args.w c.args.k c.args.i c.index.result.now c.requires.source (ap (slice_get r.waits.items) (sym v) ∙ at) c.if-index-i.true))

pub edge-requires : goal.edge-requires
edge-requires c = source-below c.args.graph.now c.args.k c.args.i c.args.w c.requires.source

pub first_unlive-place-requires-clause-within : goal.first_unlive-place-requires-clause-within
first_unlive-place-requires-clause-within c =
    let g = c.args.graph.now in
    let e : Edge = record { name = c.edge.result.name.now; sources = c.edge.result.sources.now; targets = c.edge.result.targets.now } in
    let size : length c.deref.result.now ≡ length g.wires = ap length c.deref.ensures.value ∙ length-set c.args.self.now.live.items c.w.inside.0 true ∙ c.requires.removal.wires in
    sources-within g c.requires.valid c.args.k (length c.deref.result.now) e c.edge.ensures size

pub first_unlive-place-requires-clause-from : goal.first_unlive-place-requires-clause-from
first_unlive-place-requires-clause-from c =
    let g = c.args.graph.now in
    let e : Edge = record { name = c.edge.result.name.now; sources = c.edge.result.sources.now; targets = c.edge.result.targets.now } in
    let l = source-place g c.args.k c.args.i c.args.w e c.edge.ensures c.requires.source in
    omega arith

pub index_mut-requires-2 : goal.index_mut-requires-2
index_mut-requires-2 c =
    let b = source-below c.args.graph.now c.args.k c.args.i c.args.w c.requires.source in
    let e = c.requires.removal.edges in
    let o = c.args.self.now.waits.ok.0 in
    let v : c.k-2.inside.0 ≡ c.args.k = c.k-2.view_is in
    omega arith

pub returns-in_ok-push-clause-removal : goal.returns-in_ok-push-clause-removal
returns-in_ok-push-clause-removal c =
    let g = c.args.graph.now in
    let r = c.args.self.now in
    let e : Edge = record { name = c.edge.result.name.now; sources = c.edge.result.sources.now; targets = c.edge.result.targets.now } in
    let b = source-below g c.args.k c.args.i c.args.w c.requires.source in
    let n = c.requires.removal.edges in
    let v : c.k.inside.0 ≡ c.args.k = c.k.view_is in
    let at : slice_get r.waits.items c.k.inside.0 ≡ Some c.index.result.now = get-item r.waits.items c.k.inside.0 c.index.result.now (omega arith) c.index.ensures in
    let f = c.first_unlive-place.ensures in
    let m = moved g r.live.items c.deref.result.now r.waits.items r.order.items c.args.w c.w.inside.0 c.args.k c.args.i c.index.result.now
    c.first_unlive-place.result e c.requires.valid c.requires.removal c.requires.made c.requires.source
    (ap (slice_get r.waits.items) (sym v) ∙ at) c.if-index-i.false c.edge.ensures c.w.view_is c.deref.ensures.value f.passed f.stuck in
    moved-done g r.live.items r.waits.items r.order.items c.push.new.self.items c.args.w c.w.inside.0 c.args.k c.k-2.inside.0 c.args.i c.first_unlive-place.result e
    m c.edge.ensures c.if-place-sources.true c.w.view_is c.k-2.view_is c.in_ok-push.ensures.items

pub returns-else-place-sources-clause-removal : goal.returns-else-place-sources-clause-removal
returns-else-place-sources-clause-removal c =
    let g = c.args.graph.now in
    let r = c.args.self.now in
    let e : Edge = record { name = c.edge.result.name.now; sources = c.edge.result.sources.now; targets = c.edge.result.targets.now } in
    let b = source-below g c.args.k c.args.i c.args.w c.requires.source in
    let n = c.requires.removal.edges in
    let v : c.k.inside.0 ≡ c.args.k = c.k.view_is in
    let at : slice_get r.waits.items c.k.inside.0 ≡ Some c.index.result.now = get-item r.waits.items c.k.inside.0 c.index.result.now (omega arith) c.index.ensures in
    let f = c.first_unlive-place.ensures in
    let m = moved g r.live.items c.deref.result.now r.waits.items r.order.items c.args.w c.w.inside.0 c.args.k c.args.i c.index.result.now
    c.first_unlive-place.result e c.requires.valid c.requires.removal c.requires.made c.requires.source
    (ap (slice_get r.waits.items) (sym v) ∙ at) c.if-index-i.false c.edge.ensures c.w.view_is c.deref.ensures.value f.passed f.stuck in
    moved-on g r.live.items r.waits.items r.order.items c.args.w c.w.inside.0 c.args.k c.k-2.inside.0 c.args.i c.first_unlive-place.result e m c.edge.ensures
    f.place.1 c.if-place-sources.false c.w.view_is c.k-2.view_is
