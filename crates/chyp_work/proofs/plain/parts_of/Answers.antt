use Rattle.std.proofs.Common.{ℕ, ◌∙◌, length, slice_index}
use Rattle.chyp_term.proofs.Closure.{get-index}
use Rattle.chyp_graph.specs.PlainGraph.{renamed}
use Rattle.chyp_work.specs.Board.{HasPortsBelow, edge_of}
use Rattle.chyp_work.specs.declared.board.EdgeItem.{EdgeItem}
use Rattle.chyp_work.proofs.Fillings.{all-get}
use Rattle.chyp_work.proofs.Placing.{walk-item, walk-more, walk-there}
use Rattle.chyp_work.proofs.plain.parts_of.Goals as goal

pub unwrap-requires : goal.unwrap-requires
unwrap-requires c =
    let ks = c.deref-k-items.result.now in
    let i = c.loop-k.k-index in
    walk-there c.args.edges.now.items ks c.apart.ensures (c.deref-k-items.ensures.value ∙ c.in_ok-numbers.ensures) i (slice_index ks i) (get-index ks i c.loop-k-test.true) c.get.result c.get.ensures

pub part_of-requires : goal.part_of-requires
part_of-requires c =
    let ks = c.deref-k-items.result.now in
    let i = c.loop-k.k-index in
    all-get (λ (e : ℕ × EdgeItem). HasPortsBelow (length c.args.places.now) e.1) c.args.edges.now.items i (slice_index ks i, c.unwrap.result.now) c.requires
    (walk-item c.args.edges.now.items ks c.apart.ensures (c.deref-k-items.ensures.value ∙ c.in_ok-numbers.ensures) i (slice_index ks i) (get-index ks i c.loop-k-test.true) c.get.result
    c.unwrap.result c.get.ensures c.unwrap.ensures)

pub loop-k-preserved : goal.loop-k-preserved
loop-k-preserved c =
    let ks = c.deref-k-items.result.now in
    let i = c.loop-k.k-index in
    walk-more (λ (e : ℕ × EdgeItem). renamed (slice_index c.args.places.now) (edge_of e.1)) c.args.edges.now.items c.loop-k.parts.items c.push.new.self.items i (slice_index ks i, c.unwrap.result.now)
    c.in_ok-part_of.field-0
    (walk-item c.args.edges.now.items ks c.apart.ensures (c.deref-k-items.ensures.value ∙ c.in_ok-numbers.ensures) i (slice_index ks i) (get-index ks i c.loop-k-test.true) c.get.result
    c.unwrap.result c.get.ensures c.unwrap.ensures)
    c.in_ok-part_of.ensures c.loop-k.invariant c.in_ok-push.ensures.items
