use Rattle.std.proofs.Common.{◌∙◌, ap, length, subst, sym}
use Rattle.chyp_store.specs.Items.{AreDistinct, ids}
use Rattle.chyp_work.specs.declared.board.Board.{Board}
use Rattle.chyp_work.proofs.Noting.{filed-noted}
use Rattle.chyp_work.proofs.Putting.{few-ports, new-makers, new-users, parts-rows, parts-within, taken-makers, taken-net, taken-users, takes}
use Rattle.chyp_work.proofs.filling.put.Goals as goal

pub add_edges-requires-clause-within : goal.add_edges-requires-clause-within
add_edges-requires-clause-within c =
    parts-within c.args.graph.now c.args.parts.edges.items _ c.valid.ensures.valid c.requires.parts.edges
    (ap length c.deref.ensures.value ∙ c.add_wires.ensures.count ∙ ap length c.requires.parts.sorts)

pub add_edges-requires-clause-rows : goal.add_edges-requires-clause-rows
add_edges-requires-clause-rows c =
    parts-rows c.args.parts.edges.items c.args.graph.now.edges c.args.board.now.named c.add_wires.new.board.named c.requires.parts.edges (ap (λ (b : Board). b.named) c.add_wires.ensures.rest)
    c.requires.room.names

pub note_edges-requires : goal.note_edges-requires
note_edges-requires c =
    let w = c.add_wires.ensures in
    let e = c.add_edges.ensures in
    let t = takes c.args.board.now c.add_wires.new.board c.add_edges.new.board c.args.graph.now c.args.parts c.add_edges.new.numbers.items c.add_wires.new.numbers.items c.deref.result.now
    c.requires.parts
    c.deref.ensures.value w.wires w.count w.rest e.edges e.count e.rest c.apart.ensures in
    λ k item m h. few-ports c.args.board.now c.add_edges.new.board c.args.graph.now c.add_edges.new.numbers.items c.add_wires.new.numbers.items t c.valid.ensures.valid c.valid.ensures.few_wires k item
    (rw c.deref-2.ensures.value at m) h

pub returns : goal.returns
returns c =
    let a = c.args.board.now in
    let b = c.add_edges.new.board in
    let d = c.note_edges.new.board in
    let g = c.args.graph.now in
    let ds = c.add_edges.new.numbers.items in
    let vs = c.add_wires.new.numbers.items in
    let w = c.add_wires.ensures in
    let e = c.add_edges.ensures in
    let n = c.note_edges.ensures in
    let t = takes a c.add_wires.new.board b g c.args.parts ds vs c.deref.result.now c.requires.parts c.deref.ensures.value w.wires w.count w.rest e.edges e.count e.rest c.apart.ensures in
    let kept = n.kept.rest in
    record {
      graph = taken-net a b g ds vs t d n.kept;
      wire_count = t.wire_count;
      edge_count = t.edge_count;
      ends = (ap (λ (b : Board). b.inputs) kept ∙ t.inputs, ap (λ (b : Board). b.outputs) kept ∙ t.outputs);
      wires_apart = c.apart-2.ensures;
      edges_apart = subst (λ (b : Board). AreDistinct (ids b.edges.items)) (sym kept) c.apart.ensures;
      old_makers = taken-makers a b g ds vs t d n.kept;
      old_users = taken-users a b g ds vs t d n.kept;
      makers = new-makers a b g ds vs t d c.deref-2.result.now c.deref-2.ensures.value n.makers;
      users = new-users a b g ds vs t d c.deref-2.result.now c.deref-2.ensures.value n.users;
      filed = filed-noted b d n.kept e.filed;
    }
