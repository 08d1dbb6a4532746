use Rattle.std.proofs.Common.{◌≡◌, ◌+◌, ◌∷◌, [], ◌++◌, length, refl, ap, ◌∙◌, append_assoc, append-nil, arith, suc, length-append}
use Rattle.chyp_work.specs.declared.board.Board.{Board}
use Rattle.std.proofs.Common.{map, sym}
use Rattle.std.proofs.lemmas.List.{map-append}
use Rattle.std.proofs.lemmas.List.Elements.{All-head, All-tail}
use Rattle.chyp_graph.specs.PlainGraph.{Edge}
use Rattle.chyp_work.specs.Board.{HasPortsBelow, edge_of, edges_of, renamed_by}
use Rattle.chyp_work.specs.declared.board.EdgeItem.{EdgeItem}
use Rattle.std.specs.Vec.Iter.{into_iter_items}
use Rattle.chyp_work.proofs.Fillings.{filled-more, length-mapped, rows-less}
use Rattle.chyp_work.proofs.board.add_edges.Goals as goal

pub add_edge-k-requires-clause-filed : goal.add_edge-k-requires-clause-filed
add_edge-k-requires-clause-filed c = c.loop-item.invariant.filed

pub add_edge-k-requires-clause-room : goal.add_edge-k-requires-clause-room
add_edge-k-requires-clause-room c =
    let at = c.loop-item in
    let steps : into_iter_items at.item-iterator ≡ c.in-Some.item ∷ into_iter_items c.next.new.self = c.in-Some.ensures.steps.0 in
    let short = ap length steps in
    let r = at.invariant.room in
    omega (arith, short, r)

pub renamed-requires : goal.renamed-requires
renamed-requires c =
    let at = c.loop-item in
    let steps : into_iter_items at.item-iterator ≡ c.in-Some.item ∷ into_iter_items c.next.new.self = c.in-Some.ensures.steps.0 in
    All-head (HasPortsBelow (length c.args.wires.now)) c.in-Some.item (into_iter_items c.next.new.self) (rw steps at at.invariant.within)

pub add_edge-k-requires-clause-list : goal.add_edge-k-requires-clause-list
add_edge-k-requires-clause-list c =
    let at = c.loop-item in
    let steps : into_iter_items at.item-iterator ≡ c.in-Some.item ∷ into_iter_items c.next.new.self = c.in-Some.ensures.steps.0 in
    let r = rw steps at at.invariant.rows in
    let a = r 0 c.in-Some.item (omega arith) refl in
    let n : c.renamed.result.name ≡ c.in-Some.item.name = ap (λ (e : Edge). e.name) c.renamed.ensures in
    rw n (omega (arith, a))

pub loop-item-preserved : goal.loop-item-preserved
loop-item-preserved c =
    let at = c.loop-item in
    let i = at.invariant in
    let e = c.add_edge-k.ensures in
    let p = c.push_reserved.ensures in
    let steps : into_iter_items at.item-iterator ≡ c.in-Some.item ∷ into_iter_items c.next.new.self = c.in-Some.ensures.steps.0 in
    let short : length (into_iter_items at.item-iterator) ≡ suc (length (into_iter_items c.next.new.self)) = ap length steps in
    let longer : length c.push_reserved.new.self.items ≡ length at.numbers.items + 1 = rw p.items (length-append at.numbers.items (c.add_edge-k.result ∷ [])) in
    let more : length (at.yielded ++ c.in-Some.item ∷ []) ≡ length at.yielded + 1 = length-append at.yielded (c.in-Some.item ∷ []) in
    record {
      whole = append_assoc at.yielded (c.in-Some.item ∷ []) _ ∙ rw (← steps) i.whole;
      left = let was = i.left in let gone = c.in-Some.ensures.steps.1 in omega arith;
      edges = rw (map-append (renamed_by c.args.wires.now) at.yielded (c.in-Some.item ∷ []), ← c.renamed.ensures)
          (filled-more edge_of at.board.edges.items c.add_edge-k.new.self.edges.items c.args.board.now.edges.items at.numbers.items c.push_reserved.new.self.items
          (map (renamed_by c.args.wires.now) at.yielded) c.add_edge-k.result
          c.renamed.result i.edges e.edges p.items (i.count ∙ sym (length-mapped (renamed_by c.args.wires.now) at.yielded)));
      within = All-tail (HasPortsBelow (length c.args.wires.now)) c.in-Some.item (into_iter_items c.next.new.self) (rw steps at i.within);
      count = let k = i.count in omega (arith, longer, more, k);
      rest = e.rest ∙ ap (λ (b : Board). record b { edges = c.add_edge-k.new.self.edges; named = c.add_edge-k.new.self.named }) i.rest;
      filed = e.filed;
      room = let k = i.room in let r = e.room in omega (arith, short, k, r);
      rows = rows-less (λ (item : EdgeItem). item.name) c.in-Some.item (into_iter_items c.next.new.self) at.board.named c.add_edge-k.new.self.named (rw steps at i.rows) e.rooms;
      places = let k = i.places in let r = p.capacity in omega (arith, short, longer, k, r);
    }

pub loop-item-init : goal.loop-item-init
loop-item-init c =
    let r = c.into_iter-item-iterator.ensures.into_iter_gives in
    let q = r.0 in
    let n = c.requires.none in
    record {
      whole = refl;
      left = rw q (let o = c.args.items.ok in let l = r.1 in omega arith);
      edges = rw (n, append-nil (edges_of c.args.board.now.edges.items)) refl;
      within = rw q c.requires.within;
      count = rw n refl;
      rest = refl;
      filed = c.requires.filed;
      room = rw q c.requires.room;
      rows = rw q c.requires.rows;
      places = rw (q, n) (let p = c.requires.places in omega arith);
    }
