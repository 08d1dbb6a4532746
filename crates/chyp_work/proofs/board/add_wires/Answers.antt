use Rattle.std.proofs.Common.{◌≡◌, ◌+◌, ◌∷◌, [], ◌++◌, length, refl, ap, ◌∙◌, append_assoc, arith, suc, length-append}
use Rattle.chyp_work.specs.declared.board.Board.{Board}
use Rattle.std.specs.Vec.Iter.{into_iter_items}
use Rattle.chyp_base.specs.declared.sort.Sort.{Sort}
use Rattle.chyp_work.specs.Board.{loose_wire}
use Rattle.chyp_work.proofs.Fillings.{filled-exact, rows-less}
use Rattle.chyp_work.proofs.board.add_wires.Goals as goal

pub add_wire-w-requires-clause-filed : goal.add_wire-w-requires-clause-filed
add_wire-w-requires-clause-filed c = c.loop-sort.invariant.filed

pub add_wire-w-requires-clause-room : goal.add_wire-w-requires-clause-room
add_wire-w-requires-clause-room c =
    let at = c.loop-sort in
    let steps : into_iter_items at.sort-iterator ≡ c.in-Some.sort ∷ into_iter_items c.next.new.self = c.in-Some.ensures.steps.0 in
    let short = ap length steps in
    let r = at.invariant.room in
    omega (arith, short, r)

pub add_wire-w-requires-clause-list : goal.add_wire-w-requires-clause-list
add_wire-w-requires-clause-list c =
    let at = c.loop-sort in
    let steps : into_iter_items at.sort-iterator ≡ c.in-Some.sort ∷ into_iter_items c.next.new.self = c.in-Some.ensures.steps.0 in
    let r = rw steps at at.invariant.rows in
    let a = r 0 c.in-Some.sort (omega arith) refl in
    omega (arith, a)

pub loop-sort-preserved : goal.loop-sort-preserved
loop-sort-preserved c =
    let at = c.loop-sort in
    let i = at.invariant in
    let e = c.add_wire-w.ensures in
    let p = c.push_reserved.ensures in
    let steps : into_iter_items at.sort-iterator ≡ c.in-Some.sort ∷ into_iter_items c.next.new.self = c.in-Some.ensures.steps.0 in
    let short : length (into_iter_items at.sort-iterator) ≡ suc (length (into_iter_items c.next.new.self)) = ap length steps in
    let longer : length c.push_reserved.new.self.items ≡ length at.numbers.items + 1 = rw p.items (length-append at.numbers.items (c.add_wire-w.result ∷ [])) in
    let more : length (at.yielded ++ c.in-Some.sort ∷ []) ≡ length at.yielded + 1 = length-append at.yielded (c.in-Some.sort ∷ []) in
    record {
      whole = append_assoc at.yielded (c.in-Some.sort ∷ []) _ ∙ rw (← steps) i.whole;
      left = let was = i.left in let gone = c.in-Some.ensures.steps.1 in omega arith;
      wires = filled-exact loose_wire at.board.wires.items c.add_wire-w.new.self.wires.items c.args.board.now.wires.items at.numbers.items c.push_reserved.new.self.items
          at.yielded c.add_wire-w.result c.in-Some.sort i.wires e.wires p.items i.count;
      count = let k = i.count in omega (arith, longer, more, k);
      rest = e.rest ∙ ap (λ (b : Board). record b { wires = c.add_wire-w.new.self.wires; sorted = c.add_wire-w.new.self.sorted }) i.rest;
      filed = e.filed;
      room = let k = i.room in let r = e.room in omega (arith, short, k, r);
      rows = rows-less (λ (sort : Sort). sort.name) c.in-Some.sort (into_iter_items c.next.new.self) at.board.sorted c.add_wire-w.new.self.sorted (rw steps at i.rows) e.rooms;
      places = let k = i.places in let r = p.capacity in omega (arith, short, longer, k, r);
    }
