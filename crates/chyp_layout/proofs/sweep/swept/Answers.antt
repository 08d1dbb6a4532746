use Rattle.std.proofs.Common.{ℕ, ◌≡◌, ◌<◌, ◌∙◌, All, ap, ap₂, length, map, slice_index, subst, sym}
use Rattle.std.specs.List.{enumerate_from}
use Rattle.chyp_term.proofs.Slices.{all-is, written-back}
use Rattle.chyp_term.proofs.Closure.{get-item}
use Rattle.chyp_layout.specs.Means.{ranked_by}
use Rattle.chyp_layout.specs.Side.{AreItems, IsItem}
use Rattle.chyp_layout.specs.Sweep.{last_of, place_on}
use Rattle.chyp_layout.proofs.Sweeping.{beside-items, lent-twice, swept-more}
use Rattle.chyp_layout.proofs.sweep.swept.Goals as goal

pub note-requires-clause-items : goal.note-requires-clause-items
note-requires-clause-items c =
    let g = c.args.graph.now in
    let b = beside-items g c.args.side c.args.rim.now c.args.order.now c.loop-column.column-index c.loop-column.now.items c.requires.rim c.requires.few c.requires.order
    c.loop-column.invariant.now in
    subst (All (IsItem g)) (sym (c.as_slice.ensures ∙ c.last_or-beside.ensures ∙ ap (last_of c.args.rim.now) c.deref.ensures.value)) b.0

pub note-requires-clause-few : goal.note-requires-clause-few
note-requires-clause-few c =
    let g = c.args.graph.now in
    let b = beside-items g c.args.side c.args.rim.now c.args.order.now c.loop-column.column-index c.loop-column.now.items c.requires.rim c.requires.few c.requires.order
    c.loop-column.invariant.now in
    subst (λ l. length l < 4294967296) (sym (c.as_slice.ensures ∙ c.last_or-beside.ensures ∙ ap (last_of c.args.rim.now) c.deref.ensures.value)) b.1

pub clear-requires-clause-items : goal.clear-requires-clause-items
clear-requires-clause-items c =
    let g = c.args.graph.now in
    let b = beside-items g c.args.side c.args.rim.now c.args.order.now c.loop-column.column-index c.loop-column.now.items c.requires.rim c.requires.few c.requires.order
    c.loop-column.invariant.now in
    subst (All (IsItem g)) (sym (c.as_slice-in-loop-column-2.ensures ∙ c.last_or-beside.ensures ∙ ap (last_of c.args.rim.now) c.deref.ensures.value)) b.0

pub loop-column-preserved : goal.loop-column-preserved
loop-column-preserved c =
    let g = c.args.graph.now in
    let rim = c.args.rim.now in
    let l = c.loop-column in
    let size = l.invariant.size in
    let first : length c.note.new.places ≡ length l.places.items = c.note.ensures.size ∙ sym size in
    let second : length c.clear.new.places ≡ length l.places.items = c.clear.ensures.size ∙ sym size in
    let left = lent-twice c.note.new.places c.clear.new.places l.places.items l.places.len l.places.ok.0 first second in
    let t = c.column-item.result in
    let h = get-item c.args.order.now l.column-index t c.loop-column-test.true c.column-item.is in
    let a = all-is (AreItems g) c.args.order.now l.column-index t c.loop-column-test.true c.column-item.is c.requires.order in
    let beside : c.as_slice.result.now ≡ last_of rim l.now.items = c.as_slice.ensures ∙ c.last_or-beside.ensures ∙ ap (last_of rim) c.deref.ensures.value in
    let read : c.deref-in-loop-column.result.now ≡ c.note.new.places = c.deref-in-loop-column.ensures.value ∙ written-back c.note.new.places l.places.items l.places.len l.places.ok.0 first in
    let noted = λ (w : ℕ) (k : w < length g.wires). ap (λ p. slice_index p w) read ∙ c.note.ensures.noted w k ∙ ap₂ (λ s b. place_on g s b w) c.opposite.ensures beside in
    record {
      size = ap length left ∙ c.clear.ensures.size;
      clear = λ w k. ap (λ p. slice_index p w) left ∙ c.clear.ensures.clear w k;
      now = swept-more g c.is_bounded.ensures.valid c.is_bounded.ensures.few_wires c.args.side rim c.args.order.now l.column-index t c.deref-in-loop-column.result.now l.now.items
          c.push.new.self.items c.in_ok-ranked.ranked.items c.in_ok-sorted.field-0 h a l.invariant.now noted
          (c.in_ok-ranked.ensures ∙ ap (λ k. map (λ p. ranked_by g c.args.side (slice_index c.deref-in-loop-column.result.now) p.0 p.1) (enumerate_from 0 k)) c.as_slice-in-loop-column.ensures)
          c.in_ok-sorted.ensures c.in_ok-push.ensures.items;
    }
