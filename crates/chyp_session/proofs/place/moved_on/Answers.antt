use Rattle.std.proofs.Common.{◌≡◌, ◌+◌, ◌<◌, ◌++◌, true, false, arith, take, not, length, slice_index_or, sym, ap, ◌∙◌}
use Rattle.std.proofs.lemmas.List.Sums.{count_by-le-length, suffix_len-le-length}
use Rattle.std.proofs.lemmas.List.{length-append, length-take}
use Rattle.chyp_session.specs.declared.place.Place.{Place}
use Rattle.chyp_session.specs.Place.{is_line_end}
use Rattle.chyp_session.proofs.PlaceLemmas.{other_byte, place-line_end, place-goes_on}
use Rattle.chyp_session.proofs.place.moved_on.Goals as goal
use Rattle.chyp_session.proofs.place.moved_on.Goals.{then-byte_at-eq10, else-byte_at-eq10}

pub loop-at-init : goal.loop-at-init
loop-at-init c =
    let text = take c.args.from (c.args.first.now ++ c.args.second.now) in
    let is = c.requires.place in
    let lines = count_by-le-length is_line_end text in
    let columns = suffix_len-le-length (λ byte. not (is_line_end byte)) text in
    let short = length-take c.args.from (c.args.first.now ++ c.args.second.now) in
    record {
      reached = is;
      line = rw is (omega arith);
      col = rw is (omega arith);
    }

pub loop-at-preserved : goal.loop-at-preserved
loop-at-preserved c =
    let text = c.args.first.now ++ c.args.second.now in
    let at = c.loop-at.at in
    let inside : at < length text = omega (arith, length-append c.args.first.now c.args.second.now, c.loop-at-test.true, c.requires.within) in
    let i = c.loop-at.invariant in
    elim c.if-byte_at-eq10.branch [
      | then-byte_at-eq10 w ↦
          let ends : is_line_end (slice_index_or text at 0) ≡ true = ap is_line_end (c.byte_at.ensures 0 ∙ w.if-byte_at-eq10.true) in
          record {
            reached = w.place-is ∙ ap (λ (p : Place). record { line = p.line + 1; col = 1 }) i.reached ∙ sym (place-line_end text at inside ends);
            line = rw w.place-is (omega (arith, i.line));
            col = rw w.place-is (omega arith);
          }
      | else-byte_at-eq10 w ↦
          let on : is_line_end (slice_index_or text at 0) ≡ false = ap is_line_end (c.byte_at.ensures 0) ∙ other_byte c.byte_at.result w.if-byte_at-eq10.false in
          record {
            reached = w.place-is ∙ ap (λ (p : Place). record { line = p.line; col = p.col + 1 }) i.reached ∙ sym (place-goes_on text at inside on);
            line = rw w.place-is (omega (arith, i.line));
            col = rw w.place-is (omega (arith, i.col));
          }
    ]
