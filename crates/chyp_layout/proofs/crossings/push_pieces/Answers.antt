use Rattle.std.proofs.Common.{◌-◌, ◌+◌, ◌++◌, ◌∷◌, [], ◌≡◌, ◌∙◌, ap, ap₂, arith, length, min, subst}
use Rattle.chyp_term.proofs.Closure.{get-item}
use Rattle.chyp_picture.specs.Crossings.{end_after}
use Rattle.chyp_picture.specs.Picture.{column_of}
use Rattle.chyp_layout.specs.Crossings.{piece_from}
use Rattle.chyp_layout.specs.Order.{AreExtended}
use Rattle.chyp_layout.proofs.Ordering.{extended-all, extended-more, extended-none}
use Rattle.chyp_layout.proofs.crossings.push_pieces.Goals as goal

pub loop-at-init : goal.loop-at-init
loop-at-init c = record { low = omega arith; pieces = extended-none (piece_from c.args.picture.now c.args.line.now) c.column-start.result c.args.gaps.now.items }

pub loop-at-preserved : goal.loop-at-preserved
loop-at-preserved c =
    let l = c.loop-at in
    let p = c.args.picture.now in
    let line = c.args.line.now in
    let e = l.invariant.pieces in
    let size = e.size in
    let end = c.min-end.ensures in
    let len = c.len.ensures in
    let n = c.args.gaps.now.ok.0 in
    let t = c.loop-at-test.true in
    let old = c.index_mut-gap.result.now in
    let is : c.piece_after.result ≡ piece_from p line l.at =
    c.piece_after.ensures ∙ ap (λ s. record { left = end_after p line (l.at - s); right = end_after p line (l.at - s + 1) }) c.column-start.ensures.same in
    record {
      low = omega arith;
      pieces = extended-more (piece_from p line) c.column-start.result l.at c.args.gaps.now.items l.gaps.items old c.push.new.self l.auto.at e
          (get-item l.gaps.items l.at old (omega arith) c.index_mut-gap.ensures.value) (c.in_ok-push.ensures ∙ ap (λ x. old ++ x ∷ []) is);
    }

pub returns : goal.returns
returns c =
    let l = c.loop-at in
    let item = piece_from c.args.picture.now c.args.line.now in
    let all = extended-all item c.column-start.result l.at c.min-end.result c.args.gaps.now.items l.gaps.items c.loop-at-test.false l.invariant.low l.invariant.pieces in
    subst (λ n. AreExtended item n (min (column_of c.args.picture.now c.args.line.now.to) (length c.args.gaps.now.items)) c.args.gaps.now.items l.gaps.items) c.column-start.ensures.same
    (subst (λ n. AreExtended item c.column-start.result n c.args.gaps.now.items l.gaps.items) (c.min-end.ensures ∙ ap₂ min c.column.ensures.same (c.len.ensures ∙ c.args.gaps.now.ok.0)) all)
