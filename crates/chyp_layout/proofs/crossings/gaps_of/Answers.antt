use Rattle.std.proofs.Common.{◌≡◌, ◌+◌, ◌∙◌, Some, [], ap, replicate, slice_get, sym}
use Rattle.chyp_term.proofs.Closure.{get-item}
use Rattle.chyp_layout.proofs.Gathering.{pieces-more, pieces-none}
use Rattle.chyp_layout.proofs.crossings.gaps_of.Goals as goal

pub loop-line-init : goal.loop-line-init
loop-line-init c = pieces-none c.args.picture.now (c.args.picture.now.columns + 1) c.in_ok-gaps.gaps.items (c.in_ok-gaps.ensures ∙ ap (λ n. replicate (n + 1) []) c.from.ensures)

pub loop-line-preserved : goal.loop-line-preserved
loop-line-preserved c =
    let p = c.args.picture.now in
    let l = c.loop-line in
    let t = c.line-item.result in
    let s = c.as_slice-line-items in
    let h : slice_get p.lines l.line-index ≡ Some t = ap (λ xs. slice_get xs l.line-index) (sym s.ensures) ∙ get-item s.result.now l.line-index t c.loop-line-test.true c.line-item.is in
    pieces-more p p.lines l.line-index (p.columns + 1) t l.gaps.items c.push_pieces.new.gaps.items h l.invariant c.in_ok-push_pieces.ensures
