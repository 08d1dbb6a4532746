use Rattle.std.proofs.Common.{◌≡◌, ◌+◌, ◌≤◌, Bool, true, false, cond, arith, ap, ap₂, max, min, refl, sym, ◌∙◌}
use mir.Val.{bool_byte}
use Rattle.chyp_picture.specs.declared.piece.Piece.{Piece}
use Rattle.chyp_picture.specs.declared.piece_end.PieceEnd.{PieceEnd}
use Rattle.chyp_picture.specs.Crossings.{crosses}
use Rattle.chyp_picture.specs.Picture.{column_of}
use Rattle.chyp_picture.proofs.Columns.{at_column, at_column-crosses, crossings-end, crossings-start, sum_below, sum_below-next}
use Rattle.chyp_picture.proofs.crossing.crossings_of_two.Goals as goal

one_piece : (x : Piece) (left right : PieceEnd) → x.left ≡ left → x.right ≡ right → x ≡ record { left = left; right = right }
one_piece x left right e f = ap₂ (λ (a b : PieceEnd). record { left = a; right = b }) e f

as_number : (b : Bool) → bool_byte b ≡ cond b 1 0
as_number true = refl
as_number false = refl

at_most_one : (b : Bool) → bool_byte b ≤ 1
at_most_one true = omega arith
at_most_one false = omega arith

pub loop-at-init : goal.loop-at-init
loop-at-init c =
    let start : c.max-start.result ≡ max (column_of c.args.picture.now c.args.first.now.from) (column_of c.args.picture.now c.args.second.now.from) =
    omega (arith, c.max-start.ensures, c.column.ensures.same, c.column-2.ensures.same) in
    record {
      counted = crossings-start c.args.picture.now c.args.first.now c.args.second.now ∙ ap (sum_below (at_column c.args.picture.now c.args.first.now c.args.second.now)) (sym start);
      small = omega arith;
      within = omega arith;
    }

pub loop-at-preserved : goal.loop-at-preserved
loop-at-preserved c =
    let p = c.args.picture.now in
    let l = c.args.first.now in
    let m = c.args.second.now in
    let at = c.loop-at.at in
    let x : Piece = c.piece_from-piece.result in
    let y : Piece = c.piece_from.result in
    let start : c.max-start.result ≡ max (column_of p l.from) (column_of p m.from) = omega (arith, c.max-start.ensures, c.column.ensures.same, c.column-2.ensures.same) in
    let end : c.min-end.result ≡ min (min (column_of p l.to) (column_of p m.to)) (p.columns + 1) =
    omega (arith, c.min-end.ensures, c.min-both_end.ensures, c.column-3.ensures.same, c.column-4.ensures.same) in
    let both : at_column p l m at ≡ cond (crosses x y) 1 0 =
    at_column-crosses p l m at x y (omega (arith, start, c.loop-at.auto.at)) (omega (arith, end, c.loop-at-test.true)) (omega (arith, start, c.loop-at.auto.at))
    (omega (arith, end, c.loop-at-test.true)) (one_piece x _ _ c.piece_from-piece.ensures.left c.piece_from-piece.ensures.right)
    (one_piece y _ _ c.piece_from.ensures.left c.piece_from.ensures.right) in
    let byte : bool_byte c.crosses.result ≡ cond (crosses x y) 1 0 = ap bool_byte c.crosses.ensures ∙ as_number (crosses x y) in
    let most : bool_byte c.crosses.result ≤ 1 = at_most_one c.crosses.result in
    record {
      counted = omega (arith, c.loop-at.invariant.counted, sum_below-next (at_column p l m) at, both, byte);
      small = omega (arith, c.loop-at.invariant.small, most);
      within = omega (arith, c.loop-at-test.true);
    }

pub returns : goal.returns
returns c =
    let p = c.args.picture.now in
    let l = c.args.first.now in
    let m = c.args.second.now in
    let start : c.max-start.result ≡ max (column_of p l.from) (column_of p m.from) = omega (arith, c.max-start.ensures, c.column.ensures.same, c.column-2.ensures.same) in
    let end : c.min-end.result ≡ min (min (column_of p l.to) (column_of p m.to)) (p.columns + 1) =
    omega (arith, c.min-end.ensures, c.min-both_end.ensures, c.column-3.ensures.same, c.column-4.ensures.same) in
    c.loop-at.invariant.counted ∙ crossings-end p l m c.loop-at.at (p.columns + 1) (omega (arith, start, c.loop-at.auto.at)) (omega (arith, end, c.loop-at-test.false))
    (omega (arith, start, end, c.loop-at.invariant.within))
