use Rattle.std.proofs.Common.{◌≡◌, ◌∙◌, [], ap, refl, subst, sym}
use Rattle.chyp_term.proofs.Slices.{all-is}
use Rattle.chyp_term.proofs.Closure.{get-item}
use Rattle.chyp_layout.specs.Spots.{IsBoxBelow, box_spot, nowhere}
use Rattle.chyp_layout.specs.declared.item.Item.TheVariants.{Box}
use Rattle.chyp_layout.proofs.Placing.{box-kept, box-written, nothing}
use Rattle.chyp_layout.proofs.spots.box_spots.Goals as goal
use Rattle.chyp_layout.proofs.spots.box_spots.Goals.{in-Box, in-Wire}

pub loop-p-init : goal.loop-p-init
loop-p-init c = nothing (box_spot []) nowhere c.args.count c.in_ok-spots.spots.items (λ j. refl) (c.in_ok-spots.ensures.items_if_clones_equal (λ y e. e))

pub loop-p-preserved : goal.loop-p-preserved
loop-p-preserved c =
    let l = c.loop-p in
    let p = c.p-item.result in
    let h = get-item c.args.placed.now l.p-index p c.loop-p-test.true c.p-item.is in
    elim c.match-p.branch [
      | in-Box w ↦
          let b : p.item ≡ Box w.k.inside.0 = w.in-Box.is ∙ ap (λ k. Box k) (sym w.k.view_is) in
          let f = all-is (λ p. IsBoxBelow c.args.count p.item) c.args.placed.now l.p-index p c.loop-p-test.true c.p-item.is c.requires in
          ap (λ v. v.items) w.spots-is ∙ box-written c.args.placed.now l.p-index c.args.count w.k.inside.0 p l.spots.items h b (subst (IsBoxBelow c.args.count) b f) l.invariant
      | in-Wire w ↦ ap (λ v. v.items) w.spots-is ∙ box-kept c.args.placed.now l.p-index c.args.count w.in-Wire.field-0 p l.spots.items h w.in-Wire.is l.invariant
    ]
