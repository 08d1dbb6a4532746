use Rattle.std.proofs.Common.{◌≡◌, ◌<◌, ◌∙◌, [], ap, arith, refl, subst, sym, take}
use Rattle.chyp_term.proofs.Slices.{all-is}
use Rattle.chyp_term.proofs.Closure.{get-item}
use Rattle.chyp_layout.specs.Spots.{IsWireBelow, bends_on}
use Rattle.chyp_layout.specs.declared.item.Item.TheVariants.{Wire}
use Rattle.chyp_layout.proofs.Placing.{bend-kept, bend-written, length-table, nothing}
use Rattle.chyp_layout.proofs.spots.trails.Goals as goal
use Rattle.chyp_layout.proofs.spots.trails.Goals.{in-Box, in-Wire+in_ok-push-in-Wire}

pub loop-p-init : goal.loop-p-init
loop-p-init c = nothing (bends_on []) [] c.args.count c.in_ok-trails.trails.items (λ j. refl) c.in_ok-trails.ensures

pub index_mut-trail-requires : goal.index_mut-trail-requires
index_mut-trail-requires c =
    let l = c.loop-p in
    let p = c.p-item.result in
    let b : p.item ≡ Wire c.w.inside.0 = c.in-Wire.is ∙ ap (λ w. Wire w) (sym c.w.view_is) in
    let f = all-is (λ p. IsWireBelow c.args.count p.item × (p.spot.top < 9223372036854775808)) c.args.placed.now l.p-index p c.loop-p-test.true c.p-item.is c.requires in
    let n = length-table (bends_on (take l.p-index c.args.placed.now)) c.args.count l.trails.items l.invariant in
    let k = l.trails.ok.0 in
    let below : c.w.inside.0 < c.args.count = subst (IsWireBelow c.args.count) b f.0 in
    omega arith

pub loop-p-preserved : goal.loop-p-preserved
loop-p-preserved c =
    let l = c.loop-p in
    let p = c.p-item.result in
    let h = get-item c.args.placed.now l.p-index p c.loop-p-test.true c.p-item.is in
    elim c.match-p.branch [
      | in-Box w ↦ ap (λ v. v.items) w.trails-is ∙ bend-kept c.args.placed.now l.p-index c.args.count w.in-Box.field-0 p l.trails.items h w.in-Box.is l.invariant
      | in-Wire+in_ok-push-in-Wire w ↦
          let b : p.item ≡ Wire w.w.inside.0 = w.in-Wire.is ∙ ap (λ w. Wire w) (sym w.w.view_is) in
          let f = all-is (λ p. IsWireBelow c.args.count p.item × (p.spot.top < 9223372036854775808)) c.args.placed.now l.p-index p c.loop-p-test.true c.p-item.is c.requires in
          let n = length-table (bends_on (take l.p-index c.args.placed.now)) c.args.count l.trails.items l.invariant in
          let below : w.w.inside.0 < c.args.count = subst (IsWireBelow c.args.count) b f.0 in
          ap (λ v. v.items) w.trails-is ∙ bend-written c.args.placed.now l.p-index c.args.count w.w.inside.0 p l.trails.items w.index_mut-trail.result.now w.push.new.self h b below l.invariant
          (get-item l.trails.items w.w.inside.0 w.index_mut-trail.result.now (omega arith) w.index_mut-trail.ensures.value) w.in_ok-push-in-Wire.ensures
    ]
