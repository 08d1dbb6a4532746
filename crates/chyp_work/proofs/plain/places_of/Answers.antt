use Rattle.std.proofs.Common.{◌≡◌, ◌<◌, ◌∙◌, arith, length, slice_index}
use Rattle.std.proofs.Math.ListN.{length-set}
use Rattle.chyp_term.proofs.Closure.{get-index}
use Rattle.chyp_store.specs.Items.{ids}
use Rattle.chyp_work.proofs.Placing.{below-all, place-more, places-noted, walk-in}
use Rattle.chyp_work.proofs.plain.places_of.Goals as goal

pub index_mut-requires : goal.index_mut-requires
index_mut-requires c =
    let items = c.args.wires.now.items in
    let ws = c.deref-w-items.result.now in
    let i = c.loop-i.i in
    let w = slice_index ws i in
    let b = below-all items c.bound.result w c.bound.ensures.above (walk-in items ws c.apart.ensures (c.deref-w-items.ensures.value ∙ c.in_ok-numbers.ensures) i w
    (get-index ws i c.loop-i-test.true)) in
    let s = c.loop-i.invariant.size in
    let l = c.in_ok-places.ensures.len in
    let o = c.in_ok-places.places.ok.0 in
    let p = c.loop-i.places.ok.0 in
    omega (arith, b, s, l, o, p)

pub loop-i-preserved : goal.loop-i-preserved
loop-i-preserved c =
    let items = c.args.wires.now.items in
    let ws = c.deref-w-items.result.now in
    let i = c.loop-i.i in
    let w = slice_index ws i in
    let e : ws ≡ ids items = c.deref-w-items.ensures.value ∙ c.in_ok-numbers.ensures in
    let b = below-all items c.bound.result w c.bound.ensures.above (walk-in items ws c.apart.ensures e i w (get-index ws i c.loop-i-test.true)) in
    let s = c.loop-i.invariant.size in
    let l = c.in_ok-places.ensures.len in
    let o = c.in_ok-places.places.ok.0 in
    let h : w < length c.loop-i.places.items = omega (arith, b, s, l, o) in
    record {
      size = length-set c.loop-i.places.items w i ∙ s;
      noted = place-more items ws c.loop-i.places.items i w c.apart.ensures e (get-index ws i c.loop-i-test.true) h c.loop-i.invariant.noted;
    }

pub returns-clause-bound : goal.returns-clause-bound
returns-clause-bound c =
    let s = c.loop-i.invariant.size in
    let l = c.in_ok-places.ensures.len in
    let o = c.in_ok-places.places.ok.0 in
    λ w t. let b = below-all c.args.wires.now.items c.bound.result w c.bound.ensures.above t in omega (arith, b, s, l, o)

pub returns-clause-places : goal.returns-clause-places
returns-clause-places c =
    let items = c.args.wires.now.items in
    let ws = c.deref-w-items.result.now in
    let n : c.loop-i.i ≡ length ws = let a = c.loop-i-test.false in let b = c.loop-i.auto.i-end in omega (arith, a, b) in
    places-noted items ws c.loop-i.places.items c.loop-i.i c.apart.ensures (c.deref-w-items.ensures.value ∙ c.in_ok-numbers.ensures) n c.loop-i.invariant.noted
