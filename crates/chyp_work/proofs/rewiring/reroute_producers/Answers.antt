use Rattle.std.proofs.Common.{◌≡◌, Some, arith, slice_get}
use Rattle.chyp_term.proofs.Closure.{get-item}
use Rattle.chyp_term.proofs.Members.{get-member}
use Rattle.chyp_work.proofs.Turns.{all-kept, image-known, may-produce, none-turned, turn-more}
use Rattle.chyp_work.proofs.rewiring.reroute_producers.Goals as goal

pub loop-i-init : goal.loop-i-init
loop-i-init c = none-turned c.args.board.now c.args.images.now c.args.ends.now c.requires.once c.requires.fresh

pub reroute_producer-requires-clause-from : goal.reroute_producer-requires-clause-from
reroute_producer-requires-clause-from c =
    let w = c.index-images-i.result in
    let g : slice_get c.args.images.now c.loop-i.i ≡ Some w = get-item _ _ _ c.loop-i-test.true c.index-images-i.is in
    c.loop-i.invariant.there w (c.requires.images_there w (get-member c.args.images.now c.loop-i.i w g))

pub reroute_producer-requires-clause-to : goal.reroute_producer-requires-clause-to
reroute_producer-requires-clause-to c =
    let v = c.index-ends-i.result in
    let e : slice_get c.args.ends.now c.loop-i.i ≡ Some v = get-item c.args.ends.now c.loop-i.i v (let s = c.requires.same in let t = c.loop-i-test.true in omega arith) c.index-ends-i.is in
    c.loop-i.invariant.there v (c.requires.ends_there v (get-member c.args.ends.now c.loop-i.i v e))

pub reroute_producer-requires-clause-end : goal.reroute_producer-requires-clause-end
reroute_producer-requires-clause-end c =
    let w = c.index-images-i.result in
    let v = c.index-ends-i.result in
    let g : slice_get c.args.images.now c.loop-i.i ≡ Some w = get-item _ _ _ c.loop-i-test.true c.index-images-i.is in
    let e : slice_get c.args.ends.now c.loop-i.i ≡ Some v = get-item c.args.ends.now c.loop-i.i v (let s = c.requires.same in let t = c.loop-i-test.true in omega arith) c.index-ends-i.is in
    may-produce c.loop-i.board w (image-known c.args.board.now c.loop-i.board c.loop-i.board c.args.images.now c.args.ends.now c.loop-i.i w v g e c.loop-i.invariant c.requires.apart
    c.requires.ends_apart
    c.requires.other c.requires.known)

pub loop-i-preserved : goal.loop-i-preserved
loop-i-preserved c =
    let w = c.index-images-i.result in
    let v = c.index-ends-i.result in
    let g : slice_get c.args.images.now c.loop-i.i ≡ Some w = get-item _ _ _ c.loop-i-test.true c.index-images-i.is in
    let e : slice_get c.args.ends.now c.loop-i.i ≡ Some v = get-item c.args.ends.now c.loop-i.i v (let s = c.requires.same in let t = c.loop-i-test.true in omega arith) c.index-ends-i.is in
    let r = c.reroute_producer.ensures in
    turn-more c.args.board.now c.loop-i.board c.reroute_producer.new.self c.args.images.now c.args.ends.now c.loop-i.i w v g e c.loop-i.invariant c.requires.apart c.requires.ends_apart
    c.requires.other c.requires.known (c.loop-i.invariant.there w (c.requires.images_there w (get-member c.args.images.now c.loop-i.i w g))) r.graph r.at c.apart.ensures r.outputs r.lists r.filed

pub returns-clause-kept : goal.returns-clause-kept
returns-clause-kept c =
    all-kept c.args.board.now c.loop-i.board c.args.images.now c.args.ends.now c.loop-i.i c.loop-i.invariant (let a = c.loop-i-test.false in let b = c.loop-i.auto.i-end in omega arith) c.requires.same
