-- When each place is written, what is written is the inverse.
use Rattle.std.proofs.Common.{◌≤◌, length, arith}
use Rattle.chyp_term.proofs.Inverting.{place_fits, returning_perm, returning_inverse}
use Rattle.chyp_term.proofs.perm.inverse_places.Goals as goal

pub overflow_cast-i : goal.overflow_cast-i
overflow_cast-i c = record { fits = place_fits c.args.places.now c.requires (λ k. (c.type_inv.places k).fits) c.loop-i.i c.loop-i-test.true }

pub returns-clause-inverse : goal.returns-clause-inverse
returns-clause-inverse c =
    let all : length c.args.places.now ≤ c.loop-i.i = c.loop-i-test.false in
    returning_inverse c.args.places.now c.loop-i.inverse.items c.requires (record { size = c.loop-i.invariant.size; at = λ j h. c.loop-i.invariant.at j (omega arith) })

pub returns-clause-permutation : goal.returns-clause-permutation
returns-clause-permutation c =
    let all : length c.args.places.now ≤ c.loop-i.i = c.loop-i-test.false in
    returning_perm c.args.places.now c.loop-i.inverse.items c.requires (record { size = c.loop-i.invariant.size; at = λ j h. c.loop-i.invariant.at j (omega arith) })
