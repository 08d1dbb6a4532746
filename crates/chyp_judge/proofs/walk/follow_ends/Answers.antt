use Rattle.std.proofs.Common.{arith}
use Rattle.chyp_term.proofs.Permuted.{found}
use Rattle.chyp_judge.proofs.Partnering.{at-one-port, first-below, none-answer, places-differ, second-below, some-none}
use Rattle.chyp_judge.proofs.walk.follow_ends.Goals as goal

pub returns-in_default-clause-outcome : goal.returns-in_default-clause-outcome
returns-in_default-clause-outcome c =
    none-answer c.args.walk.now.rewrite.now c.requires.walk.rewrite c.requires.walk.to_valid c.args.first c.args.second c.is_none.result c.is_none.ensures c.in_default.is
    c.args.walk.now.partners.items c.args.at c.requires.ends

pub returns-in_default-second-clause-outcome : goal.returns-in_default-second-clause-outcome
returns-in_default-second-clause-outcome c p h =
    some-none c.args.walk.now.rewrite.now c.requires.walk.rewrite c.requires.walk.to_valid p c.args.first c.args.second (c.requires.ends p h) c.in-Some.port c.in-Some.is c.in_default-second.is

pub returns-then-port-other-clause-outcome : goal.returns-then-port-other-clause-outcome
returns-then-port-other-clause-outcome c p h =
    places-differ c.args.walk.now.rewrite.now c.requires.walk.rewrite c.requires.walk.to_valid p c.args.first c.args.second (c.requires.ends p h) c.in-Some.port c.in-Some.is c.in-Some-second.other
    c.in-Some-second.is (λ e. c.if-port-other.true e)

pub follow_edges-requires-clause-there : goal.follow_edges-requires-clause-there
follow_edges-requires-clause-there c =
    let p = found c.args.walk.now.partners.items c.args.at c.requires.at in
    let l = first-below c.args.walk.now.rewrite.now c.requires.walk.rewrite c.requires.walk.to_valid p.0 c.args.first c.args.second (c.requires.ends p.0 p.1) c.in-Some.port c.in-Some.is in
    let n = c.requires.walk.edges in
    omega arith

pub follow_edges-requires-clause-within : goal.follow_edges-requires-clause-within
follow_edges-requires-clause-within c =
    let p = found c.args.walk.now.partners.items c.args.at c.requires.at in
    second-below c.args.walk.now.rewrite.now c.requires.walk.rewrite c.requires.walk.to_valid p.0 c.args.first c.args.second (c.requires.ends p.0 p.1) c.in-Some-second.other c.in-Some-second.is

pub follow_edges-requires-clause-port : goal.follow_edges-requires-clause-port
follow_edges-requires-clause-port c p h =
    at-one-port c.args.walk.now.rewrite.now c.requires.walk.rewrite c.requires.walk.to_valid p c.args.first c.args.second (c.requires.ends p h) c.in-Some.port c.in-Some.is c.in-Some-second.other
    c.in-Some-second.is c.if-port-other.false
