use Rattle.std.proofs.Common.{ap, refl}
use Rattle.chyp_term.proofs.Permuted.{found}
use Rattle.chyp_iso.specs.Port.{the_sources, the_targets}
use Rattle.chyp_judge.proofs.Partnering.{ports-may, unlike-differ}
use Rattle.chyp_judge.proofs.walk.follow_edges.Goals as goal

pub returns-then-not-are_alike-clause-outcome : goal.returns-then-not-are_alike-clause-outcome
returns-then-not-are_alike-clause-outcome c p h =
    unlike-differ c.args.walk.now.rewrite.now c.requires.walk.rewrite c.requires.walk.from_valid c.requires.walk.to_valid p c.args.e c.args.f (c.requires.port p h) _ _ c.edge-first.ensures
    c.edge-second.ensures c.if-not-are_alike.ensures

pub add_all-requires-clause-may : goal.add_all-requires-clause-may
add_all-requires-clause-may c =
    let p = found c.args.walk.now.partners.items c.args.at c.requires.at in
    ports-may c.args.walk.now.rewrite.now c.requires.walk.rewrite c.requires.walk.from_valid c.requires.walk.to_valid p.0 c.args.e c.args.f (c.requires.port p.0 p.1) _ _ c.edge-first.ensures
    c.edge-second.ensures _ refl c.args.at p.1 the_sources

pub add_all-requires-2-clause-may : goal.add_all-requires-2-clause-may
add_all-requires-2-clause-may c =
    let p = found c.args.walk.now.partners.items c.args.at c.requires.at in
    let on = c.in_ok-add_all.ensures in
    ports-may c.args.walk.now.rewrite.now c.requires.walk.rewrite c.requires.walk.from_valid c.requires.walk.to_valid p.0 c.args.e c.args.f (c.requires.port p.0 p.1) _ _ c.edge-first.ensures
    c.edge-second.ensures _ (ap (λ r. r.now) on.rewrite) c.args.at (on.kept c.args.at p.0 p.1) the_targets
