use Rattle.std.proofs.Common.{refl}
use Rattle.chyp_term.specs.Term.{morphism_of}
use Rattle.chyp_judge.proofs.Tried.{laws-derived, laws-differ}
use Rattle.chyp_judge.proofs.step.judge_by_laws.Goals as goal

pub returns-in-Some : goal.returns-in-Some
returns-in-Some c =
    laws-derived c.graphs_decide_the_laws.ensures.complete (morphism_of c.args.from.now) (morphism_of c.args.to.now) c.requires.equation c.in_ok-first.first c.in_ok-second.second
    c.in_ok-first.ensures c.in_ok-second.ensures (c.in-Some.ensures.isomorphic refl)

pub returns : goal.returns
returns c =
    laws-differ c.graphs_decide_the_laws.ensures.sound (morphism_of c.args.from.now) (morphism_of c.args.to.now) c.in_ok-first.first c.in_ok-second.second
    c.in_ok-first.ensures c.in_ok-second.ensures c.in-None.ensures.none
