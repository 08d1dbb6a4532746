use Rattle.chyp_term.specs.Term.{morphism_of}
use Rattle.chyp_simplifier.proofs.Rules.{term-small}
use Rattle.chyp_simplifier.proofs.comparing.run_from.Goals as goal

pub run-requires-clause-small : goal.run-requires-clause-small
run-requires-clause-small c = term-small (morphism_of c.args.term.now) c.requires.typed c.requires.within c.in_ok-of_term.field-0 c.in_ok-of_term.ensures
