use Rattle.chyp_term.specs.Term.{morphism_of}
use Rattle.chyp_simplifier.proofs.Rules.{term-small}
use Rattle.chyp_simp_tests.proofs.simplifying.left_graph.Goals as goal

pub returns : goal.returns
returns c = term-small (morphism_of c.args.both.now.left) c.requires.0.left c.requires.1 c.in_ok-of_term.field-0 c.in_ok-of_term.ensures
