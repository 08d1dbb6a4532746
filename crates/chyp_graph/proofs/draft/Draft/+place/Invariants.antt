-- The parts of a term are smaller than the term.
use Rattle.chyp_term.specs.Measure.{size_of}
use Rattle.chyp_term.specs.Term.{morphism_of}
use Rattle.chyp_graph.proofs.draft.Draft.+place.Given as goal

abbrev pub decreases-place : goal.decreases-place
decreases-place l = size_of (morphism_of l.term.now)
