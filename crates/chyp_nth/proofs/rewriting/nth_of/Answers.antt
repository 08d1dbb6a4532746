use Rattle.chyp_nth.proofs.Passing.{begun}
use Rattle.chyp_nth.proofs.rewriting.nth_of.Goals as goal

pub nth_among-requires-clause-begun : goal.nth_among-requires-clause-begun
nth_among-requires-clause-begun c = begun c.args.redex.now c.requires c.in_ok-occurrences.occurrences c.in_ok-listed.listed c.in_ok-listed.ensures c.in_ok-occurrences.ensures
