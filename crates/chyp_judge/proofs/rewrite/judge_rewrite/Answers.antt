use Rattle.chyp_judge.proofs.Giving.{begun, counted}
use Rattle.chyp_judge.proofs.rewrite.judge_rewrite.Goals as goal

pub count_all-occurrences-requires : goal.count_all-occurrences-requires
count_all-occurrences-requires c = begun c.args.rewrite.now c.requires c.in_ok-occurrences.occurrences c.in_ok-listed.listed c.in_ok-listed.ensures c.in_ok-occurrences.ensures

pub try_all-requires-clause-begun : goal.try_all-requires-clause-begun
try_all-requires-clause-begun c = begun c.args.rewrite.now c.requires c.in_ok-occurrences.occurrences c.in_ok-listed.listed c.in_ok-listed.ensures c.in_ok-occurrences.ensures

pub returns-then-has_other_size : goal.returns-then-has_other_size
returns-then-has_other_size c =
    counted c.args.rewrite.now c.in_ok-occurrences.occurrences c.in_ok-listed.listed c.in_ok-listed.ensures c.in_ok-occurrences.ensures c.count_all-occurrences.result
    c.count_all-occurrences.ensures c.if-has_other_size.ensures
