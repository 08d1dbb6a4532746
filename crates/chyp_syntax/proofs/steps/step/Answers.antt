use Rattle.chyp_syntax.specs.Term.{TermTree, tree_of}
use Rattle.chyp_syntax.proofs.StepRuns.{is_step}
use Rattle.chyp_syntax.proofs.steps.step.Goals as goal

pub returns-clause-read : goal.returns-clause-read
returns-clause-read c =
    let tree : TermTree = tree_of c.in_ok-term.term in
    is_step c.args.tokens.now c.args.at c.in_ok-term.by c.in_ok-reason.end tree c.in_ok-reason.reason c.requires.begins c.in_ok-term.ensures.read c.in_ok-reason.ensures.read
