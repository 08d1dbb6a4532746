use Rattle.std.proofs.Common.{[], ◌∷◌, subst}
use Rattle.chyp_syntax.specs.Term.{tree_of}
use Rattle.chyp_names.specs.Elaboration.{expansion_at}
use Rattle.chyp_names.specs.Goals.{IsSum, goal_terms}
use Rattle.chyp_names.proofs.Goals.{sum_more}
use Rattle.chyp_names.proofs.limits.sum_of_rewrite.Goals as goal

pub returns : goal.returns
returns c =
    sum_more 0 c.in_ok-sum.sum (expansion_at c.args.scope.now (tree_of c.args.first.now) ∷ []) (goal_terms c.args.scope.now c.args.steps.now)
    c.sum_with_goals.result
    (subst (IsSum 0 (expansion_at c.args.scope.now (tree_of c.args.first.now) ∷ [])) c.in_ok-sum.was c.sum_with.ensures) c.sum_with_goals.ensures
