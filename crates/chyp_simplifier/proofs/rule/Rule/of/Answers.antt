use Rattle.std.proofs.Common.{◌∙◌, subst}
use Rattle.chyp_term.specs.Term.{morphism_of}
use Rattle.chyp_pattern.specs.Pattern.{IsPattern}
use Rattle.chyp_simplifier.proofs.Rules.{is-rule}
use Rattle.chyp_simplifier.proofs.rule.Rule.of.Goals as goal

pub returns-clause-rule : goal.returns-clause-rule
returns-clause-rule c =
    is-rule (record { left = c.in_ok-left.left; right = c.in_ok-right.right }) (morphism_of c.args.equation.now.left) (morphism_of c.args.equation.now.right) c.requires.0
    c.requires.2 (subst IsPattern c.left.view_is c.left.invariant) (c.in_ok-left.ensures.graph ∙ c.in_ok-of_term.ensures) c.in_ok-right.ensures
