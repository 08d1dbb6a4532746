use Rattle.std.proofs.Common.{◌∙◌, subst, arith}
use Rattle.std.proofs.lemmas.Result.{IfOk-weaker}
use Rattle.chyp_term.specs.Term.{morphism_of}
use Rattle.chyp_pattern.specs.Pattern.{IsPattern}
use Rattle.chyp_judge.proofs.Tried.{have-placements}
use Rattle.chyp_nth.specs.Nth.{narrow, wide}
use Rattle.chyp_nth.proofs.Passing.{is-redex, nth-by_graphs}
use Rattle.chyp_nth.proofs.rewriting.nth_rewrite.Goals as goal

pub returns-then-placements-gt-MOST_PLACEMENTS : goal.returns-then-placements-gt-MOST_PLACEMENTS
returns-then-placements-gt-MOST_PLACEMENTS c =
    let many = c.if-placements-gt-MOST_PLACEMENTS.true in
    wide
    (have-placements (morphism_of c.args.rule.now.left) (morphism_of c.args.from.now) c.in_ok-left.left c.in_ok-graph.graph c.placements-placements.result
    (subst IsPattern c.left.view_is c.left.invariant) (c.in_ok-left.ensures.graph ∙ c.in_ok-of_term.ensures) c.in_ok-graph.ensures c.placements-placements.ensures)
    (omega arith)

pub nth_of-requires : goal.nth_of-requires
nth_of-requires c =
    is-redex c.occurrences_are_few.ensures.bounded (record { graph = c.in_ok-graph.graph; left = c.in_ok-left.left; right = c.in_ok-right.right })
    (morphism_of c.args.rule.now.left) (morphism_of c.args.rule.now.right) (morphism_of c.args.from.now) c.requires.rule c.requires.typed c.requires.within.size c.requires.within_right.size
    (subst IsPattern c.left.view_is c.left.invariant) c.in_ok-graph.ensures (c.in_ok-left.ensures.graph ∙ c.in_ok-of_term.ensures) c.in_ok-right.ensures c.placements-placements.result
    c.placements-placements.ensures c.if-placements-gt-MOST_PLACEMENTS.false

pub returns : goal.returns
returns c =
    let l = morphism_of c.args.rule.now.left in
    let r = morphism_of c.args.rule.now.right in
    let t = morphism_of c.args.from.now in
    let left = c.in_ok-left.ensures.graph ∙ c.in_ok-of_term.ensures in
    let placements = have-placements l t c.in_ok-left.left c.in_ok-graph.graph c.placements-placements.result (subst IsPattern c.left.view_is c.left.invariant) left c.in_ok-graph.ensures
    c.placements-placements.ensures in
    IfOk-weaker c.nth_of.result _ _
    (λ answer h.
    narrow placements c.if-placements-gt-MOST_PLACEMENTS.false
    (nth-by_graphs (record { graph = c.in_ok-graph.graph; left = c.in_ok-left.left; right = c.in_ok-right.right }) l r t c.in_ok-graph.ensures left c.in_ok-right.ensures c.args.n answer h))
    c.nth_of.ensures
