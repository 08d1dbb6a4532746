use Rattle.std.proofs.Common.{◌∙◌, subst, arith}
use Rattle.std.proofs.lemmas.Result.{IfOk-weaker}
use Rattle.chyp_term.specs.Term.{morphism_of}
use Rattle.chyp_graph.specs.GraphOf.{graph_of}
use Rattle.chyp_pattern.specs.Pattern.{IsPattern}
use Rattle.chyp_judge.specs.Judged.{HavePlacements, wide}
use Rattle.chyp_judge.specs.Rewrite.{IsTried}
use Rattle.chyp_judge.specs.declared.rewrite.Rewrite.{Rewrite}
use Rattle.chyp_judge.proofs.Tried.{have-placements, is-rewrite, same-rewrite, tried-judged}
use Rattle.chyp_judge.proofs.step.judge_by_rule.Goals as goal

pub returns-then-placements-gt-MOST_PLACEMENTS : goal.returns-then-placements-gt-MOST_PLACEMENTS
returns-then-placements-gt-MOST_PLACEMENTS c =
    let many = c.if-placements-gt-MOST_PLACEMENTS.true in
    wide
    (have-placements (morphism_of c.args.rule.now.left) (morphism_of c.args.from.now) c.in_ok-left.left c.in_ok-from.from c.placements-placements.result
    (subst IsPattern c.left.view_is c.left.invariant)
    (c.in_ok-left.ensures.graph ∙ c.in_ok-of_term.ensures) c.in_ok-from.ensures c.placements-placements.ensures)
    (omega arith)

pub judge_rewrite-requires : goal.judge_rewrite-requires
judge_rewrite-requires c =
    is-rewrite c.occurrences_are_few.ensures.bounded (record { from = c.in_ok-from.from; left = c.in_ok-left.left; right = c.in_ok-right.right; to = c.in_ok-to.to })
    (morphism_of c.args.rule.now.left) (morphism_of c.args.rule.now.right) (morphism_of c.args.from.now) c.requires.rule.0 c.requires.equation.left c.requires.within_from.size
    c.requires.rule.2.size (subst IsPattern c.left.view_is c.left.invariant) c.in_ok-from.ensures (c.in_ok-left.ensures.graph ∙ c.in_ok-of_term.ensures) c.in_ok-right.ensures
    c.placements-placements.result c.placements-placements.ensures c.if-placements-gt-MOST_PLACEMENTS.false

pub returns : goal.returns
returns c =
    let s : Rewrite = record { from = c.in_ok-from.from; left = c.in_ok-left.left; right = c.in_ok-right.right; to = c.in_ok-to.to } in
    let l = morphism_of c.args.rule.now.left in
    let r = morphism_of c.args.rule.now.right in
    let t = morphism_of c.args.from.now in
    let u = morphism_of c.args.to.now in
    let left = c.in_ok-left.ensures.graph ∙ c.in_ok-of_term.ensures in
    let same = same-rewrite s (graph_of t) (graph_of l) (graph_of r) (graph_of u) c.in_ok-from.ensures left c.in_ok-right.ensures c.in_ok-to.ensures in
    let placements : HavePlacements l t c.placements-placements.result = have-placements l t c.in_ok-left.left c.in_ok-from.from c.placements-placements.result
    (subst IsPattern c.left.view_is c.left.invariant) left c.in_ok-from.ensures c.placements-placements.ensures in
    IfOk-weaker c.judge_rewrite.result _ _
    (λ judged tried.
    tried-judged c.rewrites_are_graphs.ensures.exact l r t u c.requires.rule.0 c.requires.equation c.in_ok-left.left.anchors placements c.if-placements-gt-MOST_PLACEMENTS.false judged
    (subst (λ (x : Rewrite). IsTried x judged) same tried))
    c.judge_rewrite.ensures
