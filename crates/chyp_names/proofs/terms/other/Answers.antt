use Rattle.std.proofs.Common.{◌≡◌, refl, [], subst}
use Rattle.std.proofs.lemmas.Bool.{both_ways}
use Rattle.std.proofs.lemmas.Result.{err_from_is_err_and}
use Rattle.chyp_syntax.specs.Term.{tree_of}
use Rattle.chyp_env.specs.Shape.{IsShape}
use Rattle.chyp_names.specs.Agreement.{Disagrees}
use Rattle.chyp_names.proofs.Alike.{fails_inside, fails_at_equals, agrees_there}
use Rattle.chyp_names.proofs.terms.other.Goals as goal

pub returns-in_err-term-clause-fails : goal.returns-in_err-term-clause-fails
returns-in_err-term-clause-fails c = λ token e.
    let p = err_from_is_err_and c.from_residual.result c.from_residual.ensures.1 in
    fails_inside c.args.scope.now c.args.first.now c.args.equals (tree_of c.args.tree.now) token (c.in_err-term.ensures.fails token (cc))

pub returns-then-is_same-clause-ok : goal.returns-then-is_same-clause-ok
returns-then-is_same-clause-ok c =
    agrees_there c.args.scope.now c.shape-2.result.now c.shape.result.now c.args.first.now c.args.equals (tree_of c.args.tree.now) (c.in_ok-term.ensures.holds refl)
    (subst (IsShape c.shape.result.now) c.in_ok-term.ensures.term c.shape.ensures) c.shape-2.ensures (c.is_same.ensures.0 c.if-is_same.true)

pub returns-else-is_same-clause-fails : goal.returns-else-is_same-clause-fails
returns-else-is_same-clause-fails c = λ token e.
    let at : c.args.equals ≡ token = cc (e) in
    subst (Disagrees c.args.scope.now c.args.first.now c.args.equals (tree_of c.args.tree.now)) at
    (fails_at_equals c.args.scope.now c.shape-2.result.now c.shape.result.now c.args.first.now c.args.equals (tree_of c.args.tree.now) (c.in_ok-term.ensures.holds refl)
    (subst (IsShape c.shape.result.now) c.in_ok-term.ensures.term c.shape.ensures) c.shape-2.ensures
    (λ same. both_ways c.is_same.result c.if-is_same.false (c.is_same.ensures.1 same)))
