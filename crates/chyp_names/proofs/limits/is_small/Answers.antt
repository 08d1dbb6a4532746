use Rattle.std.proofs.Common.{subst, sym}
use Rattle.chyp_names.proofs.Goals.{IsDecided, let_decided, rule_decided, rewrite_decided}
use Rattle.chyp_names.proofs.limits.is_small.Goals as goal

pub returns-in-LetDecl : goal.returns-in-LetDecl
returns-in-LetDecl c = λ home.
    subst (IsDecided home c.args.scope.now c.args.ast.now) (sym c.is_some.ensures)
    (let_decided home c.args.scope.now c.args.ast.now c.in-LetDecl.name c.in-LetDecl.term c.sum_with.result c.in-LetDecl.is c.sum_with.ensures)

pub returns-in-RuleDecl : goal.returns-in-RuleDecl
returns-in-RuleDecl c = λ home.
    subst (IsDecided home c.args.scope.now c.args.ast.now) (sym c.is_some-in-RuleDecl.ensures)
    (rule_decided home c.args.scope.now c.args.ast.now c.in-RuleDecl.name c.in-RuleDecl.left c.in-RuleDecl.equals c.in-RuleDecl.right c.sum_of_two.result c.in-RuleDecl.is c.sum_of_two.ensures)

pub returns-in-RewriteDecl : goal.returns-in-RewriteDecl
returns-in-RewriteDecl c = λ home.
    subst (IsDecided home c.args.scope.now c.args.ast.now) (sym c.is_some-in-RewriteDecl.ensures)
    (rewrite_decided home c.args.scope.now c.args.ast.now c.in-RewriteDecl.name c.in-RewriteDecl.first c.in-RewriteDecl.steps c.as_slice.result.now c.sum_of_rewrite.result
    c.in-RewriteDecl.is c.as_slice.ensures c.sum_of_rewrite.ensures)
