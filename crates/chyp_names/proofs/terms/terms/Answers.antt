use Rattle.std.proofs.Common.{ℕ, List, [], refl, subst, sym, ◌∙◌}
use Rattle.std.proofs.lemmas.Result.{err_from_is_err_and}
use Rattle.std.specs.Str.{IsUtf8}
use Rattle.chyp_syntax.specs.Sentence.{IsSentence}
use Rattle.chyp_syntax.specs.Statement.{statement_of}
use Rattle.chyp_syntax.specs.Term.{tree_of}
use Rattle.chyp_term.specs.Morphism.{Morphism, IsTyped}
use Rattle.chyp_env.specs.Typing.{AllHold}
use Rattle.chyp_names.specs.Agreement.{Agrees, Disagrees, StepsAgree, StepsDisagree}
use Rattle.chyp_names.specs.Elaboration.{terms_in, tests_at}
use Rattle.chyp_names.specs.Typing.{AreTypedAlike}
use Rattle.chyp_names.proofs.Alike.{let_holds, on_ok, rule_holds, rule_fails_left, rule_fails_right, rewrite_holds, rewrite_alike, rewrite_fails_first, rewrite_fails_behind}
use Rattle.chyp_names.proofs.Made.{name_spelled, right_small, goals_small}
use Rattle.chyp_names.proofs.terms.terms.Goals as goal

pub generator_name-requires : goal.generator_name-requires
generator_name-requires c =
    subst IsUtf8 (sym c.bytes_at-identifier.ensures)
    (name_spelled c.chunk-chunk.result.now c.args.ast.now c.in-GenDecl.name c.in-GenDecl.dom c.in-GenDecl.cod c.spelled.ensures c.in-GenDecl.is
    (subst (λ words. IsSentence words (statement_of c.args.ast.now)) (sym c.chunk-chunk.ensures) c.requires.sentence))

pub other-requires : goal.other-requires
other-requires c =
    right_small [] c.args.scope.now c.args.ast.now c.in-RuleDecl.name c.in-RuleDecl.left c.in-RuleDecl.equals c.in-RuleDecl.right c.in-RuleDecl.is c.requires.small

pub with_goals-requires : goal.with_goals-requires
with_goals-requires c =
    goals_small [] c.args.scope.now c.args.ast.now c.in-RewriteDecl.name c.in-RewriteDecl.first c.in-RewriteDecl.steps c.in-RewriteDecl.is c.requires.small
    c.as_slice.result.now c.as_slice.ensures

pub returns-in_ok-one-in-LetDecl-clause-hold : goal.returns-in_ok-one-in-LetDecl-clause-hold
returns-in_ok-one-in-LetDecl-clause-hold c =
    let_holds c.args.scope.now c.args.ast.now c.in-LetDecl.name c.in-LetDecl.term c.in-LetDecl.is (c.in_ok-term-in-LetDecl.ensures.holds refl)

pub returns-in_err-first-in-RuleDecl-clause-fails : goal.returns-in_err-first-in-RuleDecl-clause-fails
returns-in_err-first-in-RuleDecl-clause-fails c = λ token e.
    let p = err_from_is_err_and c.from_residual-in_err-first-in-RuleDecl.result c.from_residual-in_err-first-in-RuleDecl.ensures.1 in
    rule_fails_left c.args.scope.now c.args.ast.now c.in-RuleDecl.name c.in-RuleDecl.left c.in-RuleDecl.equals c.in-RuleDecl.right c.in-RuleDecl.is token
    (c.in_err-first-in-RuleDecl.ensures.fails token (cc))

pub returns-in_err-last-in-RuleDecl-clause-fails : goal.returns-in_err-last-in-RuleDecl-clause-fails
returns-in_err-last-in-RuleDecl-clause-fails c = λ token e.
    let scope = c.args.scope.now in
    let p = err_from_is_err_and c.from_residual-in_err-last-in-RuleDecl.result c.from_residual-in_err-last-in-RuleDecl.ensures.1 in
    rule_fails_right scope c.args.ast.now c.in-RuleDecl.name c.in-RuleDecl.left c.in-RuleDecl.equals c.in-RuleDecl.right c.in-RuleDecl.is token (c.in_ok-first-in-RuleDecl.ensures.holds refl)
    (subst (λ (m : Morphism). Disagrees scope m c.in-RuleDecl.equals (tree_of c.in-RuleDecl.right) token) c.in_ok-first-in-RuleDecl.ensures.term
    (c.in_err-last-in-RuleDecl.ensures.fails token (cc)))

pub returns-in_ok-two-in-RuleDecl-clause-hold : goal.returns-in_ok-two-in-RuleDecl-clause-hold
returns-in_ok-two-in-RuleDecl-clause-hold c =
    let scope = c.args.scope.now in
    rule_holds scope c.args.ast.now c.in-RuleDecl.name c.in-RuleDecl.left c.in-RuleDecl.equals c.in-RuleDecl.right c.in-RuleDecl.is (c.in_ok-first-in-RuleDecl.ensures.holds refl)
    (subst (λ (m : Morphism). Agrees scope m c.in-RuleDecl.equals (tree_of c.in-RuleDecl.right)) c.in_ok-first-in-RuleDecl.ensures.term c.in_ok-last-in-RuleDecl.ensures.ok)

pub returns-in_err-first-in-RewriteDecl-clause-fails : goal.returns-in_err-first-in-RewriteDecl-clause-fails
returns-in_err-first-in-RewriteDecl-clause-fails c = λ token e.
    let p = err_from_is_err_and c.from_residual-in_err-first-in-RewriteDecl.result c.from_residual-in_err-first-in-RewriteDecl.ensures.1 in
    rewrite_fails_first c.args.scope.now c.args.ast.now c.in-RewriteDecl.name c.in-RewriteDecl.first c.in-RewriteDecl.steps c.in-RewriteDecl.steps c.in-RewriteDecl.is refl
    token (c.in_err-first-in-RewriteDecl.ensures.fails token (cc))

pub returns-in_ok-first-in-RewriteDecl-clause-hold : goal.returns-in_ok-first-in-RewriteDecl-clause-hold
returns-in_ok-first-in-RewriteDecl-clause-hold c =
    let scope = c.args.scope.now in
    let items = c.as_slice.result.now in
    on_ok (StepsAgree scope c.in_ok-first-in-RewriteDecl.first items) (AllHold (tests_at scope (statement_of c.args.ast.now)))
    (λ agree. rewrite_holds scope c.args.ast.now c.in-RewriteDecl.name c.in-RewriteDecl.first c.in-RewriteDecl.steps items c.in-RewriteDecl.is c.as_slice.ensures
    (c.in_ok-first-in-RewriteDecl.ensures.holds refl) (subst (λ (m : Morphism). StepsAgree scope m items) c.in_ok-first-in-RewriteDecl.ensures.term agree)) c.with_goals.result c.with_goals.ensures.ok

pub returns-in_ok-first-in-RewriteDecl-clause-alike : goal.returns-in_ok-first-in-RewriteDecl-clause-alike
returns-in_ok-first-in-RewriteDecl-clause-alike c =
    let items = c.as_slice.result.now in
    let scope = c.args.scope.now in
    on_ok (StepsAgree scope c.in_ok-first-in-RewriteDecl.first items) ((home : List ℕ) → AreTypedAlike (terms_in home scope (statement_of c.args.ast.now)))
    (λ agree home. rewrite_alike scope c.args.ast.now c.in-RewriteDecl.name c.in-RewriteDecl.first c.in-RewriteDecl.steps items c.in-RewriteDecl.is c.as_slice.ensures home
    (subst IsTyped (c.first-in-RewriteDecl.view_is ∙ c.in_ok-first-in-RewriteDecl.ensures.term) c.first-in-RewriteDecl.invariant.typed.typed)
    (subst (λ (m : Morphism). StepsAgree scope m items) c.in_ok-first-in-RewriteDecl.ensures.term agree)) c.with_goals.result c.with_goals.ensures.ok

pub returns-in_ok-first-in-RewriteDecl-clause-fails : goal.returns-in_ok-first-in-RewriteDecl-clause-fails
returns-in_ok-first-in-RewriteDecl-clause-fails c = λ token e.
    let scope = c.args.scope.now in
    let items = c.as_slice.result.now in
    rewrite_fails_behind scope c.args.ast.now c.in-RewriteDecl.name c.in-RewriteDecl.first c.in-RewriteDecl.steps items c.in-RewriteDecl.is c.as_slice.ensures token
    (c.in_ok-first-in-RewriteDecl.ensures.holds refl)
    (subst (λ (m : Morphism). StepsDisagree scope m items token) c.in_ok-first-in-RewriteDecl.ensures.term (c.with_goals.ensures.fails token e))
