-- Tests of terms that have to have the type of a first one.
use Rattle.std.proofs.Common.{◌≡◌, ℕ, ◌+◌, ◌<◌, ◌≤◌, List, [], ◌∷◌, ◌++◌, map, length, take, drop, slice_index_or, All, Option, None, Some, refl, sym, ap, subst, ◌∙◌, Result, Ok, Err, OnOk}
use Rattle.std.proofs.lemmas.List.{map-append, take_all, append_assoc, append-nil}
use Rattle.std.proofs.lemmas.List.Elements.{All-nil, All-cons, All-head, All-append}
use Rattle.chyp_syntax.specs.declared.statement.Ast.{Ast}
use Rattle.chyp_syntax.specs.declared.statement.Ast.TheVariants.{LetDecl, RuleDecl, RewriteDecl}
use Rattle.chyp_syntax.specs.declared.step.StepAst.{StepAst}
use Rattle.chyp_syntax.specs.declared.term.TermAst.{TermAst}
use Rattle.chyp_syntax.specs.Statement.{statement_of}
use Rattle.chyp_syntax.specs.Step.{StepTree, step_of}
use Rattle.chyp_syntax.specs.Term.{TermTree, tree_of}
use Rattle.chyp_term.specs.declared.shape.Shape.{Shape}
use Rattle.chyp_term.specs.Derivation.{IsEquation}
use Rattle.chyp_term.specs.Limits.{IsWithinLimits}
use Rattle.chyp_term.specs.Morphism.{Morphism, dom, cod, IsTyped}
use Rattle.chyp_env.specs.Shape.{IsShape}
use Rattle.chyp_env.specs.Scope.{Scope, term_at}
use Rattle.chyp_env.specs.Typing.{Test, agrees, Holds, AllHold, FailsFirst, tests_of}
use Rattle.chyp_env.proofs.Failing.{fails-front, fails-behind, fails-here}
use Rattle.chyp_env.proofs.Holding.{hold-both}
use Rattle.chyp_names.specs.Agreement.{Agrees, Disagrees, StepsAgree, StepsDisagree}
use Rattle.chyp_names.specs.Elaboration.{expansion_at, terms_in, tests_at}
use Rattle.chyp_names.specs.Goals.{goal_terms}
use Rattle.chyp_names.specs.Typing.{AreTypedAlike, tests_of_other, tests_of_steps}
use Rattle.chyp_names.proofs.Goals.{take_more, take_whole, goal_terms-append}

-- what follows holds of an answer where it is Ok
pub on_ok : {T E : Type 0} (P Q : Type 0) → (P → Q) → (result : Result T E) → OnOk result P → OnOk result Q
on_ok P Q f (Ok x) h = f h
on_ok P Q f (Err e) h = tt

-- a term whose own test fails
pub fails_inside : (scope : Scope) (first : Morphism) (equals : ℕ) (tree : TermTree) (token : ℕ) → FailsFirst (tests_of (term_at scope) tree) token
    → Disagrees scope first equals tree token
fails_inside scope first equals tree token fails = fails-front (tests_of (term_at scope) tree) ((equals, agrees first (expansion_at scope tree)) ∷ []) token fails

-- a term of another type
pub fails_at_equals : (scope : Scope) (shape other : Shape) (first : Morphism) (equals : ℕ) (tree : TermTree) → AllHold (tests_of (term_at scope) tree)
    → IsShape other (expansion_at scope tree) → IsShape shape first → ((other.dom ≡ shape.dom) × (other.cod ≡ shape.cod) → ⊥) → Disagrees scope first equals tree equals
fails_at_equals scope shape other first equals tree hold is its apart =
    fails-behind (tests_of (term_at scope) tree) ((equals, agrees first (expansion_at scope tree)) ∷ []) equals hold
    (fails-here equals (agrees first (expansion_at scope tree)) [] (λ same. apart (is.dom ∙ sym same.0 ∙ sym its.dom, is.cod ∙ sym same.1 ∙ sym its.cod)))

-- a term of the same type
pub agrees_there : (scope : Scope) (shape other : Shape) (first : Morphism) (equals : ℕ) (tree : TermTree) → AllHold (tests_of (term_at scope) tree)
    → IsShape other (expansion_at scope tree) → IsShape shape first → (other.dom ≡ shape.dom) × (other.cod ≡ shape.cod) → Agrees scope first equals tree
agrees_there scope shape other first equals tree hold is its same =
    let doms : dom first ≡ dom (expansion_at scope tree) = sym its.dom ∙ sym same.0 ∙ is.dom in
    let cods : cod first ≡ cod (expansion_at scope tree) = sym its.cod ∙ sym same.1 ∙ is.cod in (
      hold-both (tests_of (term_at scope) tree) ((equals, agrees first (expansion_at scope tree)) ∷ []) hold
          (All-cons (λ (test : Test). Holds test.1) (equals, agrees first (expansion_at scope tree)) [] (doms, cods) (All-nil (λ (test : Test). Holds test.1))),
      record { left = its.typed; right = is.typed; doms = doms; cods = cods },
    )

module _ (scope : Scope) (first : Morphism) (step : StepAst) (goal : TermAst) (there : step.goal ≡ Some goal) where
  -- the goal of one step
  pub one_agrees : Agrees scope first step.equals (tree_of goal) → StepsAgree scope first (step ∷ [])
  one_agrees h =
      rw there (
        subst AllHold (sym (append-nil (tests_of_other (term_at scope) first step.equals (tree_of goal)))) h.0,
        All-cons (IsEquation first) (expansion_at scope (tree_of goal)) [] h.1 (All-nil (IsEquation first)),
      )

  pub one_disagrees : (token : ℕ) → Disagrees scope first step.equals (tree_of goal) token → StepsDisagree scope first (step ∷ []) token
  one_disagrees token h = rw there (fails-front (tests_of_other (term_at scope) first step.equals (tree_of goal)) [] token h)

  pub one_term : (terms : List Morphism) → terms ++ expansion_at scope (tree_of goal) ∷ [] ≡ terms ++ goal_terms scope (step ∷ [])
  one_term terms = rw there refl

  pub one_small : All IsWithinLimits (goal_terms scope (step ∷ [])) → IsWithinLimits (expansion_at scope (tree_of goal))
  one_small small = All-head IsWithinLimits (expansion_at scope (tree_of goal)) [] (subst (All IsWithinLimits) (sym (one_term [])) small)

tests_of_steps-append : (meaning : ℕ → Morphism) (first : Morphism) (xs ys : List StepTree)
    → tests_of_steps meaning first (xs ++ ys) ≡ tests_of_steps meaning first xs ++ tests_of_steps meaning first ys
tests_of_steps-append meaning first [] ys = refl
tests_of_steps-append meaning first (x ∷ xs) ys = go x.goal refl (tests_of_steps-append meaning first xs ys)
  where
    go : (o : Option TermTree) → x.goal ≡ o → tests_of_steps meaning first (xs ++ ys) ≡ tests_of_steps meaning first xs ++ tests_of_steps meaning first ys
        → tests_of_steps meaning first (x ∷ (xs ++ ys)) ≡ tests_of_steps meaning first (x ∷ xs) ++ tests_of_steps meaning first ys
    go None e rest = rw e rest
    go (Some tree) e rest =
        rw e (ap (λ ts. tests_of_other meaning first x.equals tree ++ ts) rest
        ∙ sym (append_assoc (tests_of_other meaning first x.equals tree) (tests_of_steps meaning first xs) (tests_of_steps meaning first ys)))

module _ (scope : Scope) (first : Morphism) where
  split : (steps others : List StepAst)
      → tests_of_steps (term_at scope) first (map step_of (steps ++ others)) ≡ tests_of_steps (term_at scope) first (map step_of steps) ++ tests_of_steps (term_at scope) first
      (map step_of others)
  split steps others = ap (tests_of_steps (term_at scope) first) (map-append step_of steps others) ∙ tests_of_steps-append (term_at scope) first (map step_of steps) (map step_of others)

  both_agree : (steps others : List StepAst) → StepsAgree scope first steps → StepsAgree scope first others → StepsAgree scope first (steps ++ others)
  both_agree steps others f g = (
    subst AllHold (sym (split steps others)) (hold-both (tests_of_steps (term_at scope) first (map step_of steps)) (tests_of_steps (term_at scope) first (map step_of others)) f.0 g.0),
    subst (All (IsEquation first)) (sym (goal_terms-append scope steps others)) (All-append (IsEquation first) (goal_terms scope steps) (goal_terms scope others) f.1 g.1),
  )

  pub agree_more : (steps : List StepAst) (k : ℕ) (step : StepAst) → k < length steps → step ≡ slice_index_or steps k step
      → StepsAgree scope first (take k steps) → StepsAgree scope first (step ∷ []) → StepsAgree scope first (take (k + 1) steps)
  agree_more steps k step within is so_far next = subst (StepsAgree scope first) (sym (take_more steps k step within is)) (both_agree (take k steps) (step ∷ []) so_far next)

  pub agree_all : (steps : List StepAst) (k : ℕ) → length steps ≤ k → StepsAgree scope first (take k steps) → StepsAgree scope first steps
  agree_all steps k end so_far = subst (StepsAgree scope first) (take_all k steps end) so_far

  pub agree_fails : (steps : List StepAst) (k : ℕ) (step : StepAst) (token : ℕ) → k < length steps → step ≡ slice_index_or steps k step
      → StepsAgree scope first (take k steps) → StepsDisagree scope first (step ∷ []) token → StepsDisagree scope first steps token
  agree_fails steps k step token within is so_far fails =
      let front : List StepAst = take k steps ++ step ∷ [] in
      let there = fails-behind (tests_of_steps (term_at scope) first (map step_of (take k steps))) (tests_of_steps (term_at scope) first (map step_of (step ∷ []))) token so_far.0 fails in
      subst (λ ts. FailsFirst ts token) (sym (split front (drop (k + 1) steps)) ∙ ap (λ xs. tests_of_steps (term_at scope) first (map step_of xs)) (take_whole steps k step within is))
      (fails-front (tests_of_steps (term_at scope) first (map step_of front)) (tests_of_steps (term_at scope) first (map step_of (drop (k + 1) steps))) token
      (subst (λ ts. FailsFirst ts token) (sym (split (take k steps) (step ∷ []))) there))

-- a first term, and others that are equations with it, are typed alike
between : (first s t : Morphism) → IsEquation first s → IsEquation first t → IsEquation s t
between first s t a b = record { left = a.right; right = b.right; doms = sym a.doms ∙ b.doms; cods = sym a.cods ∙ b.cods }

pub alike : (first : Morphism) (others : List Morphism) → IsTyped first → All (IsEquation first) others → AreTypedAlike (first ∷ others)
alike first others typed all =
    let itself : IsEquation first first = record { left = typed; right = typed; doms = refl; cods = refl } in
    let each = All-cons (IsEquation first) first others itself all in
    λ k d within k' d' within'. between first _ _ (each k d within) (each k' d' within')

-- the tests of a `let` are those of its tree
pub let_holds : (scope : Scope) (ast : Ast) (name : ℕ) (tree : TermAst) → ast ≡ LetDecl name tree → AllHold (tests_of (term_at scope) (tree_of tree))
    → AllHold (tests_at scope (statement_of ast))
let_holds scope ast name tree is hold =
    subst (λ a. AllHold (tests_at scope (statement_of a))) (sym is) (subst AllHold (sym (append-nil (tests_of (term_at scope) (tree_of tree)))) hold)

-- the terms of a rule
module _ (scope : Scope) (ast : Ast) (name : ℕ) (left : TermAst) (equals : ℕ) (right : TermAst) (is : ast ≡ RuleDecl name left equals right) where
  rule_tests : tests_of (term_at scope) (tree_of left) ++ tests_of_other (term_at scope) (expansion_at scope (tree_of left)) equals (tree_of right) ≡ tests_at scope (statement_of ast)
  rule_tests =
      ap (λ ts. tests_of (term_at scope) (tree_of left) ++ ts) (sym (append-nil (tests_of_other (term_at scope) (expansion_at scope (tree_of left)) equals (tree_of right))))
      ∙ ap (λ a. tests_at scope (statement_of a)) (sym is)

  pub rule_holds : AllHold (tests_of (term_at scope) (tree_of left)) → Agrees scope (expansion_at scope (tree_of left)) equals (tree_of right)
      → AllHold (tests_at scope (statement_of ast))
  rule_holds hold h =
      subst AllHold rule_tests (hold-both (tests_of (term_at scope) (tree_of left)) (tests_of_other (term_at scope) (expansion_at scope (tree_of left)) equals (tree_of right)) hold h.0)

  pub rule_alike : (home : List ℕ) → IsTyped (expansion_at scope (tree_of left)) → Agrees scope (expansion_at scope (tree_of left)) equals (tree_of right)
      → AreTypedAlike (terms_in home scope (statement_of ast))
  rule_alike home typed h =
      let other = h.1 in
      subst (λ a. AreTypedAlike (terms_in home scope (statement_of a))) (sym is)
      (alike (expansion_at scope (tree_of left)) (expansion_at scope (tree_of right) ∷ []) typed
      (All-cons (IsEquation (expansion_at scope (tree_of left))) (expansion_at scope (tree_of right)) [] other (All-nil (IsEquation (expansion_at scope (tree_of left))))))

  pub rule_fails_left : (token : ℕ) → FailsFirst (tests_of (term_at scope) (tree_of left)) token → FailsFirst (tests_at scope (statement_of ast)) token
  rule_fails_left token fails =
      subst (λ ts. FailsFirst ts token) rule_tests
      (fails-front (tests_of (term_at scope) (tree_of left)) (tests_of_other (term_at scope) (expansion_at scope (tree_of left)) equals (tree_of right)) token fails)

  pub rule_fails_right : (token : ℕ) → AllHold (tests_of (term_at scope) (tree_of left)) → Disagrees scope (expansion_at scope (tree_of left)) equals (tree_of right) token
      → FailsFirst (tests_at scope (statement_of ast)) token
  rule_fails_right token hold fails =
      subst (λ ts. FailsFirst ts token) rule_tests
      (fails-behind (tests_of (term_at scope) (tree_of left)) (tests_of_other (term_at scope) (expansion_at scope (tree_of left)) equals (tree_of right)) token hold fails)

-- the terms of a rewrite
module _ (scope : Scope) (ast : Ast) (name : ℕ) (first : TermAst) (steps items : List StepAst) (is : ast ≡ RewriteDecl name first steps) (same : items ≡ steps) where
  abbrev start : Morphism
  start = expansion_at scope (tree_of first)

  abbrev behind : List Test
  behind = tests_of_steps (term_at scope) start (map step_of items)

  rewrite_tests : tests_of (term_at scope) (tree_of first) ++ behind ≡ tests_at scope (statement_of ast)
  rewrite_tests = ap (λ xs. tests_of (term_at scope) (tree_of first) ++ tests_of_steps (term_at scope) start (map step_of xs)) same ∙ ap (λ a. tests_at scope (statement_of a)) (sym is)

  pub rewrite_holds : AllHold (tests_of (term_at scope) (tree_of first)) → StepsAgree scope start items → AllHold (tests_at scope (statement_of ast))
  rewrite_holds hold h = subst AllHold rewrite_tests (hold-both (tests_of (term_at scope) (tree_of first)) behind hold h.0)

  pub rewrite_alike : (home : List ℕ) → IsTyped start → StepsAgree scope start items → AreTypedAlike (terms_in home scope (statement_of ast))
  rewrite_alike home typed h =
      subst (λ a. AreTypedAlike (terms_in home scope (statement_of a))) (sym is) (subst (λ xs. AreTypedAlike (start ∷ goal_terms scope xs)) same (alike start (goal_terms scope items) typed h.1))

  pub rewrite_fails_first : (token : ℕ) → FailsFirst (tests_of (term_at scope) (tree_of first)) token → FailsFirst (tests_at scope (statement_of ast)) token
  rewrite_fails_first token fails = subst (λ ts. FailsFirst ts token) rewrite_tests (fails-front (tests_of (term_at scope) (tree_of first)) behind token fails)

  pub rewrite_fails_behind : (token : ℕ) → AllHold (tests_of (term_at scope) (tree_of first)) → StepsDisagree scope start items token
      → FailsFirst (tests_at scope (statement_of ast)) token
  rewrite_fails_behind token hold fails = subst (λ ts. FailsFirst ts token) rewrite_tests (fails-behind (tests_of (term_at scope) (tree_of first)) behind token hold fails)
