-- Names that are in order, and proved, stand for equations.
use Rattle.std.proofs.Common.{◌≡◌, ℕ, false, List, [], ◌∷◌, ◌++◌, map, flat_map, slice_get, All, Option, None, Some, refl, sym, ap, subst, ◌∙◌, true≢false, is_some, IsTrue}
use Rattle.std.specs.List.{filter_map, cons_option}
use Rattle.std.specs.Option.{option_map_or}
use Rattle.std.proofs.lemmas.List.Elements.{All-nil, All-cons, All-head, All-tail, filter_map-append}
use Rattle.chyp_syntax.specs.declared.step.ReasonAst.{ReasonAst}
use Rattle.chyp_syntax.specs.declared.step.ReasonAst.TheVariants.{Simp}
use Rattle.chyp_syntax.specs.declared.step.SignedAst.{SignedAst}
use Rattle.chyp_syntax.specs.declared.step.StepAst.{StepAst}
use Rattle.chyp_syntax.specs.declared.statement.Ast.{Ast}
use Rattle.chyp_syntax.specs.declared.statement.Ast.TheVariants.{RewriteDecl}
use Rattle.chyp_syntax.specs.declared.term.TermAst.{TermAst}
use Rattle.chyp_syntax.specs.Statement.{statement_of}
use Rattle.chyp_syntax.specs.Step.{step_of}
use Rattle.chyp_syntax.specs.Term.{tree_of}
use Rattle.chyp_env.specs.Environment.{Sense, generator, abbreviation, equation, unproved, broken, Binding}
use Rattle.chyp_env.specs.Scope.{Scope, binding_at}
use Rattle.chyp_names.specs.Elaboration.{reason_at}
use Rattle.chyp_names.specs.Equations.{is_equation, IsEquationAt, RestsOnEquations}
use Rattle.chyp_names.specs.Naming.{Use, in_reason, names_of_reason, uses_in, uses_in_goal, uses_in_step, fault_of}
use Rattle.chyp_names.specs.Naming.{fault_in_reason, fault_or_unknown, unproved_use, unproved_token, first_fault, first_unproved}
use Rattle.chyp_names.proofs.Firsts.{nil_left, nil_right, none_first}
use Rattle.chyp_names.proofs.Uses.{unproved_of_rewrite, unproved_in_step, step_uses}

-- the rules of a `by` are equations
pub simp_equations : (scope : Scope) (reason : ReasonAst) (rules items : List SignedAst) → reason ≡ Simp rules → items ≡ rules → RestsOnEquations scope reason
    → All (λ (rule : SignedAst). IsEquationAt scope rule.name) items
simp_equations scope reason rules items is same laws =
    subst (λ (xs : List SignedAst). All (λ (rule : SignedAst). IsEquationAt scope rule.name) xs) (sym same) (go rules (subst (RestsOnEquations scope) is laws))
  where
    go : (rules : List SignedAst) → All (IsEquationAt scope) (map (λ rule. rule.name) rules) → All (λ (rule : SignedAst). IsEquationAt scope rule.name) rules
    go [] h = All-nil (λ (rule : SignedAst). IsEquationAt scope rule.name)
    go (rule ∷ rules) h =
        All-cons (λ (rule : SignedAst). IsEquationAt scope rule.name) rule rules (All-head (IsEquationAt scope) rule.name (map (λ rule. rule.name) rules) h)
        (go rules (All-tail (IsEquationAt scope) rule.name (map (λ rule. rule.name) rules) h))

-- the reasons of steps and of their trees
pub reasons_of_steps : (scope : Scope) (steps : List StepAst) → map (λ (step : StepAst). reason_at scope step.reason) steps ≡ map (λ step. reason_at scope step.reason) (map step_of steps)
reasons_of_steps scope [] = refl
reasons_of_steps scope (step ∷ steps) = ap (λ rs. reason_at scope step.reason ∷ rs) (reasons_of_steps scope steps)

unproved_sense : (b : Binding) (token : ℕ) → b.sense ≡ unproved → unproved_token (Some b) token ≡ Some token
unproved_sense b token e = rw e refl

equation_sense : (sense : Sense) (b : Binding) (token : ℕ) → b.sense ≡ sense → fault_in_reason sense token ≡ None → unproved_token (Some b) token ≡ None → IsTrue (is_equation sense)
equation_sense (equation first last) b token e f u = refl
equation_sense unproved b token e f u = absurd (true≢false (ap is_some (sym (unproved_sense b token e) ∙ u)))
equation_sense broken b token e f u = absurd (true≢false (ap is_some f))
equation_sense (generator name dom cod) b token e f u = absurd (true≢false (ap is_some f))
equation_sense (abbreviation m) b token e f u = absurd (true≢false (ap is_some f))

-- a name behind a `by` that is in order and proved is an equation
equation_there : (scope : Scope) (token : ℕ) → fault_of scope (in_reason token) ≡ None → unproved_use scope (in_reason token) ≡ None → IsEquationAt scope token
equation_there scope token = go (binding_at scope token)
  where
    go : (o : Option Binding) → fault_or_unknown fault_in_reason o token ≡ None → unproved_token o token ≡ None → IsTrue (option_map_or (λ binding. is_equation binding.sense) o false)
    go None f u = absurd (true≢false (ap is_some f))
    go (Some b) f u = equation_sense b.sense b token refl f u

module _ {U V : Type 0} (f : U → Option V) (u : U) (us : List U) where
  nothing_first : filter_map f (u ∷ us) ≡ [] → f u ≡ None
  nothing_first = go (f u)
    where
      go : (o : Option V) → cons_option o (filter_map f us) ≡ [] → o ≡ None
      go None e = refl
      go (Some v) e = absurd (true≢false (ap (λ vs. is_some (slice_get vs 0)) e))

  nothing_behind : filter_map f (u ∷ us) ≡ [] → filter_map f us ≡ []
  nothing_behind = go (f u)
    where
      go : (o : Option V) → cons_option o (filter_map f us) ≡ [] → filter_map f us ≡ []
      go None e = e
      go (Some v) e = absurd (true≢false (ap (λ vs. is_some (slice_get vs 0)) e))

equations_there : (scope : Scope) (names : List ℕ) → filter_map (fault_of scope) (map in_reason names) ≡ [] → filter_map (unproved_use scope) (map in_reason names) ≡ []
    → All (IsEquationAt scope) names
equations_there scope [] f u = All-nil (IsEquationAt scope)
equations_there scope (name ∷ names) f u =
    All-cons (IsEquationAt scope) name names
    (equation_there scope name (nothing_first (fault_of scope) (in_reason name) (map in_reason names) f) (nothing_first (unproved_use scope) (in_reason name) (map in_reason names) u))
    (equations_there scope names (nothing_behind (fault_of scope) (in_reason name) (map in_reason names) f) (nothing_behind (unproved_use scope) (in_reason name) (map in_reason names) u))

equations_in_steps : (scope : Scope) (steps : List StepAst) → filter_map (fault_of scope) (flat_map uses_in_step (map step_of steps)) ≡ []
    → filter_map (unproved_use scope) (flat_map uses_in_step (map step_of steps)) ≡ [] → All (λ (step : StepAst). RestsOnEquations scope step.reason) steps
equations_in_steps scope [] f u = All-nil (λ (step : StepAst). RestsOnEquations scope step.reason)
equations_in_steps scope (step ∷ steps) f u =
    let rest : List Use = flat_map uses_in_step (map step_of steps) in
    let f2 = sym (filter_map-append (fault_of scope) (step_uses step) rest) ∙ f in
    let u2 = sym (filter_map-append (unproved_use scope) (step_uses step) rest) ∙ u in
    let f1 = nil_left (filter_map (fault_of scope) (step_uses step)) (filter_map (fault_of scope) rest) f2 in
    let u1 = nil_left (filter_map (unproved_use scope) (step_uses step)) (filter_map (unproved_use scope) rest) u2 in
    let by : List Use = map in_reason (names_of_reason step.reason) in
    let goal_uses : List Use = uses_in_goal (step_of step).goal in
    let f0 = nil_right (filter_map (fault_of scope) goal_uses) (filter_map (fault_of scope) by) (sym (filter_map-append (fault_of scope) goal_uses by) ∙ f1) in
    let u0 = sym (unproved_in_step scope (step_of step)) ∙ u1 in
    All-cons (λ (step : StepAst). RestsOnEquations scope step.reason) step steps (equations_there scope (names_of_reason step.reason) f0 u0)
    (equations_in_steps scope steps (nil_right (filter_map (fault_of scope) (step_uses step)) (filter_map (fault_of scope) rest) f2)
    (nil_right (filter_map (unproved_use scope) (step_uses step)) (filter_map (unproved_use scope) rest) u2))

-- the steps of a rewrite whose names are in order and proved rest on equations
pub rewrite_equations : (scope : Scope) (ast : Ast) (name : ℕ) (first : TermAst) (steps items : List StepAst) → ast ≡ RewriteDecl name first steps → items ≡ steps
    → first_fault scope (statement_of ast) ≡ None → first_unproved scope (statement_of ast) ≡ None → All (λ (step : StepAst). RestsOnEquations scope step.reason) items
rewrite_equations scope ast name first steps items is same f u =
    let tail : List Use = flat_map uses_in_step (map step_of steps) in
    let f1 : filter_map (fault_of scope) (uses_in (tree_of first) ++ tail) ≡ [] = none_first _ (ap is_some (ap (λ a. first_fault scope (statement_of a)) (sym is) ∙ f)) in
    let u1 : filter_map (unproved_use scope) (uses_in (tree_of first) ++ tail) ≡ [] = none_first _ (ap is_some (ap (λ a. first_unproved scope (statement_of a)) (sym is) ∙ u)) in
    let f2 = nil_right (filter_map (fault_of scope) (uses_in (tree_of first))) (filter_map (fault_of scope) tail) (sym (filter_map-append (fault_of scope) (uses_in (tree_of first)) tail) ∙ f1) in
    let u2 = sym (unproved_of_rewrite scope (tree_of first) tail) ∙ u1 in
    subst (λ (xs : List StepAst). All (λ (step : StepAst). RestsOnEquations scope step.reason) xs) (sym same) (equations_in_steps scope steps f2 u2)
