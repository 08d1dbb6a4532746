-- The terms of goals, step by step, and how big they are together.
use Rattle.std.proofs.Common.{◌≡◌, ℕ, zero, suc, ◌+◌, ◌<◌, List, [], ◌∷◌, ◌++◌, map, length, take, drop}
use Rattle.std.proofs.Common.{slice_index_or, All, Option, None, Some, refl, sym, ap, subst, ◌∙◌, arith, IsTrue, is_some, true≢false, Bool}
use Rattle.std.proofs.lemmas.List.{map-append, take-append-drop}
use Rattle.std.proofs.lemmas.List.Elements.{All-nil, All-cons, All-head, All-tail, All-append, filter_map-append}
use Rattle.std.proofs.lemmas.List.Sums.{sum_by-append}
use Rattle.chyp_syntax.specs.declared.step.StepAst.{StepAst}
use Rattle.chyp_syntax.specs.declared.term.TermAst.{TermAst}
use Rattle.chyp_syntax.specs.Step.{StepTree, step_of}
use Rattle.chyp_syntax.specs.Term.{tree_of}
use Rattle.chyp_term.specs.Measure.{size_of}
use Rattle.chyp_term.specs.Morphism.{Morphism}
use Rattle.chyp_syntax.specs.declared.statement.Ast.{Ast}
use Rattle.chyp_syntax.specs.declared.statement.Ast.TheVariants.{LetDecl, RuleDecl, RewriteDecl}
use Rattle.chyp_syntax.specs.Statement.{statement_of}
use Rattle.chyp_term.specs.Limits.{IsWithinLimits}
use Rattle.chyp_env.specs.Scope.{Scope}
use Rattle.chyp_names.specs.Elaboration.{expansion_at, terms_in}
use Rattle.chyp_names.specs.Goals.{goal_terms, FitBehind, IsSum}
use Rattle.chyp_names.specs.Trees.{goals_of}
use Rattle.chyp_names.specs.Limits.{AreWithinLimits, HasFewPorts}

-- one step more
pub take_more : {X : Type 0} (xs : List X) (k : ℕ) (x : X) → k < length xs → x ≡ slice_index_or xs k x → take (k + 1) xs ≡ take k xs ++ x ∷ []
take_more [] k x within is = absurd (omega arith)
take_more (y ∷ xs) zero x within is = ap (λ z. z ∷ []) (sym is)
take_more (y ∷ xs) (suc k) x within is =
    let next : suc (k + 1) ≡ suc k + 1 = omega arith in
    ap (λ n. take n (y ∷ xs)) (sym next) ∙ ap (λ zs. y ∷ zs) (take_more xs k x (omega arith) is)

-- and all behind it
pub take_whole : {X : Type 0} (xs : List X) (k : ℕ) (x : X) → k < length xs → x ≡ slice_index_or xs k x → (take k xs ++ x ∷ []) ++ drop (k + 1) xs ≡ xs
take_whole xs k x within is = ap (λ ys. ys ++ drop (k + 1) xs) (sym (take_more xs k x within is)) ∙ take-append-drop (k + 1) xs

pub goal_terms-append : (scope : Scope) (steps others : List StepAst) → goal_terms scope (steps ++ others) ≡ goal_terms scope steps ++ goal_terms scope others
goal_terms-append scope steps others =
    ap (λ xs. map (expansion_at scope) (goals_of xs)) (map-append step_of steps others)
    ∙ ap (map (expansion_at scope)) (filter_map-append (λ (step : StepTree). step.goal) (map step_of steps) (map step_of others))
    ∙ map-append (expansion_at scope) (goals_of (map step_of steps)) (goals_of (map step_of others))

pub all_front : {X : Type 0} (P : X → Type 0) (xs ys : List X) → All P (xs ++ ys) → All P xs
all_front P [] ys h = All-nil P
all_front P (x ∷ xs) ys h = All-cons P x xs (All-head P x (xs ++ ys) h) (all_front P xs ys (All-tail P x (xs ++ ys) h))

pub all_behind : {X : Type 0} (P : X → Type 0) (xs ys : List X) → All P (xs ++ ys) → All P ys
all_behind P [] ys h = h
all_behind P (x ∷ xs) ys h = all_behind P xs ys (All-tail P x (xs ++ ys) h)

-- terms that don't fit don't fit with others behind them
pub fit_front : (before : ℕ) (xs ys : List Morphism) → FitBehind before (xs ++ ys) → FitBehind before xs
fit_front before xs ys fit =
    let together = fit.together in
    record { each = all_front IsWithinLimits xs ys fit.each; together = omega (arith, sum_by-append size_of xs ys) }

-- sums add up
pub sum_more : (before sum : ℕ) (xs ys : List Morphism) (result : Option ℕ) → IsSum before xs (Some sum) → IsSum sum ys result → IsSum before (xs ++ ys) result
sum_more before sum xs ys (Some more) first next =
    let append = sum_by-append size_of xs ys in
    let together = next.0.together in
    let is = next.1 in
    let was = first.1 in
    (record { each = All-append IsWithinLimits xs ys first.0.each next.0.each; together = omega arith }, omega arith)
sum_more before sum xs ys None first next = λ fit.
    let append = sum_by-append size_of xs ys in
    let was = first.1 in
    let together = fit.together in
    next (record { each = all_behind IsWithinLimits xs ys fit.each; together = omega arith })

-- the sum over the steps so far
pub sum_step : (scope : Scope) (before sum : ℕ) (steps : List StepAst) (k : ℕ) (step : StepAst) (result : Option ℕ) → k < length steps → step ≡ slice_index_or steps k step
    → IsSum before (goal_terms scope (take k steps)) (Some sum) → IsSum sum (goal_terms scope (step ∷ [])) result → IsSum before (goal_terms scope (take (k + 1) steps)) result
sum_step scope before sum steps k step result within is so_far next =
    subst (λ terms. IsSum before terms result) (sym (ap (goal_terms scope) (take_more steps k step within is) ∙ goal_terms-append scope (take k steps) (step ∷ [])))
    (sum_more before sum (goal_terms scope (take k steps)) (goal_terms scope (step ∷ [])) result so_far next)

-- where a step doesn't fit, all steps don't
pub sum_stops : (scope : Scope) (before sum : ℕ) (steps : List StepAst) (k : ℕ) (step : StepAst) → k < length steps → step ≡ slice_index_or steps k step
    → IsSum before (goal_terms scope (take k steps)) (Some sum) → IsSum sum (goal_terms scope (step ∷ [])) None → IsSum before (goal_terms scope steps) None
sum_stops scope before sum steps k step within is so_far next = λ fit.
    sum_step scope before sum steps k step None within is so_far next
    (fit_front before (goal_terms scope (take (k + 1) steps)) (goal_terms scope (drop (k + 1) steps))
    (subst (FitBehind before) (ap (goal_terms scope) (sym (take-append-drop (k + 1) steps)) ∙ goal_terms-append scope (take (k + 1) steps) (drop (k + 1) steps)) fit))

-- a statement is small exactly where its terms have a sum
abbrev pub IsDecided : List ℕ → Scope → Ast → Bool → Type 0
IsDecided home scope ast small =
    (IsTrue small → AreWithinLimits (statement_of ast) (terms_in home scope (statement_of ast))) × (AreWithinLimits (statement_of ast) (terms_in home scope (statement_of ast)) → IsTrue small)

decided : (home : List ℕ) (scope : Scope) (ast : Ast) (sum : Option ℕ) → HasFewPorts (statement_of ast) → IsSum 0 (terms_in home scope (statement_of ast)) sum → IsDecided home scope ast (is_some sum)
decided home scope ast (Some sum) few is =
    (λ t. record { ports = few; each = is.0.each; together = let h = is.0.together in omega arith }, λ small. refl)
decided home scope ast None few is =
    (λ t. absurd (true≢false (sym t)), λ small. absurd (is (record { each = small.each; together = let h = small.together in omega arith })))

pub let_decided : (home : List ℕ) (scope : Scope) (ast : Ast) (name : ℕ) (tree : TermAst) (sum : Option ℕ) → ast ≡ LetDecl name tree → IsSum 0 (expansion_at scope (tree_of tree) ∷ []) sum
    → IsDecided home scope ast (is_some sum)
let_decided home scope ast name tree sum e is = subst (λ a. IsDecided home scope a (is_some sum)) (sym e) (decided home scope (LetDecl name tree) sum tt is)

pub rule_decided : (home : List ℕ) (scope : Scope) (ast : Ast) (name : ℕ) (left : TermAst) (equals : ℕ) (right : TermAst) (sum : Option ℕ) → ast ≡ RuleDecl name left equals right
    → IsSum 0 (expansion_at scope (tree_of left) ∷ expansion_at scope (tree_of right) ∷ []) sum → IsDecided home scope ast (is_some sum)
rule_decided home scope ast name left equals right sum e is = subst (λ a. IsDecided home scope a (is_some sum)) (sym e) (decided home scope (RuleDecl name left equals right) sum tt is)

pub rewrite_decided : (home : List ℕ) (scope : Scope) (ast : Ast) (name : ℕ) (first : TermAst) (steps items : List StepAst) (sum : Option ℕ) → ast ≡ RewriteDecl name first steps → items ≡ steps
    → IsSum 0 (expansion_at scope (tree_of first) ∷ goal_terms scope items) sum → IsDecided home scope ast (is_some sum)
rewrite_decided home scope ast name first steps items sum e same is =
    subst (λ a. IsDecided home scope a (is_some sum)) (sym e)
    (decided home scope (RewriteDecl name first steps) sum tt (subst (λ xs. IsSum 0 (expansion_at scope (tree_of first) ∷ goal_terms scope xs) sum) same is))
