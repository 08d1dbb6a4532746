-- What refuses a statement.
use Rattle.std.proofs.Common.{◌≡◌, ℕ, false, List, [], ◌∷◌, map, Option, None, Some, refl, sym, ap, ap₂, ◌∙◌, ◌||◌}
use Rattle.std.specs.Prelude.{is_none, option_map}
use Rattle.std.specs.List.{list_any}
use Rattle.chyp_base.specs.declared.verdict.Verdict.{Verdict}
use Rattle.chyp_syntax.specs.declared.statement.Ast.{Ast}
use Rattle.chyp_syntax.specs.declared.statement.Ast.TheVariants.{RewriteDecl}
use Rattle.chyp_syntax.specs.declared.step.StepAst.{StepAst}
use Rattle.chyp_syntax.specs.declared.term.TermAst.{TermAst}
use Rattle.chyp_syntax.specs.Statement.{StatementTree, statement_of}
use Rattle.chyp_syntax.specs.Step.{step_of}
use Rattle.chyp_syntax.specs.Term.{tree_of}
use Rattle.chyp_env.specs.Scope.{is_declared}
use Rattle.chyp_env.specs.Site.{Site}
use Rattle.chyp_names.specs.Elaboration.{IsRefused, import_fault, has_hole, mistyped, unproved, terms_of}
use Rattle.chyp_names.specs.Limits.{AreWithinLimits}
use Rattle.chyp_names.specs.Refusal.{IsRefusedByTerms}
use Rattle.chyp_names.specs.Refusal as here
use Rattle.chyp_names.specs.Naming.{first_fault}

is_none-map : (goal : Option TermAst) → is_none (option_map tree_of goal) ≡ is_none goal
is_none-map None = refl
is_none-map (Some tree) = refl

holes : (steps : List StepAst) → list_any (λ step. is_none step.goal) (map step_of steps) ≡ list_any (λ (step : StepAst). is_none step.goal) steps
holes [] = refl
holes (step ∷ steps) = ap₂ (λ a b. a || b) (is_none-map step.goal) (holes steps)

-- a rewrite has a hole where one of its steps is one
pub hole_of_rewrite : (ast : Ast) (name : ℕ) (first : TermAst) (steps items : List StepAst) → ast ≡ RewriteDecl name first steps → items ≡ steps
    → list_any (λ (step : StepAst). is_none step.goal) items ≡ has_hole (statement_of ast)
hole_of_rewrite ast name first steps items is same =
    ap (list_any (λ (step : StepAst). is_none step.goal)) same ∙ sym (holes steps) ∙ ap (λ a. has_hole (statement_of a)) (sym is)

-- what refuses a statement by its terms refuses it where it stands
pub refused_by_terms : (site : Site) (tree : StatementTree) (verdict : Verdict) → is_declared site.scope ≡ false → import_fault site tree ≡ None
    → first_fault site.scope tree ≡ None → AreWithinLimits tree (terms_of site tree) → IsRefusedByTerms site.scope tree verdict → IsRefused site tree verdict
refused_by_terms site tree verdict fresh fits known small (here.mistyped fails) = mistyped fresh fits known small fails
refused_by_terms site tree verdict fresh fits known small (here.unproved hold is) = unproved fresh fits known small hold is
