-- The names that trees and statements use.
use Rattle.std.proofs.Common.{◌≡◌, ℕ, List, [], ◌∷◌, ◌++◌, map, flat_map, Option, None, Some, refl, sym, ap, ◌∙◌, slice_get}
use Rattle.std.specs.List.{filter_map}
use Rattle.std.proofs.lemmas.List.{map-append}
use Rattle.std.proofs.lemmas.List.Elements.{filter_map-append}
use Rattle.chyp_syntax.specs.declared.term.TermAst.{TermAst}
use Rattle.chyp_syntax.specs.declared.term.TermAst.TheVariants.{Chain, Beside}
use Rattle.chyp_syntax.specs.declared.step.ReasonAst.TheVariants.{Plain}
use Rattle.chyp_syntax.specs.declared.step.SignedAst.{SignedAst}
use Rattle.chyp_syntax.specs.declared.step.StepAst.{StepAst}
use Rattle.chyp_syntax.specs.Step.{StepTree, step_of}
use Rattle.chyp_syntax.specs.Term.{TermTree, terms_of, tree_of}
use Rattle.chyp_syntax.proofs.Trees.{tree_of-Chain, tree_of-Beside}
use Rattle.chyp_names.specs.Naming.{Use, in_term, in_reason, names_in, names_in_all, names_of_reason, uses_in, uses_in_goal, uses_in_step, uses_of, unproved_use, first_unproved}
use Rattle.chyp_names.specs.Faults.{first_unproved_among}
use Rattle.chyp_syntax.specs.Statement.{rule as a_rule, statement_of}
use Rattle.chyp_syntax.specs.declared.statement.Ast.{Ast}
use Rattle.chyp_syntax.specs.declared.statement.Ast.TheVariants.{GenDecl, LetDecl, RuleDecl, RewriteDecl, ImportDecl, ShowDecl}
use Rattle.chyp_env.specs.Scope.{Scope}

-- the names of a part
abbrev pub part_uses : TermAst → List Use
part_uses part = uses_in (tree_of part)

uses_in_parts : (parts : List TermAst) → map in_term (names_in_all (terms_of (map tree_of parts))) ≡ flat_map part_uses parts
uses_in_parts [] = refl
uses_in_parts (part ∷ parts) =
    map-append in_term (names_in (tree_of part)) (names_in_all (terms_of (map tree_of parts))) ∙ ap (λ us. part_uses part ++ us) (uses_in_parts parts)

pub uses_in-Chain : (parts : List TermAst) (semis : List ℕ) → part_uses (Chain parts semis) ≡ flat_map part_uses parts
uses_in-Chain parts semis = ap uses_in (tree_of-Chain parts semis) ∙ uses_in_parts parts

pub uses_in-Beside : (parts : List TermAst) → part_uses (Beside parts) ≡ flat_map part_uses parts
uses_in-Beside parts = ap uses_in (tree_of-Beside parts) ∙ uses_in_parts parts

-- the name of a rule
abbrev pub rule_uses : SignedAst → List Use
rule_uses rule = in_reason rule.name ∷ []

pub uses_of_rules : (rules : List SignedAst) → map in_reason (map (λ rule. rule.name) rules) ≡ flat_map rule_uses rules
uses_of_rules [] = refl
uses_of_rules (rule ∷ rules) = ap (λ us. in_reason rule.name ∷ us) (uses_of_rules rules)

-- the names of a step
abbrev pub step_uses : StepAst → List Use
step_uses step = uses_in_step (step_of step)

pub uses_of_steps : (steps : List StepAst) → flat_map uses_in_step (map step_of steps) ≡ flat_map step_uses steps
uses_of_steps [] = refl
uses_of_steps (step ∷ steps) = ap (λ us. step_uses step ++ us) (uses_of_steps steps)

-- no name of a term rests on a rewrite
pub unproved_in_tree : (scope : Scope) (names : List ℕ) → filter_map (unproved_use scope) (map in_term names) ≡ []
unproved_in_tree scope [] = refl
unproved_in_tree scope (name ∷ names) = unproved_in_tree scope names

pub unproved_in_goal : (scope : Scope) (goal : Option TermTree) → filter_map (unproved_use scope) (uses_in_goal goal) ≡ []
unproved_in_goal scope None = refl
unproved_in_goal scope (Some tree) = unproved_in_tree scope (names_in tree)

pub unproved_in_step : (scope : Scope) (step : StepTree)
    → filter_map (unproved_use scope) (uses_in_step step) ≡ filter_map (unproved_use scope) (map in_reason (names_of_reason step.reason))
unproved_in_step scope step =
    filter_map-append (unproved_use scope) (uses_in_goal step.goal) (map in_reason (names_of_reason step.reason))
    ∙ ap (λ vs. vs ++ filter_map (unproved_use scope) (map in_reason (names_of_reason step.reason))) (unproved_in_goal scope step.goal)

pub unproved_of_rewrite : (scope : Scope) (first : TermTree) (uses : List Use)
    → filter_map (unproved_use scope) (uses_in first ++ uses) ≡ filter_map (unproved_use scope) uses
unproved_of_rewrite scope first uses =
    filter_map-append (unproved_use scope) (uses_in first) uses ∙ ap (λ vs. vs ++ filter_map (unproved_use scope) uses) (unproved_in_tree scope (names_in first))

pub uses_of_chain : (tree : TermAst) (parts items : List TermAst) (semis : List ℕ) → tree ≡ Chain parts semis → items ≡ parts → part_uses tree ≡ flat_map part_uses items
uses_of_chain tree parts items semis is same = ap part_uses is ∙ uses_in-Chain parts semis ∙ ap (flat_map part_uses) (sym same)

pub uses_of_tensor : (tree : TermAst) (parts items : List TermAst) → tree ≡ Beside parts → items ≡ parts → part_uses tree ≡ flat_map part_uses items
uses_of_tensor tree parts items is same = ap part_uses is ∙ uses_in-Beside parts ∙ ap (flat_map part_uses) (sym same)

-- nor does a rule
unproved_in_rule : (scope : Scope) (name : ℕ) (left : TermTree) (equals : ℕ) (right : TermTree) → filter_map (unproved_use scope) (uses_of (a_rule name left equals right)) ≡ []
unproved_in_rule scope name left equals right =
    let step : StepTree = record { equals = equals; goal = Some right; reason = Plain } in
    unproved_of_rewrite scope left (flat_map uses_in_step (step ∷ [])) ∙ filter_map-append (unproved_use scope) (uses_in_step step) []
    ∙ ap (λ vs. vs ++ []) (unproved_in_step scope step)

-- only a rewrite rests on rewrites
pub unproved_elsewhere : (scope : Scope) (ast : Ast) → ((name : ℕ) (first : TermAst) (steps : List StepAst) → ¬ (ast ≡ RewriteDecl name first steps))
    → None ≡ first_unproved scope (statement_of ast)
unproved_elsewhere scope (GenDecl name dom cod) h = refl
unproved_elsewhere scope (LetDecl name tree) h = sym (ap (λ vs. slice_get vs 0) (unproved_of_rewrite scope (tree_of tree) []))
unproved_elsewhere scope (RuleDecl name left equals right) h =
    sym (ap (λ vs. slice_get vs 0) (unproved_in_rule scope name (tree_of left) equals (tree_of right)))
unproved_elsewhere scope (RewriteDecl name first steps) h = absurd (h name first steps refl)
unproved_elsewhere scope (ImportDecl imported prefix) h = refl
unproved_elsewhere scope (ShowDecl name) h = refl

-- those of a rewrite are those of its steps
pub unproved_of_steps : (scope : Scope) (ast : Ast) (name : ℕ) (first : TermAst) (steps items : List StepAst) → ast ≡ RewriteDecl name first steps → items ≡ steps
    → first_unproved_among scope (flat_map uses_in_step (map step_of items)) ≡ first_unproved scope (statement_of ast)
unproved_of_steps scope ast name first steps items is same =
    ap (λ xs. first_unproved_among scope (flat_map uses_in_step (map step_of xs))) same
    ∙ sym (ap (λ vs. slice_get vs 0) (unproved_of_rewrite scope (tree_of first) (flat_map uses_in_step (map step_of steps))))
    ∙ ap (λ a. first_unproved scope (statement_of a)) (sym is)
