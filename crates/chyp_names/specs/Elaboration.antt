-- The terms and steps of a statement, and what refuses it: the first of these points that holds.
use Rattle.std.specs.Prelude.{◌≡◌, ℕ, Bool, true, false, IsTrue, List, [], ◌∷◌, ◌++◌, map, Option, None, Some, option_map, is_none, codes, if◌then◌else◌}
use Rattle.std.specs.List.{list_any}
use Rattle.std.specs.Option.{option_map_or}
use Rattle.chyp_base.specs.declared.verdict.Verdict.{Verdict}
use Rattle.chyp_base.specs.declared.verdict.Verdict.TheVariants.{Declared, NoModule, Cycle, Clash, TooBig, Mistyped, Unproved}
use Rattle.chyp_syntax.specs.declared.step.ReasonAst.{ReasonAst}
use Rattle.chyp_syntax.specs.declared.step.ReasonAst.TheVariants.{Plain, Rule, Simp}
use Rattle.chyp_syntax.specs.declared.step.SignedAst.{SignedAst}
use Rattle.chyp_syntax.specs.Statement.{StatementTree, generator, rewrite, inclusion}
use Rattle.chyp_syntax.specs.Term.{TermTree}
use Rattle.chyp_syntax.specs.Words.{bytes_at}
use Rattle.chyp_term.specs.Derivation.{empty}
use Rattle.chyp_term.specs.Morphism.{Morphism, generator as a_generator}
use Rattle.chyp_term.specs.Step.{Reason, by_laws, by_rule, by_simp, reasons_of}
use Rattle.chyp_env.specs.Environment.{Sense, equation, Binding}
use Rattle.chyp_env.specs.Import.{all_passed_on, first_clash}
use Rattle.chyp_env.specs.Expansion.{expansion_in, plain_wires}
use Rattle.chyp_env.specs.Scope.{Scope, binding_at, is_declared, term_at}
use Rattle.chyp_env.specs.Site.{Imported, nothing, absent, on_cycle, there, Site}
use Rattle.chyp_env.specs.Typing.{Test, AllHold, FailsFirst}
use Rattle.chyp_names.specs.declared.body.Body.{Body}
use Rattle.chyp_names.specs.Limits.{AreWithinLimits}
use Rattle.chyp_names.specs.Naming.{first_fault, first_unproved}
use Rattle.chyp_names.specs.Trees.{steps_of, trees_of}
use Rattle.chyp_names.specs.Typing.{tests_of_statement}

-- the name of a generator in terms: its identifier in the main text, and `MODULE/IDENTIFIER` in a module
abbrev pub generator_name : List ℕ → List ℕ → List ℕ
generator_name [] name = name
generator_name home name = home ++ codes "/" ++ name

-- the term of a tree where the statement stands
abbrev pub expansion_at : Scope → TermTree → Morphism
expansion_at scope tree = expansion_in (term_at scope) tree

-- the terms of a statement in the module of this name: those of its trees, and that of a `gen` is the generator
abbrev pub terms_in : List ℕ → Scope → StatementTree → List Morphism
terms_in home scope (generator name dom cod) =
    a_generator (generator_name home (bytes_at scope.words name)) (plain_wires dom) (plain_wires cod) ∷ []
terms_in home scope tree = map (expansion_at scope) (trees_of tree)

-- those of a statement where it stands
abbrev pub terms_of : Site → StatementTree → List Morphism
terms_of site tree = terms_in site.home site.scope tree

-- the sides of an equation
abbrev pub equation_of_sense : Sense → Morphism × Morphism
equation_of_sense (equation first last) = (first, last)
equation_of_sense _ = (empty, empty)

-- the equation that a name behind a `by` stands for, with its sides exchanged behind a `-`
abbrev pub equation_at : Scope → SignedAst → Morphism × Morphism
equation_at scope signed = directed signed.minus
    (option_map_or (λ binding. equation_of_sense binding.sense) (binding_at scope signed.name) (empty, empty))
  where
    directed : Bool → Morphism × Morphism → Morphism × Morphism
    directed minus sides = if minus then (sides.1, sides.0) else sides

-- what a step rests on
abbrev pub reason_at : Scope → ReasonAst → Reason
reason_at scope Plain = by_laws
reason_at scope (Rule signed) = by_rule (equation_at scope signed)
reason_at scope (Simp rules) = by_simp (map (equation_at scope) rules)

-- what the steps of a rewrite rest on, that of a hole among them
abbrev pub steps_at : Scope → StatementTree → List Reason
steps_at scope (rewrite name first steps) = map (λ step. reason_at scope step.reason) steps
steps_at scope _ = []

-- a step is a hole; the grammar lets only the last one of a rewrite be
abbrev pub has_hole : StatementTree → Bool
has_hole tree = list_any (λ step. is_none step.goal) (steps_of tree)

-- the tests of a statement where it stands
abbrev pub tests_at : Scope → StatementTree → List Test
tests_at scope tree = tests_of_statement (term_at scope) tree

-- the statement is an import
abbrev pub is_import : StatementTree → Bool
is_import (inclusion imported prefix) = true
is_import _ = false

-- the prefix of an import
abbrev pub prefix_at : Scope → Option ℕ → Option (List ℕ)
prefix_at scope token = option_map (bytes_at scope.words) token

-- What is wrong with an import, None where it is in order: its module is absent, or reaches itself, or a name would be bound
-- to a second statement.
abbrev pub fault_of_module : List Binding → Imported → Option (List ℕ) → Option Verdict
fault_of_module env nothing prefix = None
fault_of_module env absent prefix = Some (NoModule 1)
fault_of_module env on_cycle prefix = Some (Cycle 1)
fault_of_module env (there bindings) prefix = option_map Clash (first_clash env (all_passed_on prefix bindings))

-- what is wrong with a statement as an import; one that is no import is in order
abbrev pub import_fault : Site → StatementTree → Option Verdict
import_fault site (inclusion imported prefix) = fault_of_module site.scope.env site.imported (prefix_at site.scope prefix)
import_fault site _ = None

-- nothing refuses the statement
pub record Passes (site : Site) (tree : StatementTree) : Type 0 where
  pub fresh : is_declared site.scope ≡ false
  pub fits : import_fault site tree ≡ None
  pub known : first_fault site.scope tree ≡ None
  pub small : AreWithinLimits tree (terms_of site tree)
  pub typed : AllHold (tests_at site.scope tree)
  pub proved : first_unproved site.scope tree ≡ None

-- The statement is refused with this verdict, that of the first of these points that holds: its name is bound already; it
-- is an import that isn't in order; a name that it uses is at fault; it passes a limit; its terms have no types, or
-- types that don't agree; it rests on a rewrite that is not proved.
pub data IsRefused (site : Site) (tree : StatementTree) : Verdict → Type 0 where
  declared : IsTrue (is_declared site.scope) → IsRefused site tree (Declared 1)
  at_import : {verdict : Verdict} → is_declared site.scope ≡ false → import_fault site tree ≡ Some verdict → IsRefused site tree verdict
  at_name : {verdict : Verdict} → is_declared site.scope ≡ false → import_fault site tree ≡ None
      → first_fault site.scope tree ≡ Some verdict → IsRefused site tree verdict
  too_big : is_declared site.scope ≡ false → import_fault site tree ≡ None → first_fault site.scope tree ≡ None
      → ¬ AreWithinLimits tree (terms_of site tree)
      → IsRefused site tree TooBig
  mistyped : {token : ℕ} → is_declared site.scope ≡ false → import_fault site tree ≡ None → first_fault site.scope tree ≡ None
      → AreWithinLimits tree (terms_of site tree)
      → FailsFirst (tests_at site.scope tree) token → IsRefused site tree (Mistyped token)
  unproved : {token : ℕ} → is_declared site.scope ≡ false → import_fault site tree ≡ None → first_fault site.scope tree ≡ None
      → AreWithinLimits tree (terms_of site tree)
      → AllHold (tests_at site.scope tree) → first_unproved site.scope tree ≡ Some token → IsRefused site tree (Unproved token)

-- a body holds the terms and the steps of the statement, and whether a step is a hole
pub record IsBody (site : Site) (tree : StatementTree) (body : Body) : Type 0 where
  pub terms : body.terms ≡ terms_of site tree
  pub steps : reasons_of body.steps ≡ steps_at site.scope tree
  pub hole : body.hole ≡ has_hole tree
