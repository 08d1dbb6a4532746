-- What runs of rules are: each has one end, and each rewrite is one in a context.
use Rattle.std.specs.Prelude.{◌≡◌, List, All, Contains}
use Rattle.chyp_term.specs.Derivation.{Derives, IsEquation}
use Rattle.chyp_term.specs.Limits.{IsWithinLimits}
use Rattle.chyp_term.specs.Morphism.{IsTyped, Morphism}
use Rattle.chyp_term.specs.Rewriting.{RewritesInContext}
use Rattle.chyp_graph.specs.GraphOf.{graph_of}
use Rattle.chyp_graph.specs.PlainGraph.{PlainGraph, input_sorts, output_sorts}
use Rattle.chyp_graph.specs.Validity.{IsValid}
use Rattle.chyp_extract.specs.Extraction.{extracted}
use Rattle.chyp_simp.specs.declared.ending.Ending.{Ending}
use Rattle.chyp_simp.specs.declared.ending.Ending.TheVariants.{NormalForm}
use Rattle.chyp_simp.specs.Run.{Ends, Rewrites, Rule, rules_of}

-- both sides are typed and have one type
abbrev pub AreEquations : List (Morphism × Morphism) → Type 0
AreEquations equations = All (λ e. IsEquation e.0 e.1) equations

-- the equation can be used: both sides are typed, have one type, and are within the limits on one term
abbrev pub IsUsable : Morphism × Morphism → Type 0
IsUsable equation = IsEquation equation.0 equation.1 × IsWithinLimits equation.0 × IsWithinLimits equation.1

abbrev pub AreUsable : List (Morphism × Morphism) → Type 0
AreUsable equations = All IsUsable equations

-- the run from g has exactly one end
pub record HasOneEnd (rules : List Rule) (g : PlainGraph) : Type 0 where
  pub ending : Ending
  pub ends : Ends rules g ending
  pub only : (other : Ending) → Ends rules g other → other ≡ ending

-- so has each run
abbrev pub EachRunHasOneEnd : Type 0
EachRunHasOneEnd = (equations : List (Morphism × Morphism)) (g : PlainGraph) → AreUsable equations → HasOneEnd (rules_of equations) g

-- the graph h is valid, has the type of g, and one of the equations leads, in some context, from the term that is read back
-- from g to the one that is read back from h
pub record LeadsInContext (equations : List (Morphism × Morphism)) (g h : PlainGraph) : Type 0 where
  pub valid : IsValid h
  pub inputs : input_sorts h ≡ input_sorts g
  pub outputs : output_sorts h ≡ output_sorts g
  pub equation : Morphism × Morphism
  pub has : Contains equations equation
  pub context : RewritesInContext equation.0 equation.1 (extracted g) (extracted h)

-- so does each rewrite of a valid graph
abbrev pub RewritesAreInContext : Type 0
RewritesAreInContext = (equations : List (Morphism × Morphism)) (g h : PlainGraph) → AreEquations equations → IsValid g
    → Rewrites (rules_of equations) g h → LeadsInContext equations g h

-- a typed term and what is read back from its normal form have a derivation from the equations
abbrev pub NormalFormsAreDerived : Type 0
NormalFormsAreDerived = (equations : List (Morphism × Morphism)) (t : Morphism) (h : PlainGraph) → AreEquations equations → IsTyped t
    → Ends (rules_of equations) (graph_of t) (NormalForm h) → Derives equations t (extracted h)
