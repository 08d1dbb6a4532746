-- What graphs say of the monoidal laws, over all terms.
use Rattle.std.specs.Prelude.{[], ◌⊎◌}
use Rattle.chyp_term.specs.Morphism.{Morphism, IsTyped}
use Rattle.chyp_term.specs.Derivation.{Derives}
use Rattle.chyp_graph.specs.GraphOf.{graph_of}
use Rattle.chyp_graph.specs.Isomorphism.{Isomorphic}
use Rattle.chyp_graph.specs.Validity.{IsValid}

-- terms that the laws derive have isomorphic graphs
abbrev pub DerivationsAreIsomorphisms : Type 0
DerivationsAreIsomorphisms = (s t : Morphism) → Derives [] s t → Isomorphic (graph_of s) (graph_of t)

-- typed terms with isomorphic graphs are derived by the laws
abbrev pub IsomorphismsAreDerivations : Type 0
IsomorphismsAreDerivations = (s t : Morphism) → IsTyped s → IsTyped t → Isomorphic (graph_of s) (graph_of t) → Derives [] s t

-- the graph of a typed term is valid
abbrev pub GraphsOfTermsAreValid : Type 0
GraphsOfTermsAreValid = (t : Morphism) → IsTyped t → IsValid (graph_of t)

-- of two typed terms the laws derive the equation, or they don't
abbrev pub LawsAreDecided : Type 0
LawsAreDecided = (s t : Morphism) → IsTyped s → IsTyped t → (Derives [] s t) ⊎ (¬ Derives [] s t)
