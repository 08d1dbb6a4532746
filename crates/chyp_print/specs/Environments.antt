-- Terms that are printed with the names of an environment.
use Rattle.std.specs.Prelude.{◌≡◌, ℕ, ◌≤◌, Bool, false, ◌&&◌, List, [], Option, Some, find, length}
use Rattle.std.specs.Cmp.Lexicographic.{pointwise}
use Rattle.std.specs.Option.{option_map_or}
use Rattle.std.specs.Str.{bytes_eq}
use Rattle.chyp_base.specs.declared.sort.Sort.{Sort}
use Rattle.chyp_base.specs.Sort.{same_sort}
use Rattle.chyp_syntax.specs.Sentence.{most_nested}
use Rattle.chyp_term.specs.Derivation.{empty}
use Rattle.chyp_term.specs.Measure.{depth_of}
use Rattle.chyp_term.specs.Morphism.{Morphism, generator, permutation, then, beside, IsTyped}
use Rattle.chyp_env.specs.Closed.{HasBoundGenerators, IsClosed}
use Rattle.chyp_env.specs.Environment.{Binding, Sense, generator as a_generator, binding_of}
use Rattle.chyp_env.specs.Expansion.{plain_wires}
use Rattle.chyp_env.specs.Scope.{term_of}
use Rattle.chyp_env.specs.Sound.{IsSound}
use Rattle.chyp_print.specs.Printing.{Naming, printed_by}
use Rattle.chyp_print.specs.Reading.{CanBePrinted}

-- a name stands for the generator of this name and type
abbrev pub is_generator : List ℕ → List Sort → List Sort → Sense → Bool
is_generator name a b (a_generator n c d) = bytes_eq name n && (pointwise same_sort a c && pointwise same_sort b d)
is_generator name a b _ = false

-- the first binding whose name stands for the generator
abbrev pub first_binding : List Binding → List ℕ → List Sort → List Sort → Option Binding
first_binding env n a b = find (λ binding. is_generator n a b binding.sense) env

-- each generator by the first name that stands for it
abbrev pub first_names : List Binding → Naming
first_names env n a b = option_map_or (λ binding. binding.name) (first_binding env n a b) []

-- the text of a term in an environment
abbrev pub printed : List Binding → Morphism → List ℕ
printed env t = printed_by (first_names env) t

-- the term that a name stands for in an environment
abbrev pub meaning_in : List Binding → List ℕ → Morphism
meaning_in env name = option_map_or (λ binding. term_of binding.sense) (binding_of env name) empty

-- the wires of the term's permutations are plain
abbrev pub HasPlainPermutations : Morphism → Type 0
HasPlainPermutations (generator n a b) = Unit {0}
HasPlainPermutations (permutation a p) = a ≡ plain_wires (length a)
HasPlainPermutations (then s t) = HasPlainPermutations s × HasPlainPermutations t
HasPlainPermutations (beside s t) = HasPlainPermutations s × HasPlainPermutations t

-- what is asked of a term that is printed in an environment: it is typed, its permutations are of plain wires, each of its
-- generators has a binding, and it is at most 256 deep
pub record CanBePrintedIn (env : List Binding) (t : Morphism) : Type 0 where
  pub typed : IsTyped t
  pub plain : HasPlainPermutations t
  pub bound : HasBoundGenerators env t
  pub shallow : depth_of t ≤ most_nested

-- in a sound and closed environment the first names of its generators mean them, so the text of a term is read back
abbrev pub NamesMeanGenerators : Type 0
NamesMeanGenerators = (env : List Binding) (t : Morphism) → IsSound env → IsClosed env → CanBePrintedIn env t
    → CanBePrinted (first_names env) (meaning_in env) t
