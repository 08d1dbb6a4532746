-- Environments: what names stand for.
use Rattle.std.specs.Prelude.{ℕ, Bool, List, Option, find, is_some}
use Rattle.std.specs.Str.{bytes_eq}
use Rattle.chyp_base.specs.declared.sort.Sort.{Sort}
use Rattle.chyp_term.specs.Morphism.{Morphism}

-- What a name stands for: a generator, by its name in terms and its type; a term; an equation, from its first side to its last;
-- a rewrite that is not proved; or a `gen`, `let` or `rule` that was refused.
pub data Sense : Type 0 where
  generator : (name : List ℕ) (dom cod : List Sort) → Sense
  abbreviation : (term : Morphism) → Sense
  equation : (first last : Morphism) → Sense
  unproved : Sense
  broken : Sense

-- the statement that a name comes from: the name of its module, empty for the main text, and its number there
pub record Origin : Type 0 where
  pub home : List ℕ
  pub number : ℕ

-- a name, the statement that it comes from, and what the name stands for
pub record Binding : Type 0 where
  pub name : List ℕ
  pub origin : Origin
  pub sense : Sense

-- the binding of a name, None where it has none
abbrev pub binding_of : List Binding → List ℕ → Option Binding
binding_of env name = find (λ b. bytes_eq name b.name) env

-- whether a name has a binding
abbrev pub is_bound : List Binding → List ℕ → Bool
is_bound env name = is_some (binding_of env name)
