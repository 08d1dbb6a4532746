-- Environments that are closed.
use Rattle.std.specs.Prelude.{◌≡◌, ℕ, List, ◌++◌, ◌∷◌, [], Contains, All}
use Rattle.chyp_base.specs.declared.sort.Sort.{Sort}
use Rattle.chyp_lex.specs.Names.{IsNameText}
use Rattle.chyp_term.specs.Morphism.{Morphism, generator as a_generator, permutation, then, beside}
use Rattle.chyp_env.specs.Environment.{Sense, generator, abbreviation, equation, unproved, broken, Binding}

-- a binding of the environment is that of the generator
pub record IsBoundGenerator (env : List Binding) (name : List ℕ) (dom cod : List Sort) : Type 0 where
  pub binding : Binding
  pub has : Contains env binding
  pub is : binding.sense ≡ generator name dom cod

-- so is one for each generator of a term
abbrev pub HasBoundGenerators : List Binding → Morphism → Type 0
HasBoundGenerators env (a_generator name dom cod) = IsBoundGenerator env name dom cod
HasBoundGenerators env (permutation sorts places) = Unit {0}
HasBoundGenerators env (then s t) = HasBoundGenerators env s × HasBoundGenerators env t
HasBoundGenerators env (beside s t) = HasBoundGenerators env s × HasBoundGenerators env t

-- and of all terms that names stand for
abbrev pub HasBoundSense : List Binding → Sense → Type 0
HasBoundSense env (generator name dom cod) = IsBoundGenerator env name dom cod
HasBoundSense env (abbreviation term) = HasBoundGenerators env term
HasBoundSense env (equation first last) = HasBoundGenerators env first × HasBoundGenerators env last
HasBoundSense env unproved = Unit {0}
HasBoundSense env broken = Unit {0}

-- each generator of a term that a name stands for has a binding of its own, and each name is read as one name
pub record IsClosed (env : List Binding) : Type 0 where
  pub generators : All (λ binding. HasBoundSense env binding.sense) env
  pub names : All (λ binding. IsNameText binding.name) env

-- behind these names, one may be bound: it is read as one name, and each generator of the terms that it stands for has a binding
-- then, which may be its own
pub record FitsBehind (env : List Binding) (binding : Binding) : Type 0 where
  pub generators : HasBoundSense (env ++ binding ∷ []) binding.sense
  pub name : IsNameText binding.name
