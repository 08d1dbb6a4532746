-- What holds of every environment.
use Rattle.std.specs.Prelude.{◌≡◌, ◌≤◌, false, List, [], ◌∷◌, length, All}
use Rattle.chyp_term.specs.Derivation.{IsEquation}
use Rattle.chyp_term.specs.Morphism.{IsTyped}
use Rattle.chyp_env.specs.Environment.{Sense, generator, abbreviation, equation, unproved, broken, Binding, is_bound}
use Rattle.chyp_term.specs.Limits.{IsWithinLimits, most_ports}

-- terms are typed and within the limits, the two of an equation have one type, and generators have few ports
abbrev pub IsSoundSense : Sense → Type 0
IsSoundSense (generator name dom cod) = (length dom ≤ most_ports) × (length cod ≤ most_ports)
IsSoundSense (abbreviation term) = IsTyped term × IsWithinLimits term
IsSoundSense (equation first last) = IsEquation first last × IsWithinLimits first × IsWithinLimits last
IsSoundSense unproved = Unit {0}
IsSoundSense broken = Unit {0}

-- no name is bound again behind its binding
abbrev pub HasDistinctNames : List Binding → Type 0
HasDistinctNames [] = Unit {0}
HasDistinctNames (binding ∷ rest) = (is_bound rest binding.name ≡ false) × HasDistinctNames rest

-- each name has one binding, and what it stands for is sound
pub record IsSound (env : List Binding) : Type 0 where
  pub each : All (λ binding. IsSoundSense binding.sense) env
  pub distinct : HasDistinctNames env
