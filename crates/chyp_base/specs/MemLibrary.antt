-- What contracts see of a library in memory.
use Rattle.std.specs.Prelude.{ℕ, List, Option, find}
use Rattle.std.specs.Option.{option_map}
use Rattle.std.specs.Str.{bytes_eq}

-- the names with their texts, the numbers of the calls that fail, and how many calls and faults there were
pub record LibraryState : Type 0 where
  pub modules : List (List ℕ × List ℕ)
  pub failing : List ℕ
  pub calls : ℕ
  pub faults : ℕ

-- the text that goes with the name, of the first pair that has it
abbrev pub text_of : List (List ℕ × List ℕ) → List ℕ → Option (List ℕ)
text_of modules name = option_map (λ m. m.1) (find (λ m. bytes_eq m.0 name) modules)
