-- What is kept where an occurrence is replaced.
use Rattle.std.specs.Prelude.{ℕ, ◌≡◌, List}
use Rattle.chyp_graph.specs.PlainGraph.{PlainGraph, input_sorts, output_sorts}
use Rattle.chyp_graph.specs.Validity.{IsValid}
use Rattle.chyp_pattern.specs.Occurrence.{IsOccurrence}
use Rattle.chyp_pattern.specs.Replacement.{replaced}
use Rattle.chyp_pattern.specs.Replacement.{IsGraphRule}

-- a graph replaced at an occurrence is valid
abbrev pub ReplacedAreValid : Type 0
ReplacedAreValid = (l r g : PlainGraph) (es ws : List ℕ) → IsGraphRule l r → IsValid g → IsOccurrence l g es ws
    → IsValid (replaced g l r es ws)

-- and has the type that it had
abbrev pub ReplacedKeepTypes : Type 0
ReplacedKeepTypes = (l r g : PlainGraph) (es ws : List ℕ) → IsGraphRule l r → IsValid g → IsOccurrence l g es ws
    → (input_sorts (replaced g l r es ws) ≡ input_sorts g) × (output_sorts (replaced g l r es ws) ≡ output_sorts g)
