-- The list of all occurrences, and how long it is.
use Rattle.std.specs.Prelude.{ℕ, ◌≤◌, ◌≡◌, List, length}
use Rattle.chyp_graph.specs.PlainGraph.{PlainGraph}
use Rattle.chyp_graph.specs.Validity.{IsValid}
use Rattle.chyp_pattern.specs.Pattern.{IsPattern, Parts}
use Rattle.chyp_pattern.specs.Placements.{AreCounts, product}
use Rattle.chyp_pattern.specs.declared.occurrence.Occurrence.{Occurrence}
use Rattle.chyp_pattern.specs.Occurrences.{AreOccurrences}

-- there is one list of the occurrences of l in g, and only one
abbrev pub OccurrencesAreListed : Type 0
OccurrencesAreListed = (l g : PlainGraph)
    → (os : List Occurrence) × (AreOccurrences l g os) × ((ps : List Occurrence) → AreOccurrences l g ps → ps ≡ os)

-- a pattern has no more occurrences in a valid graph than the product that its placements count
abbrev pub OccurrencesAreBounded : Type 0
OccurrencesAreBounded = (l : Parts) (g : PlainGraph) (counts : List ℕ) (os : List Occurrence) → IsPattern l → IsValid g
    → AreCounts l.graph g l.anchors counts → AreOccurrences l.graph g os → length os ≤ product counts
