-- What contracts see of a search for all occurrences.
use Rattle.std.specs.Prelude.{ℕ, ◌+◌, ◌<◌, ◌≤◌, ◌≡◌, Bool, true, false, cond, eqb, nat_lt, List, [], ◌∷◌, length, filter}
use Rattle.std.specs.Prelude.{Option, Some, None, slice_get, slice_index}
use Rattle.chyp_graph.specs.PlainGraph.{PlainGraph}
use Rattle.chyp_pattern.specs.Pattern.{Parts}
use Rattle.chyp_pattern.specs.Occurrences.{AreOccurrences}
use Rattle.chyp_pattern.specs.declared.occurrence.Occurrence.{Occurrence}
use Rattle.chyp_pattern.proofs.Listed.{listed}
use Rattle.chyp_match.specs.Reach.{IsReach}
use Rattle.chyp_pairs.specs.Pairs.{IsMatching, edge_there, image, wire_there}
use Rattle.chyp_match.specs.Search.{IsEarlier, IsPast, IsSearch, chosen, images_of}
use Rattle.chyp_match.specs.declared.finder.Finder.{Finder}

-- a pattern, a graph, and how many of the occurrences of the one in the other were given so far
pub record Matcher : Type 0 where
  pub pattern : Parts
  pub graph : PlainGraph
  pub given : ℕ

-- the first list comes before the second in lexicographic order
abbrev pub is_less : List ℕ → List ℕ → Bool
is_less [] [] = false
is_less [] (y ∷ ys) = true
is_less (x ∷ xs) [] = false
is_less (x ∷ xs) (y ∷ ys) = cond (nat_lt x y) true (cond (eqb x y) (is_less xs ys) false)

-- the second list begins with the first
abbrev pub begins_with : List ℕ → List ℕ → Bool
begins_with [] xs = true
begins_with (n ∷ ns) [] = false
begins_with (n ∷ ns) (x ∷ xs) = cond (eqb n x) (begins_with ns xs) false

-- images come before those of a search, or they are among them where it has begun
abbrev pub is_past : Bool → List ℕ → List ℕ → Bool
is_past begun at xs = cond (is_less xs at) true (cond begun (begins_with at xs) false)

-- of all occurrences, those that a search is past
abbrev pub given_of : Parts → PlainGraph → Bool → List ℕ → List Occurrence
given_of l g begun at = filter (λ o. is_past begun at (images_of l o)) (listed l.graph g)

-- how many occurrences were given
abbrev pub given_by : Finder → ℕ
given_by f = length (given_of f.pattern.now f.graph.now f.begun (chosen f.search.levels.levels))

-- the search, what leads to what as far as it is known, and room for the images of all edges and wires
pub record IsFinder (f : Finder) : Type 0 where
  pub search : IsSearch f.pattern.now f.graph.now f.search
  pub reach : IsReach f.graph.now f.reach
  pub edges : length f.found.edges ≡ length f.pattern.now.graph.edges
  pub wires : length f.found.wires ≡ length f.pattern.now.graph.wires

-- the same of the same pattern in the same graph
pub record IsSame (f h : Finder) : Type 0 where
  pub pattern : h.pattern.now ≡ f.pattern.now
  pub graph : h.graph.now ≡ f.graph.now

-- the next occurrence is found
pub record IsNext (f h : Finder) : Type 0 where
  pub is : slice_get (listed f.pattern.now.graph f.graph.now) (given_by f) ≡ Some h.found
  pub given : given_by h ≡ given_by f + 1

-- all occurrences were given
pub record IsDone (f h : Finder) : Type 0 where
  pub before : given_by f ≡ length (listed f.pattern.now.graph f.graph.now)
  pub after : given_by h ≡ given_by f

-- the occurrence is one that the search is past
abbrev pub IsPassedIn : Parts → Bool → List ℕ → Occurrence → Type 0
IsPassedIn l false at o = IsEarlier l at o
IsPassedIn l true at o = IsPast l at o

abbrev pub IsPassedBy : Finder → Occurrence → Type 0
IsPassedBy f = IsPassedIn f.pattern.now f.begun (chosen f.search.levels.levels)

-- the images of the edges and wires that are in pairs are kept
pub record AreImages (f : Finder) : Type 0 where
  pub edge_count : length f.found.edges ≡ length f.pattern.now.graph.edges
  pub wire_count : length f.found.wires ≡ length f.pattern.now.graph.wires
  pub edges : (k x : ℕ) → k < length f.pattern.now.graph.edges → image edge_there f.search.pairing.pairs k ≡ Some x
      → slice_index f.found.edges k ≡ x
  pub wires : (w x : ℕ) → w < length f.pattern.now.graph.wires → image wire_there f.search.pairing.pairs w ≡ Some x
      → slice_index f.found.wires w ≡ x
  pub matching : IsMatching f.search.pairing.pairs

-- the matcher after its next answer
abbrev pub after : {O : Type 0} → Matcher → Option O → Matcher
after m None = m
after m (Some o) = record m { given = m.given + 1 }

-- the answer is the next of all occurrences, where there is one
abbrev pub GivesNext : Matcher → Occurrence → Type 0
GivesNext m o = (os : List Occurrence) → AreOccurrences m.pattern.graph m.graph os → slice_get os m.given ≡ Some o

-- all occurrences were given
abbrev pub HasGivenAll : Matcher → Type 0
HasGivenAll m = (os : List Occurrence) → AreOccurrences m.pattern.graph m.graph os → length os ≤ m.given
