-- Where a search for occurrences stands.
use Rattle.std.specs.Prelude.{ℕ, ◌+◌, ◌<◌, ◌≤◌, ◌≡◌, ◌⊎◌, ◌↔◌, List, [], ◌∷◌, ◌++◌, length, map, Some}
use Rattle.std.specs.Prelude.{slice_get, slice_index, take}
use Rattle.std.specs.Option.{option_map_or}
use Rattle.chyp_graph.specs.PlainGraph.{PlainGraph}
use Rattle.chyp_pattern.specs.Pattern.{IsPattern, Parts}
use Rattle.chyp_pattern.specs.Occurrence.{IsOccurrence}
use Rattle.chyp_pattern.specs.Occurrences.{IsLess}
use Rattle.chyp_pattern.specs.declared.anchor.Anchor.{Anchor}
use Rattle.chyp_pattern.specs.declared.anchor.Anchor.TheVariants.{Edge as AtEdge, Wire as AtWire}
use Rattle.chyp_pattern.specs.declared.occurrence.Occurrence.{Occurrence}
use Rattle.chyp_pairs.specs.declared.pair.Pair.{Pair}
use Rattle.chyp_pairs.specs.declared.pair.Pair.TheVariants.{Wires, Edges}
use Rattle.chyp_pairs.specs.Pairs.{Has, Pairs}
use Rattle.chyp_iso.specs.Following.{Fits, Leads}
use Rattle.chyp_match.specs.Convex.{IsUnbroken}
use Rattle.chyp_match.specs.Following.{IsComplete}
use Rattle.chyp_match.specs.Listed.{edges_named, wires_sorted}
use Rattle.chyp_match.specs.declared.level.Level.{Level}
use Rattle.chyp_match.specs.declared.search.Search.{Search}

-- an anchor, and the edge or the wire that it goes to
abbrev pub seed_of : Anchor → ℕ → Pair
seed_of (AtEdge k) x = Edges k x
seed_of (AtWire w) x = Wires w x

-- the number of the second item
abbrev pub second : Pair → ℕ
second (Edges e f) = f
second (Wires v w) = w

-- both items are there
abbrev pub AreThere : PlainGraph → PlainGraph → Pair → Type 0
AreThere l g (Edges e f) = (e < length l.edges) × (f < length g.edges)
AreThere l g (Wires v w) = (v < length l.wires) × (w < length g.wires)

-- with which edges of g, of its name, or with which wires of g, of its sort, a component of l that begins with the anchor
-- may begin, in order
abbrev pub choices : PlainGraph → PlainGraph → Anchor → List ℕ
choices l g (AtEdge k) = option_map_or (λ e. edges_named g e.name) (slice_get l.edges k) []
choices l g (AtWire w) = option_map_or (λ sort. wires_sorted g sort.name) (slice_get l.wires w) []

-- the images of the anchors of the components that have images
abbrev pub chosen : List Level → List ℕ
chosen levels = map (λ level. level.image) levels

-- the next component has an image: the pairs that follow from its anchor's have come
pub record IsStep (l : Parts) (g : PlainGraph) (s t : Pairs) (levels : List Level) (level : Level) : Type 0 where
  pub anchor : Anchor
  pub next : slice_get l.anchors (length levels) ≡ Some anchor
  pub place : ℕ
  pub behind : level.next ≡ place + 1
  pub choice : slice_get (choices l.graph g anchor) place ≡ Some level.image
  pub pairs : level.pairs ≡ length s.pairs
  pub leads : Leads l.graph g (seed_of anchor level.image ∷ []) s t
  pub has : Has t.pairs (seed_of anchor level.image)
  pub complete : IsComplete l.graph g t.pairs

-- the pairs are those that follow from the images of the first components
pub data IsPlaced (l : Parts) (g : PlainGraph) : Pairs → List Level → Type 0 where
  start : {s : Pairs} → Fits l.graph g s → s.pairs ≡ [] → IsPlaced l g s []
  step : {s t : Pairs} {levels all : List Level} {level : Level} → IsPlaced l g s levels → IsStep l g s t levels level
      → all ≡ levels ++ level ∷ []
      → IsPlaced l g t all

-- the same of a search, which has room for all components of the pattern
pub record IsSearch (l : Parts) (g : PlainGraph) (s : Search) : Type 0 where
  pub pattern : IsPattern l
  pub placed : IsPlaced l g s.pairing s.levels.levels
  pub room : length l.anchors ≤ s.levels.room

-- where the occurrence takes an anchor
abbrev pub image_of : Occurrence → Anchor → ℕ
image_of o (AtEdge k) = slice_index o.edges k
image_of o (AtWire w) = slice_index o.wires w

-- where the occurrence takes the anchors
abbrev pub images_of : Parts → Occurrence → List ℕ
images_of l o = map (image_of o) l.anchors

-- the list begins with these numbers
abbrev pub BeginsWith : List ℕ → List ℕ → Type 0
BeginsWith [] xs = Unit {0}
BeginsWith (n ∷ ns) [] = ⊥
BeginsWith (n ∷ ns) (x ∷ xs) = (n ≡ x) × BeginsWith ns xs

-- no occurrence that begins with the chosen images takes the next anchor to one of its choices from the one place to
-- before the other
abbrev pub AreRuledOut : Parts → PlainGraph → List ℕ → Anchor → ℕ → ℕ → Type 0
AreRuledOut l g images anchor from to = (o : Occurrence) → IsOccurrence l.graph g o.edges o.wires → BeginsWith images (images_of l o)
    → (j : ℕ) → from ≤ j → j < to → slice_get (choices l.graph g anchor) j ≡ Some (image_of o anchor) → ⊥

-- the occurrence comes before those that begin with the images
abbrev pub IsEarlier : Parts → List ℕ → Occurrence → Type 0
IsEarlier l images o = IsLess (images_of l o) images

-- the occurrence comes before those that begin with the images, or is one of them
abbrev pub IsPast : Parts → List ℕ → Occurrence → Type 0
IsPast l images o = IsEarlier l images o ⊎ BeginsWith images (images_of l o)

-- the lists are the same, or the first comes before the second
abbrev pub IsAtMost : List ℕ → List ℕ → Type 0
IsAtMost xs ys = (xs ≡ ys) ⊎ IsLess xs ys

-- the two hold of the same occurrences
abbrev pub HoldAlike : Parts → PlainGraph → (Occurrence → Type 0) → (Occurrence → Type 0) → Type 0
HoldAlike l g P Q = (o : Occurrence) → IsOccurrence l.graph g o.edges o.wires → P o ↔ Q o

-- the next component has an image, the first of its choices from a place on that an occurrence may take, as far as its
-- ports go
pub record IsTried (l : Parts) (g : PlainGraph) (from : ℕ) (s t : Search) : Type 0 where
  pub search : IsSearch l g t
  pub level : Level
  pub levels : t.levels.levels ≡ s.levels.levels ++ level ∷ []
  pub from_on : from < level.next
  pub before : (anchor : Anchor) (j : ℕ) → slice_get l.anchors (length s.levels.levels) ≡ Some anchor → j + 1 ≡ level.next
      → AreRuledOut l g (chosen s.levels.levels) anchor from j

-- nothing has changed, and no choice from a place on is left
pub record IsExhausted (l : Parts) (g : PlainGraph) (from : ℕ) (s t : Search) : Type 0 where
  pub same : t ≡ s
  pub none : (anchor : Anchor) → slice_get l.anchors (length s.levels.levels) ≡ Some anchor
      → AreRuledOut l g (chosen s.levels.levels) anchor from (length (choices l.graph g anchor))

-- the last level is gone, with its pairs
pub record IsDropped (level : Level) (s t : Search) : Type 0 where
  pub levels : s.levels ≡ record t.levels { levels = t.levels.levels ++ level ∷ [] }
  pub pairing : t.pairing ≡ record s.pairing { pairs = take level.pairs s.pairing.pairs }

-- those with the property are the occurrences that come before the ones that begin with the images of the search
pub record IsMoved (l : Parts) (g : PlainGraph) (P : Occurrence → Type 0) (t : Search) : Type 0 where
  pub search : IsSearch l g t
  pub alike : HoldAlike l g P (IsEarlier l (chosen t.levels.levels))

-- all occurrences have the property, and no image is left
pub record IsOver (l : Parts) (g : PlainGraph) (P : Occurrence → Type 0) (t : Search) : Type 0 where
  pub search : IsSearch l g t
  pub none : t.levels.levels ≡ []
  pub alike : HoldAlike l g P (IsPast l [])

-- all components have images that an occurrence has, and those with the property are the occurrences that come before it
pub record IsFound (l : Parts) (g : PlainGraph) (P : Occurrence → Type 0) (t : Search) : Type 0 where
  pub moved : IsMoved l g P t
  pub whole : length t.levels.levels ≡ length l.anchors
  pub unbroken : IsUnbroken l.graph g t.pairing.pairs
