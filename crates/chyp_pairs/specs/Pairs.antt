-- Lists of pairs as partial maps of wires and of edges, there and back.
use Rattle.std.specs.Prelude.{ℕ, ◌≡◌, cond, eqb, List, [], ◌∷◌, Option, Some, None, ◌⊎◌}
use Rattle.chyp_pairs.specs.declared.pair.Pair.{Pair}
use Rattle.chyp_pairs.specs.declared.pair.Pair.TheVariants.{Wires, Edges}

-- pairs, and how many edges and wires a graph may have at most
pub record Pairs : Type 0 where
  pub pairs : List Pair
  pub edges : ℕ
  pub wires : ℕ

-- the pair is in the list
abbrev pub Has : List Pair → Pair → Type 0
Has [] p = ⊥
Has (q ∷ qs) p = (q ≡ p) ⊎ Has qs p

-- what a pair says of wires, and of edges: from the first graph to the second, and back
abbrev pub wire_there : Pair → Option (ℕ × ℕ)
wire_there (Wires v w) = Some (v, w)
wire_there (Edges e f) = None

abbrev pub wire_back : Pair → Option (ℕ × ℕ)
wire_back (Wires v w) = Some (w, v)
wire_back (Edges e f) = None

abbrev pub edge_there : Pair → Option (ℕ × ℕ)
edge_there (Wires v w) = None
edge_there (Edges e f) = Some (e, f)

abbrev pub edge_back : Pair → Option (ℕ × ℕ)
edge_back (Wires v w) = None
edge_back (Edges e f) = Some (f, e)

-- the image that an entry says, or else another one
abbrev pub entry_or : Option (ℕ × ℕ) → ℕ → Option ℕ → Option ℕ
entry_or None x other = other
entry_or (Some p) x other = cond (eqb p.0 x) (Some p.1) other

-- the image of x by the first pair that says one
abbrev pub image : (Pair → Option (ℕ × ℕ)) → List Pair → ℕ → Option ℕ
image says [] x = None
image says (p ∷ ps) x = entry_or (says p) x (image says ps x)

-- what the entry is about has no image yet
abbrev pub IsNewIn : Option (ℕ × ℕ) → (ℕ → Option ℕ) → Type 0
IsNewIn None map = Unit {0}
IsNewIn (Some p) map = map p.0 ≡ None

-- no two pairs of the list are about the same item
abbrev pub IsSingle : (Pair → Option (ℕ × ℕ)) → List Pair → Type 0
IsSingle says [] = Unit {0}
IsSingle says (p ∷ ps) = IsNewIn (says p) (image says ps) × IsSingle says ps

-- no wire and no edge of either graph is in two of the pairs
pub record IsMatching (pairs : List Pair) : Type 0 where
  pub wires_there : IsSingle wire_there pairs
  pub wires_back : IsSingle wire_back pairs
  pub edges_there : IsSingle edge_there pairs
  pub edges_back : IsSingle edge_back pairs
