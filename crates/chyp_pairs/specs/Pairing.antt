-- How the pairs of two graphs are kept.
use Rattle.std.specs.Prelude.{ℕ, suc, ◌+◌, ◌≤◌, ◌≡◌, List, [], ◌∷◌, length, Option, Some, None, slice_get}
use Rattle.std.specs.Option.{option_and_then}
use Rattle.chyp_pairs.specs.declared.pair.Pair.{Pair}
use Rattle.chyp_pairs.specs.Pairs.{IsMatching, edge_back, edge_there, image, wire_back, wire_there}

-- the entry of a table at x
abbrev pub looked_up : List (Option ℕ) → ℕ → Option ℕ
looked_up table x = option_and_then (λ entry. entry) (slice_get table x)

-- how many entries of a table say something
abbrev pub filled : List (Option ℕ) → ℕ
filled [] = 0
filled (None ∷ table) = filled table
filled (Some x ∷ table) = suc (filled table)

-- the tables have the images that the pairs say, and there is room for a pair of each item
pub record IsKept (pairs : List Pair) (wires wires_back edges edges_back : List (Option ℕ)) (room : ℕ) : Type 0 where
  pub matching : IsMatching pairs
  pub wire_images : (v : ℕ) → looked_up wires v ≡ image wire_there pairs v
  pub wire_sources : (w : ℕ) → looked_up wires_back w ≡ image wire_back pairs w
  pub edge_images : (e : ℕ) → looked_up edges e ≡ image edge_there pairs e
  pub edge_sources : (f : ℕ) → looked_up edges_back f ≡ image edge_back pairs f
  pub wires_size : length wires_back ≡ length wires
  pub edges_size : length edges_back ≡ length edges
  pub count : length pairs ≡ filled edges + filled wires
  pub enough : length edges + length wires ≤ room
