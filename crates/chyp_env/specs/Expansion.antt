-- The term that a tree stands for, which has no limits.
use Rattle.std.specs.Prelude.{ℕ, List, [], ◌∷◌, length, replicate, None, Some}
use Rattle.chyp_base.specs.declared.sort.Sort.{Sort}
use Rattle.chyp_base.specs.Sort.{plain}
use Rattle.chyp_syntax.specs.Term.{TermTree, TermTrees, named, wire, empty as no_wire, swap, chain, beside as tensor, no_terms, term}
use Rattle.chyp_term.specs.Morphism.{Morphism, permutation, then, beside}
use Rattle.chyp_term.specs.Halving.{halved}

-- n plain wires
abbrev pub plain_wires : ℕ → List Sort
plain_wires n = replicate n plain

-- the places are those of plain wires
abbrev pub plain_permutation : List ℕ → Morphism
plain_permutation places = permutation (plain_wires (length places)) places

abbrev mutual
  -- The term of a tree, where `meaning` is the term that a name stands for, by the number of its token: `id` is one wire,
  -- `id0` none, `sw` crosses two or permutes as its places say, a chain composes its parts, and a tensor puts them side by side.
  pub expansion_in : (ℕ → Morphism) → TermTree → Morphism
  expansion_in meaning (named token) = meaning token
  expansion_in meaning wire = plain_permutation (0 ∷ [])
  expansion_in meaning no_wire = plain_permutation []
  expansion_in meaning (swap token None) = plain_permutation (1 ∷ 0 ∷ [])
  expansion_in meaning (swap token (Some places)) = plain_permutation places
  expansion_in meaning (chain parts semis) = halved then (expansions_in meaning parts)
  expansion_in meaning (tensor parts) = halved beside (expansions_in meaning parts)

  -- the terms of some trees
  pub expansions_in : (ℕ → Morphism) → TermTrees → List Morphism
  expansions_in meaning no_terms = []
  expansions_in meaning (term first rest) = expansion_in meaning first ∷ expansions_in meaning rest
