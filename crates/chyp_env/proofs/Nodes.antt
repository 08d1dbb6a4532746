-- How many nodes trees have.
use Rattle.std.proofs.Common.{◌≡◌, ℕ, zero, suc, ◌+◌, ◌<◌, ◌≤◌, List, [], ◌∷◌, length, take, drop, map, slice_index_or, sym, ap, subst, arith}
use Rattle.chyp_syntax.specs.declared.term.TermAst.{TermAst}
use Rattle.chyp_syntax.specs.declared.term.TermAst.TheVariants.{Chain, Beside}
use Rattle.chyp_syntax.specs.Term.{TermTree, TermTrees, named, wire, empty, swap, chain, beside, no_terms, term, terms_of, tree_of}
use Rattle.chyp_syntax.proofs.Trees.{tree_of-Chain, tree_of-Beside}

abbrev mutual
  -- the nodes of a tree, each `id`, `sw` and name among them
  pub nodes : TermTree → ℕ
  nodes (named token) = 1
  nodes wire = 1
  nodes empty = 1
  nodes (swap token places) = 1
  nodes (chain parts semis) = suc (all_nodes parts)
  nodes (beside parts) = suc (all_nodes parts)

  pub all_nodes : TermTrees → ℕ
  all_nodes no_terms = 0
  all_nodes (term first rest) = nodes first + all_nodes rest

-- the nodes of some terms
abbrev pub nodes_in : List TermAst → ℕ
nodes_in parts = all_nodes (terms_of (map tree_of parts))

pub nodes-Chain : (parts : List TermAst) (semis : List ℕ) → nodes (tree_of (Chain parts semis)) ≡ suc (nodes_in parts)
nodes-Chain parts semis = ap nodes (tree_of-Chain parts semis)

pub nodes-Beside : (parts : List TermAst) → nodes (tree_of (Beside parts)) ≡ suc (nodes_in parts)
nodes-Beside parts = ap nodes (tree_of-Beside parts)

-- a tree has a node
pub some_node : (tree : TermTree) → 1 ≤ nodes tree
some_node (named token) = omega arith
some_node wire = omega arith
some_node empty = omega arith
some_node (swap token places) = omega arith
some_node (chain parts semis) = omega arith
some_node (beside parts) = omega arith

-- a part has no more nodes than all parts
pub part_nodes : (parts : List TermAst) (k : ℕ) (part : TermAst) → k < length parts → part ≡ slice_index_or parts k part → nodes (tree_of part) ≤ nodes_in parts
part_nodes parts k part k-in e = subst (λ (x : TermAst). nodes (tree_of x) ≤ nodes_in parts) (sym e) (at parts k part k-in)
  where
    at : (parts : List TermAst) (k : ℕ) (part : TermAst) → k < length parts → nodes (tree_of (slice_index_or parts k part)) ≤ nodes_in parts
    at [] k part k-in = absurd (omega arith)
    at (p ∷ parts) zero part k-in = omega arith
    at (p ∷ parts) (suc k) part k-in = let h = at parts k part (omega arith) in omega arith

-- the first parts and the rest together have the nodes of all
pub halves_nodes : (k : ℕ) (parts : List TermAst) → nodes_in (take k parts) + nodes_in (drop k parts) ≡ nodes_in parts
halves_nodes zero parts = omega arith
halves_nodes (suc k) [] = omega arith
halves_nodes (suc k) (p ∷ parts) = let h = halves_nodes k parts in omega arith

-- there are at least as many nodes as parts
pub enough_nodes : (parts : List TermAst) → length parts ≤ nodes_in parts
enough_nodes [] = omega arith
enough_nodes (p ∷ parts) = let h = enough_nodes parts in let s = some_node (tree_of p) in omega arith
