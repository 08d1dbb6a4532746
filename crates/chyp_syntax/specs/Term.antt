-- The trees of terms, as contracts see them: no pointer and no buffer in them.
use Rattle.std.specs.Prelude.{ℕ, List, [], ◌∷◌, Option}
use Rattle.chyp_syntax.specs.declared.term.TermAst.{TermAst}
use Rattle.chyp_syntax.specs.declared.term.TermAst.TheFolds.{fold-TermAst}
use Rattle.chyp_syntax.specs.declared.term.TermAst.TheOpen.{TermAst-F}

mutual
  -- the tree of a term; a token stands for its number within the chunk
  pub data TermTree : Type 0 where
    named : (token : ℕ) → TermTree
    wire : TermTree
    empty : TermTree
    swap : (token : ℕ) (places : Option (List ℕ)) → TermTree
    chain : (parts : TermTrees) (semis : List ℕ) → TermTree
    beside : (parts : TermTrees) → TermTree

  -- trees of terms, in order
  pub data TermTrees : Type 0 where
    no_terms : TermTrees
    term : (first : TermTree) (rest : TermTrees) → TermTrees

-- the trees of a list, in its order
abbrev pub terms_of : List TermTree → TermTrees
terms_of [] = no_terms
terms_of (tree ∷ trees) = term tree (terms_of trees)

-- one node, where its parts are seen as trees already
abbrev pub node_of : TermAst-F TermTree → TermTree
node_of (TermAst-F.Named token) = named token
node_of TermAst-F.Wire = wire
node_of TermAst-F.Empty = empty
node_of (TermAst-F.Swap token places) = swap token places
node_of (TermAst-F.Chain parts semis) = chain (terms_of parts) semis
node_of (TermAst-F.Beside parts) = beside (terms_of parts)

-- the tree that a `TermAst` holds
abbrev pub tree_of : TermAst → TermTree
tree_of = fold-TermAst TermTree node_of

-- terms with `;` between them; a chain of one part is that part
abbrev pub chain_of : List TermTree → List ℕ → TermTree
chain_of (tree ∷ []) semis = tree
chain_of trees semis = chain (terms_of trees) semis

-- terms with `*` between them; a tensor of one part is that part
abbrev pub tensor_of : List TermTree → TermTree
tensor_of (tree ∷ []) = tree
tensor_of trees = beside (terms_of trees)
