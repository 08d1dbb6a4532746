-- The trees of each kind of terms.
use Rattle.std.proofs.Common.{◌≡◌, ℕ, List, map, Option, ◌∙◌, ap, sym}
use Rattle.chyp_syntax.specs.declared.term.TermAst.{TermAst, TermAst-F, fold-roll-TermAst}
use Rattle.chyp_syntax.specs.declared.term.TermAst.TheVariants.{Named, Wire, Empty, Swap, Chain, Beside, rolls-Named, rolls-Wire, rolls-Empty, rolls-Swap, rolls-Chain, rolls-Beside}
use Rattle.chyp_syntax.specs.Term.{TermTree, named, wire, empty, swap, chain, beside, terms_of, node_of, tree_of}

pub tree_of-Named : (token : ℕ) → tree_of (Named token) ≡ named token
tree_of-Named token = ap tree_of (sym (rolls-Named token)) ∙ fold-roll-TermAst TermTree node_of (TermAst-F.Named token)

pub tree_of-Empty : tree_of Empty ≡ empty
tree_of-Empty = ap tree_of (sym rolls-Empty) ∙ fold-roll-TermAst TermTree node_of TermAst-F.Empty

pub tree_of-Wire : tree_of Wire ≡ wire
tree_of-Wire = ap tree_of (sym rolls-Wire) ∙ fold-roll-TermAst TermTree node_of TermAst-F.Wire

pub tree_of-Swap : (token : ℕ) (places : Option (List ℕ)) → tree_of (Swap token places) ≡ swap token places
tree_of-Swap token places = ap tree_of (sym (rolls-Swap token places)) ∙ fold-roll-TermAst TermTree node_of (TermAst-F.Swap token places)

pub tree_of-Chain : (parts : List TermAst) (semis : List ℕ) → tree_of (Chain parts semis) ≡ chain (terms_of (map tree_of parts)) semis
tree_of-Chain parts semis = ap tree_of (sym (rolls-Chain parts semis)) ∙ fold-roll-TermAst TermTree node_of (TermAst-F.Chain parts semis)

pub tree_of-Beside : (parts : List TermAst) → tree_of (Beside parts) ≡ beside (terms_of (map tree_of parts))
tree_of-Beside parts = ap tree_of (sym (rolls-Beside parts)) ∙ fold-roll-TermAst TermTree node_of (TermAst-F.Beside parts)
