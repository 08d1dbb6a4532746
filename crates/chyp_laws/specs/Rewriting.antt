-- Rewriting in a context, and rewriting of graphs at convex occurrences (Bonchi, Gadducci, Kissinger, Sobociński and
-- Zanasi, String Diagram Rewrite Theory II: convex double-pushout rewriting is rewriting modulo the laws).
use Rattle.std.specs.Prelude.{ℕ, ◌⊎◌, List, [], ◌↔◌}
use Rattle.chyp_base.specs.declared.sort.Sort.{Sort}
use Rattle.chyp_term.specs.Morphism.{Morphism, then, beside, IsTyped}
use Rattle.chyp_term.specs.Derivation.{identity, Derives, IsEquation}
use Rattle.chyp_term.specs.Rewriting.{RewritesInContext}
use Rattle.chyp_graph.specs.GraphOf.{graph_of}
use Rattle.chyp_graph.specs.Isomorphism.{Isomorphic}
use Rattle.chyp_pattern.specs.Occurrence.{IsOccurrence}
use Rattle.chyp_pattern.specs.Replacement.{replaced}

-- the context that an occurrence gives, one for all u: by the laws t is the context of l, and each u whose graph is the
-- replaced one is the context of r
pub record GivesContext (l r t : Morphism) (es ws : List ℕ) : Type 0 where
  pub kept : List Sort
  pub before : Morphism
  pub after : Morphism
  pub left : Derives [] t (then before (then (beside (identity kept) l) after))
  pub right : (u : Morphism) → IsTyped u → Isomorphic (graph_of u) (replaced (graph_of t) (graph_of l) (graph_of r) es ws)
      → Derives [] u (then before (then (beside (identity kept) r) after))

-- the graph of u is that of t with some occurrence of the graph of l replaced by the graph of r
pub record IsRewritten (l r t u : Morphism) : Type 0 where
  pub es : List ℕ
  pub ws : List ℕ
  pub occurs : IsOccurrence (graph_of l) (graph_of t) es ws
  pub same : Isomorphic (graph_of u) (replaced (graph_of t) (graph_of l) (graph_of r) es ws)

-- rewriting in a context is rewriting of graphs
abbrev pub RewritesAreGraphs : Type 0
RewritesAreGraphs = (l r t u : Morphism) → IsEquation l r → IsEquation t u → RewritesInContext l r t u ↔ IsRewritten l r t u

-- l = r rewrites t to u in some context, or it does in none
abbrev pub RewritesAreDecided : Type 0
RewritesAreDecided = (l r t u : Morphism) → IsEquation l r → IsEquation t u → (RewritesInContext l r t u) ⊎ (¬ RewritesInContext l r t u)
