-- Rewriting in a context (Bonchi, Gadducci, Kissinger, Sobociński and Zanasi, String Diagram Rewrite Theory I and II:
-- rewriting modulo the laws of symmetric monoidal categories).
use Rattle.std.specs.Prelude.{List, []}
use Rattle.chyp_base.specs.declared.sort.Sort.{Sort}
use Rattle.chyp_term.specs.Morphism.{Morphism, then, beside}
use Rattle.chyp_term.specs.Derivation.{identity, Derives}

-- by the monoidal laws, t is before ; (id * l) ; after and u is before ; (id * r) ; after, for some context
pub record RewritesInContext (l r t u : Morphism) : Type 0 where
  pub kept : List Sort
  pub before : Morphism
  pub after : Morphism
  pub left : Derives [] t (then before (then (beside (identity kept) l) after))
  pub right : Derives [] u (then before (then (beside (identity kept) r) after))
