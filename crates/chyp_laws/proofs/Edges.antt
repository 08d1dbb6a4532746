-- The graph of a term is drawn.
use Rattle.chyp_term.specs.Morphism.{IsTyped, Morphism, beside, generator, permutation, then}
use Rattle.chyp_graph.specs.GraphOf.{graph_of}
use Rattle.chyp_laws.proofs.Drawing.{Drawn, drawn_generator, drawn_permutation}
use Rattle.chyp_laws.proofs.DrawingBeside.{drawn_beside}
use Rattle.chyp_laws.proofs.DrawingThen.{drawn_then}

pub draw : (t : Morphism) → IsTyped t → Drawn t (graph_of t)
draw (generator n a b) ty = drawn_generator n a b
draw (permutation a p) ty = drawn_permutation a p ty
draw (then s t) ty = drawn_then s t ty.0 ty.1 ty.2 (graph_of s) (graph_of t) (draw s ty.0) (draw t ty.1)
draw (beside s t) ty = drawn_beside s t ty.0 ty.1 (graph_of s) (graph_of t) (draw s ty.0) (draw t ty.1)
