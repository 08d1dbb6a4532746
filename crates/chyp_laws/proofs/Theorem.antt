-- Derivations and isomorphisms.
use Rattle.std.proofs.Common.{[]}
use Rattle.chyp_term.specs.Derivation.{Derives}
use Rattle.chyp_term.specs.Morphism.{IsTyped, Morphism}
use Rattle.chyp_theory.proofs.Completeness.{completeness}
use Rattle.chyp_theory.proofs.Soundness.{sound}
use Rattle.chyp_graph.specs.GraphOf.{graph_of}
use Rattle.chyp_graph.specs.Isomorphism.{Isomorphic}
use Rattle.chyp_laws.proofs.AlikeIsomorphic.{isomorphic}
use Rattle.chyp_laws.proofs.Draws.{draw_s}
use Rattle.chyp_laws.proofs.IsomorphicAlike.{alike_from}

pub derivation_isomorphic : (s t : Morphism) → Derives [] s t → Isomorphic (graph_of s) (graph_of t)
derivation_isomorphic s t d = let h = sound d in isomorphic s t h.left h.right (graph_of s) (graph_of t) (draw_s s h.left) (draw_s t h.right) h.alike

pub isomorphic_derivation : (s t : Morphism) → IsTyped s → IsTyped t → Isomorphic (graph_of s) (graph_of t) → Derives [] s t
isomorphic_derivation s t ts ty m = completeness s t ts ty (alike_from s t ts ty (graph_of s) (graph_of t) (draw_s s ts) (draw_s t ty) m)
