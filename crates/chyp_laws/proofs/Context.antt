-- A context gives an occurrence.
use Rattle.std.proofs.Common.{ℕ, ◌<◌, ◌≡◌, List, [], ◌++◌, map, length, drop, Option, Some, None, slice_index, inl, inr, sym, ◌∙◌, ap, subst, arith, length-append, length-drop, zero-add}
use Rattle.std.proofs.lemmas.List.{length-map}
use Rattle.chyp_base.specs.declared.sort.Sort.{Sort}
use Rattle.chyp_term.specs.Derivation.{Derives, IsEquation}
use Rattle.chyp_term.specs.Morphism.{Morphism, dom, cod, IsTyped}
use Rattle.chyp_term.specs.Perm.{permuted, count_from}
use Rattle.chyp_term.specs.Rewriting.{RewritesInContext}
use Rattle.chyp_term.proofs.Permuted.{length-count_from}
use Rattle.chyp_theory.proofs.Completeness.{completeness}
use Rattle.chyp_theory.proofs.Congruence.{length-run}
use Rattle.chyp_theory.proofs.Peeling.{get_or-count}
use Rattle.chyp_theory.proofs.Renaming.{Producer, In, Target}
use Rattle.chyp_theory.proofs.Running.{EdgeOf, run}
use Rattle.chyp_theory.proofs.Soundness.{sound, Sound}
use Rattle.chyp_graph.specs.GraphOf.{graph_of}
use Rattle.chyp_graph.specs.Isomorphism.{Isomorphic}
use Rattle.chyp_graph.specs.PlainGraph.{PlainGraph}
use Rattle.chyp_laws.proofs.AlikeIsomorphic.{isomorphic}
use Rattle.chyp_laws.proofs.Drawing.{IsWire}
use Rattle.chyp_laws.proofs.Draws.{Draws, ins-size, edge-below, draw_s, draws_along}
use Rattle.chyp_laws.proofs.IsomorphicAlike.{alike_from}
use Rattle.chyp_laws.specs.Rewriting.{IsRewritten}
use Rattle.chyp_pattern.specs.Replacement.{replaced}
use Rattle.chyp_term.proofs.Apart.{map-by_index}
use Rattle.chyp_laws.proofs.Occurs.{occurs}
use Rattle.chyp_laws.proofs.Placed.{context, Placed}
use Rattle.chyp_laws.proofs.ReplacedEdges.{replaced_draws}

-- l has images in a graph that its context draws
pub record HasPlace (K : List Sort) (b a l : Morphism) (lG g : PlainGraph) (dl : Draws l lG) : Type 0 where
  pub es : List ℕ
  pub ws : List ℕ
  pub placed : Placed K b a l lG g dl es ws

-- the part of l in a drawing of its context
pub place : (K : List Sort) (b a l : Morphism) (lG g : PlainGraph) → IsTyped (context K b a l) → (dl : Draws l lG) → Draws (context K b a l) g
    → HasPlace K b a l lG g dl
place K b a l lG g ty dl d = record {
  es = es;
  ws = ws;
  placed = record {
    d = d;
    es_size = length-map (count_from 0 (length lG.edges)) (λ k. edge_or (dl.edge_from k)) ∙ length-count_from 0 (length lG.edges);
    ws_size = length-map (count_from 0 (length lG.wires)) (λ v. image (dl.from v)) ∙ length-count_from 0 (length lG.wires);
    es_at =
        λ e. get_or-count (λ k. edge_or (dl.edge_from k)) 0 (length lG.edges) (dl.edge e) 0 (edge-below dl e)
        ∙ ap (λ k. edge_or (dl.edge_from k)) (zero-add (dl.edge e)) ∙ ap edge_or (dl.edge_back e);
    ws_target = λ e i h. at (Target e i) h;
    ws_in = map-by_index (slice_index ws) lG.inputs ends (ins-size dl ∙ sym ends_size) (λ j h.
        let k : j < length (dom l) = subst (λ n. j < n) (ins-size dl) h in
        ap (slice_index ws) (ap (λ z. slice_index z j) dl.inputs ∙ get_or-count (λ j. dl.wire (In j)) 0 (length (dom l)) j 0 k
        ∙ ap (λ i. dl.wire (In i)) (zero-add j)) ∙ at (In j) k);
  };
}
  where
    ends : List ℕ
    ends = drop (length K) (run b (λ e i. d.wire (Target (inl e) i)) g.inputs)

    ends_size : length ends ≡ length (dom l)
    ends_size =
        let q = length-run b ty.0 (λ e i. d.wire (Target (inl e) i)) g.inputs (ins-size d) ∙ ap length ty.2 ∙ length-append K (dom l) in
        length-drop (length K) (run b (λ e i. d.wire (Target (inl e) i)) g.inputs) ∙ omega arith

    edge_or : Option (EdgeOf l) → ℕ
    edge_or None = 0
    edge_or (Some e) = d.edge (inr (inl (inr e)))

    image : Producer (EdgeOf l) → ℕ
    image (In j) = slice_index ends j
    image (Target e i) = d.wire (Target (inr (inl (inr e))) i)

    es : List ℕ
    es = map (λ k. edge_or (dl.edge_from k)) (count_from 0 (length lG.edges))

    ws : List ℕ
    ws = map (λ v. image (dl.from v)) (count_from 0 (length lG.wires))

    at : (x : Producer (EdgeOf l)) → IsWire l x → slice_index ws (dl.wire x) ≡ image x
    at x h =
        get_or-count (λ v. image (dl.from v)) 0 (length lG.wires) (dl.wire x) 0 (dl.wire_below x h) ∙ ap (λ v. image (dl.from v)) (zero-add (dl.wire x))
        ∙ ap image (dl.from_wire x h)

-- a rewrite in a context is one at some occurrence
pub context_occurrence : (l r t u : Morphism) → IsEquation l r → RewritesInContext l r t u → IsRewritten l r t u
context_occurrence l r t u rule w = record {
  es = h.es;
  ws = h.ws;
  occurs = occurs s.right h.placed;
  same =
      isomorphic u (context w.kept w.before w.after r) q.left q.right (graph_of u) (replaced (graph_of t) (graph_of l) (graph_of r) h.es h.ws) (draw_s u q.left)
      (replaced_draws s.right rule.right rule.doms rule.cods (draw_s r rule.right) h.placed) q.alike;
}
  where
    s : Sound t (context w.kept w.before w.after l)
    s = sound w.left

    q : Sound u (context w.kept w.before w.after r)
    q = sound w.right

    dl : Draws l (graph_of l)
    dl = draw_s l rule.left

    h : HasPlace w.kept w.before w.after l (graph_of l) (graph_of t) dl
    h = place w.kept w.before w.after l (graph_of l) (graph_of t) s.right dl (draws_along s.alike (draw_s t s.left))

-- what an occurrence is to give
pub record HasContext (l t : Morphism) (lG g : PlainGraph) (dl : Draws l lG) (es ws : List ℕ) : Type 0 where
  pub kept : List Sort
  pub before : Morphism
  pub after : Morphism
  pub left : Derives [] t (context kept before after l)
  pub placed : Placed kept before after l lG g dl es ws

-- the context of r is typed where that of l is
pub typed_other : (K : List Sort) (b a l r : Morphism) → IsTyped (context K b a l) → IsTyped r → dom l ≡ dom r → cod l ≡ cod r → IsTyped (context K b a r)
typed_other K b a l r ty tr doms cods =
    (ty.0, ((ty.1.0.0, tr), ty.1.1, ap (λ z. permuted K (count_from 0 (length K)) ++ z) (sym cods) ∙ ty.1.2), ty.2 ∙ ap (λ z. K ++ z) doms)

-- the context with r in place of l is drawn by the replaced graph
module _ {l r t : Morphism} (rule : IsEquation l r) {lG rG g : PlainGraph} {dl : Draws l lG} (dr : Draws r rG) {es ws : List ℕ}
    (h : HasContext l t lG g dl es ws) where
  pub other_typed : IsTyped (context h.kept h.before h.after r)
  other_typed = typed_other h.kept h.before h.after l r (sound h.left).right rule.right rule.doms rule.cods

  pub other_draws : Draws (context h.kept h.before h.after r) (replaced g lG rG es ws)
  other_draws = replaced_draws (sound h.left).right rule.right rule.doms rule.cods dr h.placed

  -- what has the replaced graph is that context
  pub other_side : (u : Morphism) → IsTyped u → Isomorphic (graph_of u) (replaced g lG rG es ws) → Derives [] u (context h.kept h.before h.after r)
  other_side u tu m =
      completeness u (context h.kept h.before h.after r) tu other_typed
      (alike_from u (context h.kept h.before h.after r) tu other_typed (graph_of u) (replaced g lG rG es ws) (draw_s u tu) other_draws m)
