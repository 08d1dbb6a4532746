-- The lists of a graph with an occurrence replaced.
use Rattle.std.proofs.Common.{ℕ, ◌+◌, ◌<◌, ◌≡◌, List, ◌++◌, All, map, length, Option, Some, None, slice_get, slice_index, refl, sym, ◌∙◌, ap, ap₂, subst, arith, length-append}
use Rattle.std.proofs.lemmas.List.{length-map}
use Rattle.chyp_base.specs.declared.sort.Sort.{Sort}
use Rattle.chyp_term.specs.Perm.{count_from, permuted}
use Rattle.chyp_term.specs.Positions.{place_of}
use Rattle.chyp_term.proofs.Permuted.{Under}
use Rattle.chyp_term.proofs.Positions.{slice_get-length}
use Rattle.chyp_graph.specs.Composition.{joined_at}
use Rattle.chyp_pattern.specs.Occurrence.{IsOccurrence}
use Rattle.chyp_graph.specs.PlainGraph.{Edge, PlainGraph}
use Rattle.chyp_pattern.specs.Replacement.{IsGraphRule, bound_at, kept_edges, kept_wires, rebound, rebound_edge, replaced}
use Rattle.chyp_graph.specs.Validity.{IsValid}
use Rattle.chyp_graph.proofs.Drafting.{index-map, member-under, place-below, plain-same}
use Rattle.chyp_pattern.proofs.Listed.{images-under}
use Rattle.chyp_term.proofs.Members.{All-members, Member, get-member, map-same_on, member-get, permuted-member}
use Rattle.chyp_graph.proofs.Numbering.{beside-number, edges-by, input-below, output-below, table-index, table-length}
use Rattle.chyp_term.proofs.Closure.{get-index}
use Rattle.chyp_replace.specs.Layout.{AreBound, IsLayout}
use Rattle.chyp_replace.specs.Numbers.{kept_before}
use Rattle.chyp_replace.specs.Renumbered.{renumbered_edge}
use Rattle.chyp_replace.specs.declared.layout.Layout.{Layout}
use Rattle.chyp_replace.proofs.Binding.{same-inputs, same-outputs}
use Rattle.chyp_replace.proofs.Keeping.{kept-few, ports-in, read-item}

all-member : (n : ℕ) (xs : List ℕ) → All (λ w. w < n) xs → (w : ℕ) → Member w xs → w < n
all-member n xs a w m =
    let f = member-get xs w m in
    subst (λ v. v < n) (sym (read-item xs f.0 w f.1)) (a f.0 w (slice_get-length xs f.0 w f.1))

under-all : (n : ℕ) (xs : List ℕ) → Under n xs → All (λ w. w < n) xs
under-all n xs u = All-members xs (λ w m. member-under n xs w u m)

-- images are within the graph
pub wires-within : (l g : PlainGraph) (es ws : List ℕ) → IsOccurrence l g es ws → All (λ w. w < length g.wires) ws
wires-within l g es ws o = under-all (length g.wires) ws (images-under l g es ws o).1

pub edges-within : (l g : PlainGraph) (es ws : List ℕ) → IsOccurrence l g es ws → All (λ k. k < length g.edges) es
edges-within l g es ws o = under-all (length g.edges) es (images-under l g es ws o).0

module _ (g r : PlainGraph) (ws : List ℕ) (layout : Layout) (at : IsLayout g r ws layout) where
  pub kept-size : length layout.kept.items ≡ length g.wires
  kept-size = table-length (kept_before ws) (length g.wires) layout.kept.items at.kept

  moved-table : layout.moved.items ≡ map (λ v. length (kept_wires g ws) + v) (count_from 0 (length r.wires))
  moved-table = beside-number (length (kept_wires g ws)) (length r.wires) layout.moved.items at.moved

  pub moved-size : length layout.moved.items ≡ length r.wires
  moved-size = table-length (λ v. length (kept_wires g ws) + v) (length r.wires) layout.moved.items moved-table

  pub few-wires : length g.wires + length r.wires < 2147483648 → length layout.wires.items < 2147483648
  few-wires f =
      let e = ap length at.wires ∙ length-append (permuted g.wires (kept_wires g ws)) r.wires in
      let k = kept-few g.wires ws (length g.wires) (permuted g.wires (kept_wires g ws)) refl (omega arith) in
      omega arith

  moved-number : (v : ℕ) → v < length r.wires → slice_index layout.moved.items v ≡ length (kept_wires g ws) + v
  moved-number v h = table-index (λ v. length (kept_wires g ws) + v) (length r.wires) layout.moved.items moved-table v h

  -- a table that is bound as the ends of a rule are says what a wire becomes
  bound-number : (inner ends table : List ℕ) → length inner ≡ length ends → ((v : ℕ) → Member v ends → v < length r.wires)
      → AreBound layout ws inner ends table
      → (w : ℕ) → w < length g.wires → slice_index table w ≡ rebound g ws inner ends w
  bound-number inner ends table same below b w h =
      b.each w (subst (λ n. w < n) (sym kept-size) h)
      ∙ ap (λ k. joined_at (map (slice_index layout.moved.items) ends) k (place_of w (map (slice_index ws) inner))) (table-index (kept_before ws) (length g.wires) layout.kept.items at.kept w h)
      ∙ go (place_of w (map (slice_index ws) inner)) refl
    where
      go : (o : Option ℕ) → place_of w (map (slice_index ws) inner) ≡ o
          → joined_at (map (slice_index layout.moved.items) ends) (kept_before ws w) o ≡ bound_at (length (kept_wires g ws)) ends (kept_before ws w) o
      go None q = refl
      go (Some i) q =
          let p = place-below w (map (slice_index ws) inner) i q in
          let l = length-map inner (slice_index ws) in
          let i_below : i < length ends = omega arith in
          index-map (slice_index layout.moved.items) ends i i_below
          ∙ moved-number (slice_index ends i) (below (slice_index ends i) (get-member ends i (slice_index ends i) (get-index ends i i_below)))

  module _ (l : PlainGraph) (v : IsValid g) (rule : IsGraphRule l r) (users makers : List ℕ)
      (u : AreBound layout ws l.outputs r.outputs users)
      (m : AreBound layout ws l.inputs r.inputs makers) where
    use-number : (w : ℕ) → w < length g.wires → slice_index users w ≡ rebound g ws l.outputs r.outputs w
    use-number = bound-number l.outputs r.outputs users (same-outputs l r rule) (output-below r rule.right) u

    make-number : (w : ℕ) → w < length g.wires → slice_index makers w ≡ rebound g ws l.inputs r.inputs w
    make-number = bound-number l.inputs r.inputs makers (same-inputs l r rule) (input-below r rule.right) m

    edge-bound : (k : ℕ) (e : Edge) → slice_get g.edges k ≡ Some e → renumbered_edge users makers e ≡ rebound_edge g l r ws e
    edge-bound k e h =
        let p = ports-in g v k e h (length g.wires) refl in
        ap₂ (λ a b. record { name = e.name; sources = a; targets = b })
        (map-same_on (slice_index users) (rebound g ws l.outputs r.outputs) e.sources (λ w s. use-number w (all-member (length g.wires) e.sources p.0 w s)))
        (map-same_on (slice_index makers) (rebound g ws l.inputs r.inputs) e.targets (λ w s. make-number w (all-member (length g.wires) e.targets p.1 w s)))

    -- the four lists are those of the replaced graph
    pub replaced-lists : (es : List ℕ) (wires : List Sort) (before edges : List Edge) (inputs outputs : List ℕ) → wires ≡ layout.wires.items
        → before ≡ map (renumbered_edge users makers) (permuted g.edges (kept_edges g es)) → edges ≡ before ++ map (renumbered_edge layout.moved.items layout.moved.items) r.edges
        → inputs ≡ map (slice_index makers) g.inputs → outputs ≡ map (slice_index users) g.outputs
        → ◌≡◌ {A = PlainGraph} (record { wires = wires; edges = edges; inputs = inputs; outputs = outputs }) (replaced g l r es ws)
    replaced-lists es wires before edges inputs outputs a b c i o = plain-same
        (a ∙ at.wires)
        (c ∙ ap₂ (λ x y. x ++ y) (b ∙ map-same_on (renumbered_edge users makers) (rebound_edge g l r ws) (permuted g.edges (kept_edges g es)) (λ e k.
        let p = permuted-member g.edges (kept_edges g es) e k in edge-bound p.0 e p.2))
        (edges-by r rule.right (λ v. length (kept_wires g ws) + v) layout.moved.items moved-table))
        (i ∙ map-same_on (slice_index makers) (rebound g ws l.inputs r.inputs) g.inputs (λ w s. make-number w (input-below g v w s)))
        (o ∙ map-same_on (slice_index users) (rebound g ws l.outputs r.outputs) g.outputs (λ w s. use-number w (output-below g v w s)))

-- there are few edges
pub few-edges : (g r : PlainGraph) (es : List ℕ) (f h : Edge → Edge) (before edges : List Edge)
    → before ≡ map f (permuted g.edges (kept_edges g es)) → edges ≡ before ++ map h r.edges → length g.edges + length r.edges < 2147483648 → length edges < 2147483648
few-edges g r es f h before edges b e s =
    let k = kept-few g.edges es (length g.edges) (permuted g.edges (kept_edges g es)) refl (omega arith) in
    let p = ap length b ∙ length-map (permuted g.edges (kept_edges g es)) f in
    let q = ap length e ∙ length-append before (map h r.edges) in
    let m = length-map r.edges h in
    omega arith
