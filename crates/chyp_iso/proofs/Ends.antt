-- The interfaces of two graphs, and what hangs on them.
use Rattle.std.proofs.Common.{[], ℕ, ◌≤◌, ◌≡◌, Bool, true, false, List, arith, take, length, map, Option, Some, slice_get, ◌⊎◌, inl, inr, sym, ◌∙◌, ap, subst}
use Rattle.std.specs.Bool.{MatchBool}
use Rattle.std.proofs.lemmas.List.{length-take}
use Rattle.chyp_term.proofs.Closure.{get-index, index-get}
use Rattle.chyp_term.proofs.Slices.{get-take}
use Rattle.chyp_term.proofs.Permuted.{map-get}
use Rattle.chyp_graph.specs.PlainGraph.{PlainGraph}
use Rattle.chyp_graph.specs.Isomorphism.{Isomorphic}
use Rattle.chyp_graph.specs.Validity.{IsValid}
use Rattle.chyp_pairs.specs.declared.pair.Pair.{Pair}
use Rattle.chyp_iso.specs.Pair.{MapsPair, wire_pairs}
use Rattle.chyp_pairs.specs.Pairs.{Has, IsMatching, Pairs, edge_there, wire_there}
use Rattle.chyp_iso.specs.Following.{Fits, Includes, IsComplete, Leads, Maps, Refutes}
use Rattle.chyp_iso.specs.IsIsomorphism.{IsIsomorphism}
use Rattle.chyp_iso.specs.Scratch.{AreImages}
use Rattle.chyp_iso.specs.Search.{AreKnown, HaveSameCounts, HaveSameEnds, IsPairing, IsWhole, end_pairs}
use Rattle.chyp_iso.proofs.Finishing.{is-isomorphism}
use Rattle.chyp_iso.proofs.Followed.{Leads-has, Leads-maps, Leads-seeds, Leads-trans, Refutes-after}
use Rattle.chyp_iso.proofs.Lists.{pairs-place}
use Rattle.chyp_pairs.proofs.PairLists.{has-left, has-right, has-split}
use Rattle.chyp_iso.proofs.Searching.{part-leads}

pub first-leads : (g h : PlainGraph) (s t : Pairs) → Leads g h (wire_pairs g.inputs h.inputs) s t → Leads g h (end_pairs g h) s t
first-leads g h s t l = Leads-seeds g h (end_pairs g h) (wire_pairs g.inputs h.inputs) s t l (λ test c p q x k. q x (has-left (wire_pairs g.inputs h.inputs) (wire_pairs g.outputs h.outputs) x k))

pub both-lead : (g h : PlainGraph) (s t u : Pairs) → Leads g h (wire_pairs g.inputs h.inputs) s t → Leads g h (wire_pairs g.outputs h.outputs) t u → Leads g h (end_pairs g h) s u
both-lead g h s t u l m =
    Leads-trans g h (end_pairs g h) s t u (first-leads g h s t l)
    (Leads-seeds g h (end_pairs g h) (wire_pairs g.outputs h.outputs) t u m (λ test c p q x k. q x (has-right (wire_pairs g.inputs h.inputs) (wire_pairs g.outputs h.outputs) x k)))

pub first-refutes : (g h : PlainGraph) (ps : List Pair) → Refutes g h (wire_pairs g.inputs h.inputs) ps → Refutes g h (end_pairs g h) ps
first-refutes g h ps r iso m n = r iso m (λ x k. n x (has-left (wire_pairs g.inputs h.inputs) (wire_pairs g.outputs h.outputs) x k))

pub both-answer : (g h : PlainGraph) (s t u : Pairs) (b : Bool) → IsValid h → Leads g h (wire_pairs g.inputs h.inputs) s t
    → Includes (wire_pairs g.inputs h.inputs) t.pairs → Leads g h (wire_pairs g.outputs h.outputs) t u
    → MatchBool b (Includes (wire_pairs g.outputs h.outputs) u.pairs) (Refutes g h (wire_pairs g.outputs h.outputs) t.pairs)
    → MatchBool b (Includes (end_pairs g h) u.pairs) (Refutes g h (end_pairs g h) s.pairs)
both-answer g h s t u true v l i m r = λ p k. go p (has-split (wire_pairs g.inputs h.inputs) (wire_pairs g.outputs h.outputs) p k)
  where
    go : (p : Pair) → (Has (wire_pairs g.inputs h.inputs) p) ⊎ (Has (wire_pairs g.outputs h.outputs) p) → Has u.pairs p
    go p (inl k) = Leads-has g h (wire_pairs g.outputs h.outputs) t u m p (i p k)
    go p (inr k) = r p k
both-answer g h s t u false v l i m r =
    Refutes-after g h (end_pairs g h) (wire_pairs g.outputs h.outputs) s t v (first-leads g h s t l)
    (λ iso x n p k. n p (has-right (wire_pairs g.inputs h.inputs) (wire_pairs g.outputs h.outputs) p k)) r

list-maps : (g h : PlainGraph) (iso : Isomorphic g h) (vs ws : List ℕ) → ws ≡ map iso.wire vs → Maps iso (wire_pairs vs ws)
list-maps g h iso vs ws e p k =
    let r = pairs-place vs ws p k in
    let a : ◌≡◌ {A = Option ℕ} (Some (iso.wire r.1)) (Some r.2) = sym (map-get iso.wire vs r.0 r.1 r.3) ∙ ap (λ l. slice_get l r.0) (sym e) ∙ r.4 in
    let b : iso.wire r.1 ≡ r.2 = cc in
    subst (MapsPair iso) r.5 b

pub end-maps : (g h : PlainGraph) (iso : Isomorphic g h) → Maps iso (end_pairs g h)
end-maps g h iso p k = go (has-split (wire_pairs g.inputs h.inputs) (wire_pairs g.outputs h.outputs) p k)
  where
    go : (Has (wire_pairs g.inputs h.inputs) p) ⊎ (Has (wire_pairs g.outputs h.outputs) p) → MapsPair iso p
    go (inl m) = list-maps g h iso g.inputs h.inputs iso.inputs p m
    go (inr m) = list-maps g h iso g.outputs h.outputs iso.outputs p m

none-maps : (g h : PlainGraph) (iso : Isomorphic g h) (ps : List Pair) → ps ≡ [] → Maps iso ps
none-maps g h iso ps e p k = absurd (subst (λ l. Has l p) e k)

pub ends-refute : (g h : PlainGraph) (s : Pairs) → s.pairs ≡ [] → Refutes g h (end_pairs g h) s.pairs → Isomorphic g h → ⊥
ends-refute g h s e r iso = r iso (none-maps g h iso s.pairs e) (end-maps g h iso)

pub hanging-answer : (g h : PlainGraph) (s t u : Pairs) (b : Bool) → Fits g h s → HaveSameEnds g h → s.pairs ≡ [] → Leads g h (end_pairs g h) s t → Includes (end_pairs g h) t.pairs → Leads g h [] t u
    → MatchBool b (IsComplete g h u.pairs × IsMatching u.pairs) (Refutes g h [] t.pairs) → MatchBool b (IsPairing g h u × ((iso : Isomorphic g h) → Maps iso u.pairs)) (Isomorphic g h → ⊥)
hanging-answer g h s t u true f n e l i m r = (
  record { fits = m.fits; matching = r.1; complete = r.0; same_ends = n; ends = λ p k. Leads-has g h [] t u m p (i p k) },
  λ iso. Leads-maps g h (end_pairs g h) s u f.second_valid (part-leads g h (end_pairs g h) s t u l m) iso (none-maps g h iso s.pairs e) (end-maps g h iso),
)
hanging-answer g h s t u false f n e l i m r = ends-refute g h s e (Refutes-after g h (end_pairs g h) [] s t f.second_valid l (λ iso x y p k. absurd k) r)

-- ## the whole search

pub whole-answer : (g h : PlainGraph) (t u : Pairs) (b : Bool) → HaveSameCounts g h → IsPairing g h t × ((iso : Isomorphic g h) → Maps iso t.pairs)
    → MatchBool b (IsPairing g h u × AreKnown u.pairs (length g.edges)) ((iso : Isomorphic g h) → Maps iso t.pairs → ⊥)
    → MatchBool b (IsWhole g h u) (Isomorphic g h → ⊥)
whole-answer g h t u true c a r = record { pairing = r.0; counts = c; known = r.1 }
whole-answer g h t u false c a r = λ iso. r iso (a.1 iso)

-- the images at the front of a list
images-take : (says : Pair → Option (ℕ × ℕ)) (ps : List Pair) (n k : ℕ) (xs : List ℕ) → n ≡ k → k ≤ length xs → AreImages says ps n xs → AreImages says ps k (take k xs)
images-take says ps n k xs q b a x y l e =
    index-get (take k xs) x y (get-take xs k x l ∙ get-index xs x (omega arith) ∙ ap (λ z. Some z) (a x y (omega arith) e))

take-size : (xs : List ℕ) (k : ℕ) → k ≤ length xs → length (take k xs) ≡ k
take-size xs k b = let l = length-take k xs in omega arith

pub found-answer : (g h : PlainGraph) (s : Pairs) (es ws : List ℕ) (m n : ℕ) (b : Bool) → MatchBool b (IsWhole g h s) (Isomorphic g h → ⊥) → m ≡ length g.edges
    → n ≡ length g.wires → length g.edges ≤ length es → length g.wires ≤ length ws → AreImages edge_there s.pairs m es → AreImages wire_there s.pairs n ws
    → MatchBool b (IsIsomorphism g h (take (length g.edges) es) (take (length g.wires) ws)) (Isomorphic g h → ⊥)
found-answer g h s es ws m n true r p q i j x y =
    is-isomorphism g h s (take (length g.edges) es) (take (length g.wires) ws) r (take-size es _ i) (take-size ws _ j)
    (images-take edge_there s.pairs m (length g.edges) es p i x) (images-take wire_there s.pairs n (length g.wires) ws q j y)
found-answer g h s es ws m n false r p q i j x y = r
