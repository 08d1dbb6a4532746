-- Isomorphism of graphs is decided, and so are the laws.
use Rattle.std.proofs.Common.{[], ℕ, zero, suc, ◌+◌, ◌<◌, ◌≡◌, List, map, length, Option, Some, None, option_map, slice_get, slice_index, ◌⊎◌, refl, sym, ◌∙◌, ap, ap₂, subst, arith, add-zero}
use Rattle.std.proofs.Common.{zero-add}
use Rattle.std.proofs.lemmas.Bool.{cases_eq}
use Rattle.std.proofs.lemmas.List.{length-map}
use Rattle.chyp_term.specs.Derivation.{Derives}
use Rattle.chyp_term.specs.Morphism.{IsTyped, Morphism}
use Rattle.chyp_term.specs.Perm.{count_from}
use Rattle.chyp_term.proofs.Deciding.{Decided, decide-below, decide-both, decide-less, decide-numbers, decide-sort, decided-by, decide-list_of, HasList, decide-option}
use Rattle.chyp_term.proofs.Inverses.{Under-map-count}
use Rattle.chyp_term.proofs.Permuted.{Under, length-count_from}
use Rattle.chyp_term.proofs.Members.{Member, Rearr-member, get-member, map-same_on, member-below, member-flat, member-right}
use Rattle.chyp_term.proofs.Rearrangement.{Rearr-sym, permutation-Rearr}
use Rattle.chyp_graph.specs.GraphOf.{graph_of}
use Rattle.chyp_graph.specs.Isomorphism.{IsBijection, Isomorphic}
use Rattle.chyp_graph.specs.PlainGraph.{Edge, PlainGraph, renamed, sources_of, targets_of}
use Rattle.chyp_graph.specs.Validity.{IsValid}
use Rattle.chyp_graph.proofs.Numbering.{input-below, output-below}
use Rattle.chyp_graph.proofs.Validity.{valid}
use Rattle.chyp_graph.proofs.Deciding.{decide-edge}
use Rattle.chyp_laws.proofs.Theorem.{derivation_isomorphic, isomorphic_derivation}

decide-bijection : (m n : ℕ) (f g : ℕ → ℕ) → Decided (IsBijection m n f g)
decide-bijection m n f g = decided-by (λ r. record { there = r.0; back = r.1.0; there_back = r.1.1.0; back_there = r.1.1.1 }) (λ t. (t.there, (t.back, (t.there_back, t.back_there))))
    (decide-both (decide-below (λ i. f i < n) (λ i. decide-less (f i) n) m)
    (decide-both (decide-below (λ j. g j < m) (λ j. decide-less (g j) m) n)
    (decide-both (decide-below (λ j. f (g j) ≡ j) (λ j. cases_eq (f (g j)) j) n)
    (decide-below (λ i. g (f i) ≡ i) (λ i. cases_eq (g (f i)) i) m))))

-- the lists of images are an isomorphism
record ByLists (g h : PlainGraph) (ws wb es eb : List ℕ) : Type 0 where
  pub wires : IsBijection (length g.wires) (length h.wires) (slice_index ws) (slice_index wb)
  pub edges : IsBijection (length g.edges) (length h.edges) (slice_index es) (slice_index eb)
  pub sorts : (w : ℕ) → w < length g.wires → slice_get h.wires (slice_index ws w) ≡ slice_get g.wires w
  pub ports : (k : ℕ) → k < length g.edges → slice_get h.edges (slice_index es k) ≡ option_map (renamed (slice_index ws)) (slice_get g.edges k)
  pub inputs : h.inputs ≡ map (slice_index ws) g.inputs
  pub outputs : h.outputs ≡ map (slice_index ws) g.outputs

decide-lists : (g h : PlainGraph) (ws wb es eb : List ℕ) → Decided (ByLists g h ws wb es eb)
decide-lists g h ws wb es eb =
    decided-by (λ r. record { wires = r.0; edges = r.1.0; sorts = r.1.1.0; ports = r.1.1.1.0; inputs = r.1.1.1.1.0; outputs = r.1.1.1.1.1 })
    (λ t. (t.wires, (t.edges, (t.sorts, (t.ports, (t.inputs, t.outputs))))))
    (decide-both (decide-bijection (length g.wires) (length h.wires) (slice_index ws) (slice_index wb))
    (decide-both (decide-bijection (length g.edges) (length h.edges) (slice_index es) (slice_index eb))
    (decide-both (decide-below (λ w. slice_get h.wires (slice_index ws w) ≡ slice_get g.wires w)
    (λ w. decide-option decide-sort (slice_get h.wires (slice_index ws w)) (slice_get g.wires w)) (length g.wires))
    (decide-both (decide-below (λ k. slice_get h.edges (slice_index es k) ≡ option_map (renamed (slice_index ws)) (slice_get g.edges k))
    (λ k. decide-option decide-edge (slice_get h.edges (slice_index es k)) (option_map (renamed (slice_index ws)) (slice_get g.edges k))) (length g.edges))
    (decide-both (decide-numbers h.inputs (map (slice_index ws) g.inputs)) (decide-numbers h.outputs (map (slice_index ws) g.outputs)))))))

lists-isomorphic : (g h : PlainGraph) (ws wb es eb : List ℕ) → ByLists g h ws wb es eb → Isomorphic g h
lists-isomorphic g h ws wb es eb t = record {
  wire = slice_index ws;
  wire_back = slice_index wb;
  edge = slice_index es;
  edge_back = slice_index eb;
  wires = t.wires;
  edges = t.edges;
  sorts = t.sorts;
  ports = t.ports;
  inputs = t.inputs;
  outputs = t.outputs;
}

-- the images of the numbers below n
images : (ℕ → ℕ) → ℕ → List ℕ
images f n = map f (count_from 0 n)

length-images : (f : ℕ → ℕ) (n : ℕ) → length (images f n) ≡ n
unfolding images
length-images f n = length-map (count_from 0 n) f ∙ length-count_from 0 n

Under-images : (f : ℕ → ℕ) (n m : ℕ) → ((i : ℕ) → i < n → f i < m) → Under m (images f n)
unfolding images
Under-images f n m h = Under-map-count m f 0 n (λ i _ l. h i (omega arith))

index-images : (f : ℕ → ℕ) (n i : ℕ) → i < n → slice_index (images f n) i ≡ f i
unfolding images
index-images f n i h = go 0 n i h ∙ ap f (zero-add i)
  where
    go : (k n i : ℕ) → i < n → slice_index (map f (count_from k n)) i ≡ f (k + i)
    go k zero i h = absurd (omega arith)
    go k (suc n) zero h = ap f (sym (add-zero k))
    go k (suc n) (suc i) h = let e : suc k + i ≡ k + suc i = omega arith in go (suc k) n i (omega arith) ∙ ap f e

same-bijection : (m n : ℕ) (f g : ℕ → ℕ) → IsBijection m n f g → IsBijection m n (slice_index (images f m)) (slice_index (images g n))
same-bijection m n f g b = record {
  there = λ i h. subst (λ x. x < n) (sym (index-images f m i h)) (b.there i h);
  back = λ j h. subst (λ x. x < m) (sym (index-images g n j h)) (b.back j h);
  there_back = λ j h. ap (slice_index (images f m)) (index-images g n j h) ∙ index-images f m (g j) (b.back j h) ∙ b.there_back j h;
  back_there = λ i h. ap (slice_index (images g n)) (index-images f m i h) ∙ index-images g n (f i) (b.there i h) ∙ b.back_there i h;
}

module _ (g : PlainGraph) (v : IsValid g) where
  target-below : (w : ℕ) → Member w (targets_of g.edges) → w < length g.wires
  target-below w m = member-below (length g.wires) w (Rearr-member w (Rearr-sym (permutation-Rearr (length g.wires) _ v.producers)) (member-right g.inputs (targets_of g.edges) w m))

  source-below : (w : ℕ) → Member w (sources_of g.edges) → w < length g.wires
  source-below w m = member-below (length g.wires) w (Rearr-member w (Rearr-sym (permutation-Rearr (length g.wires) _ v.consumers)) (member-right g.outputs (sources_of g.edges) w m))

  same-images : (f : ℕ → ℕ) (xs : List ℕ) → ((w : ℕ) → Member w xs → w < length g.wires) → map f xs ≡ map (slice_index (images f (length g.wires))) xs
  same-images f xs h = map-same_on f (slice_index (images f (length g.wires))) xs (λ w m. sym (index-images f (length g.wires) w (h w m)))

  same-renamed : (f : ℕ → ℕ) (k : ℕ) → option_map (renamed f) (slice_get g.edges k) ≡ option_map (renamed (slice_index (images f (length g.wires)))) (slice_get g.edges k)
  same-renamed f k = go (slice_get g.edges k) refl
    where
      go : (o : Option Edge) → slice_get g.edges k ≡ o → option_map (renamed f) o ≡ option_map (renamed (slice_index (images f (length g.wires)))) o
      go None q = refl
      go (Some e) q = ap₂ (λ s t. Some (record { name = e.name; sources = s; targets = t }))
          (same-images f e.sources (λ w m. source-below w (member-flat (λ e. e.sources) g.edges e w (get-member g.edges k e q) m)))
          (same-images f e.targets (λ w m. target-below w (member-flat (λ e. e.targets) g.edges e w (get-member g.edges k e q) m)))

  isomorphic-lists : (h : PlainGraph) → (t : Isomorphic g h) → ByLists g h (images t.wire (length g.wires)) (images t.wire_back (length h.wires))
      (images t.edge (length g.edges)) (images t.edge_back (length h.edges))
  isomorphic-lists h t = record {
    wires = same-bijection (length g.wires) (length h.wires) t.wire t.wire_back t.wires;
    edges = same-bijection (length g.edges) (length h.edges) t.edge t.edge_back t.edges;
    sorts = λ w l. ap (slice_get h.wires) (index-images t.wire (length g.wires) w l) ∙ t.sorts w l;
    ports = λ k l. ap (slice_get h.edges) (index-images t.edge (length g.edges) k l) ∙ t.ports k l ∙ same-renamed t.wire k;
    inputs = t.inputs ∙ same-images t.wire g.inputs (input-below g v);
    outputs = t.outputs ∙ same-images t.wire g.outputs (output-below g v);
  }

  -- some lists are an isomorphism, or there is none
  pub decide-isomorphic : (h : PlainGraph) → Decided (Isomorphic g h)
  decide-isomorphic h = decided-by
      (λ r. lists-isomorphic g h r.0 r.3.0 r.3.3.0 r.3.3.3.0 r.3.3.3.3)
      (λ t. (
        images t.wire m,
        length-images t.wire m,
        Under-images t.wire m n t.wires.there,
        (
          images t.wire_back n,
          length-images t.wire_back n,
          Under-images t.wire_back n m t.wires.back,
          (
            images t.edge k,
            length-images t.edge k,
            Under-images t.edge k l t.edges.there,
            (images t.edge_back l, length-images t.edge_back l, Under-images t.edge_back l k t.edges.back, isomorphic-lists h t),
          ),
        ),
      ))
      (decide-list_of m n (λ ws. HasList n m (λ wb. HasList k l (λ es. HasList l k (λ eb. ByLists g h ws wb es eb)))) (λ ws.
      decide-list_of n m (λ wb. HasList k l (λ es. HasList l k (λ eb. ByLists g h ws wb es eb))) (λ wb.
      decide-list_of k l (λ es. HasList l k (λ eb. ByLists g h ws wb es eb)) (λ es.
      decide-list_of l k (λ eb. ByLists g h ws wb es eb) (λ eb. decide-lists g h ws wb es eb)))))
    where
      m : ℕ
      m = length g.wires

      n : ℕ
      n = length h.wires

      k : ℕ
      k = length g.edges

      l : ℕ
      l = length h.edges

-- of two typed terms the laws derive the equation, or they don't
pub laws-decided : (s t : Morphism) → IsTyped s → IsTyped t → (Derives [] s t) ⊎ (¬ Derives [] s t)
laws-decided s t a b = decided-by (isomorphic_derivation s t a b) (derivation_isomorphic s t) (decide-isomorphic (graph_of s) (valid s a) (graph_of t))
