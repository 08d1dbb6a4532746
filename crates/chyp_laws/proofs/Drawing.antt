-- The graph of a term, wire by wire.
use Rattle.std.proofs.Common.{[], ℕ, zero, suc, ◌+◌, ◌-◌, ◌<◌, ◌≤◌, ◌≡◌, cond, ltb, List, ◌∷◌, ◌++◌, map, length, Option, Some, slice_get, ◌⊎◌, inl, inr, refl, sym, ◌∙◌, ap, arith, length-append}
use Rattle.std.proofs.Common.{add-zero, zero-add, lt-ltb, le-ltb}
use Rattle.std.proofs.lemmas.List.{length-map}
use Rattle.std.proofs.lemmas.Bool.{cases_lt}
use Rattle.chyp_base.specs.declared.sort.Sort.{Sort}
use Rattle.chyp_term.specs.Morphism.{Morphism, dom, generator, permutation}
use Rattle.chyp_term.specs.Perm.{IsPermutation, count_from, permuted}
use Rattle.chyp_term.proofs.Closure.{Under-perm}
use Rattle.chyp_term.proofs.Permuted.{Under, count_from-0, get-append_left, get-append_right, length-count_from}
use Rattle.chyp_term.proofs.Positions.{map-id}
use Rattle.chyp_theory.proofs.Peeling.{ins}
use Rattle.chyp_theory.proofs.Renaming.{In, Producer, Target}
use Rattle.chyp_theory.proofs.Running.{EdgeOf, label_of, run, src}
use Rattle.chyp_theory.proofs.EdgeLists.{edges_of}
use Rattle.chyp_graph.specs.GraphOf.{graph_of}
use Rattle.chyp_graph.specs.PlainGraph.{Edge, PlainGraph}

abbrev pub sort_at : (t : Morphism) → Producer (EdgeOf t) → Option Sort
sort_at t (In j) = slice_get (dom t) j
sort_at t (Target e i) = slice_get (label_of t e).cod i

abbrev pub IsWire : (t : Morphism) → Producer (EdgeOf t) → Type 0
IsWire t (In j) = j < length (dom t)
IsWire t (Target e i) = i < length (label_of t e).cod

abbrev pub drawn : (t : Morphism) → (EdgeOf t → ℕ → ℕ) → List ℕ → EdgeOf t → Edge
drawn t mk ins e = record { name = (label_of t e).name; sources = src t mk ins e; targets = map (mk e) (count_from 0 (length (label_of t e).cod)) }

-- the wires of g are those of t, each once
pub record Drawn (t : Morphism) (g : PlainGraph) : Type 0 where
  pub wire : Producer (EdgeOf t) → ℕ
  pub from : ℕ → Producer (EdgeOf t)
  pub wire_below : (x : Producer (EdgeOf t)) → IsWire t x → wire x < length g.wires
  pub from_valid : (w : ℕ) → w < length g.wires → IsWire t (from w)
  pub wire_from : (w : ℕ) → w < length g.wires → wire (from w) ≡ w
  pub from_wire : (x : Producer (EdgeOf t)) → IsWire t x → from (wire x) ≡ x
  pub sorts : (x : Producer (EdgeOf t)) → IsWire t x → slice_get g.wires (wire x) ≡ sort_at t x
  pub inputs : g.inputs ≡ map (λ j. wire (In j)) (count_from 0 (length (dom t)))
  pub outputs : g.outputs ≡ run t (λ e i. wire (Target e i)) g.inputs
  pub edges : g.edges ≡ map (drawn t (λ e i. wire (Target e i)) g.inputs) (edges_of t)

pub length-ins : {t : Morphism} {g : PlainGraph} (d : Drawn t g) → length g.inputs ≡ length (dom t)
length-ins {t} d = ap length d.inputs ∙ length-map (count_from 0 (length (dom t))) (λ j. d.wire (In j)) ∙ length-count_from 0 (length (dom t))

pub drawn_generator : (n : List ℕ) (a b : List Sort) → Drawn (generator n a b) (graph_of (generator n a b))
drawn_generator n a b =
    let q : length (a ++ b) ≡ length a + length b = length-append a b in
    record {
      wire = wire;
      from = from;
      wire_below = elim [ In j ↦ λ h. omega arith | Target e i ↦ λ h. omega arith ];
      from_valid = λ w h. from_valid w (cases_lt w (length a)) (omega arith);
      wire_from = λ w h. wire_from w (cases_lt w (length a));
      from_wire = elim [ In j ↦ λ h. rw (lt-ltb j (length a) h) refl | Target e i ↦ λ h. rw (le-ltb (length a + i) (length a) (omega arith)) (ap (Target tt) (omega arith)) ];
      sorts = elim [ In j ↦ λ h. get-append_left a b j h | Target e i ↦ λ h. get-append_right a b i ];
      inputs = sym (map-id (count_from 0 (length a)));
      outputs = count_from-0 (length a) (length b);
      edges = ap (λ ts. record { name = n; sources = count_from 0 (length a); targets = ts } ∷ []) (count_from-0 (length a) (length b));
    }
  where
    wire : Producer (Unit {0}) → ℕ
    wire (In j) = j
    wire (Target e i) = length a + i

    from : ℕ → Producer (Unit {0})
    from w = cond (ltb w (length a)) (In w) (Target tt (w - length a))

    from_valid : (w : ℕ) → (w < length a) ⊎ (length a ≤ w) → w < length a + length b → IsWire (generator n a b) (from w)
    from_valid w (inl l) h = rw (lt-ltb w (length a) l) l
    from_valid w (inr g) h = rw (le-ltb w (length a) g) (omega arith)

    wire_from : (w : ℕ) → (w < length a) ⊎ (length a ≤ w) → wire (from w) ≡ w
    wire_from w (inl l) = rw (lt-ltb w (length a) l) refl
    wire_from w (inr g) = rw (le-ltb w (length a) g) (omega arith)

pub drawn_permutation : (a : List Sort) (p : List ℕ) → IsPermutation (length a) p → Drawn (permutation a p) (graph_of (permutation a p))
drawn_permutation a p ty = record {
  wire = elim [ In j ↦ j | Target e i ↦ absurd e ];
  from = λ w. In w;
  wire_below = elim [ In j ↦ λ h. h | Target e i ↦ absurd e ];
  from_valid = λ w h. h;
  wire_from = λ w h. refl;
  from_wire = elim [ In j ↦ λ h. refl | Target e i ↦ absurd e ];
  sorts = elim [ In j ↦ λ h. refl | Target e i ↦ absurd e ];
  inputs = sym (map-id (count_from 0 (length a)));
  outputs = sym (permuted-numbers (length a) p (Under-perm _ p ty));
  edges = refl;
}
  where
    get-count : (k n i : ℕ) → i < n → slice_get (count_from k n) i ≡ Some (k + i)
    get-count k zero i h = absurd (omega arith)
    get-count k (suc n) zero h = ap Some (sym (add-zero k))
    get-count k (suc n) (suc i) h = get-count (suc k) n i (omega arith) ∙ ap Some (omega arith)

    permuted-numbers : (n : ℕ) (p : List ℕ) → Under n p → permuted (count_from 0 n) p ≡ p
    permuted-numbers n [] u = refl
    permuted-numbers n (k ∷ p) u = rw (get-count 0 n k u.0, zero-add k) (ap (λ r. k ∷ r) (permuted-numbers n p u.1))
