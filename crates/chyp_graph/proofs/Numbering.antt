-- Wires and edges under new numbers, by a table of numbers.
use Rattle.std.proofs.Common.{[], ℕ, suc, ◌+◌, ◌<◌, ◌≤◌, ◌≡◌, true, false, cond, List, ◌∷◌, ◌++◌, map, length, Option, Some, None, slice_get, slice_index, All, inl, inr, refl, sym, ◌∙◌}
use Rattle.std.proofs.Common.{ap, ap₂, subst, arith, append_assoc, length-append, append-nil, zero-add, not}
use Rattle.std.specs.List.{cons_option}
use Rattle.std.proofs.lemmas.List.{map-append, length-map}
use Rattle.chyp_base.specs.declared.sort.Sort.{Sort}
use Rattle.chyp_term.specs.Perm.{count_from, permuted}
use Rattle.chyp_term.specs.Positions.{is_among, is_apart, is_there, place_of}
use Rattle.chyp_term.proofs.Closure.{index-get}
use Rattle.chyp_term.proofs.Inverses.{get-count0, place-found}
use Rattle.chyp_term.proofs.Permuted.{Under, count_from-0, length-count_from, length-permuted, permuted-append}
use Rattle.chyp_term.proofs.Positions.{Under-filter, upto-suc}
use Rattle.chyp_term.proofs.Counting.{count_from-push}
use Rattle.chyp_term.proofs.Members.{Member, Rearr-member, map-same_on, member-below, member-flat, member-left, member-right, place-first, All-from_get_members, All-members}
use Rattle.chyp_term.proofs.Rearrangement.{Rearr-sym, permutation-Rearr}
use Rattle.chyp_graph.specs.Composition.{beside_graph, inner, inner_wires, joined, joined_at, then_graph}
use Rattle.chyp_graph.specs.Joining.{number_behind}
use Rattle.chyp_graph.specs.PlainGraph.{Edge, PlainGraph, input_sorts, output_sorts, renamed}
use Rattle.chyp_graph.specs.Validity.{IsValid}
use Rattle.chyp_graph.proofs.Drafting.{index-map, place-below, plain-same, renamed-on}
use Rattle.chyp_graph.proofs.Leaves.{filter-few, inner-few}
use Rattle.chyp_graph.proofs.ThenValid.{length-inner}

-- ## tables

pub table-index : (f : ℕ → ℕ) (n : ℕ) (numbers : List ℕ) → numbers ≡ map f (count_from 0 n) → (w : ℕ) → w < n → slice_index numbers w ≡ f w
table-index f n numbers e w h =
    let l = length-count_from 0 n in
    ap (λ l. slice_index l w) e ∙ index-map f (count_from 0 n) w (omega arith) ∙ ap f (index-get (count_from 0 n) w w (get-count0 n w h))

pub table-length : (f : ℕ → ℕ) (n : ℕ) (numbers : List ℕ) → numbers ≡ map f (count_from 0 n) → length numbers ≡ n
table-length f n numbers e = ap length e ∙ length-map (count_from 0 n) f ∙ length-count_from 0 n

source-below : (h : PlainGraph) → IsValid h → (e : Edge) → Member e h.edges → (w : ℕ) → Member w e.sources → w < length h.wires
source-below h v e k w s =
    member-below (length h.wires) w (Rearr-member w (Rearr-sym (permutation-Rearr (length h.wires) _ v.consumers)) (member-right h.outputs _ w (member-flat (λ e. e.sources) h.edges e w k s)))

target-below : (h : PlainGraph) → IsValid h → (e : Edge) → Member e h.edges → (w : ℕ) → Member w e.targets → w < length h.wires
target-below h v e k w s =
    member-below (length h.wires) w (Rearr-member w (Rearr-sym (permutation-Rearr (length h.wires) _ v.producers)) (member-right h.inputs _ w (member-flat (λ e. e.targets) h.edges e w k s)))

pub input-below : (h : PlainGraph) → IsValid h → (w : ℕ) → Member w h.inputs → w < length h.wires
input-below h v w k = member-below (length h.wires) w (Rearr-member w (Rearr-sym (permutation-Rearr (length h.wires) _ v.producers)) (member-left h.inputs _ w k))

pub output-below : (h : PlainGraph) → IsValid h → (w : ℕ) → Member w h.outputs → w < length h.wires
output-below h v w k = member-below (length h.wires) w (Rearr-member w (Rearr-sym (permutation-Rearr (length h.wires) _ v.consumers)) (member-left h.outputs _ w k))

-- the ports of a valid graph are in a table of all its wires
pub edges-within : (h : PlainGraph) → IsValid h → (n : ℕ) → length h.wires ≡ n → All (λ e. All (λ w. w < n) e.sources × All (λ w. w < n) e.targets) h.edges
edges-within h v n q = All-from_get_members {P = λ e. All (λ w. w < n) e.sources × All (λ w. w < n) e.targets} h.edges (λ e k. (
  All-members e.sources (λ w s. subst (λ n. w < n) q (source-below h v e k w s)),
  All-members e.targets (λ w s. subst (λ n. w < n) q (target-below h v e k w s)),
))

pub inputs-within : (h : PlainGraph) → IsValid h → (n : ℕ) → length h.wires ≡ n → All (λ w. w < n) h.inputs
inputs-within h v n q = All-members h.inputs (λ w k. subst (λ n. w < n) q (input-below h v w k))

pub outputs-within : (h : PlainGraph) → IsValid h → (n : ℕ) → length h.wires ≡ n → All (λ w. w < n) h.outputs
outputs-within h v n q = All-members h.outputs (λ w k. subst (λ n. w < n) q (output-below h v w k))

module _ (h : PlainGraph) (v : IsValid h) (f : ℕ → ℕ) (numbers : List ℕ) (e : numbers ≡ map f (count_from 0 (length h.wires))) where
  pub edges-by : map (renamed (slice_index numbers)) h.edges ≡ map (renamed f) h.edges
  edges-by = map-same_on (renamed (slice_index numbers)) (renamed f) h.edges (λ x k. renamed-on (slice_index numbers) f x
      (λ w s. table-index f (length h.wires) numbers e w (source-below h v x k w s))
      (λ w s. table-index f (length h.wires) numbers e w (target-below h v x k w s)))

  pub inputs-by : map (slice_index numbers) h.inputs ≡ map f h.inputs
  inputs-by = map-same_on (slice_index numbers) f h.inputs (λ w k. table-index f (length h.wires) numbers e w (input-below h v w k))

  pub outputs-by : map (slice_index numbers) h.outputs ≡ map f h.outputs
  outputs-by = map-same_on (slice_index numbers) f h.outputs (λ w k. table-index f (length h.wires) numbers e w (output-below h v w k))

-- ## beside

pub beside-number : (n m : ℕ) (numbers : List ℕ) → numbers ≡ count_from n m → numbers ≡ map (λ w. n + w) (count_from 0 m)
beside-number n m numbers e = e ∙ count_from-0 n m

-- ## behind

-- outputs and inputs with the same sorts are as many
pub middle-length : (g h : PlainGraph) → IsValid g → IsValid h → output_sorts g ≡ input_sorts h → length g.outputs ≡ length h.inputs
middle-length g h vg vh e =
    sym (length-permuted g.wires g.outputs (under g.wires g.outputs (output-below g vg)))
    ∙ ap length e ∙ length-permuted h.wires h.inputs (under h.wires h.inputs (input-below h vh))
  where
    under : (ws : List Sort) (xs : List ℕ) → ((w : ℕ) → Member w xs → w < length ws) → Under (length ws) xs
    under ws [] f = tt
    under ws (x ∷ xs) f = (f x (inl refl), under ws xs (λ w k. f w (inr k)))

pub input-apart : (h : PlainGraph) → IsValid h → (i j : ℕ) → i < length h.inputs → j < length h.inputs → slice_index h.inputs i ≡ slice_index h.inputs j → i ≡ j
input-apart h v i j a b e =
    let p = place-first (length h.wires) h.inputs _ v.producers i a in
    let q = place-first (length h.wires) h.inputs _ v.producers j b in
    let r : Some i ≡ Some j = sym p ∙ ap (λ w. place_of w h.inputs) e ∙ q in cc

-- the number behind g is that in g ; h
pub number-joined : (g h : PlainGraph) (table : List ℕ) → length h.inputs ≡ length g.outputs
    → ((j : ℕ) → j < length h.inputs → slice_index table (slice_index h.inputs j) ≡ slice_index g.outputs j) → (w : ℕ) → number_behind (length g.wires) table h.inputs w ≡ joined g h w
number-joined g h table m t w = go (place_of w h.inputs) refl
  where
    go : (o : Option ℕ) → place_of w h.inputs ≡ o → number_behind (length g.wires) table h.inputs w ≡ joined g h w
    go None q = ap (λ o. cond (is_there o) (slice_index table w) (length g.wires + length (inner h.inputs w))) q ∙ sym (ap (joined_at g.outputs (length g.wires + length (inner h.inputs w))) q)
    go (Some j) q =
        let l = place-below w h.inputs j q in
        let at : slice_index h.inputs j ≡ w = index-get h.inputs j w (place-found w h.inputs j q) in
        ap (λ o. cond (is_there o) (slice_index table w) (length g.wires + length (inner h.inputs w))) q
        ∙ ap (slice_index table) (sym at) ∙ t j l
        ∙ sym (ap (joined_at g.outputs (length g.wires + length (inner h.inputs w))) q)

pub numbers-joined : (g h : PlainGraph) (table numbers : List ℕ) → length h.inputs ≡ length g.outputs
    → ((j : ℕ) → j < length h.inputs → slice_index table (slice_index h.inputs j) ≡ slice_index g.outputs j)
    → numbers ≡ map (number_behind (length g.wires) table h.inputs) (count_from 0 (length h.wires)) → numbers ≡ map (joined g h) (count_from 0 (length h.wires))
numbers-joined g h table numbers m t e = e ∙ map-same_on (number_behind (length g.wires) table h.inputs) (joined g h) (count_from 0 (length h.wires)) (λ w _. number-joined g h table m t w)

-- ## the wires behind, one after the other

pub inner-input : (ks : List ℕ) (w : ℕ) → is_apart ks w ≡ false → inner ks (w + 1) ≡ inner ks w
inner-input ks w e = let l : w + 1 ≡ suc w = omega arith in ap (inner ks) l ∙ upto-suc (is_apart ks) w ∙ ap (λ b. inner ks w ++ cond b (w ∷ []) []) e ∙ append-nil (inner ks w)

pub inner-other : (ks : List ℕ) (w : ℕ) → is_apart ks w ≡ true → inner ks (w + 1) ≡ inner ks w ++ w ∷ []
inner-other ks w e = let l : w + 1 ≡ suc w = omega arith in ap (inner ks) l ∙ upto-suc (is_apart ks) w ∙ ap (λ b. inner ks w ++ cond b (w ∷ []) []) e

map-count-suc : (f : ℕ → ℕ) (w : ℕ) → map f (count_from 0 (w + 1)) ≡ map f (count_from 0 w) ++ f w ∷ []
map-count-suc f w =
    let l : w + 1 ≡ suc w = omega arith in
    ap (λ n. map f (count_from 0 n)) l ∙ ap (map f) (count_from-push 0 w) ∙ map-append f (count_from 0 w) ((0 + w) ∷ []) ∙ ap (λ n. map f (count_from 0 w) ++ f n ∷ []) (zero-add w)

module _ (before : List Sort) (table : List ℕ) (h : PlainGraph) (w : ℕ) (numbers numbers' : List ℕ) (wires wires' : List Sort)
    (i : numbers ≡ map (number_behind (length before) table h.inputs) (count_from 0 w)) (j : wires ≡ before ++ permuted h.wires (inner h.inputs w)) where
  -- an input takes its number from the table
  pub behind-input : is_among h.inputs w ≡ true → numbers' ≡ numbers ++ slice_index table w ∷ [] → wires' ≡ wires
      → (numbers' ≡ map (number_behind (length before) table h.inputs) (count_from 0 (w + 1))) × (wires' ≡ before ++ permuted h.wires (inner h.inputs (w + 1)))
  behind-input a n s = (
    n ∙ ap₂ (λ l x. l ++ x ∷ []) i (sym (ap (λ b. cond b (slice_index table w) (length before + length (inner h.inputs w))) a)) ∙ sym (map-count-suc (number_behind (length before) table h.inputs) w),
    s ∙ j ∙ ap (λ ks. before ++ permuted h.wires ks) (sym (inner-input h.inputs w (ap not a))),
  )

  -- another wire comes after those so far
  pub behind-other : w < length h.wires → is_among h.inputs w ≡ false → (sort : Sort) → slice_get h.wires w ≡ Some sort → numbers' ≡ numbers ++ length wires ∷ [] → wires' ≡ wires ++ sort ∷ []
      → (numbers' ≡ map (number_behind (length before) table h.inputs) (count_from 0 (w + 1))) × (wires' ≡ before ++ permuted h.wires (inner h.inputs (w + 1)))
  behind-other b a sort g n s = (
    n ∙ ap₂ (λ l x. l ++ x ∷ []) i (count ∙ sym (ap (λ b. cond b (slice_index table w) (length before + length (inner h.inputs w))) a))
        ∙ sym (map-count-suc (number_behind (length before) table h.inputs) w),
    s ∙ ap (λ l. l ++ sort ∷ []) j ∙ append_assoc before (permuted h.wires (inner h.inputs w)) (sort ∷ [])
        ∙ ap (λ l. before ++ l) (sym (ap (permuted h.wires) (inner-other h.inputs w (ap not a)) ∙ permuted-append h.wires (inner h.inputs w) (w ∷ [])
        ∙ ap (λ o. permuted h.wires (inner h.inputs w) ++ cons_option o []) g)),
  )
    where
      count : length wires ≡ length before + length (inner h.inputs w)
      count =
          ap length j ∙ length-append before (permuted h.wires (inner h.inputs w))
          ∙ ap (λ n. length before + n) (length-permuted h.wires (inner h.inputs w) (Under-filter (is_apart h.inputs) (length h.wires) 0 w (omega arith)))

  -- there are few wires so far
  pub behind-few : w ≤ length h.wires → length before + length h.wires < 2147483648 → length wires < 2147483648
  behind-few b f =
      let c = ap length j ∙ length-append before (permuted h.wires (inner h.inputs w)) in
      let d = length-permuted h.wires (inner h.inputs w) (Under-filter (is_apart h.inputs) (length h.wires) 0 w (omega arith)) in
      let k = filter-few (is_apart h.inputs) (count_from 0 w) in
      let l = length-count_from 0 w in
      omega arith

-- ## the lists of a composite

pub beside-lists : (g h : PlainGraph) → IsValid h → (numbers : List ℕ) → numbers ≡ map (λ w. length g.wires + w) (count_from 0 (length h.wires)) → (w : List Sort) (e : List Edge) (i o : List ℕ)
    → w ≡ g.wires ++ h.wires → e ≡ g.edges ++ map (renamed (slice_index numbers)) h.edges → i ≡ g.inputs ++ map (slice_index numbers) h.inputs → o ≡ g.outputs ++ map (slice_index numbers) h.outputs
    → ◌≡◌ {A = PlainGraph} (record { wires = w; edges = e; inputs = i; outputs = o }) (beside_graph g h)
beside-lists g h v numbers n w e i o a b c d = plain-same a
    (b ∙ ap (λ r. g.edges ++ r) (edges-by h v (λ w. length g.wires + w) numbers n))
    (c ∙ ap (λ r. g.inputs ++ r) (inputs-by h v (λ w. length g.wires + w) numbers n))
    (d ∙ ap (λ r. g.outputs ++ r) (outputs-by h v (λ w. length g.wires + w) numbers n))

pub then-lists : (g h : PlainGraph) → IsValid h → (numbers : List ℕ) → numbers ≡ map (joined g h) (count_from 0 (length h.wires)) → (w : List Sort) (e : List Edge) (i o : List ℕ)
    → w ≡ g.wires ++ permuted h.wires (inner_wires h) → e ≡ g.edges ++ map (renamed (slice_index numbers)) h.edges → i ≡ g.inputs → o ≡ map (slice_index numbers) h.outputs
    → ◌≡◌ {A = PlainGraph} (record { wires = w; edges = e; inputs = i; outputs = o }) (then_graph g h)
then-lists g h v numbers n w e i o a b c d = plain-same a
    (b ∙ ap (λ r. g.edges ++ r) (edges-by h v (joined g h) numbers n))
    c
    (d ∙ outputs-by h v (joined g h) numbers n)

pub then-few : (g h : PlainGraph) → length g.wires + length h.wires < 2147483648 → length (then_graph g h).wires < 2147483648
then-few g h f = let a = length-append g.wires (permuted h.wires (inner_wires h)) in let b = length-inner h in let c = inner-few h in omega arith
