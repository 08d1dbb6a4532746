-- Drawing a generator and a permutation; and how many wires a term draws.
use Rattle.std.proofs.Common.{ℕ, zero, suc, ◌+◌, ◌-◌, ◌<◌, ◌≤◌, ◌≡◌, Bool, true, false, cond, List, [], ◌∷◌, ◌++◌, map, length, filter, take, drop, refl, sym, ◌∙◌, ap, ap₂, subst, arith}
use Rattle.std.proofs.Common.{append_assoc, append-nil, length-append, length-take, length-drop, zero-add, suc-add, slice_index, get_or}
use Rattle.std.specs.List.{cons_option}
use Rattle.std.proofs.Math.Seq.{drop-append_seam, take-length}
use Rattle.std.proofs.lemmas.List.{length-map}
use Rattle.chyp_base.specs.declared.sort.Sort.{Sort}
use Rattle.chyp_term.specs.Morphism.{IsTyped, Morphism, beside, cod, generator, permutation, then}
use Rattle.chyp_term.specs.Perm.{IsPermutation, count_from, permuted, shifted}
use Rattle.chyp_term.specs.Positions.{is_apart}
use Rattle.chyp_term.specs.Measure.{size_of}
use Rattle.chyp_term.proofs.Closure.{Under-perm, get-index, get-item}
use Rattle.chyp_term.proofs.Inverses.{length-shifted, permuted-numbers}
use Rattle.chyp_term.proofs.Permuted.{Under, Under-count_from, count_from-0, count_from-shifted, length-count_from, permuted-append, permuted-map, permuted-right}
use Rattle.chyp_term.proofs.Counting.{count_from-push}
use Rattle.chyp_graph.specs.Composition.{beside_graph, inner, inner_wires, joined}
use Rattle.chyp_graph.specs.Draft.{followed}
use Rattle.chyp_graph.specs.GraphOf.{graph_of}
use Rattle.chyp_graph.specs.PlainGraph.{Edge, PlainGraph, renamed}
use Rattle.chyp_graph.proofs.Drafting.{inner-beyond, plain-same}
use Rattle.chyp_term.proofs.Members.{filter-none, member-not_apart}
use Rattle.chyp_term.proofs.Slices.{take-suc}
use Rattle.chyp_graph.proofs.ThenValid.{joined-inner, joined-inputs, length-inner}
use Rattle.chyp_graph.proofs.Validity.{generator_valid, length-outputs, permutation_valid}

-- ## how many

pub filter-few : (p : ℕ → Bool) (xs : List ℕ) → length (filter p xs) ≤ length xs
filter-few p [] = omega arith
filter-few p (x ∷ xs) = go (p x) (filter-few p xs)
  where
    go : (b : Bool) → length (filter p xs) ≤ length xs → length (cond b (x ∷ filter p xs) (filter p xs)) ≤ suc (length xs)
    go true h = omega arith
    go false h = omega arith

pub inner-few : (h : PlainGraph) → length (inner_wires h) ≤ length h.wires
inner-few h = let a = filter-few (is_apart h.inputs) (count_from 0 (length h.wires)) in let b = length-count_from 0 (length h.wires) in omega arith

-- a term has no more wires than its size
pub wires-size : (t : Morphism) → IsTyped t → length (graph_of t).wires ≤ size_of t
wires-size (generator n a b) ty = let e = length-append a b in omega arith
wires-size (permutation a p) ty = let e = ty.size in omega arith
wires-size (then s t) ty =
    let a = wires-size s ty.0 in let b = wires-size t ty.1 in
    let e = length-append (graph_of s).wires (permuted (graph_of t).wires (inner_wires (graph_of t))) in
    let f = length-inner (graph_of t) in let g = inner-few (graph_of t) in omega arith
wires-size (beside s t) ty = let a = wires-size s ty.0 in let b = wires-size t ty.1 in let e = length-append (graph_of s).wires (graph_of t).wires in omega arith

-- nor more edges
pub edges-size : (t : Morphism) → length (graph_of t).edges ≤ size_of t
edges-size (generator n a b) = omega arith
edges-size (permutation a p) = omega arith
edges-size (then s t) =
    let a = edges-size s in let b = edges-size t in
    let e = length-append (graph_of s).edges (map (renamed (joined (graph_of s) (graph_of t))) (graph_of t).edges) in
    let f = length-map (graph_of t).edges (renamed (joined (graph_of s) (graph_of t))) in omega arith
edges-size (beside s t) =
    let a = edges-size s in let b = edges-size t in
    let e = length-append (graph_of s).edges (map (renamed (λ w. length (graph_of s).wires + w)) (graph_of t).edges) in
    let f = length-map (graph_of t).edges (renamed (λ w. length (graph_of s).wires + w)) in omega arith

pub followed-size : (d : PlainGraph) (live : List ℕ) (t : Morphism) → IsTyped t → length (followed d live (graph_of t)).wires ≤ length d.wires + size_of t
followed-size d live t ty =
    let a = wires-size t ty in
    let e = length-append d.wires (permuted (graph_of t).wires (inner_wires (graph_of t))) in
    let f = length-inner (graph_of t) in let g = inner-few (graph_of t) in omega arith

pub placed-size : (d : PlainGraph) (t : Morphism) → IsTyped t → length (beside_graph d (graph_of t)).wires ≤ length d.wires + size_of t
placed-size d t ty = let a = wires-size t ty in let e = length-append d.wires (graph_of t).wires in omega arith

-- a term leaves as many live wires as its codomain has
pub followed-live : (d : PlainGraph) (live : List ℕ) (t : Morphism) → IsTyped t → length (followed (record d { outputs = [] }) live (graph_of t)).outputs ≡ length (cod t)
followed-live d live t ty = length-map (graph_of t).outputs (joined (record d { outputs = live }) (graph_of t)) ∙ length-outputs t ty

pub placed-live : (d : PlainGraph) (t : Morphism) → IsTyped t → length (beside_graph (record d { outputs = [] }) (graph_of t)).outputs ≡ length (cod t)
placed-live d t ty = length-shifted (length d.wires) (graph_of t).outputs ∙ length-outputs t ty

pub length-part : {A : Type 0} (xs : List A) (at n : ℕ) → at + n ≤ length xs → length (take n (drop at xs)) ≡ n
length-part xs at n h = let a = length-take n (drop at xs) in let b = length-drop at xs in omega arith

-- two parts of a list, one behind the other
pub parts : {A : Type 0} (xs : List A) (at m n : ℕ) → take (m + n) (drop at xs) ≡ take m (drop at xs) ++ take n (drop (at + m) xs)
parts xs at m n = go (drop at xs) m n ∙ ap (λ r. take m (drop at xs) ++ take n r) (drops xs at m)
  where
    go : {A : Type 0} (xs : List A) (m n : ℕ) → take (m + n) xs ≡ take m xs ++ take n (drop m xs)
    go xs zero n = ap (λ k. take k xs) (zero-add n)
    go [] (suc m) zero = ap (λ k. take k []) (suc-add m zero)
    go [] (suc m) (suc n) = ap (λ k. take k []) (suc-add m (suc n))
    go (x ∷ xs) (suc m) n = ap (λ k. take k (x ∷ xs)) (suc-add m n) ∙ ap (λ r. x ∷ r) (go xs m n)

    drops : {A : Type 0} (xs : List A) (at m : ℕ) → drop m (drop at xs) ≡ drop (at + m) xs
    drops xs zero m = ap (λ k. drop k xs) (sym (zero-add m))
    drops [] (suc at) zero = ap (λ k. drop k []) (sym (suc-add at zero))
    drops [] (suc at) (suc m) = ap (λ k. drop k []) (sym (suc-add at (suc m)))
    drops (x ∷ xs) (suc at) m = drops xs at m ∙ ap (λ k. drop k (x ∷ xs)) (sym (suc-add at m))

-- ## generators

inner-numbers : (n : ℕ) → inner (count_from 0 n) n ≡ []
inner-numbers n = filter-none (is_apart (count_from 0 n)) (count_from 0 n) (λ w m. member-not_apart (count_from 0 n) w m)

inner-generator : (n : List ℕ) (a b : List Sort) → inner_wires (graph_of (generator n a b)) ≡ count_from (length a) (length b)
inner-generator n a b =
    ap (inner (count_from 0 (length a))) (length-append a b)
    ∙ inner-beyond (count_from 0 (length a)) (length a) (length b) (Under-count_from (length a) 0 (length a) (omega arith))
    ∙ ap (λ r. r ++ count_from (length a) (length b)) (inner-numbers (length a))

pub follow_generator : (d : PlainGraph) (live n : List ℕ) (a b : List Sort) → length live ≡ length a
    → ◌≡◌ {A = PlainGraph} (record {
      wires = d.wires ++ b;
      edges = d.edges ++ record { name = n; sources = live; targets = count_from (length d.wires) (length b) } ∷ [];
      inputs = d.inputs;
      outputs = d.outputs ++ count_from (length d.wires) (length b);
    }) (followed d live (graph_of (generator n a b)))
follow_generator d live n a b h = plain-same
    (ap (λ r. d.wires ++ r) (sym (ap (permuted (a ++ b)) kept ∙ permuted-right a b)))
    (ap₂ (λ x y. d.edges ++ record { name = n; sources = x; targets = y } ∷ []) (sym sources) (sym targets))
    refl
    (ap (λ r. d.outputs ++ r) (sym targets))
  where
    kept : inner_wires (graph_of (generator n a b)) ≡ count_from (length a) (length b)
    kept = inner-generator n a b

    sources : map (joined (record d { outputs = live }) (graph_of (generator n a b))) (count_from 0 (length a)) ≡ live
    sources = joined-inputs (record d { outputs = live }) (graph_of (generator n a b)) (generator_valid n a b) (h ∙ sym (length-count_from 0 (length a)))

    targets : map (joined (record d { outputs = live }) (graph_of (generator n a b))) (count_from (length a) (length b)) ≡ count_from (length d.wires) (length b)
    targets =
        ap (map (joined (record d { outputs = live }) (graph_of (generator n a b)))) (sym kept)
        ∙ joined-inner (record d { outputs = live }) (graph_of (generator n a b))
        ∙ ap (count_from (length d.wires)) (ap length kept ∙ length-count_from (length a) (length b))

pub place_generator : (d : PlainGraph) (n : List ℕ) (a b : List Sort)
    → ◌≡◌ {A = PlainGraph} (record {
      wires = (d.wires ++ a) ++ b;
      edges = d.edges ++ record { name = n; sources = count_from (length d.wires) (length a); targets = count_from (length (d.wires ++ a)) (length b) } ∷ [];
      inputs = d.inputs ++ count_from (length d.wires) (length a);
      outputs = d.outputs ++ count_from (length (d.wires ++ a)) (length b);
    }) (beside_graph d (graph_of (generator n a b)))
place_generator d n a b = plain-same
    (append_assoc d.wires a b)
    (ap₂ (λ x y. d.edges ++ record { name = n; sources = x; targets = y } ∷ []) sources targets)
    (ap (λ r. d.inputs ++ r) sources)
    (ap (λ r. d.outputs ++ r) targets)
  where
    sources : count_from (length d.wires) (length a) ≡ shifted (length d.wires) (count_from 0 (length a))
    sources = count_from-0 (length d.wires) (length a)

    targets : count_from (length (d.wires ++ a)) (length b) ≡ shifted (length d.wires) (count_from (length a) (length b))
    targets = ap (λ k. count_from k (length b)) (length-append d.wires a) ∙ count_from-shifted (length d.wires) (length a) (length b)

-- ## permutations

pub follow_permutation : (d : PlainGraph) (live : List ℕ) (a : List Sort) (p : List ℕ) → IsPermutation (length a) p → length live ≡ length a
    → ◌≡◌ {A = PlainGraph} (record { wires = d.wires; edges = d.edges; inputs = d.inputs; outputs = d.outputs ++ permuted live p }) (followed d live (graph_of (permutation a p)))
follow_permutation d live a p t h = plain-same
    (sym (ap (λ ks. d.wires ++ permuted a ks) (inner-numbers (length a)) ∙ append-nil d.wires))
    (sym (append-nil d.edges))
    refl
    (ap (λ r. d.outputs ++ r) (sym outputs))
  where
    outputs : map (joined (record d { outputs = live }) (graph_of (permutation a p))) p ≡ permuted live p
    outputs =
        ap (map (joined (record d { outputs = live }) (graph_of (permutation a p)))) (sym (permuted-numbers (length a) p (Under-perm (length a) p t)))
        ∙ sym (permuted-map (joined (record d { outputs = live }) (graph_of (permutation a p))) (count_from 0 (length a)) p
        (subst (λ n. Under n p) (sym (length-count_from 0 (length a))) (Under-perm (length a) p t)))
        ∙ ap (λ l. permuted l p) (joined-inputs (record d { outputs = live }) (graph_of (permutation a p)) (permutation_valid a p t) (h ∙ sym (length-count_from 0 (length a))))

pub place_permutation : (d : PlainGraph) (a : List Sort) (p : List ℕ) → IsPermutation (length a) p
    → ◌≡◌ {A = PlainGraph} (record {
      wires = d.wires ++ a;
      edges = d.edges;
      inputs = d.inputs ++ count_from (length d.wires)
          (length a);
      outputs = d.outputs ++ permuted (count_from (length d.wires) (length a)) p;
    }) (beside_graph d (graph_of (permutation a p)))
place_permutation d a p t = plain-same
    refl
    (sym (append-nil d.edges))
    (ap (λ r. d.inputs ++ r) (count_from-0 (length d.wires) (length a)))
    (ap (λ r. d.outputs ++ r)
    (ap (λ l. permuted l p) (count_from-0 (length d.wires) (length a))
    ∙ permuted-map (λ w. length d.wires + w) (count_from 0 (length a)) p (subst (λ n. Under n p) (sym (length-count_from 0 (length a))) (Under-perm (length a) p t))
    ∙ ap (shifted (length d.wires)) (permuted-numbers (length a) p (Under-perm (length a) p t))))

-- ## the empty draft

pub place_empty : (g : PlainGraph) → beside_graph (record { wires = []; edges = []; inputs = []; outputs = [] }) g ≡ g
place_empty g = plain-same refl (edges g.edges) (none g.inputs) (none g.outputs)
  where
    none : (ws : List ℕ) → shifted 0 ws ≡ ws
    none [] = refl
    none (w ∷ ws) = ap₂ (λ x y. x ∷ y) (zero-add w) (none ws)

    edges : (es : List Edge) → map (renamed (λ w. 0 + w)) es ≡ es
    edges [] = refl
    edges (e ∷ es) = ap₂ (λ x y. x ∷ y) (ap₂ (λ a b. record { name = e.name; sources = a; targets = b }) (none e.sources) (none e.targets)) (edges es)

-- ## lists that grow by one

pub pushed-at : (list live places before after : List ℕ) (i x : ℕ) → i < length places → slice_index places i < length live → x ≡ get_or live (slice_index places i) x
    → before ≡ list ++ permuted live (take i places) → after ≡ before ++ x ∷ [] → after ≡ list ++ permuted live (take (i + 1) places)
pushed-at list live places before after i x h b e q r =
    r ∙ ap (λ l. l ++ x ∷ []) q ∙ append_assoc list (permuted live (take i places)) (x ∷ [])
    ∙ ap (λ l. list ++ l) (sym (ap (permuted live) (take-suc places i (slice_index places i) (get-index places i h))
    ∙ permuted-append live (take i places) (slice_index places i ∷ [])
    ∙ ap (λ o. permuted live (take i places) ++ cons_option o []) (get-item live (slice_index places i) x b e)))

pub pushed-item : {A : Type 0} (list items before after : List A) (i : ℕ) (x : A) → i < length items → x ≡ get_or items i x → before ≡ list ++ take i items
    → after ≡ before ++ x ∷ [] → after ≡ list ++ take (i + 1) items
pushed-item list items before after i x h e q r =
    r ∙ ap (λ l. l ++ x ∷ []) q ∙ append_assoc list (take i items) (x ∷ []) ∙ ap (λ l. list ++ l) (sym (take-suc items i x (get-item items i x h e)))

-- what was put behind a list
pub put-behind : {A : Type 0} (list part whole : List A) (at : ℕ) → at ≡ length list → whole ≡ list ++ part → take (length whole - at) (drop at whole) ≡ part
put-behind list part whole at e w =
    let a = length-append list part in
    let l : length whole ≡ length (list ++ part) = ap length w in
    let n : length whole - at ≡ length part = omega arith in
    ap₂ take n (ap₂ drop e w ∙ drop-append_seam list part) ∙ take-length part

pub pushed-number : (k i x : ℕ) (list before after : List ℕ) → x ≡ k + i → before ≡ list ++ count_from k i → after ≡ before ++ x ∷ []
    → after ≡ list ++ count_from k (i + 1)
pushed-number k i x list before after e q r =
    let l : suc i ≡ i + 1 = omega arith in
    r ∙ ap₂ (λ a b. a ++ b ∷ []) q e ∙ append_assoc list (count_from k i) ((k + i) ∷ []) ∙ ap (λ n. list ++ n) (sym (count_from-push k i) ∙ ap (count_from k) l)

pub length-grown : {A : Type 0} (list items before : List A) (i : ℕ) → i ≤ length items → before ≡ list ++ take i items → length before ≡ length list + i
length-grown list items before i h e = let a = length-take i items in ap length e ∙ length-append list (take i items) ∙ omega arith
