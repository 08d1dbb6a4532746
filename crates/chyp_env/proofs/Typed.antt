-- The types of terms that are joined by halves.
use Rattle.std.proofs.Common.{◌≡◌, ℕ, zero, suc, ◌+◌, ◌-◌, ◌/◌, ◌<◌, ◌≤◌, List, [], ◌∷◌, ◌++◌, length, take, drop, get_or, Some, refl, sym, ◌∙◌, ap, ap₂, subst, arith, length-take, length-drop}
use Rattle.std.specs.Prelude.{slice_index, slice_get}
use Rattle.std.specs.List.{All, flat_map}
use Rattle.std.proofs.lemmas.List.{get_or-take, get_or-drop, take-append-drop, append_assoc, append-nil, length-replicate}
use Rattle.std.proofs.lemmas.List.Elements.{All-head, All-take, All-drop}
use Rattle.chyp_base.specs.declared.sort.Sort.{Sort}
use Rattle.chyp_base.specs.Sort.{plain}
use Rattle.chyp_term.specs.Derivation.{empty}
use Rattle.chyp_term.specs.Morphism.{Morphism, then, beside, dom, cod, IsTyped}
use Rattle.chyp_term.specs.Perm.{IsPermutation, permuted}
use Rattle.chyp_env.specs.Expansion.{plain_wires, plain_permutation}
use Rattle.chyp_term.specs.Halving.{halved_by, halved}

-- ---- permutations of plain wires

pub no_place : IsPermutation 0 []
no_place = record { size = refl; within = λ i h. absurd (omega arith); apart = λ i j h k e. absurd (omega arith) }

pub one_place : IsPermutation 1 (0 ∷ [])
one_place = record { size = refl; within = inside; apart = λ i j h k e. omega arith }
  where
    inside : (i : ℕ) → i < 1 → slice_index (0 ∷ []) i < 1
    inside zero h = omega arith
    inside (suc i) h = absurd (omega arith)

pub two_places : IsPermutation 2 (1 ∷ 0 ∷ [])
two_places = record { size = refl; within = inside; apart = different }
  where
    inside : (i : ℕ) → i < 2 → slice_index (1 ∷ 0 ∷ []) i < 2
    inside zero h = omega arith
    inside (suc zero) h = omega arith
    inside (suc (suc i)) h = absurd (omega arith)

    different : (i j : ℕ) → i < 2 → j < 2 → slice_index (1 ∷ 0 ∷ []) i ≡ slice_index (1 ∷ 0 ∷ []) j → i ≡ j
    different zero zero h k e = refl
    different zero (suc zero) h k e = absurd (omega arith)
    different (suc zero) zero h k e = absurd (omega arith)
    different (suc zero) (suc zero) h k e = refl
    different (suc (suc i)) j h k e = absurd (omega arith)
    different i (suc (suc j)) h k e = absurd (omega arith)

pub plain_typed : (places : List ℕ) → IsPermutation (length places) places → IsTyped (plain_permutation places)
plain_typed places h = subst (λ n. IsPermutation n places) (sym (length-replicate (length places) plain)) h

-- places of equal wires give those wires
permuted-plain : (n : ℕ) (places : List ℕ) → ((i : ℕ) → i < length places → slice_index places i < n) → permuted (plain_wires n) places ≡ plain_wires (length places)
permuted-plain n [] h = refl
permuted-plain n (place ∷ places) h =
    let rest = permuted-plain n places (λ i k. h (suc i) (omega arith)) in
    rw (there n place (h 0 (omega arith))) (ap (λ ws. plain ∷ ws) rest)
  where
    there : (n k : ℕ) → k < n → slice_get (plain_wires n) k ≡ Some plain
    there zero k h = absurd (omega arith)
    there (suc n) zero h = refl
    there (suc n) (suc k) h = there n k (omega arith)

pub plain_cod : (places : List ℕ) → IsPermutation (length places) places → cod (plain_permutation places) ≡ plain_wires (length places)
plain_cod places h = permuted-plain (length places) places h.within

-- ---- parts beside one another

flat_map-halves : (f : Morphism → List Sort) (xs ys : List Morphism) → flat_map f (xs ++ ys) ≡ flat_map f xs ++ flat_map f ys
flat_map-halves f [] ys = refl
flat_map-halves f (x ∷ xs) ys = ap (λ zs. f x ++ zs) (flat_map-halves f xs ys) ∙ sym (append_assoc (f x) (flat_map f xs) (flat_map f ys))

-- what is the concatenation at a tensor of two is the concatenation at a row
halved-beside : (f : Morphism → List Sort) → f empty ≡ [] → ((s t : Morphism) → f (beside s t) ≡ f s ++ f t)
    → (most : ℕ) (ms : List Morphism) → length ms ≤ most → f (halved_by empty most beside ms) ≡ flat_map f ms
halved-beside f none both most [] h = none
halved-beside f none both most (a ∷ []) h = sym (append-nil (f a))
halved-beside f none both zero (a ∷ b ∷ ms) h = absurd (omega arith)
halved-beside f none both (suc most) (a ∷ b ∷ ms) h =
    let all : List Morphism = a ∷ b ∷ ms in
    let half : ℕ = length all / 2 in
    let front = length-take half all in
    let rest = length-drop half all in
    both (halved_by empty most beside (take half all)) (halved_by empty most beside (drop half all))
    ∙ ap₂ (λ (xs ys : List Sort). xs ++ ys) (halved-beside f none both most (take half all) (omega arith)) (halved-beside f none both most (drop half all) (omega arith))
    ∙ sym (flat_map-halves f (take half all) (drop half all)) ∙ ap (flat_map f) (take-append-drop half all)

pub dom-beside : (ms : List Morphism) → dom (halved beside ms) ≡ flat_map dom ms
dom-beside ms = halved-beside dom refl (λ s t. refl) (length ms) ms (omega arith)

pub cod-beside : (ms : List Morphism) → cod (halved beside ms) ≡ flat_map cod ms
cod-beside ms = halved-beside cod refl (λ s t. refl) (length ms) ms (omega arith)

typed-beside-by : (most : ℕ) (ms : List Morphism) → length ms ≤ most → All IsTyped ms → IsTyped (halved_by empty most beside ms)
typed-beside-by most [] h typed = no_place
typed-beside-by most (a ∷ []) h typed = All-head IsTyped a [] typed
typed-beside-by zero (a ∷ b ∷ ms) h typed = absurd (omega arith)
typed-beside-by (suc most) (a ∷ b ∷ ms) h typed =
    let all : List Morphism = a ∷ b ∷ ms in
    let half : ℕ = length all / 2 in
    let front = length-take half all in
    let rest = length-drop half all in
    (typed-beside-by most (take half all) (omega arith) (All-take IsTyped half all typed), typed-beside-by most (drop half all) (omega arith) (All-drop IsTyped half all typed))

pub typed-beside : (ms : List Morphism) → All IsTyped ms → IsTyped (halved beside ms)
typed-beside ms typed = typed-beside-by (length ms) ms (omega arith) typed

-- ---- parts one after the other

-- each part meets the next one
abbrev pub AreLinked : List Morphism → Type 0
AreLinked ms = (k : ℕ) → suc k < length ms → cod (get_or ms k empty) ≡ dom (get_or ms (suc k) empty)

dom-then-by : (most : ℕ) (ms : List Morphism) → length ms ≤ most → dom (halved_by empty most then ms) ≡ dom (get_or ms 0 empty)
dom-then-by most [] h = refl
dom-then-by most (a ∷ []) h = refl
dom-then-by zero (a ∷ b ∷ ms) h = absurd (omega arith)
dom-then-by (suc most) (a ∷ b ∷ ms) h =
    let all : List Morphism = a ∷ b ∷ ms in
    let half : ℕ = length all / 2 in
    let front = length-take half all in
    dom-then-by most (take half all) (omega arith) ∙ ap dom (get_or-take half all 0 empty (omega arith))

cod-then-by : (most : ℕ) (ms : List Morphism) → length ms ≤ most → cod (halved_by empty most then ms) ≡ cod (get_or ms (length ms - 1) empty)
cod-then-by most [] h = refl
cod-then-by most (a ∷ []) h = refl
cod-then-by zero (a ∷ b ∷ ms) h = absurd (omega arith)
cod-then-by (suc most) (a ∷ b ∷ ms) h =
    let all : List Morphism = a ∷ b ∷ ms in
    let half : ℕ = length all / 2 in
    let rest = length-drop half all in
    let last : half + (length (drop half all) - 1) ≡ length all - 1 = omega arith in
    cod-then-by most (drop half all) (omega arith) ∙ ap cod (get_or-drop half all (length (drop half all) - 1) empty) ∙ ap (λ k. cod (get_or all k empty)) last

pub dom-then : (ms : List Morphism) → dom (halved then ms) ≡ dom (get_or ms 0 empty)
dom-then ms = dom-then-by (length ms) ms (omega arith)

pub cod-then : (ms : List Morphism) → cod (halved then ms) ≡ cod (get_or ms (length ms - 1) empty)
cod-then ms = cod-then-by (length ms) ms (omega arith)

typed-then-by : (most : ℕ) (ms : List Morphism) → length ms ≤ most → All IsTyped ms → AreLinked ms → IsTyped (halved_by empty most then ms)
typed-then-by most [] h typed linked = no_place
typed-then-by most (a ∷ []) h typed linked = All-head IsTyped a [] typed
typed-then-by zero (a ∷ b ∷ ms) h typed linked = absurd (omega arith)
typed-then-by (suc most) (a ∷ b ∷ ms) h typed linked =
    let all : List Morphism = a ∷ b ∷ ms in
    let half : ℕ = length all / 2 in
    let front = length-take half all in
    let rest = length-drop half all in
    let before : suc (half - 1) ≡ half = omega arith in
    let first : AreLinked (take half all) = λ k k-in. ap cod (get_or-take half all k empty (omega arith)) ∙ linked k (omega arith) ∙ sym (ap dom (get_or-take half all (suc k) empty (omega arith))) in
    let second : AreLinked (drop half all) = λ k k-in. ap cod (get_or-drop half all k empty) ∙ linked (half + k) (omega arith)
    ∙ ap (λ n. dom (get_or all n empty)) (let e : suc (half + k) ≡ half + suc k = omega arith in e) ∙ sym (ap dom (get_or-drop half all (suc k) empty)) in
    let last : length (take half all) - 1 ≡ half - 1 = omega arith in
    let zeroth : half + 0 ≡ half = omega arith in
    let meet : cod (halved_by empty most then (take half all)) ≡ dom (halved_by empty most then (drop half all)) =
    cod-then-by most (take half all) (omega arith) ∙ ap (λ k. cod (get_or (take half all) k empty)) last ∙ ap cod (get_or-take half all (half - 1) empty (omega arith))
    ∙ linked (half - 1) (omega arith) ∙ ap (λ k. dom (get_or all k empty)) (before ∙ sym zeroth) ∙ sym (ap dom (get_or-drop half all 0 empty))
    ∙ sym (dom-then-by most (drop half all) (omega arith)) in
    (typed-then-by most (take half all) (omega arith) (All-take IsTyped half all typed) first, typed-then-by most (drop half all) (omega arith) (All-drop IsTyped half all typed) second, meet)

pub typed-then : (ms : List Morphism) → All IsTyped ms → AreLinked ms → IsTyped (halved then ms)
typed-then ms typed linked = typed-then-by (length ms) ms (omega arith) typed linked
