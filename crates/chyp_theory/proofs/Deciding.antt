-- What is decided of terms: whether a term has a type.
use Rattle.std.proofs.Common.{ℕ, ◌<◌, ◌≡◌, List, length, slice_index, inl}
use Rattle.std.proofs.lemmas.Bool.{cases_eq}
use Rattle.chyp_term.specs.Morphism.{IsTyped, Morphism, beside, cod, dom, generator, permutation, then}
use Rattle.chyp_term.specs.Perm.{IsPermutation}
use Rattle.chyp_term.proofs.Deciding.{Decided, decided-by, decide-both, decide-then, decide-less, decide-below, decide-sorts}

pub decide-permutation : (n : ℕ) (p : List ℕ) → Decided (IsPermutation n p)
decide-permutation n p = decided-by (λ r. record { size = r.0; within = r.1.0; apart = λ i j h l e. r.1.1 i h j l e }) (λ t. (t.size, (t.within, λ i h j l e. t.apart i j h l e)))
    (decide-both (cases_eq (length p) n) (decide-both
    (decide-below (λ i. slice_index p i < n) (λ i. decide-less (slice_index p i) n) n)
    (decide-below (λ i. (j : ℕ) → j < n → slice_index p i ≡ slice_index p j → i ≡ j)
    (λ i. decide-below (λ j. slice_index p i ≡ slice_index p j → i ≡ j) (λ j. decide-then (cases_eq (slice_index p i) (slice_index p j)) (cases_eq i j)) n) n)))

pub decide-typed : (t : Morphism) → Decided (IsTyped t)
decide-typed (generator n a b) = inl tt
decide-typed (permutation a p) = decide-permutation (length a) p
decide-typed (then s t) = decided-by (λ r. (r.0, r.1.0, r.1.1)) (λ r. (r.0, (r.1, r.2))) (decide-both (decide-typed s) (decide-both (decide-typed t) (decide-sorts (cod s) (dom t))))
decide-typed (beside s t) = decide-both (decide-typed s) (decide-typed t)
