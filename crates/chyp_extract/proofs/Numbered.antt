-- Things that are numbered by a permutation.
use Rattle.std.proofs.Common.{ℕ, ◌<◌, ◌≡◌, List, [], map, Option, Some, None, option_map, slice_get, sym, ◌∙◌, ap, subst, append-nil}
use Rattle.chyp_term.specs.Perm.{IsPermutation}
use Rattle.chyp_term.specs.Positions.{place_of}
use Rattle.chyp_term.proofs.Closure.{index-get}
use Rattle.chyp_term.proofs.Inverses.{place-found, place_in}
use Rattle.chyp_term.proofs.Positions.{slice_get-length}
use Rattle.chyp_term.proofs.Members.{Member, get-member, member-get, place-first}
use Rattle.chyp_term.proofs.Permuted.{get-map, in_map}

-- a number that stands at a place of a permutation stands at no place before
pub place-at : (n : ℕ) (p : List ℕ) → IsPermutation n p → (j k : ℕ) → slice_get p j ≡ Some k → place_of k p ≡ Some j
place-at n p t j k e =
    ap (λ w. place_of w p) (sym (index-get p j k e))
    ∙ place-first n p [] (subst (IsPermutation n) (sym (append-nil p)) t) j (slice_get-length p j k e)

abbrev pub or_else : {A : Type 0} → A → Option A → A
or_else d None = d
or_else d (Some x) = x

abbrev pub item_at : {A : Type 0} → A → List A → Option ℕ → A
item_at d xs None = d
item_at d xs (Some j) = or_else d (slice_get xs j)

-- the thing of a number
abbrev pub numbered : {A : Type 0} → A → (A → ℕ) → List A → ℕ → A
numbered d f xs k = item_at d xs (place_of k (map f xs))

pub numbered-back : {A : Type 0} (d : A) (f : A → ℕ) (xs : List A) (n : ℕ) → IsPermutation n (map f xs) → (x : A) → Member x xs → numbered d f xs (f x) ≡ x
numbered-back d f xs n t x h =
    let j = member-get xs x h in
    ap (item_at d xs) (place-at n (map f xs) t j.0 (f x) (get-map f xs j.0 ∙ ap (option_map f) j.1)) ∙ ap (or_else d) j.1

pub record IsNumbered {A : Type 0} (d : A) (f : A → ℕ) (xs : List A) (k : ℕ) : Type 0 where
  pub member : Member (numbered d f xs k) xs
  pub number : f (numbered d f xs k) ≡ k

pub is-numbered : {A : Type 0} (d : A) (f : A → ℕ) (xs : List A) (n : ℕ) → IsPermutation n (map f xs) → (k : ℕ) → k < n → IsNumbered d f xs k
is-numbered {A} d f xs n t k h =
    let j = place_in n (map f xs) t k h in
    let x = in_map f xs j.0 k (place-found k (map f xs) j.0 j.1) in
    let e : numbered d f xs k ≡ x.0 = ap (item_at d xs) j.1 ∙ ap (or_else d) x.1 in
    record { member = subst (λ z. Member z xs) (sym e) (get-member xs j.0 x.0 x.1); number = ap f e ∙ x.2 }
