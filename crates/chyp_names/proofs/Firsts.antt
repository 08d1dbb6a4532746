-- The first of some answers, where a loop looks at one item after another.
use Rattle.std.proofs.Common.{◌≡◌, ℕ, zero, suc, ◌+◌, ◌<◌, ◌≤◌, List, [], ◌∷◌, ◌++◌, flat_map, length, take, slice_get}
use Rattle.std.proofs.Common.{slice_index_or, Option, None, Some, refl, sym, ap, ap₂, subst, ◌∙◌, arith, is_some, true≢false, true, false}
use Rattle.std.specs.List.{filter_map}
use Rattle.std.proofs.lemmas.List.{take_all}
use Rattle.std.proofs.lemmas.List.Elements.{filter_map-append}

-- two lists that make no item together have none
nil_both : {V : Type 0} (xs ys : List V) → xs ++ ys ≡ [] → (xs ≡ []) × (ys ≡ [])
nil_both [] ys e = (refl, e)
nil_both (x ∷ xs) ys e = absurd (suc≢0 (ap length e))
  where
    suc≢0 : length (x ∷ (xs ++ ys)) ≡ 0 → ⊥
    suc≢0 e = omega arith

pub nil_left : {V : Type 0} (xs ys : List V) → xs ++ ys ≡ [] → xs ≡ []
nil_left xs ys e = (nil_both xs ys e).0

pub nil_right : {V : Type 0} (xs ys : List V) → xs ++ ys ≡ [] → ys ≡ []
nil_right xs ys e = (nil_both xs ys e).1

-- the first of two lists' answers
pub first_left : {V : Type 0} (xs ys : List V) → is_some (slice_get xs 0) ≡ true → slice_get (xs ++ ys) 0 ≡ slice_get xs 0
first_left [] ys e = absurd (true≢false (sym e))
first_left (x ∷ xs) ys e = refl

pub first_right : {V : Type 0} (xs ys : List V) → is_some (slice_get xs 0) ≡ false → slice_get (xs ++ ys) 0 ≡ slice_get ys 0
first_right [] ys e = refl
first_right (x ∷ xs) ys e = absurd (true≢false e)

pub none_first : {V : Type 0} (xs : List V) → is_some (slice_get xs 0) ≡ false → xs ≡ []
none_first [] e = refl
none_first (x ∷ xs) e = absurd (true≢false e)

module _ {U V : Type 0} (f : U → Option V) where
  -- a single item's answer
  pub first_one : (u : U) → slice_get (filter_map f (u ∷ [])) 0 ≡ f u
  first_one u = go (f u) refl
    where
      go : (o : Option V) → f u ≡ o → slice_get (filter_map f (u ∷ [])) 0 ≡ f u
      go None e = rw e refl
      go (Some v) e = rw e refl

  -- where the first list has an answer, it is the first of both
  pub first_of_both : (xs ys : List U) → is_some (slice_get (filter_map f xs) 0) ≡ true → slice_get (filter_map f (xs ++ ys)) 0 ≡ slice_get (filter_map f xs) 0
  first_of_both xs ys e = ap (λ vs. slice_get vs 0) (filter_map-append f xs ys) ∙ first_left (filter_map f xs) (filter_map f ys) e

  -- and else that of the second
  pub second_of_both : (xs ys : List U) → is_some (slice_get (filter_map f xs) 0) ≡ false → slice_get (filter_map f (xs ++ ys)) 0 ≡ slice_get (filter_map f ys) 0
  second_of_both xs ys e = ap (λ vs. slice_get vs 0) (filter_map-append f xs ys) ∙ first_right (filter_map f xs) (filter_map f ys) e

  module _ {X : Type 0} (g : X → List U) where
    -- the items before this index have no answer
    abbrev pub NoneYet : List X → ℕ → Type 0
    NoneYet items k = filter_map f (flat_map g (take k items)) ≡ []

    -- nor has the item there
    pub none_more : (items : List X) (k : ℕ) (d : X) → k < length items → NoneYet items k
        → is_some (slice_get (filter_map f (g (slice_index_or items k d))) 0) ≡ false → NoneYet items (k + 1)
    none_more [] k d within none e = absurd (omega arith)
    none_more (x ∷ items) zero d within none e =
        filter_map-append f (g x) [] ∙ ap (λ vs. vs ++ []) (none_first (filter_map f (g x)) e)
    none_more (x ∷ items) (suc k) d within none e =
        let both = sym (filter_map-append f (g x) (flat_map g (take k items))) ∙ none in
        let next : suc (k + 1) ≡ suc k + 1 = omega arith in
        subst (NoneYet (x ∷ items)) next
        (filter_map-append f (g x) (flat_map g (take (k + 1) items))
        ∙ ap₂ (λ vs ws. vs ++ ws) (nil_left (filter_map f (g x)) (filter_map f (flat_map g (take k items))) both)
        (none_more items k d (omega arith) (nil_right (filter_map f (g x)) (filter_map f (flat_map g (take k items))) both) e))

    -- no item has one
    pub none_at_all : (items : List X) (k : ℕ) → length items ≤ k → NoneYet items k → slice_get (filter_map f (flat_map g items)) 0 ≡ None
    none_at_all items k all none = ap (λ xs. slice_get (filter_map f (flat_map g xs)) 0) (sym (take_all k items all)) ∙ ap (λ vs. slice_get vs 0) none

    -- the first answer is that of the item there
    pub first_there : (items : List X) (k : ℕ) (d : X) → k < length items → NoneYet items k
        → is_some (slice_get (filter_map f (g (slice_index_or items k d))) 0) ≡ true
        → slice_get (filter_map f (flat_map g items)) 0 ≡ slice_get (filter_map f (g (slice_index_or items k d))) 0
    first_there [] k d within none e = absurd (omega arith)
    first_there (x ∷ items) zero d within none e = first_of_both (g x) (flat_map g items) e
    first_there (x ∷ items) (suc k) d within none e =
        let both = sym (filter_map-append f (g x) (flat_map g (take k items))) ∙ none in
        second_of_both (g x) (flat_map g items) (ap (λ vs. is_some (slice_get vs 0)) (nil_left (filter_map f (g x)) (filter_map f (flat_map g (take k items))) both))
        ∙ first_there items k d (omega arith) (nil_right (filter_map f (g x)) (filter_map f (flat_map g (take k items))) both) e

    -- a loop stops at the first answer
    pub stops : (items : List X) (k : ℕ) (d : X) (all : List U) (r : Option V) → all ≡ flat_map g items → k < length items → NoneYet items k
        → r ≡ slice_get (filter_map f (g (slice_index_or items k d))) 0 → true ≡ is_some r → r ≡ slice_get (filter_map f all) 0
    stops items k d all r is within none e some =
        e ∙ sym (first_there items k d within none (ap is_some (sym e) ∙ sym some)) ∙ ap (λ us. slice_get (filter_map f us) 0) (sym is)

    -- goes on where there is none
    pub goes_on : (items : List X) (k : ℕ) (d : X) (r : Option V) → k < length items → NoneYet items k
        → r ≡ slice_get (filter_map f (g (slice_index_or items k d))) 0 → false ≡ is_some r → NoneYet items (k + 1)
    goes_on items k d r within none e some = none_more items k d within none (ap is_some (sym e) ∙ sym some)

    -- and ends with none
    pub ends : (items : List X) (k : ℕ) (all : List U) → all ≡ flat_map g items → length items ≤ k → NoneYet items k → None ≡ slice_get (filter_map f all) 0
    ends items k all is end none = sym (none_at_all items k end none) ∙ ap (λ us. slice_get (filter_map f us) 0) (sym is)

  -- the answer of the first list, where it has one, is that of both
  pub first_wins : (xs ys : List U) (r : Option V) → r ≡ slice_get (filter_map f xs) 0 → true ≡ is_some r → r ≡ slice_get (filter_map f (xs ++ ys)) 0
  first_wins xs ys r e some = e ∙ sym (first_of_both xs ys (ap is_some (sym e) ∙ sym some))

  -- and else that of the second
  pub second_wins : (xs ys : List U) (r s : Option V) → r ≡ slice_get (filter_map f xs) 0 → false ≡ is_some r → s ≡ slice_get (filter_map f ys) 0
      → s ≡ slice_get (filter_map f (xs ++ ys)) 0
  second_wins xs ys r s e some is = is ∙ sym (second_of_both xs ys (ap is_some (sym e) ∙ sym some))
