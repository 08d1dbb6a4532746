-- Lists in a strict order, and the items of a list that have a property.
use Rattle.std.proofs.Common.{[], ℕ, zero, suc, ◌+◌, ◌<◌, ◌≤◌, ◌≡◌, List, ◌∷◌, ◌++◌, map, length, length-append, Some, slice_get, ◌⊎◌, inl, inr, refl, sym, ◌∙◌, ap, ap₂, subst, arith}
use Rattle.std.specs.List.{AllByRecursion}
use Rattle.chyp_term.proofs.Distinct.{all-append}
use Rattle.chyp_term.proofs.Deciding.{Decided}
use Rattle.chyp_term.proofs.Members.{Member, member-left, member-right, member-split}
use Rattle.chyp_term.proofs.SameMembers.{cut_at, member-all}

-- ## sorted lists

-- each item comes before those behind it
abbrev pub Sorted : {A : Type 0} → (A → A → Type 0) → List A → Type 0
Sorted R [] = Unit {0}
Sorted R (x ∷ xs) = AllByRecursion (R x) xs × Sorted R xs

pub Sorted-append : {A : Type 0} (R : A → A → Type 0) (xs ys : List A) → Sorted R xs → Sorted R ys → AllByRecursion (λ x. AllByRecursion (R x) ys) xs
    → Sorted R (xs ++ ys)
Sorted-append R [] ys s t c = t
Sorted-append R (x ∷ xs) ys s t c = (all-append (R x) xs ys s.0 c.0, Sorted-append R xs ys s.1 t c.1)

pub all-along : {A B : Type 0} (P : A → Type 0) (Q : B → Type 0) (f : A → B) → ((x : A) → P x → Q (f x)) → (xs : List A) → AllByRecursion P xs
    → AllByRecursion Q (map f xs)
all-along P Q f h [] a = tt
all-along P Q f h (x ∷ xs) a = (h x a.0, all-along P Q f h xs a.1)

pub all-each : {A B : Type 0} (Q : B → Type 0) (f : A → B) → ((x : A) → Q (f x)) → (xs : List A) → AllByRecursion Q (map f xs)
all-each Q f h [] = tt
all-each Q f h (x ∷ xs) = (h x, all-each Q f h xs)

pub Sorted-map : {A B : Type 0} (R : A → A → Type 0) (S : B → B → Type 0) (f : A → B) → ((x y : A) → R x y → S (f x) (f y)) → (xs : List A) → Sorted R xs
    → Sorted S (map f xs)
Sorted-map R S f h [] s = tt
Sorted-map R S f h (x ∷ xs) s = (all-along (R x) (S (f x)) f (λ y r. h x y r) xs s.0, Sorted-map R S f h xs s.1)

-- sorted lists with the same members are the same
pub sorted-same : {A : Type 0} (R : A → A → Type 0) → ((a b : A) → R a b → R b a → ⊥) → (xs ys : List A) → Sorted R xs → Sorted R ys
    → ((a : A) → Member a xs → Member a ys) → ((a : A) → Member a ys → Member a xs) → xs ≡ ys
sorted-same R anti [] [] s t f g = refl
sorted-same R anti [] (y ∷ ys) s t f g = absurd (g y (inl refl))
sorted-same R anti (x ∷ xs) [] s t f g = absurd (f x (inl refl))
sorted-same {A} R anti (x ∷ xs) (y ∷ ys) s t f g =
    ap₂ (λ a r. a ∷ r) one (sorted-same R anti xs ys s.1 t.1
    (λ a h. rest y ys a (λ e. never x xs a s.0 h (one ∙ e)) (f a (inr h)))
    (λ a h. rest x xs a (λ e. never y ys a t.0 h (sym one ∙ e)) (g a (inr h))))
  where
    head : (y ≡ x) ⊎ Member x ys → (x ≡ y) ⊎ Member y xs → x ≡ y
    head (inl e) k = sym e
    head (inr h) (inl e) = e
    head (inr h) (inr k) = absurd (anti x y (member-all (R x) xs y s.0 k) (member-all (R y) ys x t.0 h))

    one : x ≡ y
    one = head (f x (inl refl)) (g y (inl refl))

    -- what comes before all of a list is none of it
    never : (z : A) (zs : List A) (a : A) → AllByRecursion (R z) zs → Member a zs → z ≡ a → ⊥
    never z zs a s h e =
        let r : R a a = subst (λ v. R v a) e (member-all (R z) zs a s h) in
        anti a a r r

    rest : (z : A) (zs : List A) (a : A) → (z ≡ a → ⊥) → (z ≡ a) ⊎ Member a zs → Member a zs
    rest z zs a n (inl e) = absurd (n e)
    rest z zs a n (inr h) = h

-- another order, where it follows for items that have a property
pub Sorted-with : {A : Type 0} (R S : A → A → Type 0) (P : A → Type 0) → ((a b : A) → P a → P b → R a b → S a b) → (xs : List A) → AllByRecursion P xs
    → Sorted R xs → Sorted S xs
Sorted-with R S P f [] a s = tt
Sorted-with {A} R S P f (x ∷ xs) a s = (go xs a.1 s.0, Sorted-with R S P f xs a.1 s.1)
  where
    go : (ys : List A) → AllByRecursion P ys → AllByRecursion (R x) ys → AllByRecursion (S x) ys
    go [] p r = tt
    go (y ∷ ys) p r = (f x y a.0 p.0 r.0, go ys p.1 r.1)

-- what is told apart by images in a list is no longer than it (the pigeonhole principle)
pub pigeonhole : {A B : Type 0} (f : A → B) (xs : List A) (ys : List B) → Sorted (λ a b. ¬ (f a ≡ f b)) xs → ((x : A) → Member x xs → Member (f x) ys)
    → length xs ≤ length ys
pigeonhole f [] ys s h = omega arith
pigeonhole {A} {B} f (x ∷ xs) ys s h =
    let c = cut_at ys (f x) (h x (inl refl)) in
    let r = pigeonhole f xs (c.0 ++ c.1) s.1 (λ y m. other y c.0 c.1 (member-all (λ b. ¬ (f x ≡ f b)) xs y s.0 m) (subst (Member (f y)) c.2 (h y (inr m)))) in
    let whole : length ys ≡ length c.0 + suc (length c.1) = ap length c.2 ∙ length-append c.0 (f x ∷ c.1) in
    let part = length-append c.0 c.1 in
    omega arith
  where
    rear : (y : A) (us vs : List B) → ¬ (f x ≡ f y) → (f x ≡ f y) ⊎ Member (f y) vs → Member (f y) (us ++ vs)
    rear y us vs n (inl e) = absurd (n e)
    rear y us vs n (inr m) = member-right us vs (f y) m

    either_side : (y : A) (us vs : List B) → ¬ (f x ≡ f y) → (Member (f y) us) ⊎ (Member (f y) (f x ∷ vs)) → Member (f y) (us ++ vs)
    either_side y us vs n (inl m) = member-left us vs (f y) m
    either_side y us vs n (inr m) = rear y us vs n m

    other : (y : A) (us vs : List B) → ¬ (f x ≡ f y) → Member (f y) (us ++ f x ∷ vs) → Member (f y) (us ++ vs)
    other y us vs n m = either_side y us vs n (member-split us (f x ∷ vs) (f y) m)

-- by places
pub all-get : {A : Type 0} (P : A → Type 0) (xs : List A) → ((i : ℕ) (x : A) → slice_get xs i ≡ Some x → P x) → AllByRecursion P xs
all-get P [] f = tt
all-get P (x ∷ xs) f = (f 0 x refl, all-get P xs (λ i y e. f (suc i) y e))

pub get-all : {A : Type 0} (P : A → Type 0) (xs : List A) → AllByRecursion P xs → (i : ℕ) (x : A) → slice_get xs i ≡ Some x → P x
get-all P [] a i x e = cc
get-all P (y ∷ xs) a zero x e = let q : y ≡ x = cc in subst P q a.0
get-all P (y ∷ xs) a (suc i) x e = get-all P xs a.1 i x e

pub get-sorted : {A : Type 0} (R : A → A → Type 0) (xs : List A) → ((i j : ℕ) (a b : A) → i < j → slice_get xs i ≡ Some a → slice_get xs j ≡ Some b → R a b)
    → Sorted R xs
get-sorted R [] f = tt
get-sorted R (x ∷ xs) f =
    (all-get (R x) xs (λ j b e. f 0 (suc j) x b (omega arith) refl e), get-sorted R xs (λ i j a b l p q. f (suc i) (suc j) a b (omega arith) p q))

pub sorted-get : {A : Type 0} (R : A → A → Type 0) (xs : List A) → Sorted R xs → (i j : ℕ) (a b : A) → i < j → slice_get xs i ≡ Some a → slice_get xs j ≡ Some b
    → R a b
sorted-get R [] s i j a b l p q = cc
sorted-get R (x ∷ xs) s i zero a b l p q = absurd (omega arith)
sorted-get R (x ∷ xs) s zero (suc j) a b l p q = let e : x ≡ a = cc in subst (λ z. R z b) e (get-all (R x) xs s.0 j b q)
sorted-get R (x ∷ xs) s (suc i) (suc j) a b l p q = sorted-get R xs s.1 i j a b (omega arith) p q

-- ## those items that have a decided property

abbrev pub kept_if : {A P : Type 0} → Decided P → A → List A → List A
kept_if (inl p) x xs = x ∷ xs
kept_if (inr n) x xs = xs

-- the items that have the property, in order
abbrev pub keep : {A : Type 0} (P : A → Type 0) → ((x : A) → Decided (P x)) → List A → List A
keep P d [] = []
keep P d (x ∷ xs) = kept_if (d x) x (keep P d xs)

pub keep-all : {A : Type 0} (P Q : A → Type 0) (d : (x : A) → Decided (P x)) (xs : List A) → AllByRecursion Q xs → AllByRecursion Q (keep P d xs)
keep-all P Q d [] a = tt
keep-all P Q d (x ∷ xs) a = go (d x) (keep-all P Q d xs a.1)
  where
    go : (o : Decided (P x)) → AllByRecursion Q (keep P d xs) → AllByRecursion Q (kept_if o x (keep P d xs))
    go (inl p) r = (a.0, r)
    go (inr n) r = r

pub keep-sorted : {A : Type 0} (R : A → A → Type 0) (P : A → Type 0) (d : (x : A) → Decided (P x)) (xs : List A) → Sorted R xs → Sorted R (keep P d xs)
keep-sorted R P d [] s = tt
keep-sorted R P d (x ∷ xs) s = go (d x) (keep-all P (R x) d xs s.0) (keep-sorted R P d xs s.1)
  where
    go : (o : Decided (P x)) → AllByRecursion (R x) (keep P d xs) → Sorted R (keep P d xs) → Sorted R (kept_if o x (keep P d xs))
    go (inl p) a r = (a, r)
    go (inr n) a r = r

pub keep-member : {A : Type 0} (P : A → Type 0) (d : (x : A) → Decided (P x)) (xs : List A) (a : A) → Member a (keep P d xs) → P a
keep-member P d [] a h = absurd h
keep-member P d (x ∷ xs) a h = go (d x) h (λ k. keep-member P d xs a k)
  where
    go : (o : Decided (P x)) → Member a (kept_if o x (keep P d xs)) → (Member a (keep P d xs) → P a) → P a
    go (inl p) (inl e) ih = subst P e p
    go (inl p) (inr k) ih = ih k
    go (inr n) k ih = ih k

pub member-keep : {A : Type 0} (P : A → Type 0) (d : (x : A) → Decided (P x)) (xs : List A) (a : A) → Member a xs → P a → Member a (keep P d xs)
member-keep P d [] a h p = absurd h
member-keep P d (x ∷ xs) a h p = go (d x) h (λ k. member-keep P d xs a k p)
  where
    go : (o : Decided (P x)) → (x ≡ a) ⊎ Member a xs → (Member a xs → Member a (keep P d xs)) → Member a (kept_if o x (keep P d xs))
    go (inl q) (inl e) ih = inl e
    go (inl q) (inr k) ih = inr (ih k)
    go (inr n) (inl e) ih = absurd (n (subst P (sym e) p))
    go (inr n) (inr k) ih = ih k
