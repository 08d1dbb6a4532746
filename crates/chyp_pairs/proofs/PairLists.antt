-- Lists of pairs as partial maps.
use Rattle.std.proofs.Common.{ℕ, zero, suc, ◌≡◌, List, [], ◌∷◌, ◌++◌, Option, Some, None, slice_get, ◌⊎◌, inl, inr, refl, sym, ◌∙◌, ap, eq-eqb, ne_eqb}
use Rattle.std.proofs.lemmas.Bool.{cases_eq}
use Rattle.chyp_pairs.specs.declared.pair.Pair.{Pair}
use Rattle.chyp_pairs.specs.Pairs.{Has, IsNewIn, IsSingle, entry_or, image}

pub has-left : (xs ys : List Pair) (p : Pair) → Has xs p → Has (xs ++ ys) p
has-left [] ys p h = absurd h
has-left (q ∷ xs) ys p (inl e) = inl e
has-left (q ∷ xs) ys p (inr h) = inr (has-left xs ys p h)

pub has-right : (xs ys : List Pair) (p : Pair) → Has ys p → Has (xs ++ ys) p
has-right [] ys p h = h
has-right (q ∷ xs) ys p h = inr (has-right xs ys p h)

pub has-split : (xs ys : List Pair) (p : Pair) → Has (xs ++ ys) p → (Has xs p) ⊎ (Has ys p)
has-split [] ys p h = inr h
has-split (q ∷ xs) ys p (inl e) = inl (inl e)
has-split (q ∷ xs) ys p (inr h) = go (has-split xs ys p h)
  where
    go : (Has xs p) ⊎ (Has ys p) → (Has (q ∷ xs) p) ⊎ (Has ys p)
    go (inl k) = inl (inr k)
    go (inr k) = inr k

pub get-has : (xs : List Pair) (i : ℕ) (p : Pair) → slice_get xs i ≡ Some p → Has xs p
get-has [] i p e = cc
get-has (q ∷ xs) zero p e = inl cc
get-has (q ∷ xs) (suc i) p e = inr (get-has xs i p e)

pub has-get : (xs : List Pair) (p : Pair) → Has xs p → (i : ℕ) × (slice_get xs i ≡ Some p)
has-get [] p h = absurd h
has-get (q ∷ xs) p (inl e) = (0, ap (λ x. Some x) e)
has-get (q ∷ xs) p (inr h) = let r = has-get xs p h in (suc r.0, r.1)

-- an entry about x says the image of x, and one about another number says nothing of it
pub entry-same : (k y x : ℕ) (o : Option ℕ) → k ≡ x → entry_or (Some (k, y)) x o ≡ Some y
entry-same k y x o e = rw (eq-eqb k x e) refl

pub entry-other : (k y x : ℕ) (o : Option ℕ) → (k ≡ x → ⊥) → entry_or (Some (k, y)) x o ≡ o
entry-other k y x o n = rw (ne_eqb k x n) refl

-- what an entry says is its own or the other
pub record IsFrom (entry : Option (ℕ × ℕ)) (x y : ℕ) (other : Option ℕ) : Type 0 where
  pub which : (entry ≡ Some (x, y)) ⊎ (other ≡ Some y)

pub entry-from : (entry : Option (ℕ × ℕ)) (x y : ℕ) (other : Option ℕ) → entry_or entry x other ≡ Some y → IsFrom entry x y other
entry-from None x y other e = record { which = inr e }
entry-from (Some p) x y other e = go (cases_eq p.0 x)
  where
    go : (p.0 ≡ x) ⊎ (p.0 ≡ x → ⊥) → IsFrom (Some p) x y other
    go (inl q) = let r : ◌≡◌ {A = Option ℕ} (Some p.1) (Some y) = sym (entry-same p.0 p.1 x other q) ∙ e in
        let s : p.1 ≡ y = cc in record { which = inl (ap (λ k. Some (k, p.1)) q ∙ ap (λ k. Some (x, k)) s) }
    go (inr n) = record { which = inr (sym (entry-other p.0 p.1 x other n) ∙ e) }

-- an image comes from a pair
pub image-has : (says : Pair → Option (ℕ × ℕ)) (ps : List Pair) (x y : ℕ) → image says ps x ≡ Some y → (p : Pair) × Has ps p × (says p ≡ Some (x, y))
image-has says [] x y e = cc
image-has says (p ∷ ps) x y e = go (entry-from (says p) x y (image says ps x) e).which (λ f. image-has says ps x y f)
  where
    go : (says p ≡ Some (x, y)) ⊎ (image says ps x ≡ Some y) → (image says ps x ≡ Some y → (p : Pair) × Has ps p × (says p ≡ Some (x, y))) → (q : Pair) × Has (p ∷ ps) q × (says q ≡ Some (x, y))
    go (inl f) ih = (p, inl refl, f)
    go (inr f) ih = let r = ih f in (r.0, inr r.1, r.2)

-- images stay where pairs come behind
pub image-kept : (says : Pair → Option (ℕ × ℕ)) (xs ys : List Pair) (x y : ℕ) → image says xs x ≡ Some y → image says (xs ++ ys) x ≡ Some y
image-kept says [] ys x y e = cc
image-kept says (p ∷ xs) ys x y e = go (says p) e (λ f. image-kept says xs ys x y f)
  where
    go : (o : Option (ℕ × ℕ)) → entry_or o x (image says xs x) ≡ Some y → (image says xs x ≡ Some y → image says (xs ++ ys) x ≡ Some y) → entry_or o x (image says (xs ++ ys) x) ≡ Some y
    go None f ih = ih f
    go (Some q) f ih = at (cases_eq q.0 x)
      where
        at : (q.0 ≡ x) ⊎ (q.0 ≡ x → ⊥) → entry_or (Some q) x (image says (xs ++ ys) x) ≡ Some y
        at (inl r) = entry-same q.0 q.1 x _ r ∙ sym (entry-same q.0 q.1 x (image says xs x) r) ∙ f
        at (inr n) = entry-other q.0 q.1 x _ n ∙ ih (sym (entry-other q.0 q.1 x (image says xs x) n) ∙ f)

pub image-past : (says : Pair → Option (ℕ × ℕ)) (xs ys : List Pair) (x : ℕ) → image says xs x ≡ None → image says (xs ++ ys) x ≡ image says ys x
image-past says [] ys x e = refl
image-past says (p ∷ xs) ys x e = go (says p) e (λ f. image-past says xs ys x f)
  where
    go : (o : Option (ℕ × ℕ)) → entry_or o x (image says xs x) ≡ None → (image says xs x ≡ None → image says (xs ++ ys) x ≡ image says ys x) → entry_or o x (image says (xs ++ ys) x) ≡ image says ys x
    go None f ih = ih f
    go (Some q) f ih = at (cases_eq q.0 x)
      where
        at : (q.0 ≡ x) ⊎ (q.0 ≡ x → ⊥) → entry_or (Some q) x (image says (xs ++ ys) x) ≡ image says ys x
        at (inl r) = let s : ◌≡◌ {A = Option ℕ} (Some q.1) None = sym (entry-same q.0 q.1 x (image says xs x) r) ∙ f in cc
        at (inr n) = entry-other q.0 q.1 x _ n ∙ ih (sym (entry-other q.0 q.1 x (image says xs x) n) ∙ f)

-- without the pairs behind there is no new image
pub image-before : (says : Pair → Option (ℕ × ℕ)) (xs ys : List Pair) (x : ℕ) → image says (xs ++ ys) x ≡ None → image says xs x ≡ None
image-before says xs ys x e = go (image says xs x) refl
  where
    go : (o : Option ℕ) → image says xs x ≡ o → image says xs x ≡ None
    go None q = q
    go (Some y) q = let r = image-kept says xs ys x y q in cc

-- the images of a pair alone
pub image-one : (says : Pair → Option (ℕ × ℕ)) (p : Pair) (x y : ℕ) → says p ≡ Some (x, y) → image says (p ∷ []) x ≡ Some y
image-one says p x y e = ap (λ o. entry_or o x None) e ∙ entry-same x y x None refl

pub image-none : (says : Pair → Option (ℕ × ℕ)) (p : Pair) (x : ℕ) → says p ≡ None → image says (p ∷ []) x ≡ None
image-none says p x e = ap (λ o. entry_or o x None) e

pub image-off : (says : Pair → Option (ℕ × ℕ)) (p : Pair) (k y x : ℕ) → says p ≡ Some (k, y) → (k ≡ x → ⊥) → image says (p ∷ []) x ≡ None
image-off says p k y x e n = ap (λ o. entry_or o x None) e ∙ entry-other k y x None n

-- where no two pairs are about one item, each pair says the image
pub new-is : (o : Option (ℕ × ℕ)) (f : ℕ → Option ℕ) (x y : ℕ) → o ≡ Some (x, y) → IsNewIn o f → f x ≡ None
new-is None f x y e n = cc
new-is (Some p) f x y e n = let q : p.0 ≡ x = at (λ k. k.0) e in ap f (sym q) ∙ n
  where
    at : (g : ℕ × ℕ → ℕ) → ◌≡◌ {A = Option (ℕ × ℕ)} (Some p) (Some (x, y)) → g p ≡ g (x, y)
    at g e = ap (λ o. g (or o)) e
      where
        or : Option (ℕ × ℕ) → ℕ × ℕ
        or None = p
        or (Some q) = q

pub is-new : (o : Option (ℕ × ℕ)) (f : ℕ → Option ℕ) → ((x y : ℕ) → o ≡ Some (x, y) → f x ≡ None) → IsNewIn o f
is-new None f h = tt
is-new (Some p) f h = h p.0 p.1 refl

pub has-image : (says : Pair → Option (ℕ × ℕ)) (ps : List Pair) → IsSingle says ps → (p : Pair) (x y : ℕ) → Has ps p → says p ≡ Some (x, y) → image says ps x ≡ Some y
has-image says [] s p x y h e = absurd h
has-image says (q ∷ ps) s p x y (inl r) e = ap (λ o. entry_or o x (image says ps x)) (ap says r ∙ e) ∙ entry-same x y x (image says ps x) refl
has-image says (q ∷ ps) s p x y (inr h) e = go (says q) s.0 (has-image says ps s.1 p x y h e)
  where
    go : (o : Option (ℕ × ℕ)) → IsNewIn o (image says ps) → image says ps x ≡ Some y → entry_or o x (image says ps x) ≡ Some y
    go None n i = i
    go (Some k) n i = at (cases_eq k.0 x)
      where
        at : (k.0 ≡ x) ⊎ (k.0 ≡ x → ⊥) → entry_or (Some k) x (image says ps x) ≡ Some y
        at (inl r) = let z : image says ps x ≡ None = ap (image says ps) (sym r) ∙ n in cc
        at (inr m) = entry-other k.0 k.1 x (image says ps x) m ∙ i

pub single-push : (says : Pair → Option (ℕ × ℕ)) (ps : List Pair) (p : Pair) → IsSingle says ps → IsNewIn (says p) (image says ps) → IsSingle says (ps ++ p ∷ [])
single-push says [] p s n = (is-new (says p) (image says []) (λ x y e. refl), tt)
single-push says (q ∷ ps) p s n = (is-new (says q) (image says (ps ++ p ∷ [])) first, single-push says ps p s.1 rest)
  where
    rest : IsNewIn (says p) (image says ps)
    rest = is-new (says p) (image says ps) (λ x y e. go x (says q) (new-is (says p) (image says (q ∷ ps)) x y e n))
      where
        go : (x : ℕ) (o : Option (ℕ × ℕ)) → entry_or o x (image says ps x) ≡ None → image says ps x ≡ None
        go x None f = f
        go x (Some k) f = at (cases_eq k.0 x)
          where
            at : (k.0 ≡ x) ⊎ (k.0 ≡ x → ⊥) → image says ps x ≡ None
            at (inl r) = let z : ◌≡◌ {A = Option ℕ} (Some k.1) None = sym (entry-same k.0 k.1 x (image says ps x) r) ∙ f in cc
            at (inr m) = sym (entry-other k.0 k.1 x (image says ps x) m) ∙ f

    first : (x y : ℕ) → says q ≡ Some (x, y) → image says (ps ++ p ∷ []) x ≡ None
    first x y e = image-past says ps (p ∷ []) x (new-is (says q) (image says ps) x y e s.0) ∙ last (image says (p ∷ []) x) refl
      where
        last : (o : Option ℕ) → image says (p ∷ []) x ≡ o → image says (p ∷ []) x ≡ None
        last None f = f
        last (Some z) f =
            let r = image-has says (p ∷ []) x z f in
            let b : image says (q ∷ ps) x ≡ None = new-is (says p) (image says (q ∷ ps)) x z (one r.0 r.1 r.2) n in
            let c : image says (q ∷ ps) x ≡ Some y = ap (λ o. entry_or o x (image says ps x)) e ∙ entry-same x y x (image says ps x) refl in
            cc
          where
            one : (d : Pair) → Has (p ∷ []) d → says d ≡ Some (x, z) → says p ≡ Some (x, z)
            one d (inl r) f = ap says r ∙ f
            one d (inr r) f = absurd r

pub single-first : (says : Pair → Option (ℕ × ℕ)) (ps : List Pair) (p : Pair) → IsSingle says (ps ++ p ∷ []) → IsSingle says ps
single-first says [] p s = tt
single-first says (q ∷ ps) p s = (is-new (says q) (image says ps) (λ x y e. image-before says ps (p ∷ []) x (new-is (says q) (image says (ps ++ p ∷ [])) x y e s.0)), single-first says ps p s.1)

pub single-last : (says : Pair → Option (ℕ × ℕ)) (ps : List Pair) (p : Pair) → IsSingle says (ps ++ p ∷ []) → IsNewIn (says p) (image says ps)
single-last says [] p s = is-new (says p) (image says []) (λ x y e. refl)
single-last says (q ∷ ps) p s = is-new (says p) (image says (q ∷ ps)) (λ x y e. go x y e (new-is (says p) (image says ps) x y e (single-last says ps p s.1)))
  where
    go : (x y : ℕ) → says p ≡ Some (x, y) → image says ps x ≡ None → image says (q ∷ ps) x ≡ None
    go x y e f = at (says q) refl
      where
        at : (o : Option (ℕ × ℕ)) → says q ≡ o → entry_or o x (image says ps x) ≡ None
        at None r = f
        at (Some k) r = on (cases_eq k.0 x)
          where
            on : (k.0 ≡ x) ⊎ (k.0 ≡ x → ⊥) → entry_or (Some k) x (image says ps x) ≡ None
            on (inr m) = entry-other k.0 k.1 x (image says ps x) m ∙ f
            on (inl m) =
                let a : image says (ps ++ p ∷ []) k.0 ≡ None = new-is (says q) (image says (ps ++ p ∷ [])) k.0 k.1 r s.0 in
                let b : image says (ps ++ p ∷ []) x ≡ Some y = image-past says ps (p ∷ []) x f ∙ image-one says p x y e in
                let c : image says (ps ++ p ∷ []) x ≡ None = ap (image says (ps ++ p ∷ [])) (sym m) ∙ a in
                cc
