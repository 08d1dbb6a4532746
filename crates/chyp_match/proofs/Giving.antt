-- Which of all occurrences a search is past.
use Rattle.std.proofs.Common.{ℕ, zero, suc, ◌+◌, ◌<◌, ◌≤◌, ◌≡◌, Bool, true, false, eqb, ltb, List, [], ◌∷◌, ◌++◌, length, filter, Some, slice_get}
use Rattle.std.proofs.Common.{◌↔◌, ◌⊎◌, inl, inr, refl, sym, ◌∙◌, ap, subst, arith, eq-eqb, eqb-true}
use Rattle.std.proofs.lemmas.Bool.{cases_Bool, cases_lt, lt-ltb, ltb-true}
use Rattle.std.proofs.lemmas.List.{length-map}
use Rattle.chyp_term.proofs.Members.{Contains-member, get-member, member-Contains, member-get}
use Rattle.chyp_term.proofs.Permuted.{found}
use Rattle.chyp_term.proofs.Positions.{slice_get-length}
use Rattle.chyp_graph.specs.PlainGraph.{PlainGraph}
use Rattle.chyp_graph.specs.Validity.{IsValid}
use Rattle.chyp_pattern.specs.Pattern.{IsPattern, Parts}
use Rattle.chyp_pattern.specs.Occurrence.{IsOccurrence}
use Rattle.chyp_pattern.specs.Occurrences.{IsBefore, IsLess}
use Rattle.chyp_pattern.specs.declared.occurrence.Occurrence.{Occurrence}
use Rattle.chyp_pattern.proofs.Lexicographic.{less-anti}
use Rattle.chyp_pattern.proofs.Listed.{are-listed, listed}
use Rattle.chyp_match.specs.Matcher.{IsPassedIn, begins_with, given_of, is_less, is_past}
use Rattle.chyp_match.specs.Search.{BeginsWith, HoldAlike, IsEarlier, IsPast, image_of, images_of}
use Rattle.chyp_match.proofs.Bounding.{anchors_tell}
use Rattle.chyp_match.proofs.Lexicographic.{Compared, before, begins-all, begins-self, behind, compare, less-self, less-trans, same}
use Rattle.chyp_match.proofs.Ordering.{images_less}

-- ## the tests

less-test : (xs ys : List ℕ) → IsLess xs ys → is_less xs ys ≡ true
less-test [] [] a = absurd a
less-test [] (y ∷ ys) a = refl
less-test (x ∷ xs) [] a = absurd a
less-test (x ∷ xs) (y ∷ ys) (inl a) = rw (lt-ltb x y a) refl
less-test (x ∷ xs) (y ∷ ys) (inr a) = by (ltb x y) refl (less-test xs ys a.1)
  where
    by : (b : Bool) → ltb x y ≡ b → is_less xs ys ≡ true → is_less (x ∷ xs) (y ∷ ys) ≡ true
    by true e r = rw e refl
    by false e r = rw (e, eq-eqb x y a.0) r

test-less : (xs ys : List ℕ) → is_less xs ys ≡ true → IsLess xs ys
test-less [] [] e = cc
test-less [] (y ∷ ys) e = tt
test-less (x ∷ xs) [] e = cc
test-less (x ∷ xs) (y ∷ ys) e = by (ltb x y) refl (test-less xs ys)
  where
    by : (b : Bool) → ltb x y ≡ b → (is_less xs ys ≡ true → IsLess xs ys) → IsLess (x ∷ xs) (y ∷ ys)
    by true q r = inl (ltb-true x y q)
    by false q r = on (eqb x y) refl
      where
        on : (b : Bool) → eqb x y ≡ b → IsLess (x ∷ xs) (y ∷ ys)
        on true z = let f = rw (q, z) at e in inr (eqb-true x y z, r f)
        on false z = let f = rw (q, z) at e in absurd (cc)

begins-test : (ns xs : List ℕ) → BeginsWith ns xs → begins_with ns xs ≡ true
begins-test [] xs b = refl
begins-test (n ∷ ns) [] b = absurd b
begins-test (n ∷ ns) (x ∷ xs) b = rw (eq-eqb n x b.0) (begins-test ns xs b.1)

test-begins : (ns xs : List ℕ) → begins_with ns xs ≡ true → BeginsWith ns xs
test-begins [] xs e = tt
test-begins (n ∷ ns) [] e = cc
test-begins (n ∷ ns) (x ∷ xs) e = by (eqb n x) refl (test-begins ns xs)
  where
    by : (b : Bool) → eqb n x ≡ b → (begins_with ns xs ≡ true → BeginsWith ns xs) → BeginsWith (n ∷ ns) (x ∷ xs)
    by true q r = let f = rw q at e in (eqb-true n x q, r f)
    by false q r = let f = rw q at e in absurd (cc)

passed-test : (l : Parts) (b : Bool) (at : List ℕ) (o : Occurrence) → IsPassedIn l b at o → is_past b at (images_of l o) ≡ true
passed-test l false at o p = rw (less-test (images_of l o) at p) refl
passed-test l true at o (inl p) = rw (less-test (images_of l o) at p) refl
passed-test l true at o (inr p) = by (is_less (images_of l o) at) refl
  where
    by : (c : Bool) → is_less (images_of l o) at ≡ c → is_past true at (images_of l o) ≡ true
    by true e = rw e refl
    by false e = rw e (begins-test at (images_of l o) p)

test-passed : (l : Parts) (b : Bool) (at : List ℕ) (o : Occurrence) → is_past b at (images_of l o) ≡ true → IsPassedIn l b at o
test-passed l b at o e = by b (is_less (images_of l o) at) refl e
  where
    by : (b c : Bool) → is_less (images_of l o) at ≡ c → is_past b at (images_of l o) ≡ true → IsPassedIn l b at o
    by false true q e = test-less (images_of l o) at q
    by false false q e = let f = rw q at e in absurd (cc)
    by true true q e = inl (test-less (images_of l o) at q)
    by true false q e = let f = rw q at e in inr (test-begins at (images_of l o) f)

-- ## the first items that pass a test

module _ {A : Type 0} (test : A → Bool) where
  none-pass : (xs : List A) → ((i : ℕ) (x : A) → slice_get xs i ≡ Some x → test x ≡ false) → length (filter test xs) ≡ 0
  none-pass [] f = refl
  none-pass (x ∷ xs) f = rw (f 0 x refl) (none-pass xs (λ i y e. f (suc i) y e))

  -- where an item passes only if those before it do, the ones that pass are the first
  pub first-pass : (xs : List A) → ((i j : ℕ) (x y : A) → i < j → slice_get xs i ≡ Some x → slice_get xs j ≡ Some y → test y ≡ true → test x ≡ true)
      → (i : ℕ) (x : A) → slice_get xs i ≡ Some x → (i < length (filter test xs)) ↔ (test x ≡ true)
  first-pass [] f i x e = cc
  first-pass (y ∷ ys) f i x e = by (test y) refl (λ j e. first-pass ys (λ i j x y l p q. f (suc i) (suc j) x y (omega arith) p q) j x e)
    where
      Rest : Type 0
      Rest = (j : ℕ) → slice_get ys j ≡ Some x → (j < length (filter test ys)) ↔ (test x ≡ true)

      more : (i : ℕ) → slice_get (y ∷ ys) i ≡ Some x → test y ≡ true → Rest → (i < suc (length (filter test ys))) ↔ (test x ≡ true)
      more zero e t r = let q : y ≡ x = cc in (λ h. subst (λ z. test z ≡ true) q t, λ h. omega arith)
      more (suc j) e t r = let a = r j e in (λ h. a.0 (omega arith), λ h. let b = a.1 h in omega arith)

      off : (j : ℕ) (z : A) → slice_get ys j ≡ Some z → test y ≡ false → test z ≡ false
      off j z q t = go (cases_Bool (test z))
        where
          go : (test z ≡ true) ⊎ (test z ≡ false) → test z ≡ false
          go (inl u) = let v = f 0 (suc j) y z (omega arith) refl q u in let c = sym v ∙ t in absurd (cc)
          go (inr u) = u

      none : (i : ℕ) → slice_get (y ∷ ys) i ≡ Some x → test y ≡ false → test x ≡ true → ⊥
      none zero e t h = let q : y ≡ x = cc in let u = subst (λ z. test z ≡ false) q t in let c = sym h ∙ u in cc
      none (suc j) e t h = let u = off j x e t in let c = sym h ∙ u in cc

      by : (b : Bool) → test y ≡ b → Rest → (i < length (filter test (y ∷ ys))) ↔ (test x ≡ true)
      by true t r = rw t (more i e t r)
      by false t r = let n = none-pass ys (λ j z q. off j z q t) in rw (t, n) (λ h. absurd (omega arith), λ h. absurd (none i e t h))

  filter-few : (xs : List A) → length (filter test xs) ≤ length xs
  filter-few [] = omega arith
  filter-few (x ∷ xs) = by (test x) refl (filter-few xs)
    where
      by : (b : Bool) → test x ≡ b → length (filter test xs) ≤ length xs → length (filter test (x ∷ xs)) ≤ suc (length xs)
      by true e r = rw e (omega arith)
      by false e r = rw e (omega arith)

module _ (l : Parts) (g : PlainGraph) (v : IsValid g) (p : IsPattern l) where
  all : List Occurrence
  all = listed l.graph g

  occurrence_at : (i : ℕ) (o : Occurrence) → slice_get (listed l.graph g) i ≡ Some o → IsOccurrence l.graph g o.edges o.wires
  occurrence_at i o e = let m = (are-listed l.graph g).members o in m.0 (member-Contains (listed l.graph g) o (get-member (listed l.graph g) i o e))

  images-length : (o : Occurrence) → length (images_of l o) ≡ length l.anchors
  images-length o = length-map l.anchors (image_of o)

  -- of two occurrences the one with the lesser images comes first, and those with the same images are one
  first-less : (o h : Occurrence) → IsOccurrence l.graph g o.edges o.wires → IsOccurrence l.graph g h.edges h.wires → IsBefore o h → IsLess (images_of l o) (images_of l h)
  first-less o h a b less = go (compare (images_of l o) (images_of l h) (images-length o ∙ sym (images-length h)))
    where
      go : Compared (images_of l o) (images_of l h) → IsLess (images_of l o) (images_of l h)
      go (before c) = c
      go (same e) = let q = anchors_tell l.graph g v o h a b l.anchors p.anchors e in absurd (less-self (h.edges ++ h.wires) (subst (λ z. IsBefore z h) q less))
      go (behind c) = absurd (less-anti (o.edges ++ o.wires) (h.edges ++ h.wires) less (images_less l.graph g v h o b a l.anchors p.anchors c))

  passed-first : (b : Bool) (at : List ℕ) (o h : Occurrence) → IsLess (images_of l o) (images_of l h) → IsPassedIn l b at h → IsPassedIn l b at o
  passed-first false at o h less q = less-trans (images_of l o) (images_of l h) at less q
  passed-first true at o h less (inl q) = inl (less-trans (images_of l o) (images_of l h) at less q)
  passed-first true at o h less (inr q) = less-begun at (images_of l o) (images_of l h) less q
    where
      less-begun : (at xs ys : List ℕ) → IsLess xs ys → BeginsWith at ys → IsLess xs at ⊎ BeginsWith at xs
      less-begun [] xs ys less q = inr tt
      less-begun (n ∷ ns) xs [] less q = absurd q
      less-begun (n ∷ ns) [] (y ∷ ys) less q = inl tt
      less-begun (n ∷ ns) (x ∷ xs) (y ∷ ys) (inl less) q = let e = q.0 in inl (inl (omega arith))
      less-begun (n ∷ ns) (x ∷ xs) (y ∷ ys) (inr less) q = go (less-begun ns xs ys less.1 q.1)
        where
          go : IsLess xs ns ⊎ BeginsWith ns xs → IsLess (x ∷ xs) (n ∷ ns) ⊎ BeginsWith (n ∷ ns) (x ∷ xs)
          go (inl r) = inl (inr (less.0 ∙ sym q.0, r))
          go (inr r) = inr (q.0 ∙ sym less.0, r)

  -- the occurrences that a search is past are the first ones
  given-first : (b : Bool) (at : List ℕ) (i : ℕ) (o : Occurrence) → slice_get (listed l.graph g) i ≡ Some o → (i < length (given_of l g b at)) ↔ IsPassedIn l b at o
  given-first b at i o e =
      let r = first-pass (λ (x : Occurrence). is_past b at (images_of l x)) (listed l.graph g) back i o e in
      (λ h. test-passed l b at o (r.0 h), λ h. r.1 (passed-test l b at o h))
    where
      back : (i j : ℕ) (x y : Occurrence) → i < j → slice_get (listed l.graph g) i ≡ Some x → slice_get (listed l.graph g) j ≡ Some y → is_past b at (images_of l y) ≡ true
          → is_past b at (images_of l x) ≡ true
      back i j x y less e f t =
          passed-test l b at x (passed-first b at x y
          (first-less x y (occurrence_at i x e) (occurrence_at j y f) ((are-listed l.graph g).ordered i j x y less e f)) (test-passed l b at y t))

  given-few : (b : Bool) (at : List ℕ) → length (given_of l g b at) ≤ length (listed l.graph g)
  given-few b at = filter-few (λ (x : Occurrence). is_past b at (images_of l x)) (listed l.graph g)

  -- a search that is past all
  pub given-all : (b : Bool) (at : List ℕ) → HoldAlike l g (IsPassedIn l b at) (IsPast l []) → length (given_of l g b at) ≡ length (listed l.graph g)
  given-all b at a = go (cases_lt (length (given_of l g b at)) (length (listed l.graph g)))
    where
      go : (length (given_of l g b at) < length (listed l.graph g)) ⊎ (length (listed l.graph g) ≤ length (given_of l g b at)) → length (given_of l g b at) ≡ length (listed l.graph g)
      go (inl c) =
          let o = found (listed l.graph g) (length (given_of l g b at)) c in
          let x = a o.0 (occurrence_at (length (given_of l g b at)) o.0 o.1) in
          let f = given-first b at (length (given_of l g b at)) o.0 o.1 in
          let less = f.1 (x.1 (inr tt)) in
          absurd (omega arith)
      go (inr c) = let few = given-few b at in omega arith

  pub given-end : length (given_of l g true []) ≡ length (listed l.graph g)
  given-end = given-all true [] (λ o q. (λ r. r, λ r. r))

  -- a search that has come to an occurrence
  module _ (b : Bool) (at images : List ℕ) (o : Occurrence) (q : IsOccurrence l.graph g o.edges o.wires) (is : images_of l o ≡ images)
      (a : HoldAlike l g (IsPassedIn l b at) (IsEarlier l images)) where
    n : ℕ
    n = length (given_of l g b at)

    place : (j : ℕ) × (slice_get (listed l.graph g) j ≡ Some o)
    place = let m = (are-listed l.graph g).members o in member-get (listed l.graph g) o (Contains-member (listed l.graph g) o (m.1 q))

    not_earlier : IsEarlier l images o → ⊥
    not_earlier h = less-self images (subst (λ xs. IsLess xs images) is h)

    behind_all : n ≤ place.0
    unfolding n
    behind_all = go (cases_lt place.0 (length (given_of l g b at)))
      where
        go : (place.0 < length (given_of l g b at)) ⊎ (length (given_of l g b at) ≤ place.0) → length (given_of l g b at) ≤ place.0
        go (inl c) = let f = given-first b at place.0 o place.1 in let x = a o q in absurd (not_earlier (x.0 (f.0 c)))
        go (inr c) = c

    pub given-next : slice_get (listed l.graph g) (length (given_of l g b at)) ≡ Some o
    unfolding n
    given-next = go (cases_lt (length (given_of l g b at)) place.0)
      where
        go : (length (given_of l g b at) < place.0) ⊎ (place.0 ≤ length (given_of l g b at)) → slice_get (listed l.graph g) (length (given_of l g b at)) ≡ Some o
        go (inl c) =
            let h = slice_get-length (listed l.graph g) place.0 o place.1 in
            let x = found (listed l.graph g) (length (given_of l g b at)) (omega arith) in
            let r = occurrence_at (length (given_of l g b at)) x.0 x.1 in
            let less = first-less x.0 o r q ((are-listed l.graph g).ordered (length (given_of l g b at)) place.0 x.0 o c x.1 place.1) in
            let f = given-first b at (length (given_of l g b at)) x.0 x.1 in
            let y = a x.0 r in
            let z = f.1 (y.1 (subst (IsLess (images_of l x.0)) is less)) in
            absurd (omega arith)
        go (inr c) = let d = behind_all in let e : place.0 ≡ length (given_of l g b at) = omega arith in ap (slice_get (listed l.graph g)) (sym e) ∙ place.1

    pub given-more : length (given_of l g true images) ≡ length (given_of l g b at) + 1
    given-more = go (cases_lt (length (given_of l g b at) + 1) (length (given_of l g true images)))
      where
        past : length (given_of l g b at) < length (given_of l g true images)
        past = let f = given-first true images (length (given_of l g b at)) o given-next in f.1 (inr (subst (BeginsWith images) (sym is) (begins-self images)))

        go : (length (given_of l g b at) + 1 < length (given_of l g true images)) ⊎ (length (given_of l g true images) ≤ length (given_of l g b at) + 1)
            → length (given_of l g true images) ≡ length (given_of l g b at) + 1
        go (inr c) = let d = past in omega arith
        go (inl c) =
            let few = given-few true images in
            let x = found (listed l.graph g) (length (given_of l g b at) + 1) (omega arith) in
            let r = occurrence_at (length (given_of l g b at) + 1) x.0 x.1 in
            let less = first-less o x.0 q r ((are-listed l.graph g).ordered (length (given_of l g b at)) (length (given_of l g b at) + 1) o x.0 (omega arith) given-next x.1) in
            let f = given-first true images (length (given_of l g b at) + 1) x.0 x.1 in
            absurd (later x.0 less (f.0 c))
          where
            later : (x : Occurrence) → IsLess (images_of l o) (images_of l x) → IsPast l images x → ⊥
            later x less (inl h) = less-anti (images_of l x) images h (subst (λ xs. IsLess xs (images_of l x)) is less)
            later x less (inr h) =
                let e = begins-all images (images_of l x) (ap length (sym is) ∙ images-length o ∙ sym (images-length x)) h in
                less-self images (subst (IsLess images) e (subst (λ xs. IsLess xs (images_of l x)) is less))

-- a search that has not begun is past none
pub given-none : (l : Parts) (g : PlainGraph) → length (given_of l g false []) ≡ 0
given-none l g = none-pass (λ (x : Occurrence). is_past false [] (images_of l x)) (listed l.graph g) (λ i x e. off (images_of l x))
  where
    off : (xs : List ℕ) → is_past false [] xs ≡ false
    off [] = refl
    off (x ∷ xs) = refl
