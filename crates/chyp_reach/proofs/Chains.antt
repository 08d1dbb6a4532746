-- Chains by way of the first numbers.
use Rattle.std.proofs.Common.{◌≡◌, ℕ, zero, suc, ◌+◌, ◌<◌, ◌≤◌, Bool, true, false, ◌||◌, ◌&&◌, List, [], ◌∷◌, length, slice_index_or, ◌⊎◌, inl, inr, ◌↔◌, refl, sym, ◌∙◌, ap, subst, arith}
use Rattle.std.proofs.lemmas.Bool.{false≢true, cases_lt}
use Rattle.chyp_reach.specs.Relation.{IsSquare, Leads, at_once, by_way_of, relates}

-- a chain whose numbers between its ends are all below `most`
pub data Path (rows : List (List Bool)) (most : ℕ) : ℕ → ℕ → Type 0 where
  edge : {i j : ℕ} → relates rows i j ≡ true → Path rows most i j
  step : {i k j : ℕ} → relates rows i k ≡ true → k < most → Path rows most k j → Path rows most i j

path-wider : (rows : List (List Bool)) (most i j : ℕ) → Path rows most i j → Path rows (most + 1) i j
path-wider rows most i j (edge e) = edge e
path-wider rows most i j (step {k} e h p) = step e (omega arith) (path-wider rows most k j p)

path-join : (rows : List (List Bool)) (most i k j : ℕ) → k < most → Path rows most i k → Path rows most k j → Path rows most i j
path-join rows most i k j h (edge e) q = step e h q
path-join rows most i k j h (step {k = d} e g p) q = step e g (path-join rows most d k j h p q)

path-split : (rows : List (List Bool)) (most i j : ℕ) → Path rows (most + 1) i j → Path rows most i j ⊎ (Path rows most i most × Path rows most most j)
path-split rows most i j (edge e) = inl (edge e)
path-split rows most i j (step {k} e h p) = go (cases_lt k most) (path-split rows most k j p)
  where
    go : (k < most) ⊎ (most ≤ k) → Path rows most k j ⊎ (Path rows most k most × Path rows most most j) → Path rows most i j ⊎ (Path rows most i most × Path rows most most j)
    go (inl g) (inl q) = inl (step e g q)
    go (inl g) (inr q) = inr (step e g q.0, q.1)
    go (inr g) q =
        let same : k ≡ most = omega arith in
        let first : Path rows most i most = edge (subst (λ n. relates rows i n ≡ true) same e) in
        elim q [ inl r ↦ inr (first, subst (λ n. Path rows most n j) same r) | inr r ↦ inr (first, r.1) ]

pub path-leads : (rows : List (List Bool)) (most i j : ℕ) → Path rows most i j → Leads rows i j
path-leads rows most i j (edge e) = at_once e
path-leads rows most i j (step {k} e h p) = by_way_of e (path-leads rows most k j p)

pub or-split : (a b : Bool) → (a || b) ≡ true → (a ≡ true) ⊎ (b ≡ true)
or-split true b e = inl refl
or-split false b e = inr e

and-split : (a b : Bool) → (a && b) ≡ true → (a ≡ true) × (b ≡ true)
and-split true b e = (refl, e)
and-split false b e = absurd (false≢true e)

pub or-left : (a b : Bool) → a ≡ true → (a || b) ≡ true
or-left true b e = refl
or-left false b e = absurd (false≢true e)

pub or-right : (a b : Bool) → b ≡ true → (a || b) ≡ true
or-right true b e = refl
or-right false b e = e

pub and-both : (a b : Bool) → a ≡ true → b ≡ true → (a && b) ≡ true
and-both true b e f = f
and-both false b e f = absurd (false≢true e)

-- the rows say where chains by way of the first numbers lead
abbrev pub AreClosedBelow : List (List Bool) → ℕ → List (List Bool) → Type 0
AreClosedBelow rows most now = (i j : ℕ) → relates now i j ≡ true ↔ Path rows most i j

pub none-below : (rows : List (List Bool)) → AreClosedBelow rows 0 rows
none-below rows i j = (λ e. edge e, back)
  where
    back : Path rows 0 i j → relates rows i j ≡ true
    back (edge e) = e
    back (step e h p) = absurd (omega arith)

pub one-below : (rows : List (List Bool)) (most : ℕ) (now next : List (List Bool)) → AreClosedBelow rows most now
    → ((i j : ℕ) → relates next i j ≡ (relates now i j || (relates now i most && relates now most j)))
    → AreClosedBelow rows (most + 1) next
one-below rows most now next closed more i j = (there, back)
  where
    there : relates next i j ≡ true → Path rows (most + 1) i j
    there e = go (or-split (relates now i j) (relates now i most && relates now most j) (sym (more i j) ∙ e))
      where
        go : (relates now i j ≡ true) ⊎ ((relates now i most && relates now most j) ≡ true) → Path rows (most + 1) i j
        go (inl a) = path-wider rows most i j ((closed i j).0 a)
        go (inr b) =
            let both = and-split (relates now i most) (relates now most j) b in
            path-join rows (most + 1) i most j (omega arith) (path-wider rows most i most ((closed i most).0 both.0)) (path-wider rows most most j ((closed most j).0 both.1))

    back : Path rows (most + 1) i j → relates next i j ≡ true
    back p = more i j ∙ go (path-split rows most i j p)
      where
        go : Path rows most i j ⊎ (Path rows most i most × Path rows most most j) → (relates now i j || (relates now i most && relates now most j)) ≡ true
        go (inl q) = or-left (relates now i j) (relates now i most && relates now most j) ((closed i j).1 q)
        go (inr q) = or-right (relates now i j) (relates now i most && relates now most j) (and-both (relates now i most) (relates now most j) ((closed i most).1 q.0) ((closed most j).1 q.1))

-- ---- all numbers

past : (A : Type 0) (xs : List A) (n : ℕ) (d : A) → length xs ≤ n → slice_index_or xs n d ≡ d
past A [] n d h = refl
past A (x ∷ xs) zero d h = absurd (omega arith)
past A (x ∷ xs) (suc n) d h = past A xs n d (omega arith)

pub is-within : (xs : List Bool) (n : ℕ) → slice_index_or xs n false ≡ true → n < length xs
is-within xs n e = elim (cases_lt n (length xs)) [ inl h ↦ h | inr h ↦ absurd (false≢true (sym (past Bool xs n false h) ∙ e)) ]

-- what leads to another is one of the numbers, and so is the other
pub relates-within : (rows : List (List Bool)) (i j : ℕ) → IsSquare rows → relates rows i j ≡ true → (i < length rows) × (j < length rows)
relates-within rows i j square e = go (cases_lt i (length rows))
  where
    go : (i < length rows) ⊎ (length rows ≤ i) → (i < length rows) × (j < length rows)
    go (inl h) = let long = square i h in let within = is-within (slice_index_or rows i []) j e in (h, omega arith)
    go (inr h) = absurd (false≢true (ap (λ (row : List Bool). slice_index_or row j false) (sym (past (List Bool) rows i [] h)) ∙ e))

leads-path : (rows : List (List Bool)) (most i j : ℕ) → IsSquare rows → length rows ≤ most → Leads rows i j → Path rows most i j
leads-path rows most i j square h (at_once e) = edge e
leads-path rows most i j square h (by_way_of {k} e l) =
    let within = (relates-within rows i k square e).1 in
    step e (omega arith) (leads-path rows most k j square h l)

pub all-closed : (rows : List (List Bool)) (most : ℕ) (now : List (List Bool)) → IsSquare rows → length rows ≤ most → AreClosedBelow rows most now
    → (i j : ℕ) → relates now i j ≡ true ↔ Leads rows i j
all-closed rows most now square h closed i j =
    ((λ e. path-leads rows most i j ((closed i j).0 e)), (λ l. (closed i j).1 (leads-path rows most i j square h l)))

-- a row that is there is found, whatever stands for one that isn't
pub in-row : (rows : List (List Bool)) (row : List Bool) (n : ℕ) → n < length rows → slice_index_or rows n row ≡ slice_index_or rows n []
in-row [] row n h = absurd (omega arith)
in-row (x ∷ xs) row zero h = refl
in-row (x ∷ xs) row (suc n) h = in-row xs row n (omega arith)
