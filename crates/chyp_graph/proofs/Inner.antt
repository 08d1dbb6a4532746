-- The wires that are no input, counted; and places in a list of inputs.
use Rattle.std.proofs.Common.{ℕ, zero, suc, ◌+◌, ◌-◌, ◌<◌, ◌≤◌, ◌≡◌, Bool, true, false, cond, eqb, List, [], ◌∷◌, ◌++◌, map, length, Some, None, option_map}
use Rattle.std.proofs.Common.{slice_get, ◌⊎◌, inl, inr, refl, sym, ◌∙◌, ap, arith, add-zero, eq-eqb, ne_eqb}
use Rattle.std.proofs.lemmas.Bool.{cases_lt, cases_Bool}
use Rattle.chyp_term.specs.Perm.{count_from}
use Rattle.chyp_term.specs.Positions.{place_of}
use Rattle.chyp_term.proofs.Permuted.{get-append_left, get-append_right}
use Rattle.chyp_term.proofs.Positions.{upto, upto-suc}

pub record Kept (p : ℕ → Bool) (n w i : ℕ) : Type 0 where
  pub passes : p w ≡ true
  pub below : w < n
  pub place : length (upto p w) ≡ i

pub get-past : {A : Type 0} (xs ys : List A) (i : ℕ) → length xs ≤ i → slice_get (xs ++ ys) i ≡ slice_get ys (i - length xs)
get-past xs ys i h = ap (slice_get (xs ++ ys)) (omega arith) ∙ get-append_right xs ys (i - length xs)

pub kept-back : (p : ℕ → Bool) (n w i : ℕ) → slice_get (upto p n) i ≡ Some w → Kept p n w i
kept-back p zero w i e = cc
kept-back p (suc n) w i e = go (λ f. kept-back p n w i f) (cases_lt i (length (upto p n))) (cases_Bool (p n))
  where
    last : (j : ℕ) → slice_get (n ∷ []) j ≡ Some w → (j ≡ 0) × (w ≡ n)
    last zero f = (refl, cc)
    last (suc j) f = cc

    go : (slice_get (upto p n) i ≡ Some w → Kept p n w i) → (i < length (upto p n)) ⊎ (length (upto p n) ≤ i) → (p n ≡ true) ⊎ (p n ≡ false) → Kept p (suc n) w i
    go ih (inl l) b =
        let k = ih (sym (get-append_left (upto p n) _ i l) ∙ ap (λ xs. slice_get xs i) (sym (upto-suc p n)) ∙ e) in
        record { passes = k.passes; below = let q = k.below in omega arith; place = k.place }
    go ih (inr g) (inl b) =
        let f = last (i - length (upto p n)) (sym (get-past (upto p n) (n ∷ []) i g) ∙ ap (λ c. slice_get (upto p n ++ cond c (n ∷ []) []) i) (sym b)
        ∙ ap (λ xs. slice_get xs i) (sym (upto-suc p n)) ∙ e) in
        record { passes = ap p f.1 ∙ b; below = omega arith; place = ap (λ v. length (upto p v)) f.1 ∙ omega arith }
    go ih (inr g) (inr b) =
        let f : slice_get {X = ℕ} [] (i - length (upto p n)) ≡ Some w =
        sym (get-past (upto p n) [] i g) ∙ ap (λ c. slice_get (upto p n ++ cond c (n ∷ []) []) i) (sym b) ∙ ap (λ xs. slice_get xs i) (sym (upto-suc p n)) ∙ e in
        cc

pub place-map : (f : ℕ → ℕ) (k n j : ℕ) → j < n → ((i l : ℕ) → k ≤ i → i < k + n → k ≤ l → l < k + n → f i ≡ f l → i ≡ l) → place_of (f (k + j)) (map f (count_from k n)) ≡ Some j
place-map f k zero j h a = absurd (omega arith)
place-map f k (suc n) zero h a = rw (add-zero k, eq-eqb (f k) (f k) refl) refl
place-map f k (suc n) (suc j) h a =
    let q : eqb (f k) (f (k + suc j)) ≡ false = ne_eqb _ _ (λ e. let b = a k (k + suc j) (omega arith) (omega arith) (omega arith) (omega arith) e in omega arith) in
    let r : place_of (f (suc k + j)) (map f (count_from (suc k) n)) ≡ Some j = place-map f (suc k) n j (omega arith) (λ i l b c d e. a i l (omega arith) (omega arith) (omega arith) (omega arith)) in
    let m : k + suc j ≡ suc k + j = omega arith in
    rw q (ap (option_map suc) (ap (λ x. place_of (f x) (map f (count_from (suc k) n))) m ∙ r))

pub place-none : (f : ℕ → ℕ) (k n w : ℕ) → ((i : ℕ) → k ≤ i → i < k + n → f i ≡ w → ⊥) → place_of w (map f (count_from k n)) ≡ None
place-none f k zero w a = refl
place-none f k (suc n) w a = rw (ne_eqb (f k) w (a k (omega arith) (omega arith)), place-none f (suc k) n w (λ i b c. a i (omega arith) (omega arith))) refl
