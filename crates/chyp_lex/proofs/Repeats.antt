-- Pieces one after another, and a step that is taken again and again.
use Rattle.std.proofs.Common.{◌≡◌, ◌⊎◌, ℕ, zero, suc, ◌+◌, ◌-◌, ◌<◌, ◌≤◌, true, false, List, [], ◌∷◌, length, drop, refl, sym, ◌∙◌, arith, inl, inr, ⊎_elim, zero-add}
use Rattle.std.specs.Prelude.{◌==◌}
use Rattle.std.proofs.Common.{length-drop}
use Rattle.std.proofs.lemmas.Bool.{cases_Bool, cond-true, cond-false}
use Rattle.std.proofs.lemmas.Bool.Decides.{nat_tests}
use Rattle.std.proofs.lemmas.List.{drop-drop}
use Rattle.chyp_lex.specs.Lexemes.{BeginsWithMany, no_more, one_more}
use Rattle.chyp_lex.specs.Longest.{repeated, repeated_from}

-- a number is 0, or one more than another
zero_or_suc : (n : ℕ) → (n ≡ 0) ⊎ ((k : ℕ) × (n ≡ suc k))
zero_or_suc zero = inl refl
zero_or_suc (suc k) = inr (k, refl)

module _ (step : List ℕ → ℕ) where
  repeated_from-skip : (skip : ℕ) (xs : List ℕ) → skip ≤ length xs → repeated_from step skip xs ≡ skip + repeated step (drop skip xs)
  unfolding repeated_from repeated
  repeated_from-skip zero [] h = refl
  repeated_from-skip (suc skip) [] h = absurd (omega arith)
  repeated_from-skip zero (b ∷ rest) h = sym (zero-add _)
  repeated_from-skip (suc skip) (b ∷ rest) h =
      let inner = repeated_from-skip skip rest (omega arith) in omega (arith, inner)

  repeated_from-le : (skip : ℕ) (xs : List ℕ) → repeated_from step skip xs ≤ length xs
  unfolding repeated_from
  repeated_from-le skip [] = omega arith
  repeated_from-le (suc skip) (b ∷ rest) = omega (arith, repeated_from-le skip rest)
  repeated_from-le zero (b ∷ rest) =
      let inner = repeated_from-le (step (b ∷ rest) - 1) rest in
      ⊎_elim
      (λ yes. rw (cond-true _ _ _ yes) (omega arith))
      (λ no. rw (cond-false _ _ _ no) (omega (arith, inner)))
      (cases_Bool (step (b ∷ rest) == 0))

  pub repeated-le-length : (xs : List ℕ) → repeated step xs ≤ length xs
  unfolding repeated
  repeated-le-length xs = repeated_from-le 0 xs

  pub repeated-stop : (xs : List ℕ) → step xs ≡ 0 → repeated step xs ≡ 0
  unfolding repeated repeated_from
  repeated-stop [] h = refl
  repeated-stop (b ∷ rest) h = let none : (step (b ∷ rest) == 0) ≡ true = rw h refl in cond-true _ _ _ none

  repeated-by : (b : ℕ) (rest : List ℕ) (k : ℕ) → step (b ∷ rest) ≡ suc k → k ≤ length rest → repeated step (b ∷ rest) ≡ suc k + repeated step (drop k rest)
  unfolding repeated repeated_from
  repeated-by b rest k e h =
      let some : (step (b ∷ rest) == 0) ≡ false = grind (arith, nat_tests) in
      let same : step (b ∷ rest) - 1 ≡ k = omega arith in
      let inner : repeated_from step (step (b ∷ rest) - 1) rest ≡ k + repeated_from step 0 (drop k rest) = rw same (repeated_from-skip k rest h) in
      cond-false _ _ _ some ∙ omega (arith, inner)

  pub repeated-go : (xs : List ℕ) → 0 < step xs → step xs ≤ length xs → repeated step xs ≡ step xs + repeated step (drop (step xs) xs)
  repeated-go [] some within = absurd (omega arith)
  repeated-go (b ∷ rest) some within =
      ⊎_elim
      (λ none. absurd (omega arith))
      (λ found.
      let e = found.1 in
      rw e (repeated-by b rest found.0 e (omega arith)))
      (zero_or_suc (step (b ∷ rest)))

module _ (Piece : List ℕ → ℕ → Type 0) (step : List ℕ → ℕ) where
  -- a piece of the length that the step gives stands wherever it gives one, inside the text
  pub record FindsPiece : Type 0 where
    pub finds : (t : List ℕ) → 0 < step t → Piece t (step t)
    pub within : (t : List ℕ) → step t ≤ length t

  pub Many-repeated : FindsPiece → (fuel : ℕ) (t : List ℕ) → length t ≤ fuel → BeginsWithMany Piece t (repeated step t)
  Many-repeated f zero t h =
      let stop : repeated step t ≡ 0 = omega (arith, repeated-le-length step t) in rw stop no_more
  Many-repeated f (suc fuel) t h =
      ⊎_elim
      (λ none. rw (repeated-stop step t none) no_more)
      (λ (found : (k : ℕ) × (step t ≡ suc k)).
      let some : 0 < step t = omega (arith, found.1) in
      let fits : length (drop (step t) t) ≤ fuel = simp length-drop (omega arith) in
      rw (repeated-go step t some (f.within t)) (one_more (f.finds t some) (Many-repeated f fuel (drop (step t) t) fits)))
      (zero_or_suc (step t))

  -- where a piece stands the step gives one that is no shorter; after a shorter one it gives none
  pub record Reaches : Type 0 where
    pub within : (t : List ℕ) → step t ≤ length t
    pub some : (t : List ℕ) (n : ℕ) → Piece t n → 0 < step t
    pub reaches : (t : List ℕ) (n : ℕ) → Piece t n → (n ≡ step t) ⊎ ((n ≤ step t) × (step (drop n t) ≡ 0))

  Many-none : Reaches → {t : List ℕ} {n : ℕ} → BeginsWithMany Piece t n → step t ≡ 0 → n ≡ 0
  Many-none r no_more none = refl
  Many-none r (one_more {text} {m} piece rest) none = let some = r.some text m piece in absurd (omega arith)

  -- as many bytes as the repeated step takes, or fewer, after which the step gives one
  pub Many-reaches : Reaches → {t : List ℕ} {n : ℕ} → BeginsWithMany Piece t n → n ≤ repeated step t
  Many-reaches r no_more = omega arith
  Many-reaches r (one_more {text} {m} {n} piece rest) =
      let some = r.some text m piece in
      let go = repeated-go step text some (r.within text) in
      ⊎_elim
      (λ same. let inner : n ≤ repeated step (drop (step text) text) = rw same at (Many-reaches r rest) in omega arith)
      (λ shorter. let none = Many-none r rest shorter.1 in omega (arith, shorter.0))
      (r.reaches text m piece)

  -- where a step takes the only piece there is, the pieces reach as far as the repeated step, or one more stands after them
  pub Many-exact : ((t : List ℕ) → step t ≤ length t) → ((t : List ℕ) (n : ℕ) → Piece t n → (0 < n) × (n ≡ step t)) → {t : List ℕ} {n : ℕ} → BeginsWithMany Piece t n → (n ≡ repeated step t)
      ⊎ (0 < step (drop n t))
  Many-exact within exact (no_more {text}) =
      ⊎_elim
      (λ none. inl (sym (repeated-stop step text none)))
      (λ found. inr (omega (arith, found.1)))
      (zero_or_suc (step text))
  Many-exact within exact (one_more {text} {m} {n} piece rest) =
      let is = exact text m piece in
      let some : 0 < step text = omega (arith, is.0, is.1) in
      let go = repeated-go step text some (within text) in
      ⊎_elim
      (λ same. inl (let inner : n ≡ repeated step (drop (step text) text) = rw is.1 at same in omega (arith, is.1)))
      (λ more. inr (rw drop-drop at more))
      (Many-exact within exact rest)
