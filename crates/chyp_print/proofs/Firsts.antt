-- The first bindings of generators, by a table of their numbers.
use Rattle.std.proofs.Common.{◌≡◌, ℕ, zero, suc, ◌+◌, ◌-◌, ◌<◌, ◌≤◌, true, false, cond, List, [], ◌∷◌, ◌++◌, Option, Some, None, length, take, drop, slice_get, refl, sym, ap, subst, ◌∙◌, ⊎_elim, arith, Vec, Global, is_some, Bor, length-take}
use Rattle.std.specs.Option.{option_copied}
use Rattle.std.specs.Str.{bytes_eq}
use Rattle.std.proofs.lemmas.Bool.{cases_Bool, cond-false, cond-true, false≢true}
use Rattle.std.proofs.lemmas.List.{drop_all}
use Rattle.chyp_base.specs.declared.sort.Sort.{Sort}
use Rattle.chyp_term.proofs.Slices.{take-suc}
use Rattle.indexmap.specs.IndexMap.{insert_entry}
use Rattle.chyp_env.specs.Environment.{Binding, Sense, abbreviation, broken, generator as a_generator, equation, unproved}
use Rattle.chyp_print.specs.Environments.{first_binding, is_generator}
use Rattle.chyp_print.specs.FirstNames.{IsIndex, IsNoted, first_number, is_named, number_of, or_else}

-- the number of one more binding
first_number-append : (k : ℕ) (name : List ℕ) (env : List Binding) (b : Binding)
    → first_number k name (env ++ b ∷ []) ≡ or_else (first_number k name env) (cond (is_named name b.sense) (Some (k + length env)) None)
first_number-append k name [] b = let at : k + 0 ≡ k = omega arith in rw at refl
first_number-append k name (first ∷ env) b =
    let at : k + 1 + length env ≡ k + suc (length env) = omega arith in
    let inner = first_number-append (k + 1) name env b ∙ ap (λ n. or_else (first_number (k + 1) name env) (cond (is_named name b.sense) (Some n) None)) at in
    ⊎_elim
    (λ (yes : is_named name first.sense ≡ true). rw yes refl)
    (λ (no : is_named name first.sense ≡ false). rw no inner)
    (cases_Bool (is_named name first.sense))

-- one more binding is noted
pub noted-next : (env : List Binding) (i : ℕ) (b : Binding) (before after : List (Vec ℕ Global × ℕ)) → slice_get env i ≡ Some b → i < length env → IsIndex (take i env) before
    → IsNoted b.sense i before after
    → IsIndex (take (i + 1) env) after
noted-next env i b before after there within index noted name =
    let taken : take (i + 1) env ≡ take i env ++ b ∷ [] = take-suc env i b there in
    let size = length-take i env in
    let at : 0 + length (take i env) ≡ i = omega arith in
    noted name ∙ ap (λ o. or_else o (cond (is_named name b.sense) (Some i) None)) (index name)
    ∙ sym (ap (first_number 0 name) taken ∙ first_number-append 0 name (take i env) b
    ∙ ap (λ n. or_else (first_number 0 name (take i env)) (cond (is_named name b.sense) (Some n) None)) at)

number_of-append : (name : List ℕ) (pairs : List (Vec ℕ Global × ℕ)) (key : Vec ℕ Global) (n : ℕ)
    → number_of name (pairs ++ (key, n) ∷ []) ≡ or_else (number_of name pairs) (cond (bytes_eq name key.items) (Some n) None)
number_of-append name [] key n = refl
number_of-append name (pair ∷ pairs) key n =
    ⊎_elim
    (λ (yes : bytes_eq name pair.0.items ≡ true). rw yes refl)
    (λ (no : bytes_eq name pair.0.items ≡ false). rw no (number_of-append name pairs key n))
    (cases_Bool (bytes_eq name pair.0.items))

-- a key that isn't there goes last
absent : (pairs : List (Vec ℕ Global × ℕ)) (key : Vec ℕ Global) (n : ℕ) → number_of key.items pairs ≡ None
    → insert_entry (λ (a b : Vec ℕ Global). bytes_eq a.items b.items) pairs key n ≡ pairs ++ (key, n) ∷ []
absent [] key n none = refl
absent (pair ∷ pairs) key n none =
    ⊎_elim
    (λ (found : bytes_eq key.items pair.0.items ≡ true). let some : Some pair.1 ≡ None = sym (cond-true _ _ _ found) ∙ none in absurd cc)
    (λ (other : bytes_eq key.items pair.0.items ≡ false). rw other (ap (λ l. pair ∷ l) (absent pairs key n (sym (cond-false _ _ _ other) ∙ none))))
    (cases_Bool (bytes_eq key.items pair.0.items))

-- a generator whose name has no number gets one
pub noted-new : (sense : Sense) (own : List ℕ) (a b : List Sort) (number : ℕ) (pairs after : List (Vec ℕ Global × ℕ)) (key : Vec ℕ Global) → sense ≡ a_generator own a b → key.items ≡ own
    → number_of own pairs ≡ None → after ≡ insert_entry (λ (a b : Vec ℕ Global). bytes_eq a.items b.items) pairs key number → IsNoted sense number pairs after
noted-new sense own a b number pairs after key e is none inserted name =
    let pushed = inserted ∙ absent pairs key number (ap (λ k. number_of k pairs) is ∙ none) in
    let named : bytes_eq name key.items ≡ is_named name sense = ap (bytes_eq name) is ∙ sym (ap (is_named name) e) in
    ap (number_of name) pushed ∙ number_of-append name pairs key number ∙ ap (λ c. or_else (number_of name pairs) (cond c (Some number) None)) named

-- what passes the test has the name
generator-named : (n : List ℕ) (a b : List Sort) (sense : Sense) → is_named n sense ≡ false → is_generator n a b sense ≡ false
generator-named n a b (a_generator m c d) h = rw h refl
generator-named n a b (abbreviation m) h = refl
generator-named n a b (equation l r) h = refl
generator-named n a b unproved h = refl
generator-named n a b broken h = refl

module _ (n : List ℕ) (a b : List Sort) where
  -- no binding before the first one of the name is the generator's
  skipped : (k i : ℕ) (env : List Binding) → first_number k n env ≡ Some i → (k ≤ i) × (first_binding env n a b ≡ first_binding (drop (i - k) env) n a b)
  skipped k i [] h = absurd cc
  skipped k i (binding ∷ env) h =
      ⊎_elim
      (λ (yes : is_named n binding.sense ≡ true).
      let some : Some k ≡ Some i = sym (cond-true _ _ _ yes) ∙ h in
      let is : k ≡ i = cc in
      let none : i - k ≡ 0 = omega arith in
      (omega arith, rw none refl))
      (λ (no : is_named n binding.sense ≡ false).
      let inner = skipped (k + 1) i env (sym (cond-false _ _ _ no) ∙ h) in
      let more : i - k ≡ suc (i - (k + 1)) = omega (arith, inner.0) in
      let passed : first_binding (binding ∷ env) n a b ≡ first_binding env n a b = cond-false _ _ _ (generator-named n a b binding.sense no) in
      (omega (arith, inner.0), passed ∙ inner.1 ∙ rw more refl))
      (cases_Bool (is_named n binding.sense))

  -- without such a binding the generator has none
  pub unnamed : (k : ℕ) (env : List Binding) → first_number k n env ≡ None → first_binding env n a b ≡ None
  unnamed k [] h = refl
  unnamed k (binding ∷ env) h =
      ⊎_elim
      (λ (yes : is_named n binding.sense ≡ true). let some : Some k ≡ None = sym (cond-true _ _ _ yes) ∙ h in absurd cc)
      (λ (no : is_named n binding.sense ≡ false). cond-false _ _ _ (generator-named n a b binding.sense no) ∙ unnamed (k + 1) env (sym (cond-false _ _ _ no) ∙ h))
      (cases_Bool (is_named n binding.sense))

  pub from-first : (env : List Binding) (i : ℕ) → first_number 0 n env ≡ Some i → first_binding (drop i env) n a b ≡ first_binding env n a b
  from-first env i h =
      let all : i - 0 ≡ i = omega arith in
      sym (subst (λ j. first_binding env n a b ≡ first_binding (drop j env) n a b) all (skipped 0 i env h).1)

  -- the binding of this number is the one, or is passed over
  pub is-first : (env : List Binding) (i : ℕ) (binding : Binding) → slice_get env i ≡ Some binding → is_generator n a b binding.sense ≡ true → first_binding (drop i env) n a b ≡ Some binding
  is-first [] i binding there passes = absurd cc
  is-first (first ∷ env) zero binding there passes = let same : first ≡ binding = cc in rw same (cond-true _ _ _ passes)
  is-first (first ∷ env) (suc i) binding there passes = is-first env i binding there passes

  pub passed-over : (env : List Binding) (i : ℕ) (binding : Binding) → slice_get env i ≡ Some binding → is_generator n a b binding.sense ≡ false
      → first_binding (drop (i + 1) env) n a b ≡ first_binding (drop i env) n a b
  passed-over [] i binding there fails = absurd cc
  passed-over (first ∷ env) zero binding there fails = let same : first ≡ binding = cc in rw same (sym (cond-false _ _ _ fails))
  passed-over (first ∷ env) (suc i) binding there fails =
      let at : suc i + 1 ≡ suc (i + 1) = omega arith in
      subst (λ j. first_binding (drop j (first ∷ env)) n a b ≡ first_binding (drop i env) n a b) (sym at) (passed-over env i binding there fails)

  pub none-left : (env : List Binding) (i : ℕ) → length env ≤ i → first_binding (drop i env) n a b ≡ None
  none-left env i end = ap (λ rest. first_binding rest n a b) (drop_all i env end)

  -- by the table
  pub none-noted : (env : List Binding) (numbers : List (Vec ℕ Global × ℕ)) → IsIndex env numbers → number_of n numbers ≡ None → first_binding env n a b ≡ None
  none-noted env numbers index none = unnamed 0 env (sym (index n) ∙ none)

  pub some-noted : (env : List Binding) (numbers : List (Vec ℕ Global × ℕ)) (i : ℕ) → IsIndex env numbers → number_of n numbers ≡ Some i → first_binding (drop i env) n a b ≡ first_binding env n a b
  some-noted env numbers i index some = from-first env i (sym (index n) ∙ some)

-- a look-up that finds nothing
pub copied-none : (own name : List ℕ) (result : Option (Bor ℕ)) (pairs : List (Vec ℕ Global × ℕ))
    → name ≡ own → is_some result ≡ false → option_copied result ≡ number_of name pairs → number_of own pairs ≡ None
copied-none own name None pairs same none e = ap (λ k. number_of k pairs) (sym same) ∙ sym e
copied-none own name (Some x) pairs same none e = absurd (false≢true (sym none))

pub copied-some : (own name : List ℕ) (result : Option (Bor ℕ)) (found : Bor ℕ) (pairs : List (Vec ℕ Global × ℕ)) → name ≡ own → result ≡ Some found → option_copied result ≡ number_of name pairs
    → number_of own pairs ≡ Some found.now
copied-some own name result found pairs same is e = ap (λ k. number_of k pairs) (sym same) ∙ sym e ∙ ap option_copied is
