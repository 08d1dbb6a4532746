-- Lists of items under distinct numbers.
use Rattle.std.proofs.Common.{ℕ, ◌≡◌, ◌≢◌, Bool, true, false, cond, eqb, List, [], ◌∷◌, ◌++◌, map, filter, Option, Some, None, Bor, ◌⊎◌, inl, inr, refl, sym, ◌∙◌, ap}
use Rattle.std.proofs.Common.{subst, eq-eqb, ne_eqb}
use Rattle.std.specs.Prelude.{IsSome, option_copied}
use Rattle.std.proofs.lemmas.Bool.{cases_eq}
use Rattle.chyp_term.specs.Positions.{is_apart}
use Rattle.chyp_term.proofs.Members.{member-not_apart, not_member-apart}
use Rattle.chyp_store.specs.Items.{AreDistinct, ids, item_at, with_item}
use Rattle.chyp_match.specs.Listed.{ids_where}

module _ {X : Type 0} where
  pub item-added : (k : ℕ) (x : X) (items : List (ℕ × X)) → item_at k items ≡ None → item_at k (items ++ (k, x) ∷ []) ≡ Some x
  item-added k x [] h = rw (eq-eqb k k refl) refl
  item-added k x (e ∷ es) h = by (eqb k e.0) refl (item-added k x es)
    where
      by : (b : Bool) → eqb k e.0 ≡ b → (item_at k es ≡ None → item_at k (es ++ (k, x) ∷ []) ≡ Some x) → item_at k (e ∷ (es ++ (k, x) ∷ [])) ≡ Some x
      by true q r = let y = rw q at h in absurd (cc)
      by false q r = let y = rw q at h in rw q (r y)

  pub where-added : (test : X → Bool) (k : ℕ) (x : X) (items : List (ℕ × X)) → ids_where test (items ++ (k, x) ∷ []) ≡ ids_where test items ++ cond (test x) (k ∷ []) []
  where-added test k x [] = by (test x) refl
    where
      by : (b : Bool) → test x ≡ b → map (λ (e : ℕ × X). e.0) (cond (test x) ((k, x) ∷ []) []) ≡ cond (test x) (k ∷ []) []
      by true q = rw q refl
      by false q = rw q refl
  where-added test k x (e ∷ es) = by (test e.1) refl (where-added test k x es)
    where
      by : (b : Bool) → test e.1 ≡ b → ids_where test (es ++ (k, x) ∷ []) ≡ ids_where test es ++ cond (test x) (k ∷ []) []
          → map (λ (e : ℕ × X). e.0) (cond (test e.1) (e ∷ filter (λ e. test e.1) (es ++ (k, x) ∷ [])) (filter (λ e. test e.1) (es ++ (k, x) ∷ [])))
          ≡ map (λ (e : ℕ × X). e.0) (cond (test e.1) (e ∷ filter (λ e. test e.1) es) (filter (λ e. test e.1) es)) ++ cond (test x) (k ∷ []) []
      by true q r = rw q (ap (λ l. e.0 ∷ l) r)
      by false q r = rw q r

  -- what is written under a number that is not there changes nothing
  pub with-absent : (k : ℕ) (x : X) (items : List (ℕ × X)) → is_apart (ids items) k ≡ true → with_item k items x ≡ items
  with-absent k x [] h = refl
  with-absent k x (e ∷ es) h = by (cases_eq k e.0) (with-absent k x es)
    where
      by : (k ≡ e.0) ⊎ (k ≢ e.0) → (is_apart (ids es) k ≡ true → with_item k es x ≡ es) → cond (eqb k e.0) (e.0, x) e ∷ with_item k es x ≡ e ∷ es
      by (inl q) r = let y = member-not_apart (e.0 ∷ ids es) k (inl (sym q)) in absurd (cc)
      by (inr d) r = rw (ne_eqb k e.0 d) (ap (λ l. e ∷ l) (r (not_member-apart (ids es) k (λ m. let y = member-not_apart (e.0 ∷ ids es) k (inr m) in absurd (cc)))))

  -- a write that the test does not see leaves the numbers of the items that pass it
  pub where-with : (test : X → Bool) (k : ℕ) (x y : X) (items : List (ℕ × X)) → AreDistinct (ids items) → item_at k items ≡ Some y → test x ≡ test y
      → ids_where test (with_item k items x) ≡ ids_where test items
  where-with test k x y [] d h t = refl
  where-with test k x y (e ∷ es) d h t = by (cases_eq k e.0) (where-with test k x y es d.1)
    where
      on : (b : Bool) (z : ℕ × X) → z.0 ≡ e.0 → test z.1 ≡ test e.1 → test e.1 ≡ b → (l : List (ℕ × X)) → ids_where test l ≡ ids_where test es → ids_where test (z ∷ l) ≡ ids_where test (e ∷ es)
      on true z i j q l r = rw (j, q) (λ m. i m ∷ r m)
      on false z i j q l r = rw (j, q) r

      by : (k ≡ e.0) ⊎ (k ≢ e.0) → (item_at k es ≡ Some y → test x ≡ test y → ids_where test (with_item k es x) ≡ ids_where test es)
          → ids_where test (cond (eqb k e.0) (e.0, x) e ∷ with_item k es x) ≡ ids_where test (e ∷ es)
      by (inl q) r =
          let a = rw (eq-eqb k e.0 q) at h in
          let b : test x ≡ test e.1 = let z : y ≡ e.1 = cc in t ∙ ap test z in
          let c = with-absent k x es (subst (λ i. is_apart (ids es) i ≡ true) (sym q) d.0) in
          rw (eq-eqb k e.0 q) (on (test e.1) (e.0, x) refl b refl (with_item k es x) (ap (ids_where test) c))
      by (inr n) r =
          let a = rw (ne_eqb k e.0 n) at h in
          rw (ne_eqb k e.0 n) (on (test e.1) e refl refl refl (with_item k es x) (r a t))

pub map-with : {X Y : Type 0} (f : X → Y) (k : ℕ) (x : X) (items : List (ℕ × X)) → map (λ e. (e.0, f e.1)) (with_item k items x) ≡ with_item k (map (λ e. (e.0, f e.1)) items) (f x)
map-with f k x [] = refl
map-with {X} {Y} f k x (e ∷ es) = by (eqb k e.0) refl (map-with f k x es)
  where
    by : (b : Bool) → eqb k e.0 ≡ b → map (λ e. (e.0, f e.1)) (with_item k es x) ≡ with_item k (map (λ e. (e.0, f e.1)) es) (f x)
        → map (λ e. (e.0, f e.1)) (cond (eqb k e.0) (e.0, x) e ∷ with_item k es x) ≡ cond {A = ℕ × Y} (eqb k e.0) (e.0, f x) (e.0, f e.1) ∷ with_item k (map (λ e. (e.0, f e.1)) es) (f x)
    by true q r = rw q (ap (λ l. (e.0, f x) ∷ l) r)
    by false q r = rw q (ap (λ l. (e.0, f e.1) ∷ l) r)

-- what a reference to a found item shows
pub some-result : {X : Type 0} (r : Option (Bor X)) (x : X) → option_copied r ≡ Some x → IsSome r
some-result None x h = absurd (cc)
some-result (Some b) x h = refl

pub shown-item : {X : Type 0} (r : Option (Bor X)) (b : Bor X) (x : X) → r ≡ Some b → option_copied r ≡ Some x → b.now ≡ x
shown-item None b x e h = absurd (cc)
shown-item (Some c) b x e h = let y : c ≡ b = cc in let z : c.now ≡ x = cc in ap (λ c. c.now) (sym y) ∙ z

-- what is there, written again, changes nothing
pub with-same : {X : Type 0} (k : ℕ) (x : X) (items : List (ℕ × X)) → AreDistinct (ids items) → item_at k items ≡ Some x → with_item k items x ≡ items
with-same k x [] d h = refl
with-same {X} k x (e ∷ es) d h = by (cases_eq k e.0) (with-same k x es d.1)
  where
    by : (k ≡ e.0) ⊎ (k ≢ e.0) → (item_at k es ≡ Some x → with_item k es x ≡ es) → cond (eqb k e.0) (e.0, x) e ∷ with_item k es x ≡ e ∷ es
    by (inl q) r =
        let a = rw (eq-eqb k e.0 q) at h in
        let z : x ≡ e.1 = cc in
        let c = with-absent k x es (subst (λ i. is_apart (ids es) i ≡ true) (sym q) d.0) in
        rw (eq-eqb k e.0 q) (λ i. (e.0, z i) ∷ c i)
    by (inr n) r = let a = rw (ne_eqb k e.0 n) at h in rw (ne_eqb k e.0 n) (ap (λ l. e ∷ l) (r a))
