-- Lists that are made item by item.
use Rattle.std.proofs.Common.{ℕ, suc, ◌+◌, ◌<◌, ◌++◌, ◌∙◌, sym, take, get_or, ◌≡◌, Bool, true, false, not, cond, eqb, List, [], ◌∷◌, length, map, filter, Option, Some, None, slice_get, ◌⊎◌}
use Rattle.std.proofs.Common.{inl, refl, ap, arith}
use Rattle.std.specs.List.{cons_option, filter_map}
use Rattle.std.specs.Prelude.{option_map}
use Rattle.std.proofs.lemmas.List.Elements.{filter_map-append}
use Rattle.std.proofs.lemmas.Option.{slice_get-get_or}
use Rattle.chyp_term.proofs.Slices.{take-suc}
use Rattle.chyp_store.specs.Items.{item_at, without}

-- the value, if it passes the test
abbrev pub if_passes : {Y : Type 0} → (Y → Bool) → Option Y → Option Y
if_passes test None = None
if_passes test (Some y) = cond (test y) (Some y) None

pub filter_map-same : {X Y : Type 0} (f g : X → Option Y) (xs : List X) → ((i : ℕ) (x : X) → slice_get xs i ≡ Some x → f x ≡ g x) → filter_map f xs ≡ filter_map g xs
filter_map-same f g [] h = refl
filter_map-same f g (x ∷ xs) h = rw (h 0 x refl, filter_map-same f g xs (λ i y e. h (suc i) y e)) refl

-- from each item what the other list gives, if it passes the test
pub filter_map-filter : {X Y : Type 0} (f g : X → Option Y) (test : Y → Bool) (xs ys : List X) → length ys ≡ length xs
    → ((i : ℕ) (x y : X) → slice_get xs i ≡ Some x → slice_get ys i ≡ Some y → g y ≡ if_passes test (f x)) → filter_map g ys ≡ filter test (filter_map f xs)
filter_map-filter f g test [] [] l h = refl
filter_map-filter f g test [] (y ∷ ys) l h = absurd (omega arith)
filter_map-filter f g test (x ∷ xs) [] l h = absurd (omega arith)
filter_map-filter {X} {Y} f g test (x ∷ xs) (y ∷ ys) l h =
    let e : length ys ≡ length xs = omega arith in
    at (f x) (g y) (h 0 x y refl refl) (filter_map-filter f g test xs ys e (λ i u v a b. h (suc i) u v a b))
  where
    at : (o p : Option Y) → p ≡ if_passes test o → filter_map g ys ≡ filter test (filter_map f xs) → cons_option p (filter_map g ys) ≡ filter test (cons_option o (filter_map f xs))
    at None p e r = rw e r
    at (Some z) p e r = by (test z) refl
      where
        by : (b : Bool) → test z ≡ b → cons_option p (filter_map g ys) ≡ cond (test z) (z ∷ filter test (filter_map f xs)) (filter test (filter_map f xs))
        by true t = rw (e, t) (ap (λ l. z ∷ l) r)
        by false t = rw (e, t) r

-- from each item what a function makes of what the other list gives
pub filter_map-map : {X Y : Type 0} (f g : X → Option Y) (change : Y → Y) (xs : List X)
    → ((i : ℕ) (x : X) → slice_get xs i ≡ Some x → g x ≡ option_map change (f x)) → filter_map g xs ≡ map change (filter_map f xs)
filter_map-map f g change [] h = refl
filter_map-map {X} {Y} f g change (x ∷ xs) h = at (f x) (g x) (h 0 x refl) (filter_map-map f g change xs (λ i y e. h (suc i) y e))
  where
    at : (o p : Option Y) → p ≡ option_map change o → filter_map g xs ≡ map change (filter_map f xs) → cons_option p (filter_map g xs) ≡ map change (cons_option o (filter_map f xs))
    at None p e r = rw e r
    at (Some z) p e r = rw e (ap (λ l. change z ∷ l) r)

-- to take out what is not there changes nothing
pub absent-without : {T : Type 0} (k : ℕ) (items : List (ℕ × T)) → item_at k items ≡ None → without k items ≡ items
absent-without k [] h = refl
absent-without {T} k (e ∷ es) h = by (eqb k e.0) refl (absent-without k es)
  where
    by : (b : Bool) → eqb k e.0 ≡ b → (item_at k es ≡ None → without k es ≡ es) → cond (not (eqb k e.0)) (e ∷ without k es) (without k es) ≡ e ∷ es
    by true q r = let x = rw q at h in absurd (cc)
    by false q r = let x = rw q at h in rw q (ap (λ l. e ∷ l) (r x))

-- what is lent, and how it is written back
pub same_lent : {N S T : Type 0} (n : N) (f g : T → S) → ((w : T) → f w ≡ g w) → ◌≡◌ {A = (N × (T → S)) ⊎ S} (inl (n, f)) (inl (n, g))
same_lent n f g h = λ i. inl (n, λ w. h w i)

-- what stands in one more entry
pub entries-more : (xs : List (Option ℕ)) (i : ℕ) (d : Option ℕ) (before after : List ℕ) → i < length xs → after ≡ before ++ cons_option (get_or xs i d) []
    → before ≡ filter_map (λ k. k) (take i xs) → after ≡ filter_map (λ k. k) (take (i + 1) xs)
entries-more xs i d before after h a b =
    a ∙ ap (λ l. l ++ cons_option (get_or xs i d) []) b
    ∙ sym (ap (filter_map (λ k. k)) (take-suc xs i (get_or xs i d) (slice_get-get_or xs i d h)) ∙ filter_map-append (λ k. k) (take i xs) (get_or xs i d ∷ []))
