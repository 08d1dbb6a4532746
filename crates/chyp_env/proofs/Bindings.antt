-- Environments as lists of bindings, and what an import leaves of them.
use Rattle.std.proofs.Common.{◌≡◌, ℕ, zero, suc, Bool, true, false, cond, not, List, [], ◌∷◌, ◌++◌, map, Option, Some, None, slice_index_or, All, ◌⊎◌, inl, inr, refl, sym, ◌∙◌, ap, arith}
use Rattle.std.specs.Prelude.{Contains, codes, is_some, find, ◌==◌}
use Rattle.std.specs.List.{filter}
use Rattle.std.specs.Option.{option_map_or, option_map}
use Rattle.std.specs.Str.{bytes_eq}
use Rattle.std.proofs.lemmas.Bool.{false≢true}
use Rattle.std.proofs.lemmas.Bool.Decides.{Decides-and, Decides-eqb}
use Rattle.std.proofs.lemmas.Slice.Eq.{bytes_eq-Decides}
use Rattle.std.proofs.lemmas.List.Elements.{All-contains, All-contains_itself, All-filter, filter_passes, All-map, All-append, Contains-append_cases, Contains-append_left, Contains-append_right}
use Rattle.chyp_env.specs.Environment.{Binding, Origin, binding_of, is_bound}
use Rattle.chyp_env.specs.Sound.{HasDistinctNames}
use Rattle.chyp_env.specs.Import.{prefixed, passed_on, all_passed_on, is_origin, same_origin, clashes, first_clash, new_in}

-- ---- lists

pub Contains-cons : {A : Type 0} (y : A) (xs : List A) (x : A) → Contains xs x → Contains (y ∷ xs) x
Contains-cons y xs x c = (suc c.0, omega (arith, c.1), c.2)

pub Contains-from_cons : {A : Type 0} (y : A) (xs : List A) (x : A) → Contains (y ∷ xs) x → (y ≡ x) ⊎ Contains xs x
Contains-from_cons y xs x (zero, h, e) = inl e
Contains-from_cons y xs x (suc k, h, e) = inr (k, omega (arith, h), e)

pub Contains-from_filter : {A : Type 0} (t : A → Bool) (xs : List A) (x : A) → Contains (filter t xs) x → Contains xs x × (t x ≡ true)
Contains-from_filter t xs x c =
    (All-contains (Contains xs) (filter t xs) x (All-filter t (Contains xs) xs (All-contains_itself xs)) c, All-contains (λ y. t y ≡ true) (filter t xs) x (filter_passes t xs) c)

pub Contains-filter : {A : Type 0} (t : A → Bool) (xs : List A) (x : A) → Contains xs x → t x ≡ true → Contains (filter t xs) x
Contains-filter t [] x (k, h, e) p = absurd (omega (arith, h))
Contains-filter t (y ∷ ys) x c p = go (t y) refl (Contains-from_cons y ys x c) (λ d. Contains-filter t ys x d p)
  where
    go : (b : Bool) → t y ≡ b → (y ≡ x) ⊎ Contains ys x → (Contains ys x → Contains (filter t ys) x) → Contains (cond b (y ∷ filter t ys) (filter t ys)) x
    go true e (inl s) rest = (0, omega arith, s)
    go true e (inr d) rest = Contains-cons y (filter t ys) x (rest d)
    go false e (inl s) rest = absurd (false≢true (sym e ∙ ap t s ∙ p))
    go false e (inr d) rest = rest d

pub Contains-from_map : {A B : Type 0} (f : A → B) (xs : List A) (y : B) → Contains (map f xs) y → (x : A) × Contains xs x × (f x ≡ y)
Contains-from_map {A} {B} f xs y c =
    let P : B → Type 0 = λ z. (x : A) × Contains xs x × (f x ≡ z) in
    All-contains P (map f xs) y (All-map P f xs (λ k d h. (slice_index_or xs k d, All-contains_itself xs k d h, refl))) c

pub Contains-map : {A B : Type 0} (f : A → B) (xs : List A) (x : A) → Contains xs x → Contains (map f xs) (f x)
Contains-map f [] x (k, h, e) = absurd (omega (arith, h))
Contains-map f (y ∷ ys) x c = go (Contains-from_cons y ys x c) (Contains-map f ys x)
  where
    go : (y ≡ x) ⊎ Contains ys x → (Contains ys x → Contains (map f ys) (f x)) → Contains (map f (y ∷ ys)) (f x)
    go (inl s) rest = (0, omega arith, ap f s)
    go (inr d) rest = Contains-cons (f y) (map f ys) (f x) (rest d)

pub All-from : {A : Type 0} (P : A → Type 0) (xs : List A) → ((x : A) → Contains xs x → P x) → All P xs
All-from P xs each = λ k d h. each (slice_index_or xs k d) (All-contains_itself xs k d h)

-- ---- names

pub names-eq : (a b : List ℕ) → bytes_eq a b ≡ true → a ≡ b
names-eq a b e = (bytes_eq-Decides a b).0 e

pub names-same : (a b : List ℕ) → a ≡ b → bytes_eq a b ≡ true
names-same a b e = (bytes_eq-Decides a b).1 e

-- the binding of a name is one of the bindings, and has that name
pub binding-found : (env : List Binding) (q : List ℕ) (b : Binding) → binding_of env q ≡ Some b → Contains env b × (q ≡ b.name)
binding-found [] q b e = absurd cc
binding-found (x ∷ xs) q b e = go (bytes_eq q x.name) refl e (binding-found xs q b)
  where
    go : (c : Bool) → bytes_eq q x.name ≡ c → cond c (Some x) (binding_of xs q) ≡ Some b → (binding_of xs q ≡ Some b → Contains xs b × (q ≡ b.name)) → Contains (x ∷ xs) b × (q ≡ b.name)
    go true h f rest = let same : x ≡ b = cc in ((0, omega arith, same), names-eq q x.name h ∙ ap (λ (y : Binding). y.name) same)
    go false h f rest = let m = rest f in (Contains-cons x xs b m.0, m.1)

pub unbound-each : (env : List Binding) (q : List ℕ) (b : Binding) → is_bound env q ≡ false → Contains env b → ¬ (q ≡ b.name)
unbound-each [] q b none (k, h, e) same = absurd (omega (arith, h))
unbound-each (x ∷ xs) q b none c same = go (bytes_eq q x.name) refl none (Contains-from_cons x xs b c) (λ n d. unbound-each xs q b n d same)
  where
    go : (t : Bool) → bytes_eq q x.name ≡ t → is_some (cond t (Some x) (binding_of xs q)) ≡ false → (x ≡ b) ⊎ Contains xs b → (is_bound xs q ≡ false → Contains xs b → ⊥) → ⊥
    go true h n d rest = false≢true (sym n)
    go false h n (inl s) rest = false≢true (sym h ∙ names-same q x.name (same ∙ ap (λ (y : Binding). y.name) (sym s)))
    go false h n (inr d) rest = rest n d

pub each-unbound : (env : List Binding) (q : List ℕ) → ((b : Binding) → Contains env b → ¬ (q ≡ b.name)) → is_bound env q ≡ false
each-unbound env q each = go (binding_of env q) refl
  where
    go : (o : Option Binding) → binding_of env q ≡ o → is_some o ≡ false
    go None e = refl
    go (Some b) e = let m = binding-found env q b e in absurd (each b m.0 m.1)

-- ---- distinct names

pub distinct-filter : (t : Binding → Bool) (bs : List Binding) → HasDistinctNames bs → HasDistinctNames (filter t bs)
distinct-filter t [] h = tt
distinct-filter t (b ∷ bs) h = go (t b) (distinct-filter t bs h.1)
  where
    go : (c : Bool) → HasDistinctNames (filter t bs) → HasDistinctNames (cond c (b ∷ filter t bs) (filter t bs))
    go true rest = (each-unbound (filter t bs) b.name (λ x c. unbound-each bs b.name x h.0 (Contains-from_filter t bs x c).0), rest)
    go false rest = rest

cancel : (p a b : List ℕ) → p ++ a ≡ p ++ b → a ≡ b
cancel [] a b e = e
cancel (x ∷ p) a b e = cancel p a b cc

pub prefixed-once : (prefix : Option (List ℕ)) (a b : List ℕ) → prefixed prefix a ≡ prefixed prefix b → a ≡ b
prefixed-once None a b e = e
prefixed-once (Some p) a b e = cancel (codes ".") a b (cancel p (codes "." ++ a) (codes "." ++ b) e)

pub distinct-passed_on : (prefix : Option (List ℕ)) (bs : List Binding) → HasDistinctNames bs → HasDistinctNames (all_passed_on prefix bs)
distinct-passed_on prefix [] h = tt
distinct-passed_on prefix (b ∷ bs) h = (
  each-unbound (all_passed_on prefix bs) (prefixed prefix b.name) (λ x c same.
      let from = Contains-from_map (passed_on prefix) bs x c in
      unbound-each bs b.name from.0 h.0 from.1 (prefixed-once prefix b.name from.0.name (same ∙ ap (λ (y : Binding). y.name) (sym from.2)))),
  distinct-passed_on prefix bs h.1,
)

pub distinct-append : (env bs : List Binding) → HasDistinctNames env → HasDistinctNames bs → ((b : Binding) → Contains bs b → is_bound env b.name ≡ false) → HasDistinctNames (env ++ bs)
distinct-append [] bs h k apart = k
distinct-append (x ∷ env) bs h k apart = (
  each-unbound (env ++ bs) x.name (λ b c same. go b (Contains-append_cases env bs b c) same),
  distinct-append env bs h.1 k (λ b c. each-unbound env b.name (λ y d. unbound-each (x ∷ env) b.name y (apart b c) (Contains-cons x env y d))),
)
  where
    go : (b : Binding) → Contains env b ⊎ Contains bs b → ¬ (x.name ≡ b.name)
    go b (inl c) same = unbound-each env x.name b h.0 c same
    go b (inr c) same = unbound-each (x ∷ env) b.name x (apart b c) (0, omega arith, refl) (sym same)

pub not-false : (b : Bool) → not b ≡ true → b ≡ false
not-false true e = absurd (false≢true e)
not-false false e = refl

pub new-unbound : (env bs : List Binding) (b : Binding) → Contains (new_in env bs) b → is_bound env b.name ≡ false
new-unbound env bs b c = not-false (is_bound env b.name) (Contains-from_filter (λ (x : Binding). not (is_bound env x.name)) bs b c).1

-- names stay distinct where an import binds those that aren't bound already
pub distinct-import : (env bs : List Binding) (prefix : Option (List ℕ)) → HasDistinctNames env → HasDistinctNames bs → HasDistinctNames (env ++ new_in env (all_passed_on prefix bs))
distinct-import env bs prefix h k =
    distinct-append env (new_in env (all_passed_on prefix bs)) h (distinct-filter _ (all_passed_on prefix bs) (distinct-passed_on prefix bs k)) (λ b c. new-unbound env (all_passed_on prefix bs) b c)

-- what holds of all bindings, whatever their names, holds of those behind an import
pub import-all : (P : Binding → Type 0) (env bs : List Binding) (prefix : Option (List ℕ)) → ((b : Binding) → P b → P (passed_on prefix b)) → All P env → All P bs
    → All P (env ++ new_in env (all_passed_on prefix bs))
import-all P env bs prefix same here there =
    All-append P env (new_in env (all_passed_on prefix bs)) here (All-filter _ P (all_passed_on prefix bs) (All-map P (passed_on prefix) bs (λ k d h. same (slice_index_or bs k d) (there k d h))))

-- ---- clashes

find-none : {A : Type 0} (t : A → Bool) (xs : List A) (x : A) → find t xs ≡ None → Contains xs x → t x ≡ false
find-none t [] x e (k, h, i) = absurd (omega (arith, h))
find-none t (y ∷ ys) x e c = go (t y) refl e (Contains-from_cons y ys x c) (find-none t ys x)
  where
    go : (b : Bool) → t y ≡ b → cond b (Some y) (find t ys) ≡ None → (y ≡ x) ⊎ Contains ys x → (find t ys ≡ None → Contains ys x → t x ≡ false) → t x ≡ false
    go true h f d rest = absurd cc
    go false h f (inl s) rest = ap t (sym s) ∙ h
    go false h f (inr d) rest = rest f d

no-name : (o : Option Binding) → option_map (λ (b : Binding). b.name) o ≡ None → o ≡ None
no-name None e = refl
no-name (Some b) e = absurd cc

pub not-true : (b : Bool) → not b ≡ false → b ≡ true
not-true true e = refl
not-true false e = absurd (false≢true (sym e))

-- two origins are one, or they aren't
pub origin-is : (a b : Origin) → is_origin a b ≡ true → a ≡ b
origin-is a b e =
    let both = (Decides-and (bytes_eq a.home b.home) (a.number == b.number) (bytes_eq-Decides a.home b.home) (Decides-eqb a.number b.number)).0 e in
    let homes : a.home ≡ b.home = both.0 in
    let numbers : a.number ≡ b.number = both.1 in
    ap (λ (x : List ℕ). record { home = x; number = a.number }) homes ∙ ap (λ (n : ℕ). record { home = b.home; number = n }) numbers

pub origin-differs : (a b : Origin) → is_origin a b ≡ false → ¬ (a ≡ b)
origin-differs a b e same =
    let both : (a.home ≡ b.home) × (a.number ≡ b.number) = (ap (λ (o : Origin). o.home) same, ap (λ (o : Origin). o.number) same) in
    let decided = Decides-and (bytes_eq a.home b.home) (a.number == b.number) (bytes_eq-Decides a.home b.home) (Decides-eqb a.number b.number) in
    false≢true (sym e ∙ decided.1 both)

-- Where nothing clashes, each binding of the module has its place behind an import: under its name, or passed over for one of
-- the same origin.
pub import-covers : (env bs : List Binding) (prefix : Option (List ℕ)) → first_clash env (all_passed_on prefix bs) ≡ None → (b : Binding) → Contains bs b
    → (c : Binding) × Contains (env ++ new_in env (all_passed_on prefix bs)) c × (c.origin ≡ b.origin) × ((c ≡ passed_on prefix b) ⊎ Contains env c)
import-covers env bs prefix none b has = go (binding_of env (prefixed prefix b.name)) refl
  where
    all : List Binding
    all = all_passed_on prefix bs

    at : Contains all (passed_on prefix b)
    at = Contains-map (passed_on prefix) bs b has

    go : (o : Option Binding) → binding_of env (prefixed prefix b.name) ≡ o → (c : Binding) × Contains (env ++ new_in env (all_passed_on prefix bs)) c × (c.origin ≡ b.origin)
        × ((c ≡ passed_on prefix b) ⊎ Contains env c)
    go None e =
        let free : not (is_bound env (prefixed prefix b.name)) ≡ true = ap (λ o. not (is_some o)) e in (
          passed_on prefix b,
          Contains-append_right env (new_in env all) (passed_on prefix b) (Contains-filter (λ (x : Binding). not (is_bound env x.name)) all (passed_on prefix b) at free),
          refl,
          inl refl,
        )
    go (Some old) e =
        let found = binding-found env (prefixed prefix b.name) old e in
        let fits : clashes env (passed_on prefix b) ≡ false = find-none (clashes env) all (passed_on prefix b) (no-name _ none) at in
        let same : same_origin old (passed_on prefix b) ≡ true = not-true _ (sym (ap (λ o. option_map_or (λ (x : Binding). not (same_origin x (passed_on prefix b))) o false) e) ∙ fits) in
        (old, Contains-append_left env (new_in env all) old found.0, origin-is old.origin b.origin same, inr found.0)
