-- A loop that goes over the bindings of a module, as an import passes them on.
use Rattle.std.proofs.Common.{◌≡◌, ℕ, zero, suc, ◌+◌, ◌≤◌, Bool, true, false, cond, not, List, [], ◌∷◌, ◌++◌, map, length, take, Option, Some, None, slice_get, All, ◌⊎◌, inl, inr, refl, sym, ◌∙◌, ap, subst, arith, append-nil, append_assoc}
use Rattle.std.specs.Prelude.{Contains, find}
use Rattle.std.specs.Option.{option_map}
use Rattle.std.specs.Str.{bytes_eq}
use Rattle.std.proofs.lemmas.List.{map-append, take_all}
use Rattle.std.proofs.lemmas.List.Elements.{Contains-append_cases, All-contains, filter-append}
use Rattle.indexmap.specs.IndexMap.{insert_all, insert_entry}
use Rattle.chyp_env.specs.declared.entry.Entry.{Entry}
use Rattle.chyp_env.specs.Environment.{Binding, is_bound}
use Rattle.chyp_env.specs.Import.{prefixed, passed_on, all_passed_on, clashes, first_clash, new_in}
use Rattle.chyp_env.specs.Sound.{HasDistinctNames}
use Rattle.chyp_env.proofs.Bindings.{All-from, Contains-cons, Contains-from_cons, Contains-from_filter, Contains-from_map, each-unbound, unbound-each, prefixed-once, new-unbound}
use Rattle.chyp_env.proofs.Envs.{Pairs, binding_in, AreKept, kept_head, kept_tail, inserted}
use Rattle.chyp_term.proofs.Slices.{take-suc}

-- ---- clashes

module _ {A : Type 0} (t : A → Bool) where
  -- none of the first items passes the test
  abbrev None-before : List A → ℕ → Type 0
  None-before xs n = find t (take n xs) ≡ None

  none-next : (xs : List A) (n : ℕ) (x : A) → slice_get xs n ≡ Some x → t x ≡ false → None-before xs n → None-before xs (n + 1)
  none-next [] n x e f none = absurd cc
  none-next (y ∷ ys) zero x e f none = let same : y ≡ x = cc in rw (same, f) refl
  none-next (y ∷ ys) (suc n) x e f none = go (t y) refl none (none-next ys n x e f)
    where
      go : (b : Bool) → t y ≡ b → cond b (Some y) (find t (take n ys)) ≡ None → (None-before ys n → None-before ys (n + 1)) → None-before (y ∷ ys) (suc n + 1)
      go true h none rest = absurd cc
      go false h none rest =
          let next : suc n + 1 ≡ suc (n + 1) = omega arith in
          subst (None-before (y ∷ ys)) (sym next) (ap (λ b. cond b (Some y) (find t (take (n + 1) ys))) h ∙ rest none)

  first-there : (xs : List A) (n : ℕ) (x : A) → slice_get xs n ≡ Some x → t x ≡ true → None-before xs n → find t xs ≡ Some x
  first-there [] n x e f none = absurd cc
  first-there (y ∷ ys) zero x e f none = let same : y ≡ x = cc in ap (λ b. cond b (Some y) (find t ys)) (ap t same ∙ f) ∙ ap Some same
  first-there (y ∷ ys) (suc n) x e f none = go (t y) refl none (first-there ys n x e f)
    where
      go : (b : Bool) → t y ≡ b → cond b (Some y) (find t (take n ys)) ≡ None → (None-before ys n → find t ys ≡ Some x) → find t (y ∷ ys) ≡ Some x
      go true h none rest = absurd cc
      go false h none rest = ap (λ b. cond b (Some y) (find t ys)) h ∙ rest none

pub map-take : {A B : Type 0} (f : A → B) (n : ℕ) (xs : List A) → map f (take n xs) ≡ take n (map f xs)
map-take f zero xs = refl
map-take f (suc n) [] = refl
map-take f (suc n) (x ∷ xs) = ap (λ ys. f x ∷ ys) (map-take f n xs)

get-map : {A B : Type 0} (f : A → B) (xs : List A) (n : ℕ) (x : A) → slice_get xs n ≡ Some x → slice_get (map f xs) n ≡ Some (f x)
get-map f [] n x e = absurd cc
get-map f (y ∷ ys) zero x e = let same : y ≡ x = cc in ap (λ z. Some (f z)) same
get-map f (y ∷ ys) (suc n) x e = get-map f ys n x e

nothing-found : {A B : Type 0} (f : A → B) (o : Option A) → option_map f o ≡ None → o ≡ None
nothing-found f None e = refl
nothing-found f (Some x) e = absurd cc

module _ (env bs : List Binding) (prefix : Option (List ℕ)) where
  -- none of the first bindings clashes
  abbrev pub NoClashBefore : ℕ → Type 0
  NoClashBefore n = first_clash env (all_passed_on prefix (take n bs)) ≡ None

  before : (n : ℕ) → NoClashBefore n → None-before (clashes env) (all_passed_on prefix bs) n
  before n none = ap (find (clashes env)) (sym (map-take (passed_on prefix) n bs)) ∙ nothing-found (λ (b : Binding). b.name) (find (clashes env) (all_passed_on prefix (take n bs))) none

  pub no-clash-next : (n : ℕ) (b : Binding) → slice_get bs n ≡ Some b → clashes env (passed_on prefix b) ≡ false → NoClashBefore n → NoClashBefore (n + 1)
  no-clash-next n b e f none =
      ap (λ cs. first_clash env cs) (map-take (passed_on prefix) (n + 1) bs)
      ∙ ap (option_map (λ (c : Binding). c.name)) (none-next (clashes env) (all_passed_on prefix bs) n (passed_on prefix b) (get-map (passed_on prefix) bs n b e) f (before n none))

  pub clash-there : (n : ℕ) (b : Binding) → slice_get bs n ≡ Some b → clashes env (passed_on prefix b) ≡ true → NoClashBefore n
      → first_clash env (all_passed_on prefix bs) ≡ Some (prefixed prefix b.name)
  clash-there n b e f none =
      ap (option_map (λ (c : Binding). c.name)) (first-there (clashes env) (all_passed_on prefix bs) n (passed_on prefix b) (get-map (passed_on prefix) bs n b e) f (before n none))

  pub no-clash : (n : ℕ) → length bs ≤ n → NoClashBefore n → first_clash env (all_passed_on prefix bs) ≡ None
  no-clash n all none = ap (λ cs. first_clash env (all_passed_on prefix cs)) (sym (take_all n bs all)) ∙ none

-- ---- what an import binds

pub contains-there : {A : Type 0} (xs : List A) (n : ℕ) (x : A) → slice_get xs n ≡ Some x → Contains xs x
contains-there [] n x e = absurd cc
contains-there (y ∷ ys) zero x e = let same : y ≡ x = cc in (0, omega arith, same)
contains-there (y ∷ ys) (suc n) x e = let rest = contains-there ys n x e in (suc rest.0, omega (arith, rest.1), rest.2)

-- a binding has another name than those before it
apart : (bs : List Binding) (n : ℕ) (b x : Binding) → HasDistinctNames bs → slice_get bs n ≡ Some b → Contains (take n bs) x → ¬ (x.name ≡ b.name)
apart [] n b x d e c = absurd cc
apart (y ∷ ys) zero b x d e (k, h, i) = absurd (omega (arith, h))
apart (y ∷ ys) (suc n) b x d e c = go (Contains-from_cons y (take n ys) x c) (apart ys n b x d.1 e)
  where
    go : (y ≡ x) ⊎ Contains (take n ys) x → (Contains (take n ys) x → ¬ (x.name ≡ b.name)) → ¬ (x.name ≡ b.name)
    go (inl s) rest same = unbound-each ys y.name b d.0 (contains-there ys n b e) (ap (λ (z : Binding). z.name) s ∙ same)
    go (inr i) rest same = rest i same

module _ (env bs : List Binding) (prefix : Option (List ℕ)) (n : ℕ) (b : Binding) (here : slice_get bs n ≡ Some b) where
  -- what an import binds of the next binding comes behind what it binds of those before
  pub new-next : new_in env (all_passed_on prefix (take (n + 1) bs)) ≡ new_in env (all_passed_on prefix (take n bs)) ++ new_in env (passed_on prefix b ∷ [])
  new-next =
      ap (λ cs. new_in env (all_passed_on prefix cs)) (take-suc bs n b here)
      ∙ ap (new_in env) (map-append (passed_on prefix) (take n bs) (b ∷ []))
      ∙ filter-append (λ (c : Binding). not (is_bound env c.name)) (all_passed_on prefix (take n bs)) (passed_on prefix b ∷ [])

  -- and its name is not among them
  pub next-free : HasDistinctNames bs → is_bound (new_in env (all_passed_on prefix (take n bs))) (prefixed prefix b.name) ≡ false
  next-free distinct = each-unbound (new_in env (all_passed_on prefix (take n bs))) (prefixed prefix b.name) (λ c has same.
      let kept = Contains-from_filter (λ (x : Binding). not (is_bound env x.name)) (all_passed_on prefix (take n bs)) c has in
      let from = Contains-from_map (passed_on prefix) (take n bs) c kept.0 in
      apart bs n b from.0 distinct here from.1 (prefixed-once prefix from.0.name b.name (ap (λ (y : Binding). y.name) from.2 ∙ sym same)))

-- what an import binds wasn't bound before
pub new-are-free : (env bs entries : List Binding) → entries ≡ new_in env bs → All (λ b. is_bound env b.name ≡ false) entries
new-are-free env bs entries is =
    subst (All (λ (b : Binding). is_bound env b.name ≡ false)) (sym is)
    (All-from (λ (b : Binding). is_bound env b.name ≡ false) (new_in env bs) (λ b has. new-unbound env bs b has))

-- where nothing is bound, nothing clashes
pub nothing-clashes : (env bs : List Binding) → length env ≡ 0 → None ≡ first_clash env bs
nothing-clashes [] [] e = refl
nothing-clashes [] (b ∷ bs) e = nothing-clashes [] bs e
nothing-clashes (x ∷ env) bs e = absurd cc

-- ---- entries of two maps

-- a name stays free behind a binding of another name
free-behind : (env bs : List Binding) (x b : Binding) → is_bound bs x.name ≡ false → Contains bs b → is_bound env b.name ≡ false → is_bound (env ++ x ∷ []) b.name ≡ false
free-behind env bs x b alone has free = each-unbound (env ++ x ∷ []) b.name (λ c there same. go c (Contains-append_cases env (x ∷ []) c there) same)
  where
    go : (c : Binding) → Contains env c ⊎ Contains (x ∷ []) c → ¬ (b.name ≡ c.name)
    go c (inl old) same = unbound-each env b.name c free old same
    go c (inr (zero, h, e)) same = unbound-each bs x.name b alone has (ap (λ (y : Binding). y.name) e ∙ sym same)
    go c (inr (suc k, h, e)) same = absurd (omega (arith, h))

-- pairs of a name with what an entry is found in
module _ {R : Type 0} (entry_in : R → Entry) where
  -- entries whose names have none yet go behind the others
  pub appended : (pairs more : Pairs entry_in) → AreKept entry_in pairs → HasDistinctNames (map (binding_in entry_in) pairs) → AreKept entry_in more → HasDistinctNames (map (binding_in entry_in) more)
      → ((b : Binding) → Contains (map (binding_in entry_in) more) b → is_bound (map (binding_in entry_in) pairs) b.name ≡ false)
      → (AreKept entry_in (insert_all bytes_eq pairs more) × HasDistinctNames (map (binding_in entry_in) (insert_all bytes_eq pairs more)))
      × (map (binding_in entry_in) (insert_all bytes_eq pairs more) ≡ map (binding_in entry_in) pairs ++ map (binding_in entry_in) more)
  appended pairs [] kept distinct all apart' free = ((kept, distinct), sym (append-nil (map (binding_in entry_in) pairs)))
  appended pairs (p ∷ more) kept distinct all apart' free =
      let env = map (binding_in entry_in) pairs in
      let x = (binding_in entry_in) p in
      let rest = map (binding_in entry_in) more in
      let fresh : is_bound env p.0 ≡ false = subst (λ q. is_bound env q ≡ false) (kept_head entry_in p more all).named (free x (0, omega arith, refl)) in
      let after = insert_entry bytes_eq pairs p.0 p.1 in
      let one = inserted entry_in pairs after env p.0 p.1 kept refl distinct fresh (kept_head entry_in p more all) refl in
      let behind = appended after more one.0.0 one.0.1 (kept_tail entry_in p more all) apart'.1
      (λ b has. subst (λ e. is_bound e b.name ≡ false) (sym one.1) (free-behind env rest x b apart'.0 has (free b (Contains-cons x rest b has)))) in
      (behind.0, behind.1 ∙ ap (λ xs. xs ++ rest) one.1 ∙ append_assoc env (x ∷ []) rest)

  -- names that are free among bindings are free among the entries that these are
  pub each-free : (pairs more : Pairs entry_in) (env further : List Binding) → map (binding_in entry_in) pairs ≡ env → map (binding_in entry_in) more ≡ further
      → All (λ b. is_bound env b.name ≡ false) further → (b : Binding) → Contains (map (binding_in entry_in) more) b → is_bound (map (binding_in entry_in) pairs) b.name ≡ false
  each-free pairs more env further are those free b has =
      ap (λ e. is_bound e b.name) are ∙ All-contains (λ (x : Binding). is_bound env x.name ≡ false) further b free (subst (λ bs. Contains bs b) those has)
