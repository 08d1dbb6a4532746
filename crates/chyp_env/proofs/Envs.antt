-- The entries of an environment, and the bindings that they are.
use Rattle.std.proofs.Common.{◌≡◌, ℕ, Bool, true, false, cond, List, [], ◌∷◌, ◌++◌, Option, None, Some, refl, sym, ap, subst, ◌∙◌, All, map, true≢false, is_some, Bor, IfSome, IfNone}
use Rattle.std.proofs.lemmas.List.{map-append}
use Rattle.std.proofs.lemmas.List.Elements.{All-head, All-tail, All-map, All-push}
use Rattle.std.specs.Cmp.Lexicographic.{nat_list_eq_equiv}
use Rattle.std.specs.Map.{lookup}
use Rattle.std.specs.Option.{option_copied}
use Rattle.indexmap.specs.IndexMap.{insert_entry}
use Rattle.std.specs.Str.{bytes_eq}
use Rattle.chyp_term.specs.Derivation.{empty}
use Rattle.chyp_env.specs.declared.entry.Entry.{Entry}
use Rattle.chyp_env.specs.Entry.{entry_of}
use Rattle.chyp_env.specs.Environment.{Binding, binding_of, is_bound}
use Rattle.chyp_env.specs.Kept.{IsKept}
use Rattle.chyp_env.specs.Scope.{Scope, binding_at, term_at, term_of}
use Rattle.chyp_env.specs.Sound.{IsSoundSense, HasDistinctNames, IsSound}

unbound-push : (env : List Binding) (binding : Binding) (q : List ℕ) → is_bound env q ≡ false → bytes_eq q binding.name ≡ false → is_bound (env ++ binding ∷ []) q ≡ false
unbound-push [] binding q none other = rw other refl
unbound-push (b ∷ env) binding q none other = go (bytes_eq q b.name) refl (unbound-push env binding q)
  where
    go : (c : Bool) → bytes_eq q b.name ≡ c → (is_bound env q ≡ false → bytes_eq q binding.name ≡ false → is_bound (env ++ binding ∷ []) q ≡ false)
        → is_bound (b ∷ (env ++ binding ∷ [])) q ≡ false
    go true e rest = absurd (true≢false (sym (ap (λ c. is_some (cond c (Some b) (binding_of env q))) e) ∙ none))
    go false e rest = rw e (rest (sym (ap (λ c. is_some (cond c (Some b) (binding_of env q))) e) ∙ none) other)

pub distinct-push : (env : List Binding) (binding : Binding) → HasDistinctNames env → is_bound env binding.name ≡ false → HasDistinctNames (env ++ binding ∷ [])
distinct-push [] binding h none = (refl, tt)
distinct-push (b ∷ env) binding h none = go (bytes_eq binding.name b.name) refl (distinct-push env binding h.1)
  where
    go : (c : Bool) → bytes_eq binding.name b.name ≡ c → (is_bound env binding.name ≡ false → HasDistinctNames (env ++ binding ∷ []))
        → HasDistinctNames (b ∷ (env ++ binding ∷ []))
    go true e rest = absurd (true≢false (sym (ap (λ c. is_some (cond c (Some b) (binding_of env binding.name))) e) ∙ none))
    go false e rest = (
      unbound-push env binding b.name h.0 (sym (nat_list_eq_equiv.symm binding.name b.name) ∙ e),
      rest (sym (ap (λ c. is_some (cond c (Some b) (binding_of env binding.name))) e) ∙ none),
    )

-- pairs of a name with what an entry is found in
module _ {R : Type 0} (entry_in : R → Entry) where
  abbrev pub Pairs : Type 0
  Pairs = List (List ℕ × R)

  abbrev pub binding_in : List ℕ × R → Binding
  binding_in pair = entry_of (entry_in pair.1)

  abbrev pub AreKept : Pairs → Type 0
  AreKept pairs = All (λ pair. IsKept pair.0 (entry_in pair.1)) pairs

  abbrev pub found : Pairs → List ℕ → Option R
  found pairs q = lookup (bytes_eq q) pairs

  abbrev binding_kept : Option R → Option Binding
  binding_kept None = None
  binding_kept (Some entry) = Some (entry_of (entry_in entry))

  pub kept_head : (pair : List ℕ × R) (pairs : Pairs) → AreKept (pair ∷ pairs) → IsKept pair.0 (entry_in pair.1)
  kept_head pair pairs kept = All-head (λ (p : List ℕ × R). IsKept p.0 (entry_in p.1)) pair pairs kept

  pub kept_tail : (pair : List ℕ × R) (pairs : Pairs) → AreKept (pair ∷ pairs) → AreKept pairs
  kept_tail pair pairs kept = All-tail (λ (p : List ℕ × R). IsKept p.0 (entry_in p.1)) pair pairs kept

  -- a look-up of a key is that of the name
  found_binding : (pairs : Pairs) (q : List ℕ) → AreKept pairs → binding_of (map binding_in pairs) q ≡ binding_kept (found pairs q)
  found_binding [] q kept = refl
  found_binding (pair ∷ pairs) q kept =
      go (bytes_eq q pair.0) (ap (bytes_eq q) (kept_head pair pairs kept).named) refl (found_binding pairs q (kept_tail pair pairs kept))
    where
      go : (b : Bool) → bytes_eq q (entry_in pair.1).name ≡ bytes_eq q pair.0 → bytes_eq q pair.0 ≡ b
          → binding_of (map binding_in pairs) q ≡ binding_kept (found pairs q)
          → binding_of (map binding_in (pair ∷ pairs)) q ≡ binding_kept (found (pair ∷ pairs) q)
      go true same e rest = rw (same, e) refl
      go false same e rest = rw (same, e) rest

  -- a name that is found is bound to what is found
  pub some_bound : (pairs : Pairs) (env : List Binding) (q : List ℕ) (one : R) → AreKept pairs → map binding_in pairs ≡ env → Some one ≡ found pairs q
      → binding_of env q ≡ Some (entry_of (entry_in one))
  some_bound pairs env q one kept same e = ap (λ bs. binding_of bs q) (sym same) ∙ found_binding pairs q kept ∙ ap binding_kept (sym e)

  -- a name that is not found is not bound
  pub none_bound : (pairs : Pairs) (env : List Binding) (q : List ℕ) → AreKept pairs → map binding_in pairs ≡ env → None ≡ found pairs q → binding_of env q ≡ None
  none_bound pairs env q kept same e = ap (λ bs. binding_of bs q) (sym same) ∙ found_binding pairs q kept ∙ ap binding_kept (sym e)

  -- what a look-up gives
  pub looked_up : (pairs : Pairs) (env : List Binding) (q : List ℕ) (result : Option (Bor R)) → AreKept pairs → map binding_in pairs ≡ env → option_copied result ≡ found pairs q
      → IfSome result (λ entry. binding_of env q ≡ Some (entry_of (entry_in entry.now))) × IfNone result (binding_of env q ≡ None)
  looked_up pairs env q (Some entry) kept same e = (some_bound pairs env q entry.now kept same e, tt)
  looked_up pairs env q None kept same e = (tt, none_bound pairs env q kept same e)

  -- an environment is sound
  pub kept_sound : (pairs : Pairs) (env : List Binding) → AreKept pairs × HasDistinctNames (map binding_in pairs) → map binding_in pairs ≡ env → IsSound env
  kept_sound pairs env h same = subst IsSound same (record {
    each = All-map (λ (b : Binding). IsSoundSense b.sense) binding_in pairs (λ k d within. (h.0 k d within).sound);
    distinct = h.1;
  })

  -- a pair for a name that is not bound goes last
  pub inserted : (pairs after : Pairs) (env : List Binding) (name : List ℕ) (kept : R) → AreKept pairs → map binding_in pairs ≡ env → HasDistinctNames env
      → is_bound env name ≡ false → IsKept name (entry_in kept) → after ≡ insert_entry bytes_eq pairs name kept
      → (AreKept after × HasDistinctNames (map binding_in after)) × (map binding_in after ≡ env ++ entry_of (entry_in kept) ∷ [])
  inserted pairs after env name kept all same distinct fresh good is =
      let P : List ℕ × R → Type 0 = λ p. IsKept p.0 (entry_in p.1) in
      let pushed : after ≡ pairs ++ (name, kept) ∷ [] = is ∙ absent pairs all (ap (λ bs. is_bound bs name) same ∙ fresh) in
      let bindings : map binding_in after ≡ env ++ entry_of (entry_in kept) ∷ [] =
      ap (map binding_in) pushed ∙ map-append binding_in pairs ((name, kept) ∷ []) ∙ ap (λ bs. bs ++ entry_of (entry_in kept) ∷ []) same in (
        (
          subst AreKept (sym pushed) (All-push P pairs (name, kept) all good),
          subst HasDistinctNames (sym bindings) (distinct-push env (entry_of (entry_in kept)) distinct (ap (is_bound env) good.named ∙ fresh)),
        ),
        bindings,
      )
    where
      absent : (pairs : Pairs) → AreKept pairs → is_bound (map binding_in pairs) name ≡ false
          → insert_entry bytes_eq pairs name kept ≡ pairs ++ (name, kept) ∷ []
      absent [] all none = refl
      absent (pair ∷ pairs) all none =
          go (bytes_eq name pair.0) refl (absent pairs (kept_tail pair pairs all))
        where
          go : (c : Bool) → bytes_eq name pair.0 ≡ c
              → (is_bound (map binding_in pairs) name ≡ false → insert_entry bytes_eq pairs name kept ≡ pairs ++ (name, kept) ∷ [])
              → insert_entry bytes_eq (pair ∷ pairs) name kept ≡ pair ∷ (pairs ++ (name, kept) ∷ [])
          go true e rest = absurd
              (true≢false (sym (ap (λ c. is_some (cond c (Some (binding_in pair)) (binding_of (map binding_in pairs) name))) (ap (bytes_eq name) (kept_head pair pairs all).named ∙ e))
              ∙ none))
          go false e rest = rw e (ap (λ ps. pair ∷ ps)
              (rest (sym (ap (λ c. is_some (cond c (Some (binding_in pair)) (binding_of (map binding_in pairs) name))) (ap (bytes_eq name) (kept_head pair pairs all).named ∙ e)) ∙ none)))

-- the term that a name stands for which is bound, and one that isn't
pub bound_term : (scope : Scope) (token : ℕ) (b : Binding) → binding_at scope token ≡ Some b → term_of b.sense ≡ term_at scope token
bound_term scope token b bound = rw bound refl

pub unbound_term : (scope : Scope) (token : ℕ) → binding_at scope token ≡ None → empty ≡ term_at scope token
unbound_term scope token free = rw free refl
