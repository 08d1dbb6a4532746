-- What a statement adds to the names that are declared is what it binds behind those that are bound.
use Rattle.std.proofs.Common.{◌≡◌, ℕ, Bool, true, false, cond, not, List, [], ◌∷◌, ◌++◌, Option, Some, None, ◌⊎◌, inl, inr, refl, sym, ◌∙◌, ap, subst, arith}
use Rattle.std.specs.Prelude.{Contains, find, is_none, is_some, option_map}
use Rattle.std.specs.List.{filter}
use Rattle.std.specs.Option.{option_map_or}
use Rattle.std.specs.Str.{bytes_eq}
use Rattle.std.proofs.lemmas.Bool.{false≢true}
use Rattle.std.proofs.lemmas.List.{append-nil, map-append}
use Rattle.chyp_env.specs.Environment.{Binding, Sense, binding_of, is_bound, Origin}
use Rattle.chyp_env.specs.Import.{all_passed_on, clashes, first_clash, is_origin, new_in, prefixed, same_origin}
use Rattle.chyp_env.proofs.Bindings.{Contains-cons, Contains-from_cons, Contains-map, not-false, not-true, origin-differs, origin-is}
use Rattle.chyp_verdicts.proofs.OneVerdict.{none-some, some-once}
use Rattle.chyp_modules.specs.Declares.{Adds, Clashes, Declaration, new_ones, none, offered_by, origin_of}
use Rattle.chyp_modules.specs.Laws.{declarations_of}

-- ---- origins

-- a name comes from the statement that its binding comes from
pub origin-bound : (env : List Binding) (name : List ℕ) → origin_of (declarations_of env) name ≡ option_map (λ (b : Binding). b.origin) (binding_of env name)
origin-bound [] name = refl
origin-bound (b ∷ bs) name = go (bytes_eq name b.name) (origin-bound bs name)
  where
    go : (c : Bool) → origin_of (declarations_of bs) name ≡ option_map (λ (x : Binding). x.origin) (binding_of bs name)
        → option_map (λ (d : Declaration). d.origin)
        (cond c (Some (record { name = b.name; origin = b.origin })) (find (λ (d : Declaration). bytes_eq name d.name) (declarations_of bs)))
        ≡ option_map (λ (x : Binding). x.origin) (cond c (Some b) (binding_of bs name))
    go true h = refl
    go false h = h

-- a name is declared where it is bound
pub free-same : (env : List Binding) (name : List ℕ) → is_none (origin_of (declarations_of env) name) ≡ not (is_bound env name)
free-same env name = ap is_none (origin-bound env name) ∙ go (binding_of env name)
  where
    go : (o : Option Binding) → is_none (option_map (λ (b : Binding). b.origin) o) ≡ not (is_some o)
    go None = refl
    go (Some b) = refl

-- ---- names that are offered

abbrev is_new : List Declaration → Declaration → Bool
is_new front d = is_none (origin_of front d.name)

-- those that are new are the same
pub new-same : (env bs : List Binding) → filter (is_new (declarations_of env)) (declarations_of bs) ≡ declarations_of (new_in env bs)
new-same env [] = refl
new-same env (b ∷ bs) = go (is_none (origin_of (declarations_of env) b.name)) (not (is_bound env b.name)) (free-same env b.name) (new-same env bs)
  where
    front : List Declaration
    front = declarations_of env

    go : (c d : Bool) → c ≡ d → filter (is_new front) (declarations_of bs) ≡ declarations_of (new_in env bs)
        → cond c (record { name = b.name; origin = b.origin } ∷ filter (is_new front) (declarations_of bs)) (filter (is_new front) (declarations_of bs))
        ≡ declarations_of (cond d (b ∷ new_in env bs) (new_in env bs))
    go true true e h = ap (λ ds. record { name = b.name; origin = b.origin } ∷ ds) h
    go true false e h = absurd (false≢true (sym e))
    go false true e h = absurd (false≢true e)
    go false false e h = h

-- so are those that an import offers
pub offered-same : (prefix : Option (List ℕ)) (bs : List Binding) → offered_by prefix (declarations_of bs) ≡ declarations_of (all_passed_on prefix bs)
offered-same prefix [] = refl
offered-same prefix (b ∷ bs) = ap (λ (ds : List Declaration). record { name = prefixed prefix b.name; origin = b.origin } ∷ ds) (offered-same prefix bs)

-- ---- clashes

-- a binding that clashes
clash-there : (env bs : List Binding) (b : Binding) → Contains bs b → clashes env b ≡ true → Clashes (declarations_of env) (declarations_of bs)
clash-there env bs b has e = go (binding_of env b.name) refl e
  where
    go : (o : Option Binding) → binding_of env b.name ≡ o → option_map_or (λ (x : Binding). not (same_origin x b)) o false ≡ true → Clashes (declarations_of env) (declarations_of bs)
    go None h f = absurd (false≢true f)
    go (Some old) h f = record {
      new = record { name = b.name; origin = b.origin };
      is_offered = Contains-declared bs b has;
      old = old.origin;
      is_declared = origin-bound env b.name ∙ ap (option_map (λ (x : Binding). x.origin)) h;
      differs = origin-differs old.origin b.origin (not-false (same_origin old b) f);
    }
      where
        Contains-declared : (bs : List Binding) (b : Binding) → Contains bs b → Contains (declarations_of bs) (record { name = b.name; origin = b.origin })
        Contains-declared bs b c = Contains-map (λ (x : Binding). record { name = x.name; origin = x.origin }) bs b c

-- one that doesn't
clash-not : (env : List Binding) (b : Binding) → clashes env b ≡ false → (old : Origin) → origin_of (declarations_of env) b.name ≡ Some old → old ≡ b.origin
clash-not env b e old d = go (binding_of env b.name) refl e
  where
    go : (o : Option Binding) → binding_of env b.name ≡ o → option_map_or (λ (x : Binding). not (same_origin x b)) o false ≡ false → old ≡ b.origin
    go None h f = absurd (none-some _ old (origin-bound env b.name ∙ ap (option_map (λ (x : Binding). x.origin)) h) d)
    go (Some x) h f =
        let mine : x.origin ≡ old = some-once _ x.origin old (origin-bound env b.name ∙ ap (option_map (λ (y : Binding). y.origin)) h) d in
        sym mine ∙ origin-is x.origin b.origin (not-true (same_origin x b) f)

-- names clash where an import is refused for it
pub clash-found : (env bs : List Binding) (name : List ℕ) → first_clash env bs ≡ Some name → Clashes (declarations_of env) (declarations_of bs)
clash-found env bs name e = go bs e (λ b c. c)
  where
    go : (rest : List Binding) → first_clash env rest ≡ Some name → ((b : Binding) → Contains rest b → Contains bs b) → Clashes (declarations_of env) (declarations_of bs)
    go [] e among = absurd cc
    go (b ∷ rest) e among = at (clashes env b) refl e (λ f. go rest f (λ c h. among c (Contains-cons b rest c h)))
      where
        at : (c : Bool) → clashes env b ≡ c → option_map (λ (x : Binding). x.name) (cond c (Some b) (find (clashes env) rest)) ≡ Some name
            → (first_clash env rest ≡ Some name → Clashes (declarations_of env) (declarations_of bs)) → Clashes (declarations_of env) (declarations_of bs)
        at true h f more = clash-there env bs b (among b (0, omega arith, refl)) h
        at false h f more = more f

-- and don't, where it isn't
pub clash-none : (env bs : List Binding) → first_clash env bs ≡ None → ¬ Clashes (declarations_of env) (declarations_of bs)
clash-none env bs e c = c.differs (go bs e c.new c.is_offered c.is_declared)
  where
    go : (rest : List Binding) → first_clash env rest ≡ None → (d : Declaration) → Contains (declarations_of rest) d → origin_of (declarations_of env) d.name ≡ Some c.old
        → c.old ≡ d.origin
    go [] e d (k, h, s) is = absurd (omega (arith, h))
    go (b ∷ rest) e d has is = at (clashes env b) refl e (Contains-from_cons _ (declarations_of rest) d has) (λ f h. go rest f d h is)
      where
        at : (t : Bool) → clashes env b ≡ t → option_map (λ (x : Binding). x.name) (cond t (Some b) (find (clashes env) rest)) ≡ None
            → (record { name = b.name; origin = b.origin } ≡ d) ⊎ Contains (declarations_of rest) d
            → (first_clash env rest ≡ None → Contains (declarations_of rest) d → c.old ≡ d.origin) → c.old ≡ d.origin
        at true h f i more = absurd cc
        at false h f (inl s) more =
            clash-not env b h c.old (ap (λ (x : Declaration). origin_of (declarations_of env) x.name) s ∙ is) ∙ ap (λ (x : Declaration). x.origin) s
        at false h f (inr i) more = more f i

-- ---- what is added

-- a statement adds in one way
pub adds-once : (front offered a b : List Declaration) → Adds front offered a → Adds front offered b → a ≡ b
adds-once front offered a b (none c) (none d) = refl
adds-once front offered a b (none c) (new_ones d) = absurd (d c)
adds-once front offered a b (new_ones c) (none d) = absurd (c d)
adds-once front offered a b (new_ones c) (new_ones d) = refl

-- a statement that offers nothing adds nothing
pub adds-nothing : (front : List Declaration) → Adds front [] front
adds-nothing front = subst (Adds front []) (append-nil front) (new_ones (λ c. absurd (omega (arith, c.is_offered.1))))

-- a name that is bound already isn't added
pub adds-again : (env : List Binding) (name : List ℕ) (origin : Origin) → is_bound env name ≡ true
    → Adds (declarations_of env) (record { name = name; origin = origin } ∷ []) (declarations_of env)
adds-again env name origin bound = go (origin_of front name) refl
  where
    front : List Declaration
    front = declarations_of env

    one : List Declaration
    one = record { name = name; origin = origin } ∷ []

    kept : (c : Bool) → c ≡ false → front ++ cond c one [] ≡ front
    kept true e = absurd (false≢true (sym e))
    kept false e = append-nil front

    at : (old : Origin) → origin_of front name ≡ Some old → (c : Bool) → is_origin old origin ≡ c → Adds front one front
    at old e true h =
        subst (Adds front one) (kept (is_none (origin_of front name)) (ap is_none e))
        (new_ones (λ c. alone c (Contains-from_cons _ [] c.new c.is_offered)))
      where
        alone : (c : Clashes front one) → (record { name = name; origin = origin } ≡ c.new) ⊎ Contains [] c.new → ⊥
        alone c (inr k) = absurd (omega (arith, k.1))
        alone c (inl s) =
            let was : old ≡ c.old = some-once _ old c.old e (ap (λ (d : Declaration). origin_of front d.name) s ∙ c.is_declared) in
            c.differs (sym was ∙ origin-is old origin h ∙ ap (λ (d : Declaration). d.origin) s)
    at old e false h = none (record {
      new = record { name = name; origin = origin };
      is_offered = (0, omega arith, refl);
      old = old;
      is_declared = e;
      differs = origin-differs old origin h;
    })

    go : (o : Option Origin) → origin_of front name ≡ o → Adds front one front
    go None e = absurd (false≢true (sym (sym (ap is_none e) ∙ free-same env name ∙ ap not bound)))
    go (Some old) e = at old e (is_origin old origin) refl

-- one that isn't bound is
pub adds-anew : (env : List Binding) (name : List ℕ) (origin : Origin) (sense : Sense) → is_bound env name ≡ false
    → Adds (declarations_of env) (record { name = name; origin = origin } ∷ []) (declarations_of (env ++ record { name = name; origin = origin; sense = sense } ∷ []))
adds-anew env name origin sense free =
    subst (Adds front one) (ap (λ ds. front ++ ds) (new-same env (mine ∷ []) ∙ kept (not (is_bound env name)) (ap not free)) ∙ sym (map-append _ env (mine ∷ [])))
    (new_ones (λ c. alone c (Contains-from_cons _ [] c.new c.is_offered)))
  where
    front : List Declaration
    front = declarations_of env

    one : List Declaration
    one = record { name = name; origin = origin } ∷ []

    mine : Binding
    mine = record { name = name; origin = origin; sense = sense }

    kept : (c : Bool) → c ≡ true → declarations_of (cond c (mine ∷ []) []) ≡ one
    kept true e = refl
    kept false e = absurd (false≢true e)

    alone : (c : Clashes front one) → (record { name = name; origin = origin } ≡ c.new) ⊎ Contains [] c.new → ⊥
    alone c (inr k) = absurd (omega (arith, k.1))
    alone c (inl s) =
        let is : origin_of front name ≡ Some c.old = ap (λ (d : Declaration). origin_of front d.name) s ∙ c.is_declared in
        false≢true (sym (ap is_none is) ∙ free-same env name ∙ ap not free)

-- an import that doesn't clash adds what it binds
pub adds-import : (env bs : List Binding) → first_clash env bs ≡ None → Adds (declarations_of env) (declarations_of bs) (declarations_of (env ++ new_in env bs))
adds-import env bs e =
    subst (Adds (declarations_of env) (declarations_of bs)) (ap (λ ds. declarations_of env ++ ds) (new-same env bs) ∙ sym (map-append _ env (new_in env bs)))
    (new_ones (clash-none env bs e))
