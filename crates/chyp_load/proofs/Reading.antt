-- Modules that are read one after the other: what is known on the way, and in the end.
use Rattle.std.proofs.Common.{◌≡◌, ℕ, zero, suc, ◌+◌, ◌-◌, ◌*◌, ◌<◌, ◌≤◌, Bool, true, false, cond, List, [], ◌∷◌, ◌++◌, length, Option, None, Some, is_some, slice_get, All, ◌⊎◌, inl, inr, refl, sym, ◌∙◌, ap, subst, arith}
use Rattle.std.specs.Prelude.{Contains, IfSome, MatchOption, find, slice_index_or}
use Rattle.std.specs.Option.{option_map_or}
use Rattle.std.specs.Str.{bytes_eq}
use Rattle.std.proofs.lemmas.Bool.{cases_lt, false≢true}
use Rattle.std.proofs.lemmas.List.{length-append, map-append}
use Rattle.std.proofs.lemmas.List.Sums.{sum_by-cons}
use Rattle.std.proofs.lemmas.List.Elements.{All-append, All-contains, All-cons, All-nil, Contains-append_cases, Contains-append_left, Contains-append_right}
use Rattle.chyp_lex.specs.Tokens.{text_limit}
use Rattle.chyp_env.proofs.Bindings.{All-from, Contains-cons, Contains-from_cons, Contains-from_map, Contains-map, names-eq}
use Rattle.chyp_verdicts.proofs.OneVerdict.{slice_get-read, some-once}
use Rattle.chyp_modules.specs.Checking.{AreDistinct, AreWanted, Gives, IsWanted, Result, all_checked, long_module, long_text, many_modules, most_modules, too_long}
use Rattle.chyp_modules.specs.Import.{LeadsTo, Reaches, at_once}
use Rattle.chyp_modules.specs.Library.{AreStatements, Library, Module, library_of, with_main}
use Rattle.chyp_modules.proofs.Agreeing.{AgreeFrom, agree-main, closed-reached, listed-agrees, reaches-agreed}
use Rattle.chyp_modules.proofs.Checking.{no-more}
use Rattle.chyp_modules.proofs.Named.{reached-named, with-main-below}
use Rattle.chyp_modules.proofs.Reaching.{reaches-step}
use Rattle.chyp_load.specs.Imports.{AreImports, ImportsSome, IsImportedBy}
use Rattle.chyp_load.specs.Loading.{AreRead, AreShort, IsLongModule, IsOneMore, IsRead, ListsAll, count_there, names_of, one_there}
use Rattle.chyp_load.proofs.Lists.{count-more}
use Rattle.chyp_env.proofs.Turns.{contains-there}
use Rattle.chyp_term.proofs.Permuted.{found as get-there}

-- ---- what is known on the way

-- The names in front of this place were read. What the text imports is wanted, and what each module imports that was read; none of
-- their texts is too long.
pub record IsLoaded (text : List ℕ) (modules : List Module) (wanted : List (List ℕ)) (next : ℕ) : Type 0 where
  pub front : (i : ℕ) (name : List ℕ) → i < next → slice_get wanted i ≡ Some name → Contains (names_of modules) name
  pub main : (name : List ℕ) → IsImportedBy text name → Contains wanted name
  pub below : (m : Module) (bytes name : List ℕ) → Contains modules m → m.1 ≡ Some bytes → IsImportedBy bytes name → Contains wanted name
  pub short : AreShort modules

-- all names that are wanted are reached, and the modules are as the library tells them
pub record IsReading (texts : Library) (text : List ℕ) (modules : List Module) (wanted : List (List ℕ)) : Type 0 where
  pub reached : (name : List ℕ) → Contains wanted name → Reaches (with_main texts text) [] name
  pub read : All (IsRead texts text) modules

-- its text isn't too long
abbrev pub IsShort : Module → Type 0
IsShort m = IfSome m.1 (λ text. length text ≤ text_limit)

-- ---- at the start

pub start : (text : List ℕ) (imports : List (List ℕ)) → AreImports text imports → IsLoaded text [] imports 0
start text imports are = record {
  front = λ i name h e. absurd (omega arith);
  main = are.all;
  below = λ m bytes name c e i. absurd (omega (arith, c.1));
  short = All-nil _;
}

-- what a text imports is led to from a module with that text
leads : (library : Library) (from text name : List ℕ) → library from ≡ Some text → IsImportedBy text name → LeadsTo library from name
leads library from text name there i = record {
  text = text;
  statements = i.statements;
  is_module = record { there = there; are = i.are };
  number = i.number;
  words = i.words;
  here = i.here;
  imports = i.imports;
}

pub start-reading : (texts : Library) (text : List ℕ) (imports : List (List ℕ)) → AreImports text imports → IsReading texts text [] imports
start-reading texts text imports are = record {
  reached = λ name c. at_once (leads (with_main texts text) [] text name refl (are.only name c));
  read = All-nil _;
}

-- ---- a turn

pub at-last : (next i : ℕ) → i < next + 1 → (i < next) ⊎ (i ≡ next)
at-last next i h = elim (cases_lt i next) [ inl l ↦ inl l | inr l ↦ inr (omega arith) ]

-- a name that was read already
pub skip : (text : List ℕ) (modules : List Module) (wanted : List (List ℕ)) (next : ℕ) (name : List ℕ) → IsLoaded text modules wanted next → slice_get wanted next ≡ Some name
    → Contains (names_of modules) name → IsLoaded text modules wanted (next + 1)
skip text modules wanted next name l at c = record { front = λ i other h e. go i other (at-last next i h) e; main = l.main; below = l.below; short = l.short }
  where
    go : (i : ℕ) (other : List ℕ) → (i < next) ⊎ (i ≡ next) → slice_get wanted i ≡ Some other → Contains (names_of modules) other
    go i other (inl h) e = l.front i other h e
    go i other (inr h) e = let same : name ≡ other = some-once (slice_get wanted next) name other at (ap (slice_get wanted) (sym h) ∙ e) in subst (Contains (names_of modules)) same c

-- what stands in the front of a longer list
get-front : {A : Type 0} (xs ys : List A) (i : ℕ) (x y : A) → slice_get xs i ≡ Some x → slice_get (xs ++ ys) i ≡ Some y → x ≡ y
get-front [] ys i x y e f = absurd cc
get-front (z ∷ zs) ys zero x y e f = some-once (Some z) x y e f
get-front (z ∷ zs) ys (suc i) x y e f = get-front zs ys i x y e f

module _ (told : Option Library) (text name : List ℕ) (modules modules_now : List Module) (wanted wanted_now : List (List ℕ)) (m : IsOneMore told name modules modules_now wanted wanted_now) where
  listed-names : names_of modules_now ≡ names_of modules ++ name ∷ []
  listed-names = ap names_of m.listed ∙ map-append (λ (x : Module). x.0) modules ((name, m.text) ∷ [])

  names-kept : (other : List ℕ) → Contains (names_of modules) other → Contains (names_of modules_now) other
  names-kept other c = subst (λ ns. Contains ns other) (sym listed-names) (Contains-append_left (names_of modules) (name ∷ []) other c)

  wanted-kept : (other : List ℕ) → Contains wanted other → Contains wanted_now other
  wanted-kept other c = subst (λ ns. Contains ns other) (sym m.behind) (Contains-append_left wanted m.imports other c)

  -- a module more that was read
  pub more : (next : ℕ) → slice_get wanted next ≡ Some name → next < length wanted → IsLoaded text modules wanted next → IsLoaded text modules_now wanted_now (next + 1)
  more next at within l = record {
    front = λ i other h e. front i other (at-last next i h) e;
    main = λ other i. wanted-kept other (l.main other i);
    below = λ x bytes other c e i. below x bytes other (Contains-append_cases modules ((name, m.text) ∷ []) x (subst (λ ms. Contains ms x) m.listed c)) e i;
    short = subst AreShort (sym m.listed) (All-append IsShort modules ((name, m.text) ∷ []) l.short (All-cons IsShort (name, m.text) [] m.short (All-nil _)));
  }
    where
      mine : Contains (names_of modules_now) name
      mine = subst (λ ns. Contains ns name) (sym listed-names) (Contains-append_right (names_of modules) (name ∷ []) name (0, omega arith, refl))

      front : (i : ℕ) (other : List ℕ) → (i < next) ⊎ (i ≡ next) → slice_get wanted_now i ≡ Some other → Contains (names_of modules_now) other
      front i other (inl h) e =
          let there = get-there wanted i (omega arith) in
          let same : there.0 ≡ other = get-front wanted m.imports i there.0 other there.1 (ap (λ ns. slice_get ns i) (sym m.behind) ∙ e) in
          names-kept other (l.front i other h (there.1 ∙ ap Some same))
      front i other (inr h) e =
          let same : name ≡ other = get-front wanted m.imports next name other at (ap (λ ns. slice_get ns next) (sym m.behind) ∙ ap (slice_get wanted_now) (sym h) ∙ e) in
          subst (Contains (names_of modules_now)) same mine

      below : (x : Module) (bytes other : List ℕ) → Contains modules x ⊎ Contains ((name, m.text) ∷ []) x → x.1 ≡ Some bytes → IsImportedBy bytes other → Contains wanted_now other
      below x bytes other (inl c) e i = wanted-kept other (l.below x bytes other c e i)
      below x bytes other (inr c) e i = go (Contains-from_cons (name, m.text) [] x c)
        where
          imported : (t : Option (List ℕ)) → t ≡ Some bytes → MatchOption t (m.imports ≡ []) (λ b. AreImports b m.imports) → Contains m.imports other
          imported None h are = absurd cc
          imported (Some b) h are = are.all other (subst (λ z. IsImportedBy z other) (some-once (Some b) bytes b h refl) i)

          go : ((name, m.text) ≡ x) ⊎ Contains {X = Module} [] x → Contains wanted_now other
          go (inr d) = absurd (omega (arith, d.1))
          go (inl s) =
              let text-is : m.text ≡ Some bytes = ap (λ (z : Module). z.1) s ∙ e in
              subst (λ ns. Contains ns other) (sym m.behind) (Contains-append_right wanted m.imports other (imported m.text text-is m.are))

  -- with the library's text
  more-reading : (texts : Library) → told ≡ Some texts → Contains wanted name → IsReading texts text modules wanted → IsReading texts text modules_now wanted_now
  more-reading texts e asked r = record {
    reached = λ other c. reached other (Contains-append_cases wanted m.imports other (subst (λ ns. Contains ns other) m.behind c));
    read = subst (All (IsRead texts text)) (sym m.listed) (All-append (IsRead texts text) modules ((name, m.text) ∷ []) r.read
        (All-cons (IsRead texts text) (name, m.text) [] (record { reached = here; told = tells }) (All-nil _)));
  }
    where
      here : Reaches (with_main texts text) [] name
      here = r.reached name asked

      tells : m.text ≡ texts name
      tells = subst (λ o. IfSome o (λ ts. m.text ≡ ts name)) e m.as_told

      imported : (t : Option (List ℕ)) → t ≡ texts name → MatchOption t (m.imports ≡ []) (λ b. AreImports b m.imports)
          → (other : List ℕ) → Contains m.imports other → Reaches (with_main texts text) [] other
      imported None h are other c = absurd (omega (arith, (subst (λ ns. Contains ns other) are c).1))
      imported (Some b) h are other c =
          let there : with_main texts text name ≡ Some b = with-main-below texts text name (reached-named (with_main texts text) [] name here) ∙ sym h in
          reaches-step (with_main texts text) [] name other here (leads (with_main texts text) name b other there (are.only other c))

      reached : (other : List ℕ) → Contains wanted other ⊎ Contains m.imports other → Reaches (with_main texts text) [] other
      reached other (inl c) = r.reached other c
      reached other (inr c) = imported m.text tells m.are other c

-- so it is, where the library tells its texts
pub more-told : (told : Option Library) (text name : List ℕ) (modules modules_now : List Module) (wanted wanted_now : List (List ℕ)) → IsOneMore told name modules modules_now wanted wanted_now
    → Contains wanted name → IfSome told (λ texts. IsReading texts text modules wanted) → IfSome told (λ texts. IsReading texts text modules_now wanted_now)
more-told None text name modules modules_now wanted wanted_now m c r = r
more-told (Some texts) text name modules modules_now wanted wanted_now m c r = more-reading (Some texts) text name modules modules_now wanted wanted_now m texts refl c r

-- ---- in the end

contains-get : {A : Type 0} (xs : List A) (x : A) → (c : Contains xs x) → slice_get xs c.0 ≡ Some x
contains-get [] x c = absurd (omega (arith, c.1))
contains-get (y ∷ ys) x (zero, h, e) = ap Some e
contains-get (y ∷ ys) x (suc k, h, e) = contains-get ys x (k, omega (arith, h), e)

record Listed (modules : List Module) (name bytes : List ℕ) : Type 0 where
  of : Module
  has : Contains modules of
  named : of.0 ≡ name
  text : of.1 ≡ Some bytes

-- a module that is there in a library of finitely many is one of those
listed : (modules : List Module) (name bytes : List ℕ) → library_of modules name ≡ Some bytes → Listed modules name bytes
listed [] name bytes e = absurd cc
listed (m ∷ ms) name bytes e = go (bytes_eq name m.0) refl e (listed ms name bytes)
  where
    go : (b : Bool) → bytes_eq name m.0 ≡ b → option_map_or (λ (x : Module). x.1) (cond b (Some m) (find (λ (x : Module). bytes_eq name x.0) ms)) None ≡ Some bytes
        → (library_of ms name ≡ Some bytes → Listed ms name bytes) → Listed (m ∷ ms) name bytes
    go true h f rest = record { of = m; has = (0, omega arith, refl); named = sym (names-eq name m.0 h); text = f }
    go false h f rest = let l = rest f in record { of = l.of; has = Contains-cons m ms l.of l.has; named = l.named; text = l.text }

-- once each name that is wanted was read, all that is reached was
pub done : (text : List ℕ) (modules : List Module) (wanted : List (List ℕ)) (next : ℕ) → IsLoaded text modules wanted next → length wanted ≤ next → ListsAll text modules
done text modules wanted next l all name r = closed-reached W (names_of modules) (λ from other c d. read other (led from other d)) name r
  where
    W : Library
    W = with_main (library_of modules) text

    read : (other : List ℕ) → Contains wanted other → Contains (names_of modules) other
    read other c = l.front c.0 other (omega (arith, c.1)) (contains-get wanted other c)

    led : (from other : List ℕ) → LeadsTo W from other → Contains wanted other
    led from other d = go from d.is_module.there
      where
        imported : (text : List ℕ) → d.text ≡ text → IsImportedBy text other
        imported text e =
            record { statements = d.statements; are = subst (λ t. AreStatements t d.statements) e d.is_module.are; number = d.number; words = d.words; here = d.here; imports = d.imports }

        go : (from : List ℕ) → W from ≡ Some d.text → Contains wanted other
        go [] e = l.main other (imported text (sym (some-once (Some text) text d.text refl e)))
        go (byte ∷ rest) e = let m = listed modules (byte ∷ rest) d.text e in l.below m.of d.text other m.has m.text (imported d.text refl)

-- ---- too many, or too long

abbrev there-names : List Module → List (List ℕ)
there-names [] = []
there-names (m ∷ ms) = cond (is_some m.1) (m.0 ∷ there-names ms) (there-names ms)

record Among (modules : List Module) (name : List ℕ) : Type 0 where
  of : Module
  has : Contains modules of
  named : of.0 ≡ name
  there : is_some of.1 ≡ true

among : (modules : List Module) (name : List ℕ) → Contains (there-names modules) name → Among modules name
among [] name c = absurd (omega (arith, c.1))
among (m ∷ ms) name c = go (is_some m.1) refl c (among ms name)
  where
    behind : Among ms name → Among (m ∷ ms) name
    behind a = record { of = a.of; has = Contains-cons m ms a.of a.has; named = a.named; there = a.there }

    go : (b : Bool) → is_some m.1 ≡ b → Contains (cond b (m.0 ∷ there-names ms) (there-names ms)) name → (Contains (there-names ms) name → Among ms name) → Among (m ∷ ms) name
    go true e d rest =
        elim (Contains-from_cons m.0 (there-names ms) name d) [ inl s ↦ record { of = m; has = (0, omega arith, refl); named = s; there = e } | inr h ↦ behind (rest h) ]
    go false e d rest = behind (rest d)

named-there : (modules : List Module) (name : List ℕ) → Contains (there-names modules) name → Contains (names_of modules) name
named-there modules name c = let a = among modules name c in subst (Contains (names_of modules)) a.named (Contains-map (λ (m : Module). m.0) modules a.of a.has)

distinct-there : (modules : List Module) → AreDistinct (names_of modules) → AreDistinct (there-names modules)
distinct-there [] d = tt
distinct-there (m ∷ ms) d = go (is_some m.1) (distinct-there ms d.1)
  where
    go : (b : Bool) → AreDistinct (there-names ms) → AreDistinct (cond b (m.0 ∷ there-names ms) (there-names ms))
    go true rest = ((λ c. d.0 (named-there ms m.0 c)), rest)
    go false rest = rest

many-there : (modules : List Module) → length (there-names modules) ≡ count_there modules
many-there [] = refl
many-there (m ∷ ms) = go (is_some m.1) (many-there ms) ∙ sym (sum_by-cons (λ (x : Module). cond (is_some x.1) 1 0) m ms)
  where
    go : (b : Bool) → length (there-names ms) ≡ count_there ms → length (cond b (m.0 ∷ there-names ms) (there-names ms)) ≡ cond b 1 0 + count_there ms
    go true e = omega (arith, e)
    go false e = omega (arith, e)

-- where one more module is too long, or one too many, the text gives nothing
pub too-long : (texts : Library) (text : List ℕ) (modules : List Module) (wanted : List (List ℕ)) (name : List ℕ) → length text ≤ text_limit → IsReading texts text modules wanted
    → Contains wanted name → ¬ Contains (names_of modules) name → AreDistinct (names_of modules) → IsLongModule texts name modules → Gives texts text too_long
too-long texts text modules wanted name short r asked fresh distinct long = go long.passes
  where
    W : Library
    W = with_main texts text

    told : (other whole : List ℕ) → Reaches W [] other → texts other ≡ Some whole → IsWanted W other whole
    told other whole reached e = record { reached = reached; there = with-main-below texts text other (reached-named W [] other reached) ∙ e }

    mine : IsWanted W name long.whole
    mine = told name long.whole (r.reached name asked) long.there

    each : (other : List ℕ) → (name ≡ other) ⊎ Contains (there-names modules) other → (whole : List ℕ) × IsWanted W other whole
    each other (inl e) = (long.whole, subst (λ n. IsWanted W n long.whole) e mine)
    each other (inr c) =
        let a = among modules other c in
        let read : IsRead texts text a.of = All-contains (IsRead texts text) modules a.of r.read a.has in
        found a.of.1 read.told a.there (subst (Reaches W []) a.named read.reached) (ap texts a.named)
      where
        found : (o : Option (List ℕ)) → o ≡ texts (among modules other c).of.0 → is_some o ≡ true → Reaches W [] other → texts (among modules other c).of.0 ≡ texts other
            → (whole : List ℕ) × IsWanted W other whole
        found None e s reached same = absurd cc
        found (Some whole) e s reached same = (whole, told other whole reached (sym same ∙ sym e))

    go : (text_limit < length long.whole) ⊎ (count_there modules ≡ most_modules) → Gives texts text too_long
    go (inl h) = long_module short mine h
    go (inr h) =
        let wanted-all : AreWanted W (name ∷ there-names modules) =
        record { distinct = ((λ c. fresh (named-there modules name c)), distinct-there modules distinct); each = λ other c. each other (Contains-from_cons name (there-names modules) other c) } in
        let many = many-there modules in
        many_modules short wanted-all (omega arith)

there-has : (modules : List Module) (m : Module) (whole : List ℕ) → Contains modules m → m.1 ≡ Some whole → Contains (there-names modules) m.0
there-has [] m whole c e = absurd (omega (arith, c.1))
there-has (x ∷ xs) m whole c e = go (is_some x.1) refl (Contains-from_cons x xs m c) (λ d. there-has xs m whole d e)
  where
    go : (b : Bool) → is_some x.1 ≡ b → (x ≡ m) ⊎ Contains xs m → (Contains xs m → Contains (there-names xs) m.0)
        → Contains (cond b (x.0 ∷ there-names xs) (there-names xs)) m.0
    go true s (inl same) rest = (0, omega arith, ap (λ (y : Module). y.0) same)
    go true s (inr d) rest = Contains-cons x.0 (there-names xs) m.0 (rest d)
    go false s (inl same) rest = absurd (false≢true (sym s ∙ ap (λ (y : Module). is_some y.1) same ∙ ap is_some e))
    go false s (inr d) rest = rest d

-- where all modules that are reached were read, none is too long, and not too many are there, the text gives something
pub fits : (texts : Library) (text : List ℕ) (modules : List Module) → length text ≤ text_limit → All (IsRead texts text) modules → ListsAll text modules → AreShort modules
    → count_there modules ≤ most_modules → ¬ Gives texts text too_long
fits texts text modules short read listed within few gives = go too_long refl gives
  where
    V : Library
    V = with_main texts text

    agree : AgreeFrom (with_main (library_of modules) text) V []
    agree = agree-main (library_of modules) texts text
        (λ name r. listed-agrees modules texts (All-from _ modules (λ m c. (All-contains (IsRead texts text) modules m read c).told)) name (listed name r))

    wanted-listed : (name whole : List ℕ) → IsWanted V name whole → Listed modules name whole
    wanted-listed name whole w =
        let m = Contains-from_map (λ (m : Module). m.0) modules name (listed name (reaches-agreed (with_main (library_of modules) text) V [] name agree w.reached)) in
        let told = (All-contains (IsRead texts text) modules m.0 read m.1).told in
        let below = with-main-below texts text name (reached-named V [] name w.reached) in
        record { of = m.0; has = m.1; named = m.2; text = told ∙ ap texts m.2 ∙ sym below ∙ w.there }

    short-enough : (o : Option (List ℕ)) (whole : List ℕ) → o ≡ Some whole → IfSome o (λ t. length t ≤ text_limit) → length whole ≤ text_limit
    short-enough None whole e h = absurd cc
    short-enough (Some t) whole e h = subst (λ (x : List ℕ). length x ≤ text_limit) (some-once (Some t) t whole refl e) h

    go : (result : Result) → result ≡ too_long → Gives texts text result → ⊥
    go result e (long_text l) = absurd (omega arith)
    go result e (long_module {name} {whole} s w l) =
        let m = wanted-listed name whole w in
        let h = short-enough m.of.1 whole m.text (All-contains IsShort modules m.of within m.has) in
        absurd (omega arith)
    go result e (many_modules {names} s w l) =
        let among : (name : List ℕ) → Contains names name → Contains (there-names modules) name =
        λ name c. let q = w.each name c in let m = wanted-listed name q.0 q.1 in subst (Contains (there-names modules)) m.named (there-has modules m.of q.0 m.has m.text) in
        let h = no-more names (there-names modules) w.distinct among in
        let many = many-there modules in
        absurd (omega arith)
    go result e (all_checked s w k h v n) = absurd cc

-- ---- the loop

-- what stands at a place of a list
pub at-place : {A : Type 0} (xs : List A) (k : ℕ) (x y : A) → k < length xs → y ≡ slice_index_or xs k y → x ≡ y → slice_get xs k ≡ Some x
at-place [] k x y h e s = absurd (omega arith)
at-place (z ∷ zs) zero x y h e s = ap Some (sym (s ∙ e))
at-place (z ∷ zs) (suc k) x y h e s = at-place zs k x y (omega arith) e s

-- what is known at each turn: the library tells what it told, its count of faults stands, and as above
pub record IsUnderway (told told_now : Option Library) (faults faults_now : ℕ) (text : List ℕ) (modules : List Module) (wanted : List (List ℕ)) (next : ℕ) : Type 0 where
  pub same : told_now ≡ told
  pub no_fault : faults_now ≡ faults
  pub within : next ≤ length wanted
  pub some : 0 < length wanted → ImportsSome text
  pub loaded : IsLoaded text modules wanted next
  pub reading : IfSome told (λ texts. IsReading texts text modules wanted)

-- how many names may still be looked at: those that are wanted, and as many as each module may add that may still be there
abbrev pub left : List Module → List (List ℕ) → ℕ → ℕ
left modules wanted next = (most_modules - count_there modules) * (text_limit + 1) + (length wanted - next)

reading-start : (told : Option Library) (text : List ℕ) (imports : List (List ℕ)) → AreImports text imports → IfSome told (λ texts. IsReading texts text [] imports)
reading-start None text imports are = tt
reading-start (Some texts) text imports are = start-reading texts text imports are

pub underway-start : (told : Option Library) (faults : ℕ) (text : List ℕ) (imports : List (List ℕ)) → AreImports text imports → IsUnderway told told faults faults text [] imports 0
underway-start told faults text imports are = record {
  same = refl;
  no_fault = refl;
  within = omega arith;
  some = λ h. let first = get-there imports 0 h in (first.0, are.only first.0 (contains-there imports 0 first.0 first.1));
  loaded = start text imports are;
  reading = reading-start told text imports are;
}

module _ (told told_now : Option Library) (faults faults_now : ℕ) (text : List ℕ) (modules : List Module) (wanted : List (List ℕ)) (next : ℕ) (name : List ℕ)
    (u : IsUnderway told told_now faults faults_now text modules wanted next) (at : slice_get wanted next ≡ Some name) where
  asked : Contains wanted name
  asked = contains-there wanted next name at

  inside : next < length wanted
  inside = let c = (slice_get-read wanted next name at).0 in omega (arith, c)

  -- a name that was read already
  pub underway-skip : Contains (names_of modules) name → IsUnderway told told_now faults faults_now text modules wanted (next + 1)
  underway-skip c = record {
    same = u.same;
    no_fault = u.no_fault;
    within = omega (arith, inside);
    some = u.some;
    loaded = skip text modules wanted next name u.loaded at c;
    reading = u.reading;
  }

  -- a module that was read
  pub underway-more : (told_then : Option Library) (faults_then : ℕ) (modules_now : List Module) (wanted_now : List (List ℕ)) → told_then ≡ told_now → faults_then ≡ faults_now
      → IsOneMore told_now name modules modules_now wanted wanted_now → IsUnderway told told_then faults faults_then text modules_now wanted_now (next + 1)
  underway-more told_then faults_then modules_now wanted_now same no_fault m = record {
    same = same ∙ u.same;
    no_fault = no_fault ∙ u.no_fault;
    within = let l = ap length m.behind ∙ length-append wanted m.imports in omega (arith, inside, l);
    some = λ h. u.some (omega (arith, inside));
    loaded = more told_now text name modules modules_now wanted wanted_now m next at inside u.loaded;
    reading = more-told told text name modules modules_now wanted wanted_now (subst (λ t. IsOneMore t name modules modules_now wanted wanted_now) u.same m) asked u.reading;
  }

  -- it leaves less to be looked at
  pub fewer : (modules_now : List Module) (wanted_now : List (List ℕ)) → IsOneMore told_now name modules modules_now wanted wanted_now → count_there modules_now ≤ most_modules
      → left modules_now wanted_now (next + 1) < left modules wanted next
  fewer modules_now wanted_now m few =
      let l : length wanted_now ≡ length wanted + length m.imports = ap length m.behind ∙ length-append wanted m.imports in
      let count : count_there modules_now ≡ count_there modules + one_there m.text = ap count_there m.listed ∙ count-more modules name m.text in
      go m.text m.are count l
    where
      less : (a b w v : ℕ) → next < w → b ≡ a → v ≡ w → (most_modules - b) * (text_limit + 1) + (v - (next + 1)) < (most_modules - a) * (text_limit + 1) + (w - next)
      less a b w v h e f = rw (e, f) (omega arith)

      spent : (a b w k v : ℕ) → next < w → b ≡ a + 1 → b ≤ most_modules → k ≤ text_limit → v ≡ w + k
          → (most_modules - b) * (text_limit + 1) + (v - (next + 1)) < (most_modules - a) * (text_limit + 1) + (w - next)
      spent a b w k v h e few most f = omega arith

      go : (t : Option (List ℕ)) → MatchOption t (m.imports ≡ []) (λ b. AreImports b m.imports) → count_there modules_now ≡ count_there modules + one_there t
          → length wanted_now ≡ length wanted + length m.imports → left modules_now wanted_now (next + 1) < left modules wanted next
      go None none count l = let zero-more = ap length none in let h = inside in less (count_there modules) (count_there modules_now) (length wanted) (length wanted_now) h (omega arith) (omega arith)
      go (Some t) are count l = let k = m.few in let h = inside in spent (count_there modules) (count_there modules_now) (length wanted) (length m.imports) (length wanted_now) h (omega arith) few k l

  -- a module that is too long, or one too many
  pub underway-long : length text ≤ text_limit → ¬ Contains (names_of modules) name → AreDistinct (names_of modules) → IfSome told_now (λ texts. IsLongModule texts name modules)
      → IfSome told (λ texts. Gives texts text too_long)
  underway-long short fresh distinct long = go told u.reading (subst (λ t. IfSome t (λ texts. IsLongModule texts name modules)) u.same long)
    where
      go : (t : Option Library) → IfSome t (λ texts. IsReading texts text modules wanted) → IfSome t (λ texts. IsLongModule texts name modules) → IfSome t (λ texts. Gives texts text too_long)
      go None r l = tt
      go (Some texts) r l = too-long texts text modules wanted name short r asked fresh distinct l

  -- the text imports something
  pub underway-some : ImportsSome text
  underway-some = u.some (omega (arith, inside))

-- once all that is wanted was looked at
pub underway-read : (told : Option Library) (text : List ℕ) (modules : List Module) (wanted : List (List ℕ)) → IfSome told (λ texts. IsReading texts text modules wanted) → AreRead told text modules
underway-read None text modules wanted r = tt
underway-read (Some texts) text modules wanted r = r.read

pub underway-fits : (told : Option Library) (text : List ℕ) (modules : List Module) → length text ≤ text_limit → AreRead told text modules → ListsAll text modules → AreShort modules
    → count_there modules ≤ most_modules → IfSome told (λ texts. ¬ Gives texts text too_long)
underway-fits None text modules short read listed within few = tt
underway-fits (Some texts) text modules short read listed within few = fits texts text modules short read listed within few
