-- Each text gives exactly one result, in every library.
use Rattle.std.proofs.Common.{◌≡◌, ℕ, zero, suc, ◌+◌, ◌<◌, ◌≤◌, Bool, true, false, cond, not, List, [], ◌∷◌, length, Option, Some, None, slice_get, ◌⊎◌, inl, inr, refl, sym, ◌∙◌, ap, ap₂, subst, arith}
use Rattle.std.proofs.lemmas.Bool.{cases_lt, false≢true}
use Rattle.std.specs.Prelude.{Contains}
use Rattle.std.specs.Str.{bytes_eq}
use Rattle.chyp_lex.specs.Tokens.{text_limit}
use Rattle.chyp_verdicts.proofs.OneVerdict.{some-once, none-some}
use Rattle.chyp_syntax.specs.Words.{Word}
use Rattle.chyp_modules.specs.Library.{Library, IsModule, with_main}
use Rattle.chyp_modules.specs.Import.{Imports, ImportsNothing, LeadsTo, Reaches, at_once, by_way_of}
use Rattle.chyp_modules.specs.Laws.{HasOneListOfVerdicts}
use Rattle.chyp_modules.specs.Checking.{most_modules, AreDistinct, IsWanted, AreWanted, AreAllWanted, HaveStatements, of_none, of_more, Result, too_long, checked, Gives, long_text, long_module, many_modules, all_checked, TextsHaveOneResult}
use Rattle.chyp_env.proofs.Bindings.{Contains-cons, Contains-from_cons, Contains-from_filter, Contains-filter, names-eq, names-same}
use Rattle.chyp_verdicts.proofs.Known.{Known}
use Rattle.chyp_modules.proofs.Once.{imports-unique, module-unique}
use Rattle.chyp_modules.proofs.Reaching.{SomeImport, begins, import-or-not, statements-there, without, without-shorter, differ-not, reaches-step}
use Rattle.chyp_modules.proofs.Verdicts.{modules-determined}

abbrev pub Names : Type 0
Names = List (List ℕ)

-- ---- lists of names

pub contains-or-not : (names : Names) (name : List ℕ) → Contains names name ⊎ ¬ Contains names name
contains-or-not [] name = inr (λ c. absurd (omega (arith, c.1)))
contains-or-not (n ∷ ns) name = go (bytes_eq n name) refl (contains-or-not ns name)
  where
    go : (b : Bool) → bytes_eq n name ≡ b → Contains ns name ⊎ ¬ Contains ns name → Contains (n ∷ ns) name ⊎ ¬ Contains (n ∷ ns) name
    go true e rest = inl (0, omega arith, names-eq n name e)
    go false e (inl c) = inl (Contains-cons n ns name c)
    go false e (inr c) = inr (λ d. elim (Contains-from_cons n ns name d) [ inl s ↦ false≢true (sym e ∙ names-same n name s) | inr h ↦ c h ])

pub distinct-without : (name : List ℕ) (names : Names) → AreDistinct names → AreDistinct (without name names)
distinct-without name [] d = tt
distinct-without name (n ∷ ns) d = go (bytes_eq name n) (distinct-without name ns d.1)
  where
    go : (b : Bool) → AreDistinct (without name ns) → AreDistinct (cond (not b) (n ∷ without name ns) (without name ns))
    go true rest = rest
    go false rest = ((λ c. d.0 (Contains-from_filter (λ other. not (bytes_eq name other)) ns n c).0), rest)

pub without-not : (name : List ℕ) (names : Names) → ¬ Contains (without name names) name
without-not name names c = go (bytes_eq name name) (names-same name name refl) (Contains-from_filter (λ other. not (bytes_eq name other)) names name c).1
  where
    go : (b : Bool) → b ≡ true → not b ≡ true → ⊥
    go true e n = false≢true n
    go false e n = false≢true e

-- distinct names among others are no more than those
pub no-more : (xs ys : Names) → AreDistinct xs → ((name : List ℕ) → Contains xs name → Contains ys name) → length xs ≤ length ys
no-more [] ys d among = omega arith
no-more (x ∷ xs) ys d among =
    let rest = no-more xs (without x ys) d.1
    (λ name c. Contains-filter (λ other. not (bytes_eq x other)) ys name (among name (Contains-cons x xs name c)) (differ-not x name (λ e. d.0 (subst (Contains xs) (sym e) c)))) in
    let shorter = without-shorter x ys (among x (0, omega arith, refl)) in
    omega arith

-- ---- how many statements

pub record Picked (library : Library) (name : List ℕ) (names : Names) (n : ℕ) : Type 0 where
  pub text : List ℕ
  pub statements : List (List Word)
  pub is_module : IsModule library name text statements
  pub m : ℕ
  pub rest : HaveStatements library (without name names) m
  pub sum : n ≡ length statements + m

without-none : (name : List ℕ) (names : Names) → ¬ Contains names name → without name names ≡ names
without-none name [] no' = refl
without-none name (n ∷ ns) no' = go (bytes_eq name n) refl (without-none name ns (λ c. no' (Contains-cons n ns name c)))
  where
    go : (b : Bool) → bytes_eq name n ≡ b → without name ns ≡ ns → cond (not b) (n ∷ without name ns) (without name ns) ≡ n ∷ ns
    go true e rest = absurd (no' (0, omega arith, sym (names-eq name n e)))
    go false e rest = ap (λ xs. n ∷ xs) rest

pub pick : (library : Library) (name : List ℕ) (names : Names) (n : ℕ) → AreDistinct names → Contains names name → HaveStatements library names n → Picked library name names n
pick library name [] n d c h = absurd (omega (arith, c.1))
pick library name (x ∷ xs) n d c (of_more {text} {statements} {n = k} m h) = go (bytes_eq name x) refl (Contains-from_cons x xs name c) (λ e. pick library name xs k d.1 e h)
  where
    go : (b : Bool) → bytes_eq name x ≡ b → (x ≡ name) ⊎ Contains xs name → (Contains xs name → Picked library name xs k) → Picked library name (x ∷ xs) (length statements + k)
    go true e where' rest =
        let same : name ≡ x = names-eq name x e in
        let none : without name (x ∷ xs) ≡ xs = ap (λ b. cond (not b) (x ∷ without name xs) (without name xs)) e ∙ without-none name xs (λ i. d.0 (subst (Contains xs) same i)) in
        record {
          text = text;
          statements = statements;
          is_module = subst (λ q. IsModule library q text statements) (sym same) m;
          m = k;
          rest = subst (λ q. HaveStatements library q k) (sym none) h;
          sum = refl;
        }
    go false e (inl s) rest = absurd (false≢true (sym e ∙ names-same name x (sym s)))
    go false e (inr i) rest =
        let p = rest i in
        let more : without name (x ∷ xs) ≡ x ∷ without name xs = ap (λ b. cond (not b) (x ∷ without name xs) (without name xs)) e in
        let total = p.sum in
        record {
          text = p.text;
          statements = p.statements;
          is_module = p.is_module;
          m = length statements + p.m;
          rest = subst (λ q. HaveStatements library q (length statements + p.m)) (sym more) (of_more m p.rest);
          sum = omega arith;
        }

-- the same modules have as many statements, in whatever order they stand
pub count-once : Known → (library : Library) (xs ys : Names) (m n : ℕ) → AreDistinct xs → AreDistinct ys → ((name : List ℕ) → Contains xs name → Contains ys name)
    → ((name : List ℕ) → Contains ys name → Contains xs name)
    → HaveStatements library xs m → HaveStatements library ys n → m ≡ n
count-once known library [] [] m n d e f g of_none of_none = refl
count-once known library [] (y ∷ ys) m n d e f g h k = absurd (omega (arith, (g y (0, omega arith, refl)).1))
count-once known library (x ∷ xs) ys m n d e f g (of_more {text} {statements} {n = k} is h) j =
    let p = pick library x ys n e (f x (0, omega arith, refl)) j in
    let same = module-unique known library x text p.text statements p.statements is p.is_module in
    let rest = count-once known library xs (without x ys) k p.m d.1 (distinct-without x ys e) (λ name c. into name c) (λ name c. back name c) h p.rest in
    let lengths : length statements ≡ length p.statements = ap length same.1 in
    let total = p.sum in
    omega arith
  where
    into : (name : List ℕ) → Contains xs name → Contains (without x ys) name
    into name c = Contains-filter (λ other. not (bytes_eq x other)) ys name (f name (Contains-cons x xs name c)) (differ-not x name (λ s. d.0 (subst (Contains xs) (sym s) c)))

    back : (name : List ℕ) → Contains (without x ys) name → Contains xs name
    back name c = go (Contains-from_cons x xs name (g name (Contains-from_filter (λ other. not (bytes_eq x other)) ys name c).0))
      where
        go : (x ≡ name) ⊎ Contains xs name → Contains xs name
        go (inr i) = i
        go (inl s) = absurd (without-not x ys (subst (Contains (without x ys)) (sym s) c))

-- ---- at most one result

cons-distinct : (library : Library) (names : Names) → AreAllWanted library names → (others : Names) → AreAllWanted library others → (name : List ℕ) → Contains names name → Contains others name
cons-distinct library names a others b name c = let w = a.0.each name c in b.1 name w.0 w.1

gives-once : Known → (library : Library) (text : List ℕ) (a b : Result) → Gives library text a → Gives library text b → a ≡ b
gives-once known library text a b (long_text l) (long_text m) = refl
gives-once known library text a b (long_text l) (long_module m w k) = refl
gives-once known library text a b (long_text l) (many_modules m w k) = refl
gives-once known library text a b (long_text l) (all_checked m w k s v h) = absurd (omega arith)
gives-once known library text a b (long_module l w k) (long_text m) = refl
gives-once known library text a b (long_module l w k) (long_module m x j) = refl
gives-once known library text a b (long_module l w k) (many_modules m x j) = refl
gives-once known library text a b (long_module {name} {whole} l w k) (all_checked m x j s v h) = let short = s name whole w in absurd (omega arith)
gives-once known library text a b (many_modules l w k) (long_text m) = refl
gives-once known library text a b (many_modules l w k) (long_module m x j) = refl
gives-once known library text a b (many_modules l w k) (many_modules m x j) = refl
gives-once known library text a b (many_modules {names} l w k) (all_checked {names = others} m x j s v h) =
    let few = no-more names others w.distinct (λ name c. let q = w.each name c in x.1 name q.0 q.1) in absurd (omega arith)
gives-once known library text a b (all_checked m w k s v h) (long_text l) = absurd (omega arith)
gives-once known library text a b (all_checked m x j s v h) (long_module {name} {whole} l w k) = let short = s name whole w in absurd (omega arith)
gives-once known library text a b (all_checked {names = others} m x j s v h) (many_modules {names} l w k) =
    let few = no-more names others w.distinct (λ name c. let q = w.each name c in x.1 name q.0 q.1) in absurd (omega arith)
gives-once known library text a b (all_checked {names} {verdicts} {checks} m w k s v h) (all_checked {names = others} {verdicts = vs} {checks = n} l x j r u i) =
    ap₂ checked (one.only verdicts v ∙ sym (one.only vs u)) counts
  where
    W : Library
    W = with_main library text

    one : HasOneListOfVerdicts W []
    one = (modules-determined known W [] text refl (names, λ other whole reached there. w.1 other whole (record { reached = reached; there = there }))).1

    counts : checks ≡ n
    counts = go h i
      where
        go : {p q : ℕ} → HaveStatements W ([] ∷ names) p → HaveStatements W ([] ∷ others) q → p ≡ q
        go (of_more {text = t} {statements = ss} {n = p} a f) (of_more {text = t'} {statements = rs} {n = q} b g) =
            let lengths : length ss ≡ length rs = ap length (module-unique known W [] t t' ss rs a b).1 in
            let rest = count-once known W names others p q w.0.distinct x.0.distinct (cons-distinct W names w others x) (cons-distinct W others x names w) f g in
            omega arith

-- ---- a result

-- a module that one of these leads to, that is there, and that isn't among them yet
record NewOne (library : Library) (names sources : Names) : Type 0 where
  from : List ℕ
  is_source : Contains sources from
  other : List ℕ
  leads : LeadsTo library from other
  whole : List ℕ
  there : library other ≡ Some whole
  new : ¬ Contains names other

-- all that these lead to and that is there is among them
abbrev AreClosed : Library → Names → Names → Type 0
AreClosed library names sources = (from other whole : List ℕ) → Contains sources from → LeadsTo library from other → library other ≡ Some whole → Contains names other

-- a module that a statement among these imports
record NewImport (library : Library) (names : Names) (ss : List (List Word)) : Type 0 where
  number : ℕ
  tokens : List Word
  here : slice_get ss number ≡ Some tokens
  other : List ℕ
  imports : Imports tokens other
  whole : List ℕ
  there : library other ≡ Some whole
  new : ¬ Contains names other

abbrev NoNewImport : Library → Names → List (List Word) → Type 0
NoNewImport library names ss = (number : ℕ) (tokens : List Word) (other whole : List ℕ) → slice_get ss number ≡ Some tokens → Imports tokens other
    → library other ≡ Some whole → Contains names other

new-import : Known → (library : Library) (names : Names) (ss : List (List Word)) → NewImport library names ss ⊎ NoNewImport library names ss
new-import known library names [] = inr (λ k tokens other whole e i t. absurd cc)
new-import known library names (s ∷ ss) = go (new-import known library names ss) (import-or-not known s)
  where
    behind : NoNewImport library names ss → ((other whole : List ℕ) → Imports s other → library other ≡ Some whole → Contains names other) → NoNewImport library names (s ∷ ss)
    behind none here zero tokens other whole e i t = let same : s ≡ tokens = cc in here other whole (subst (λ x. Imports x other) (sym same) i) t
    behind none here (suc k) tokens other whole e i t = none k tokens other whole e i t

    named : NoNewImport library names ss → (i : SomeImport s) → (o : Option (List ℕ)) → library i.name ≡ o → Contains names i.name ⊎ ¬ Contains names i.name
        → NewImport library names (s ∷ ss) ⊎ NoNewImport library names (s ∷ ss)
    named none i None e c = inr (behind none (λ other whole j t. absurd (none-some (library other) whole (ap library (sym (imports-unique known s i.name other i.imports j)) ∙ e) t)))
    named none i (Some whole) e (inr c) = inl (record { number = 0; tokens = s; here = refl; other = i.name; imports = i.imports; whole = whole; there = e; new = c })
    named none i (Some whole) e (inl c) = inr (behind none (λ other whole j t. subst (Contains names) (imports-unique known s i.name other i.imports j) c))

    go : NewImport library names ss ⊎ NoNewImport library names ss → SomeImport s ⊎ ImportsNothing s → NewImport library names (s ∷ ss) ⊎ NoNewImport library names (s ∷ ss)
    go (inl n) i = inl (record { number = suc n.number; tokens = n.tokens; here = n.here; other = n.other; imports = n.imports; whole = n.whole; there = n.there; new = n.new })
    go (inr none) (inl i) = named none i (library i.name) refl (contains-or-not names i.name)
    go (inr none) (inr i) = inr (behind none (λ other whole j t. absurd (i j.word j.as_word j.is_sentence)))

new-one : Known → (library : Library) (names sources : Names) → NewOne library names sources ⊎ AreClosed library names sources
new-one known library names [] = inr (λ from other whole c l t. absurd (omega (arith, c.1)))
new-one known library names (x ∷ xs) = go (new-one known library names xs) (library x) refl
  where
    closed : AreClosed library names xs → ((other whole : List ℕ) → LeadsTo library x other → library other ≡ Some whole → Contains names other) → AreClosed library names (x ∷ xs)
    closed rest here from other whole c l t = pick' (Contains-from_cons x xs from c)
      where
        pick' : (x ≡ from) ⊎ Contains xs from → Contains names other
        pick' (inl s) = here other whole (subst (λ q. LeadsTo library q other) (sym s) l) t
        pick' (inr i) = rest from other whole i l t

    of_text : AreClosed library names xs → (text : List ℕ) → library x ≡ Some text → (ss : List (List Word)) → IsModule library x text ss → NewImport library names ss
        ⊎ NoNewImport library names ss
        → NewOne library names (x ∷ xs) ⊎ AreClosed library names (x ∷ xs)
    of_text rest text e ss m (inl n) =
        inl (record {
          from = x;
          is_source = (0, omega arith, refl);
          other = n.other;
          leads = record { text = text; statements = ss; is_module = m; number = n.number; words = n.tokens; here = n.here; imports = n.imports };
          whole = n.whole;
          there = n.there;
          new = n.new;
        })
    of_text rest text e ss m (inr none) = inr (closed rest (λ other whole l t.
        let same = module-unique known library x text l.text ss l.statements m l.is_module in
        none l.number l.words other whole (ap (λ q. slice_get q l.number) same.1 ∙ l.here) l.imports t))

    go : NewOne library names xs ⊎ AreClosed library names xs → (o : Option (List ℕ)) → library x ≡ o → NewOne library names (x ∷ xs) ⊎ AreClosed library names (x ∷ xs)
    go (inl n) o e = inl (record { from = n.from; is_source = Contains-cons x xs n.from n.is_source; other = n.other; leads = n.leads; whole = n.whole; there = n.there; new = n.new })
    go (inr rest) None e = inr (closed rest (λ other whole l t. absurd (none-some (library x) l.text e l.is_module.there)))
    go (inr rest) (Some text) e =
        let ss = statements-there known text in
        let m : IsModule library x text ss.0 = record { there = e; are = ss.1 } in
        of_text rest text e ss.0 m (new-import known library names ss.0)

-- what is closed has all that is reached
closed-reached : (library : Library) (names : Names) → AreClosed library names ([] ∷ names) → (a b : List ℕ) → Reaches library a b → Contains ([] ∷ names) a → (whole : List ℕ) → library b ≡ Some whole
    → Contains names b
closed-reached library names closed a b (at_once l) c whole t = closed a b whole c l t
closed-reached library names closed a b (by_way_of {next} l r) c whole t =
    let at = begins library next b r in
    closed-reached library names closed next b r (Contains-cons [] names next (closed a next at.0 c l at.1)) whole t

-- all wanted modules, or more than are allowed
abbrev Explored : Library → Type 0
Explored library = ((names : Names) × AreAllWanted library names × (length names ≤ most_modules)) ⊎ ((names : Names) × AreWanted library names × (most_modules < length names))

explore : Known → (library : Library) (more : ℕ) (names : Names) → AreWanted library names → length names + more ≡ most_modules + 1 → Explored library
explore known library zero names w e = inr (names, w, omega arith)
explore known library (suc more) names w e = go (new-one known library names ([] ∷ names)) (λ xs v f. explore known library more xs v f)
  where
    reached : (from : List ℕ) → Contains ([] ∷ names) from → ([] ≡ from) ⊎ Reaches library [] from
    reached from c = elim (Contains-from_cons [] names from c) [ inl s ↦ inl s | inr i ↦ inr (w.each from i).1.reached ]

    then-reached : (from other : List ℕ) → ([] ≡ from) ⊎ Reaches library [] from → LeadsTo library from other → Reaches library [] other
    then-reached from other (inl s) l = at_once (subst (λ q. LeadsTo library q other) (sym s) l)
    then-reached from other (inr r) l = reaches-step library [] from other r l

    go : NewOne library names ([] ∷ names) ⊎ AreClosed library names ([] ∷ names) → ((xs : Names) → AreWanted library xs → length xs + more ≡ most_modules + 1 → Explored library) → Explored library
    go (inr closed) next = inl (names, (w, λ name text want. closed-reached library names closed [] name want.reached (0, omega arith, refl) text want.there), omega arith)
    go (inl n) next = next (n.other ∷ names) (record { distinct = (n.new, w.distinct); each = λ name c. each name (Contains-from_cons n.other names name c) }) (omega arith)
      where
        each : (name : List ℕ) → (n.other ≡ name) ⊎ Contains names name → (text : List ℕ) × IsWanted library name text
        each name (inr i) = w.each name i
        each name (inl s) = (
          n.whole,
          record {
            reached = subst (Reaches library []) s (then-reached n.from n.other (reached n.from n.is_source) n.leads);
            there = subst (λ q. library q ≡ Some n.whole) s n.there;
          },
        )

-- all texts of some modules are short enough, or one is too long
record LongOne (library : Library) (names : Names) : Type 0 where
  name : List ℕ
  has : Contains names name
  whole : List ℕ
  there : library name ≡ Some whole
  long : text_limit < length whole

abbrev AreShort : Library → Names → Type 0
AreShort library names = (name whole : List ℕ) → Contains names name → library name ≡ Some whole → length whole ≤ text_limit

long-or-short : (library : Library) (names : Names) → LongOne library names ⊎ AreShort library names
long-or-short library [] = inr (λ name whole c t. absurd (omega (arith, c.1)))
long-or-short library (x ∷ xs) = go (long-or-short library xs) (library x) refl
  where
    short : AreShort library xs → ((whole : List ℕ) → library x ≡ Some whole → length whole ≤ text_limit) → AreShort library (x ∷ xs)
    short rest here name whole c t = pick' (Contains-from_cons x xs name c)
      where
        pick' : (x ≡ name) ⊎ Contains xs name → length whole ≤ text_limit
        pick' (inl s) = here whole (subst (λ q. library q ≡ Some whole) (sym s) t)
        pick' (inr i) = rest name whole i t

    go : LongOne library xs ⊎ AreShort library xs → (o : Option (List ℕ)) → library x ≡ o → LongOne library (x ∷ xs) ⊎ AreShort library (x ∷ xs)
    go (inl l) o e = inl (record { name = l.name; has = Contains-cons x xs l.name l.has; whole = l.whole; there = l.there; long = l.long })
    go (inr rest) None e = inr (short rest (λ whole t. absurd (none-some (library x) whole e t)))
    go (inr rest) (Some text) e = sized (cases_lt text_limit (length text))
      where
        sized : (text_limit < length text) ⊎ (length text ≤ text_limit) → LongOne library (x ∷ xs) ⊎ AreShort library (x ∷ xs)
        sized (inl l) = inl (record { name = x; has = (0, omega arith, refl); whole = text; there = e; long = l })
        sized (inr h) = inr (short rest (λ whole t. subst (λ (q : List ℕ). length q ≤ text_limit) (some-once (library x) text whole e t) h))

counted : Known → (library : Library) (names : Names) → ((name : List ℕ) → Contains names name → (text : List ℕ) × (library name ≡ Some text)) → (n : ℕ) × HaveStatements library names n
counted known library [] there = (0, of_none)
counted known library (x ∷ xs) there = go (there x (0, omega arith, refl)) (counted known library xs (λ name c. there name (Contains-cons x xs name c)))
  where
    go : (text : List ℕ) × (library x ≡ Some text) → (n : ℕ) × HaveStatements library xs n → (n : ℕ) × HaveStatements library (x ∷ xs) n
    go (text, e) (n, h) = let ss = statements-there known text in (length ss.0 + n, of_more (record { there = e; are = ss.1 }) h)

record SomeResult (library : Library) (text : List ℕ) : Type 0 where
  result : Result
  gives : Gives library text result

some-result : Known → (library : Library) (text : List ℕ) → SomeResult library text
some-result known library text = sized (cases_lt text_limit (length text))
  where
    W : Library
    W = with_main library text

    all : length text ≤ text_limit → (names : Names) → AreAllWanted W names → length names ≤ most_modules → LongOne W names ⊎ AreShort W names → SomeResult library text
    all short names w few (inl l) = record { result = too_long; gives = long_module short (record { reached = (w.0.each l.name l.has).1.reached; there = l.there }) l.long }
    all short names w few (inr s) =
        let one = (modules-determined known W [] text refl (names, λ other whole reached there. w.1 other whole (record { reached = reached; there = there }))).1 in
        let n = counted known W ([] ∷ names) (λ name c. there name (Contains-from_cons [] names name c)) in
        record { result = checked one.verdicts n.0; gives = all_checked short w few (λ name whole q. s name whole (w.1 name whole q) q.there) one.are n.1 }
      where
        there : (name : List ℕ) → ([] ≡ name) ⊎ Contains names name → (whole : List ℕ) × (W name ≡ Some whole)
        there name (inl s) = (text, ap W (sym s))
        there name (inr i) = let q = w.0.each name i in (q.0, q.1.there)

    explored : length text ≤ text_limit → Explored W → SomeResult library text
    explored short (inl (names, w, few)) = all short names w few (long-or-short W names)
    explored short (inr (names, w, many)) = record { result = too_long; gives = many_modules short w many }

    sized : (text_limit < length text) ⊎ (length text ≤ text_limit) → SomeResult library text
    sized (inl l) = record { result = too_long; gives = long_text l }
    sized (inr h) = explored h (explore known W (most_modules + 1) [] (record { distinct = tt; each = λ name c. absurd (omega (arith, c.1)) }) (omega arith))

-- each text has exactly one result, in every library
pub texts-have-one-result : Known → TextsHaveOneResult
texts-have-one-result known library text =
    let one = some-result known library text in
    record { result = one.result; gives = one.gives; only = λ other g. gives-once known library text other one.result g one.gives }
