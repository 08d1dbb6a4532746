-- Which modules a module reaches is decided, where they are among finitely many.
use Rattle.std.proofs.Common.{◌≡◌, ℕ, zero, suc, ◌<◌, ◌≤◌, Bool, true, false, cond, not, List, [], ◌∷◌, length, Option, Some, None, slice_get, ◌⊎◌, inl, inr, refl, sym, ◌∙◌, ap, subst, arith}
use Rattle.std.specs.Prelude.{Contains}
use Rattle.std.specs.List.{filter}
use Rattle.std.specs.Str.{bytes_eq}
use Rattle.std.proofs.lemmas.Bool.{false≢true}
use Rattle.chyp_syntax.specs.Failing.{IsSentenceOrFails}
use Rattle.chyp_syntax.specs.Sentence.{IsSentence}
use Rattle.chyp_syntax.specs.Statement.{StatementTree, generator, abbreviation, rule, rewrite, inclusion, showing}
use Rattle.chyp_verdicts.specs.Texts.{statements_of}
use Rattle.chyp_verdicts.proofs.OneVerdict.{none-some}
use Rattle.chyp_syntax.specs.Words.{Word, bytes_at}
use Rattle.chyp_modules.specs.Library.{Library, AreStatements}
use Rattle.chyp_modules.specs.Import.{Imports, ImportsNothing, LeadsTo, Reaches, at_once, by_way_of}
use Rattle.chyp_modules.specs.Laws.{ReachesOnly}
use Rattle.chyp_env.proofs.Bindings.{Contains-cons, Contains-from_cons, Contains-filter, names-eq, names-same}
use Rattle.chyp_verdicts.proofs.Known.{Known}
use Rattle.chyp_modules.proofs.Once.{imports-unique, module-unique}

-- ---- texts and imports

-- each text has its statements
pub statements-there : Known → (text : List ℕ) → (ss : List (List Word)) × AreStatements text ss
statements-there known text =
    let tokens = (known.tokens text).exists in
    let chunks = known.chunks tokens.0 in
    (statements_of text tokens.0 chunks.0, record { tokens = tokens.0; chunks = chunks.0; are_tokens = tokens.1; are_chunks = chunks.1; each = refl })

-- an import, with what it imports
pub record SomeImport (tokens : List Word) : Type 0 where
  pub name : List ℕ
  pub imports : Imports tokens name

-- a statement is an import, or none
pub import-or-not : Known → (tokens : List Word) → SomeImport tokens ⊎ ImportsNothing tokens
import-or-not known tokens = go (known.sentences tokens)
  where
    other : (tree : StatementTree) → IsSentence tokens tree → ((word : ℕ) (a : Option ℕ) → ¬ (inclusion word a ≡ tree)) → ImportsNothing tokens
    other tree t no' word a s = no' word a (known.trees tokens (inclusion word a) tree s t)

    of_tree : (tree : StatementTree) → IsSentence tokens tree → SomeImport tokens ⊎ ImportsNothing tokens
    of_tree (inclusion word a) t = inl (record { name = bytes_at tokens word; imports = record { word = word; as_word = a; is_sentence = t; named = refl } })
    of_tree (generator name dom cod) t = inr (other (generator name dom cod) t (λ w a e. absurd cc))
    of_tree (abbreviation name tree) t = inr (other (abbreviation name tree) t (λ w a e. absurd cc))
    of_tree (rule name left equals right) t = inr (other (rule name left equals right) t (λ w a e. absurd cc))
    of_tree (rewrite name first steps) t = inr (other (rewrite name first steps) t (λ w a e. absurd cc))
    of_tree (showing name) t = inr (other (showing name) t (λ w a e. absurd cc))

    go : IsSentenceOrFails tokens → SomeImport tokens ⊎ ImportsNothing tokens
    go (inl t) = of_tree t.0 t.1
    go (inr f) = inr (λ word a s. f.1.no_sentence (inclusion word a) s)

-- one of some statements that imports the module
record ImportAmong (ss : List (List Word)) (other : List ℕ) : Type 0 where
  number : ℕ
  tokens : List Word
  here : slice_get ss number ≡ Some tokens
  imports : Imports tokens other

abbrev NoneImports : List (List Word) → List ℕ → Type 0
NoneImports ss other = (k : ℕ) (tokens : List Word) → slice_get ss k ≡ Some tokens → ¬ Imports tokens other

import-among : Known → (ss : List (List Word)) (other : List ℕ) → ImportAmong ss other ⊎ NoneImports ss other
import-among known [] other = inr (λ k tokens e i. absurd cc)
import-among known (s ∷ ss) other = go (import-or-not known s) (import-among known ss other)
  where
    behind : NoneImports ss other → ¬ Imports s other → NoneImports (s ∷ ss) other
    behind none no' zero tokens e i = let same : s ≡ tokens = cc in no' (subst (λ t. Imports t other) (sym same) i)
    behind none no' (suc k) tokens e i = none k tokens e i

    later : ImportAmong ss other ⊎ NoneImports ss other → ¬ Imports s other → ImportAmong (s ∷ ss) other ⊎ NoneImports (s ∷ ss) other
    later (inl a) no' = inl (record { number = suc a.number; tokens = a.tokens; here = a.here; imports = a.imports })
    later (inr n) no' = inr (behind n no')

    named : (i : SomeImport s) → (b : Bool) → bytes_eq i.name other ≡ b → ImportAmong ss other ⊎ NoneImports ss other → ImportAmong (s ∷ ss) other ⊎ NoneImports (s ∷ ss) other
    named i true e rest = inl (record { number = 0; tokens = s; here = refl; imports = subst (λ n. Imports s n) (names-eq i.name other e) i.imports })
    named i false e rest = later rest (λ j. false≢true (sym e ∙ names-same i.name other (imports-unique known s i.name other i.imports j)))

    go : SomeImport s ⊎ ImportsNothing s → ImportAmong ss other ⊎ NoneImports ss other → ImportAmong (s ∷ ss) other ⊎ NoneImports (s ∷ ss) other
    go (inl i) rest = named i (bytes_eq i.name other) refl rest
    go (inr n) rest = later rest (λ j. n j.word j.as_word j.is_sentence)

-- a module leads to another, or it doesn't
pub leads-or-not : Known → (library : Library) (name other : List ℕ) → LeadsTo library name other ⊎ ¬ LeadsTo library name other
leads-or-not known library name other = go (library name) refl
  where
    found : (text : List ℕ) → library name ≡ Some text → (ss : (rs : List (List Word)) × AreStatements text rs) → ImportAmong ss.0 other ⊎ NoneImports ss.0 other
        → LeadsTo library name other ⊎ ¬ LeadsTo library name other
    found text e ss (inl a) = inl (record { text = text; statements = ss.0; is_module = record { there = e; are = ss.1 }; number = a.number; words = a.tokens; here = a.here; imports = a.imports })
    found text e ss (inr none) = inr (λ l.
        let same = module-unique known library name text l.text ss.0 l.statements (record { there = e; are = ss.1 }) l.is_module in
        none l.number l.words (ap (λ x. slice_get x l.number) same.1 ∙ l.here) l.imports)

    go : (o : Option (List ℕ)) → library name ≡ o → LeadsTo library name other ⊎ ¬ LeadsTo library name other
    go None e = inr (λ l. none-some (library name) l.text e l.is_module.there)
    go (Some text) e = let ss = statements-there known text in found text e ss (import-among known ss.0 other)

-- ---- chains

-- a chain of imports that goes by way of these modules alone
data Path (library : Library) (mids : List (List ℕ)) : List ℕ → List ℕ → Type 0 where
  edge : {a b : List ℕ} → LeadsTo library a b → Path library mids a b
  step : {a c b : List ℕ} → LeadsTo library a c → Contains mids c → Path library mids c b → Path library mids a b

path-wider : (library : Library) (c : List ℕ) (cs : List (List ℕ)) (a b : List ℕ) → Path library cs a b → Path library (c ∷ cs) a b
path-wider library c cs a b (edge l) = edge l
path-wider library c cs a b (step {c = d} l h p) = step l (Contains-cons c cs d h) (path-wider library c cs d b p)

path-join : (library : Library) (mids : List (List ℕ)) (a c b : List ℕ) → Contains mids c → Path library mids a c → Path library mids c b → Path library mids a b
path-join library mids a c b h (edge l) q = step l h q
path-join library mids a c b h (step {c = d} l k p) q = step l k (path-join library mids d c b h p q)

path-split : (library : Library) (c : List ℕ) (cs : List (List ℕ)) (a b : List ℕ) → Path library (c ∷ cs) a b → Path library cs a b ⊎ (Path library cs a c × Path library cs c b)
path-split library c cs a b (edge l) = inl (edge l)
path-split library c cs a b (step {c = d} l h p) = go (Contains-from_cons c cs d h) (path-split library c cs d b p)
  where
    go : (c ≡ d) ⊎ Contains cs d → Path library cs d b ⊎ (Path library cs d c × Path library cs c b) → Path library cs a b ⊎ (Path library cs a c × Path library cs c b)
    go (inr k) (inl q) = inl (step l k q)
    go (inr k) (inr q) = inr (step l k q.0, q.1)
    go (inl e) (inl q) = inr (edge (subst (LeadsTo library a) (sym e) l), subst (λ x. Path library cs x b) (sym e) q)
    go (inl e) (inr q) = inr (edge (subst (LeadsTo library a) (sym e) l), q.1)

path-or-not : Known → (library : Library) (mids : List (List ℕ)) (a b : List ℕ) → Path library mids a b ⊎ ¬ Path library mids a b
path-or-not known library [] a b = go (leads-or-not known library a b)
  where
    nowhere : ¬ LeadsTo library a b → Path library [] a b → ⊥
    nowhere no' (edge l) = no' l
    nowhere no' (step l h p) = absurd (omega (arith, h.1))

    go : LeadsTo library a b ⊎ ¬ LeadsTo library a b → Path library [] a b ⊎ ¬ Path library [] a b
    go (inl l) = inl (edge l)
    go (inr no') = inr (nowhere no')
path-or-not known library (c ∷ cs) a b = go (path-or-not known library cs a b) (path-or-not known library cs a c) (path-or-not known library cs c b)
  where
    go : Path library cs a b ⊎ ¬ Path library cs a b → Path library cs a c ⊎ ¬ Path library cs a c → Path library cs c b ⊎ ¬ Path library cs c b → Path library (c ∷ cs) a b
        ⊎ ¬ Path library (c ∷ cs) a b
    go (inl p) q r = inl (path-wider library c cs a b p)
    go (inr p) (inl q) (inl r) = inl (path-join library (c ∷ cs) a c b (0, omega arith, refl) (path-wider library c cs a c q) (path-wider library c cs c b r))
    go (inr p) (inr q) r = inr (λ w. elim (path-split library c cs a b w) [ inl x ↦ p x | inr x ↦ q x.0 ])
    go (inr p) (inl q) (inr r) = inr (λ w. elim (path-split library c cs a b w) [ inl x ↦ p x | inr x ↦ r x.1 ])

pub reaches-only-next : (library : Library) (names : List (List ℕ)) (name next : List ℕ) → LeadsTo library name next → ReachesOnly library names name → ReachesOnly library names next
reaches-only-next library names name next l only other text r t = only other text (by_way_of l r) t

path-reaches : (library : Library) (mids : List (List ℕ)) (a b : List ℕ) → Path library mids a b → Reaches library a b
path-reaches library mids a b (edge l) = at_once l
path-reaches library mids a b (step {c} l h p) = by_way_of l (path-reaches library mids c b p)

pub begins : (library : Library) (a b : List ℕ) → Reaches library a b → (text : List ℕ) × (library a ≡ Some text)
begins library a b (at_once l) = (l.text, l.is_module.there)
begins library a b (by_way_of l r) = (l.text, l.is_module.there)

reaches-path : (library : Library) (mids : List (List ℕ)) (a b : List ℕ) → ReachesOnly library mids a → Reaches library a b → Path library mids a b
reaches-path library mids a b only (at_once l) = edge l
reaches-path library mids a b only (by_way_of {next = c} l r) =
    let at = begins library c b r in
    step l (only c at.0 (at_once l) at.1) (reaches-path library mids c b (reaches-only-next library mids a c l only) r)

-- what leads from a module that is reached is reached
pub reaches-step : (library : Library) (a b c : List ℕ) → Reaches library a b → LeadsTo library b c → Reaches library a c
reaches-step library a b c (at_once l) m = by_way_of l (at_once m)
reaches-step library a b c (by_way_of {next = d} l r) m = by_way_of l (reaches-step library d b c r m)

-- a module reaches another, or it doesn't
pub reaches-or-not : Known → (library : Library) (names : List (List ℕ)) (a b : List ℕ) → ReachesOnly library names a → Reaches library a b ⊎ ¬ Reaches library a b
reaches-or-not known library names a b only =
    elim (path-or-not known library names a b) [ inl p ↦ inl (path-reaches library names a b p) | inr p ↦ inr (λ r. p (reaches-path library names a b only r)) ]

-- ---- fewer names

abbrev pub without : List ℕ → List (List ℕ) → List (List ℕ)
without name names = filter (λ other. not (bytes_eq name other)) names

without-length : (name : List ℕ) (names : List (List ℕ)) → length (without name names) ≤ length names
without-length name [] = omega arith
without-length name (n ∷ ns) = go (bytes_eq name n) (without-length name ns)
  where
    go : (b : Bool) → length (without name ns) ≤ length ns → length (cond (not b) (n ∷ without name ns) (without name ns)) ≤ suc (length ns)
    go true h = omega arith
    go false h = omega arith

pub without-shorter : (name : List ℕ) (names : List (List ℕ)) → Contains names name → length (without name names) < length names
without-shorter name [] c = absurd (omega (arith, c.1))
without-shorter name (n ∷ ns) c = go (bytes_eq name n) refl (Contains-from_cons n ns name c) (without-length name ns) (without-shorter name ns)
  where
    go : (b : Bool) → bytes_eq name n ≡ b → (n ≡ name) ⊎ Contains ns name → length (without name ns) ≤ length ns → (Contains ns name → length (without name ns) < length ns)
        → length (cond (not b) (n ∷ without name ns) (without name ns)) < suc (length ns)
    go true e d h rest = omega arith
    go false e (inl s) h rest = absurd (false≢true (sym e ∙ names-same name n (sym s)))
    go false e (inr d) h rest = let f = rest d in omega arith

pub differ-not : (a b : List ℕ) → ¬ (a ≡ b) → not (bytes_eq a b) ≡ true
differ-not a b n = go (bytes_eq a b) refl
  where
    go : (c : Bool) → bytes_eq a b ≡ c → not c ≡ true
    go true e = absurd (n (names-eq a b e))
    go false e = refl

-- what a module that doesn't reach itself reaches is among the others
pub reaches-without : (library : Library) (names : List (List ℕ)) (name : List ℕ) → ¬ Reaches library name name → ReachesOnly library names name → ReachesOnly library (without name names) name
reaches-without library names name no' only other text r t =
    Contains-filter (λ other. not (bytes_eq name other)) names other (only other text r t) (differ-not name other (λ e. no' (subst (Reaches library name) (sym e) r)))
