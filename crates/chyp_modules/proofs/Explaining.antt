-- What the verdicts of a module's statements say of its rewrites is so.
use Rattle.std.proofs.Common.{◌≡◌, ℕ, suc, ◌<◌, List, [], ◌∷◌, length, All, ◌⊎◌, inl, inr, sym, ◌∙◌, subst, arith}
use Rattle.std.specs.Prelude.{slice_index_or}
use Rattle.std.proofs.lemmas.List.Elements.{All-append, All-cons, All-contains, All-nil}
use Rattle.chyp_base.specs.declared.verdict.Verdict.{Verdict}
use Rattle.chyp_syntax.specs.Words.{Word}
use Rattle.chyp_env.specs.Environment.{Binding, Origin}
use Rattle.chyp_env.specs.Site.{Imported, Site, there}
use Rattle.chyp_names.specs.Binding.{Binds, again, anew, imports, nothing}
use Rattle.chyp_names.specs.Elaboration.{prefix_at}
use Rattle.chyp_env.proofs.Bindings.{import-all}
use Rattle.chyp_verdicts.proofs.Explaining.{AreInOrder, explained}
use Rattle.chyp_verdicts.proofs.Known.{Known}
use Rattle.chyp_modules.specs.Explained.{StandsBefore, VerdictsAreExplained}
use Rattle.chyp_modules.specs.Import.{Imports, LeadsTo, Reaches, at_once, by_way_of}
use Rattle.chyp_modules.specs.Library.{Library}
use Rattle.chyp_modules.specs.Modules.{Finds, Makes, Stands, at_start, no_import, of_cycle, of_module as found, of_none, one_more, standing, stands}
use Rattle.chyp_modules.proofs.Derived.{home-is, stands-derived}
use Rattle.chyp_modules.proofs.Once.{stands-unique}
use Rattle.chyp_modules.proofs.Senses.{stands-sound}

pub reaches-join : (library : Library) (a b c : List ℕ) → Reaches library a b → Reaches library b c → Reaches library a c
reaches-join library a b c (at_once l) m = by_way_of l m
reaches-join library a b c (by_way_of {next} l r) m = by_way_of l (reaches-join library next b c r m)

-- ---- origins of bindings

-- the binding is that of one of the first statements of the module, or its module is reached and doesn't reach itself
abbrev IsFrom : Library → List ℕ → ℕ → Binding → Type 0
IsFrom library name number b =
    ((b.origin.home ≡ name) × (b.origin.number < number)) ⊎ (Reaches library name b.origin.home × ¬ Reaches library b.origin.home b.origin.home)

-- its module is reached from a statement, and doesn't reach itself
abbrev IsBelow : Library → List ℕ → Binding → Type 0
IsBelow library name b = Reaches library name b.origin.home × ¬ Reaches library b.origin.home b.origin.home

abbrev AreImportsBelow : Library → List ℕ → Imported → Type 0
AreImportsBelow library name (there env) = All (IsBelow library name) env
AreImportsBelow library name _ = Unit {0}

later : (library : Library) (name : List ℕ) (number : ℕ) (b : Binding) → IsFrom library name number b → IsFrom library name (suc number) b
later library name number b (inl h) = inl (h.0, omega (arith, h.1))
later library name number b (inr h) = inr h

all-later : (library : Library) (name : List ℕ) (number : ℕ) (env : List Binding) → All (IsFrom library name number) env → All (IsFrom library name (suc number)) env
all-later library name number env all = λ k d h. later library name number (slice_index_or env k d) (all k d h)

-- what is imported from a module that a module leads to, and that doesn't reach itself, is below that one
below : (library : Library) (name next : List ℕ) (number : ℕ) (b : Binding) → LeadsTo library name next → ¬ Reaches library next next → IsFrom library next number b → IsBelow library name b
below library name next number b l straight (inl h) =
    (subst (Reaches library name) (sym h.0) (at_once l), λ r. straight (subst (λ (x : List ℕ). Reaches library x x) h.0 r))
below library name next number b l straight (inr h) = (by_way_of l h.0, h.1)

binds-from : (library : Library) (name : List ℕ) (n : ℕ) (s : Site) → s.home ≡ name → All (IsFrom library name n) s.scope.env → AreImportsBelow library name s.imported
    → (v : Verdict) (next : List Binding) → Binds s n v next → All (IsFrom library name (suc n)) next
binds-from library name n s home all i v next (nothing e o) = all-later library name n s.scope.env all
binds-from library name n s home all i v next (again e f) = all-later library name n s.scope.env all
binds-from library name n s home all i v next (anew {name = declared} {sense} e f x) =
    let b : Binding = record { name = declared; origin = record { home = s.home; number = n }; sense = sense } in
    All-append (IsFrom library name (suc n)) s.scope.env (b ∷ []) (all-later library name n s.scope.env all)
    (All-cons (IsFrom library name (suc n)) b [] (inl (home, omega arith)) (All-nil _))
binds-from library name n s home all i v next (imports {as_word} {env} f t e) =
    import-all (IsFrom library name (suc n)) s.scope.env env (prefix_at s.scope as_word) (λ b x. x) (all-later library name n s.scope.env all)
    (all-below env (subst (AreImportsBelow library name) e i))
  where
    all-below : (env : List Binding) → All (IsBelow library name) env → All (IsFrom library name (suc n)) env
    all-below env all = λ k d h. inr (all k d h)

mutual
  makes-from : (library : Library) (name : List ℕ) (number : ℕ) (env : List Binding) → Makes library name number env → All (IsFrom library name number) env
  makes-from library name number env (at_start m) = All-nil _
  makes-from library name number env (one_more {number = k} {site = s} {verdict = v} st j x) =
      let before = stands-from library name k s st in
      binds-from library name k s (home-is library name k s st) before.0 before.1 v env x

  stands-from : (library : Library) (name : List ℕ) (number : ℕ) (s : Site) → Stands library name number s
      → All (IsFrom library name number) s.scope.env × AreImportsBelow library name s.imported
  stands-from library name number s (stands {text} {statements} h m e k f) = (
    makes-from library name number s.scope.env k,
    finds-below library name s.scope.words s.imported
        (λ other i. record { text = text; statements = statements; is_module = m; number = number; words = s.scope.words; here = e; imports = i }) f,
  )

  finds-below : (library : Library) (name : List ℕ) (words : List Word) (i : Imported) → ((other : List ℕ) → Imports words other → LeadsTo library name other) → Finds library words i
      → AreImportsBelow library name i
  finds-below library name words i leads (no_import n) = tt
  finds-below library name words i leads (of_none m e) = tt
  finds-below library name words i leads (of_cycle m e r) = tt
  finds-below library name words i leads (found {name = other} {statements} {env} m f straight k) =
      λ j d h. below library name other (length statements) (slice_index_or env j d) (leads other m) straight (makes-from library other (length statements) env k j d h)

-- ---- the order of statements

from-before : (library : Library) (o : Origin) (b : Binding) → IsFrom library o.home o.number b → StandsBefore library b.origin o
from-before library o b (inl h) = inl h
from-before library o b (inr h) = inr (h.0, λ back. h.1 (reaches-join library b.origin.home o.home b.origin.home back h.0))

before-chain : (library : Library) (o p q : Origin) → StandsBefore library o p → StandsBefore library p q → StandsBefore library o q
before-chain library o p q (inl a) (inl b) = inl (a.0 ∙ b.0, omega (arith, a.1, b.1))
before-chain library o p q (inl a) (inr b) =
    inr (subst (Reaches library q.home) (sym a.0) b.0, λ r. b.1 (subst (λ (x : List ℕ). Reaches library x q.home) a.0 r))
before-chain library o p q (inr a) (inl b) =
    inr (subst (λ (x : List ℕ). Reaches library x o.home) b.0 a.0, λ r. a.1 (subst (Reaches library o.home) (sym b.0) r))
before-chain library o p q (inr a) (inr b) =
    inr (reaches-join library q.home p.home o.home b.0 a.0, λ r. a.1 (reaches-join library o.home q.home p.home r b.0))

in-order : Known → (library : Library) → AreInOrder (standing library) (StandsBefore library)
in-order known library = record {
  sound = λ o s st. (stands-sound library known o.home o.number s st).0;
  laws = λ o s st. (stands-derived library known o.home o.number s st).0;
  one = λ o s t a b. stands-unique library known o.home o.number s t a b;
  cited = λ o s b st has. from-before library o b (All-contains (IsFrom library o.home o.number) s.scope.env b (stands-from library o.home o.number s st).0 has);
  chain = before-chain library;
}

-- what the verdicts of a module's statements say is so
pub verdicts-explained : Known → VerdictsAreExplained
verdicts-explained known library name verdicts are number verdict at =
    explained known (standing library) (StandsBefore library) (in-order known library) (record { home = name; number = number }) verdict (are.each number verdict at)
