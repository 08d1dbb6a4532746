-- What modules make depends on the texts of the modules that they reach, and on no other.
use Rattle.std.proofs.Common.{◌≡◌, ℕ, Bool, true, false, cond, List, [], ◌∷◌, length, map, Some, None, All, ◌⊎◌, inl, inr, refl, sym, ◌∙◌, ap, subst, arith}
use Rattle.std.specs.Prelude.{Contains, find}
use Rattle.std.specs.Option.{option_map_or}
use Rattle.std.specs.Str.{bytes_eq}
use Rattle.std.proofs.lemmas.Bool.{false≢true}
use Rattle.std.proofs.lemmas.List.Elements.{All-head, All-tail}
use Rattle.chyp_base.specs.declared.verdict.Verdict.{Verdict}
use Rattle.chyp_syntax.specs.Words.{Word}
use Rattle.chyp_env.specs.Environment.{Binding}
use Rattle.chyp_env.specs.Site.{Imported, Site}
use Rattle.chyp_verdicts.specs.Standing.{Gets}
use Rattle.chyp_env.proofs.Bindings.{Contains-cons, Contains-from_cons, names-eq, names-same}
use Rattle.chyp_modules.specs.Checking.{AreAllWanted, AreWanted, HasChecks, HaveStatements, IsWanted, of_more, of_none}
use Rattle.chyp_modules.specs.Import.{Imports, LeadsTo, Reaches, at_once, by_way_of}
use Rattle.chyp_modules.specs.Library.{IsModule, Library, Module, library_of, with_main}
use Rattle.chyp_modules.specs.Modules.{AreVerdicts, Finds, Makes, Stands, at_start, no_import, of_cycle, of_module as found, of_none as absent, one_more, standing, stands}

-- both libraries have the same text of this module, and of each that it reaches in the one
pub record AgreeFrom (one other : Library) (name : List ℕ) : Type 0 where
  pub here : one name ≡ other name
  pub below : (next : List ℕ) → Reaches one name next → one next ≡ other next

-- ---- which modules are reached

module-agrees : (one other : Library) (name text : List ℕ) (ss : List (List Word)) → one name ≡ other name → IsModule one name text ss → IsModule other name text ss
module-agrees one other name text ss e m = record { there = sym e ∙ m.there; are = m.are }

leads-agrees : (one other : Library) (name next : List ℕ) → one name ≡ other name → LeadsTo one name next → LeadsTo other name next
leads-agrees one other name next e l = record {
  text = l.text;
  statements = l.statements;
  is_module = module-agrees one other name l.text l.statements e l.is_module;
  number = l.number;
  words = l.words;
  here = l.here;
  imports = l.imports;
}

-- so do they from a module that it leads to
agree-next : (one other : Library) (name next : List ℕ) → AgreeFrom one other name → LeadsTo one name next → AgreeFrom one other next
agree-next one other name next agree l = record { here = agree.below next (at_once l); below = λ far r. agree.below far (by_way_of l r) }

-- the same modules are reached in both
pub reaches-agrees : (one other : Library) (name next : List ℕ) → AgreeFrom one other name → Reaches one name next → Reaches other name next
reaches-agrees one other name next agree (at_once l) = at_once (leads-agrees one other name next agree.here l)
reaches-agrees one other name next agree (by_way_of {next = mid} l r) =
    by_way_of (leads-agrees one other name mid agree.here l) (reaches-agrees one other mid next (agree-next one other name mid agree l) r)

pub reaches-agreed : (one other : Library) (name next : List ℕ) → AgreeFrom one other name → Reaches other name next → Reaches one name next
reaches-agreed one other name next agree (at_once l) = at_once (leads-agrees other one name next (sym agree.here) l)
reaches-agreed one other name next agree (by_way_of {next = mid} l r) =
    let back = leads-agrees other one name mid (sym agree.here) l in
    by_way_of back (reaches-agreed one other mid next (agree-next one other name mid agree back) r)

-- so the other agrees with the one
pub agree-back : (one other : Library) (name : List ℕ) → AgreeFrom one other name → AgreeFrom other one name
agree-back one other name agree = record { here = sym agree.here; below = λ next r. sym (agree.below next (reaches-agreed one other name next agree r)) }

-- libraries with one main text agree from there, where they have the same texts of the modules that it reaches
pub agree-main : (one other : Library) (text : List ℕ) → ((name : List ℕ) → Reaches (with_main one text) [] name → one name ≡ other name)
    → AgreeFrom (with_main one text) (with_main other text) []
agree-main one other text each = record { here = refl; below = λ next r. go next r }
  where
    go : (next : List ℕ) → Reaches (with_main one text) [] next → with_main one text next ≡ with_main other text next
    go [] r = refl
    go (byte ∷ name) r = each (byte ∷ name) r

-- ---- environments and verdicts

-- they agree from each module that the statement imports
abbrev AgreeOnImport : Library → Library → List Word → Type 0
AgreeOnImport one other words = (name : List ℕ) → Imports words name → AgreeFrom one other name

mutual
  makes-agrees : (one other : Library) (name : List ℕ) (number : ℕ) (env : List Binding) → AgreeFrom one other name → Makes one name number env → Makes other name number env
  makes-agrees one other name number env agree (at_start {text} {statements} m) = at_start (module-agrees one other name text statements agree.here m)
  makes-agrees one other name number env agree (one_more {number = k} {site} st j x) = one_more (stands-agrees one other name k site agree st) j x

  pub stands-agrees : (one other : Library) (name : List ℕ) (number : ℕ) (s : Site) → AgreeFrom one other name → Stands one name number s → Stands other name number s
  stands-agrees one other name number s agree (stands {text} {statements} h m e k f) =
      stands h (module-agrees one other name text statements agree.here m) e (makes-agrees one other name number s.scope.env agree k)
      (finds-agrees one other s.scope.words s.imported
      (λ next i. agree-next one other name next agree (record { text = text; statements = statements; is_module = m; number = number; words = s.scope.words; here = e; imports = i })) f)

  finds-agrees : (one other : Library) (words : List Word) (i : Imported) → AgreeOnImport one other words → Finds one words i → Finds other words i
  finds-agrees one other words i agree (no_import n) = no_import n
  finds-agrees one other words i agree (absent {name} m e) = absent m (sym (agree name m).here ∙ e)
  finds-agrees one other words i agree (of_cycle {name} m e r) = of_cycle m (sym (agree name m).here ∙ e) (reaches-agrees one other name name (agree name m) r)
  finds-agrees one other words i agree (found {name} {whole} {statements} {env} m f r k) =
      let mine = agree name m in
      found m (module-agrees one other name whole statements mine.here f) (λ c. r (reaches-agreed one other name name mine c))
      (makes-agrees one other name (length statements) env mine k)

gets-agrees : (one other : Library) (name : List ℕ) (number : ℕ) (v : Verdict) → AgreeFrom one other name
    → Gets (standing one) (record { home = name; number = number }) v → Gets (standing other) (record { home = name; number = number }) v
gets-agrees one other name number v agree g = record { site = g.site; stands = stands-agrees one other name number g.site agree g.stands; judged = g.judged }

-- the statements of the module get the same verdicts in both
pub verdicts-agree : (one other : Library) (name : List ℕ) (verdicts : List Verdict) → AgreeFrom one other name → AreVerdicts one name verdicts → AreVerdicts other name verdicts
verdicts-agree one other name verdicts agree are = record {
  text = are.text;
  statements = are.statements;
  is_module = module-agrees one other name are.text are.statements agree.here are.is_module;
  many = are.many;
  each = λ number v e. gets-agrees one other name number v agree (are.each number v e);
}

-- ---- wanted modules

-- the same modules are wanted in both
pub wanted-agrees : (one other : Library) (name text : List ℕ) → AgreeFrom one other [] → IsWanted one name text → IsWanted other name text
wanted-agrees one other name text agree w = record { reached = reaches-agrees one other [] name agree w.reached; there = sym (agree.below name w.reached) ∙ w.there }

pub are-wanted-agree : (one other : Library) (names : List (List ℕ)) → AgreeFrom one other [] → AreWanted one names → AreWanted other names
are-wanted-agree one other names agree w = record { distinct = w.distinct; each = λ name c. let q = w.each name c in (q.0, wanted-agrees one other name q.0 agree q.1) }

pub all-wanted-agree : (one other : Library) (names : List (List ℕ)) → AgreeFrom one other [] → AreAllWanted one names → AreAllWanted other names
all-wanted-agree one other names agree w =
    (are-wanted-agree one other names agree w.0, λ name text q. w.1 name text (wanted-agrees other one name text (agree-back one other [] agree) q))

-- modules whose texts are the same have as many statements in both
pub have-statements-agree : (one other : Library) (names : List (List ℕ)) (n : ℕ) → ((name : List ℕ) → Contains names name → one name ≡ other name)
    → HaveStatements one names n → HaveStatements other names n
have-statements-agree one other names n each of_none = of_none
have-statements-agree one other names n each (of_more {name} {text} {statements} {names = rest} {n = m} is h) =
    of_more (module-agrees one other name text statements (each name (0, omega arith, refl)) is)
    (have-statements-agree one other rest m (λ next c. each next (Contains-cons name rest next c)) h)

-- so have the main text and modules that are wanted
pub wanted-statements-agree : (one other : Library) (names : List (List ℕ)) (n : ℕ) → AgreeFrom one other [] → AreWanted one names → HaveStatements one ([] ∷ names) n
    → HaveStatements other ([] ∷ names) n
wanted-statements-agree one other names n agree w h =
    have-statements-agree one other ([] ∷ names) n (λ name c. each name (Contains-from_cons [] names name c)) h
  where
    each : (name : List ℕ) → ([] ≡ name) ⊎ Contains names name → one name ≡ other name
    each name (inl e) = subst (λ x. one x ≡ other x) e agree.here
    each name (inr i) = agree.below name (w.each name i).1.reached

-- as many statements are checked in both
pub checks-agree : (one other : Library) (checks : ℕ) → AgreeFrom one other [] → HasChecks one checks → HasChecks other checks
checks-agree one other checks agree h = record {
  names = h.names;
  wanted = all-wanted-agree one other h.names agree h.wanted;
  have = wanted-statements-agree one other h.names checks agree h.wanted.0 h.have;
}

-- ---- finite libraries

-- a library made of modules as another tells them agrees with that on each name among them
pub listed-agrees : (modules : List Module) (other : Library) → All (λ (m : Module). m.1 ≡ other m.0) modules → (name : List ℕ) → Contains (map (λ (m : Module). m.0) modules) name
    → library_of modules name ≡ other name
listed-agrees [] other told name c = absurd (omega (arith, c.1))
listed-agrees (m ∷ ms) other told name c =
    go (bytes_eq name m.0) refl (listed-agrees ms other (All-tail (λ (m : Module). m.1 ≡ other m.0) m ms told) name) (Contains-from_cons m.0 (map (λ (m : Module). m.0) ms) name c)
  where
    go : (b : Bool) → bytes_eq name m.0 ≡ b → (Contains (map (λ (m : Module). m.0) ms) name → library_of ms name ≡ other name)
        → (m.0 ≡ name) ⊎ Contains (map (λ (m : Module). m.0) ms) name
        → option_map_or (λ (x : Module). x.1) (cond b (Some m) (find (λ (x : Module). bytes_eq name x.0) ms)) None ≡ other name
    go true e rest d = All-head (λ (m : Module). m.1 ≡ other m.0) m ms told ∙ ap other (sym (names-eq name m.0 e))
    go false e rest (inl s) = absurd (false≢true (sym e ∙ names-same name m.0 (sym s)))
    go false e rest (inr d) = rest d

-- names among which are all that the main text and they lead to have all that the main text reaches
pub closed-reached : (library : Library) (names : List (List ℕ)) → ((from other : List ℕ) → Contains ([] ∷ names) from → LeadsTo library from other → Contains names other)
    → (name : List ℕ) → Reaches library [] name → Contains names name
closed-reached library names closed name r = go [] (0, omega arith, refl) name r
  where
    go : (from : List ℕ) → Contains ([] ∷ names) from → (name : List ℕ) → Reaches library from name → Contains names name
    go from c name (at_once l) = closed from name c l
    go from c name (by_way_of {next} l r) = go next (Contains-cons [] names next (closed from next c l)) name r
