-- Each module has exactly one environment and one list of verdicts.
use Rattle.std.proofs.Common.{◌≡◌, ℕ, Bool, true, false, cond, List, [], ◌∷◌, ◌++◌, length, map, Some, None, refl, sym, ◌∙◌, ap, subst, arith}
use Rattle.std.specs.Prelude.{Contains, find}
use Rattle.std.specs.Option.{option_map_or}
use Rattle.std.specs.Str.{bytes_eq}
use Rattle.chyp_base.specs.declared.verdict.Verdict.{Verdict}
use Rattle.chyp_syntax.specs.Words.{Word}
use Rattle.chyp_env.specs.Environment.{Binding}
use Rattle.chyp_env.specs.Site.{Site}
use Rattle.chyp_modules.specs.Library.{Library, IsModule, Module, library_of, with_main}
use Rattle.chyp_verdicts.specs.Judged.{IsJudged}
use Rattle.chyp_modules.specs.Modules.{Makes, at_start, one_more, Stands, stands, standing}
use Rattle.chyp_modules.specs.Laws.{HasOneEnvironment, HasOneListOfVerdicts, ModulesAreDetermined, TextsAreDetermined, ReachesFinitelyMany}
use Rattle.chyp_env.proofs.Bindings.{Contains-cons, names-eq}
use Rattle.chyp_verdicts.proofs.Known.{Known}
use Rattle.chyp_verdicts.proofs.OneVerdict.{judged-once}
use Rattle.chyp_verdicts.proofs.Texts.{HaveVerdicts, list-same, no-verdicts, push-verdict}
use Rattle.chyp_verdicts.specs.Standing.{Gets}
use Rattle.chyp_modules.proofs.Once.{makes-unique, module-unique, stands-unique}
use Rattle.chyp_modules.proofs.Exist.{SomeEnv, some-module}
use Rattle.chyp_modules.proofs.Reaching.{statements-there}

-- ---- verdicts of the statements that make an environment

record SomeVerdicts (library : Library) (name : List ℕ) (number : ℕ) : Type 0 where
  verdicts : List Verdict
  have : HaveVerdicts (standing library) name number verdicts

mutual
  makes-verdicts : (library : Library) (name : List ℕ) (number : ℕ) (env : List Binding) → Makes library name number env → SomeVerdicts library name number
  makes-verdicts library name number env (at_start m) = record { verdicts = []; have = no-verdicts (standing library) name }
  makes-verdicts library name number env (one_more {number = k} {site = s} {verdict = v} st j x) =
      let front = stands-verdicts library name k s st in
      record { verdicts = front.verdicts ++ v ∷ []; have = push-verdict (standing library) name k front.verdicts v front.have (record { site = s; stands = st; judged = j }) }

  stands-verdicts : (library : Library) (name : List ℕ) (number : ℕ) (s : Site) → Stands library name number s → SomeVerdicts library name number
  stands-verdicts library name number s (stands h m e k f) = makes-verdicts library name number s.scope.env k

gets-once : (library : Library) → Known → (name : List ℕ) (number : ℕ) (v w : Verdict)
    → Gets (standing library) (record { home = name; number = number }) v → Gets (standing library) (record { home = name; number = number }) w → v ≡ w
gets-once library known name number v w a b =
    let same = stands-unique library known name number a.site b.site a.stands b.stands in
    judged-once known a.site v w a.judged (subst (λ p. IsJudged p w) (sym same) b.judged)

-- ---- modules

one-environment : (library : Library) → Known → (name text : List ℕ) (ss : List (List Word)) → IsModule library name text ss
    → SomeEnv (Makes library name (length ss)) → HasOneEnvironment library name
one-environment library known name text ss m some = record {
  env = some.env;
  has = record { text = text; statements = ss; is_module = m; makes = some.is };
  only = λ other h.
      let same = module-unique known library name h.text text h.statements ss h.is_module m in
      makes-unique library known name (length ss) other some.env (subst (λ (x : List (List Word)). Makes library name (length x) other) same.1 h.makes) some.is;
}

one-list : (library : Library) → Known → (name text : List ℕ) (ss : List (List Word)) → IsModule library name text ss
    → SomeEnv (Makes library name (length ss)) → HasOneListOfVerdicts library name
one-list library known name text ss m some =
    let all = makes-verdicts library name (length ss) some.env some.is in
    record {
      verdicts = all.verdicts;
      are = record { text = text; statements = ss; is_module = m; many = all.have.many; each = all.have.each };
      only = λ others are.
          let same = module-unique known library name are.text text are.statements ss are.is_module m in
          list-same others all.verdicts (are.many ∙ ap length same.1 ∙ sym all.have.many) (λ k v w e f. gets-once library known name k v w (are.each k v e) (all.have.each k w f));
    }

-- each module that is there and reaches finitely many has exactly one environment and one list of verdicts
pub modules-determined : Known → ModulesAreDetermined
modules-determined known library name text there finite =
    let ss = statements-there known text in
    let m : IsModule library name text ss.0 = record { there = there; are = ss.1 } in
    let made = some-module library known (length finite.0) finite.0 (omega arith) name text ss.0 m finite.1 in
    (one-environment library known name text ss.0 m made, one-list library known name text ss.0 m made)

-- ---- finite libraries

find-name : (modules : List Module) (name text : List ℕ) → library_of modules name ≡ Some text → Contains (map (λ (m : Module). m.0) modules) name
find-name [] name text e = absurd cc
find-name (m ∷ ms) name text e = go (bytes_eq name m.0) refl e (find-name ms name text)
  where
    go : (b : Bool) → bytes_eq name m.0 ≡ b → option_map_or (λ (x : Module). x.1) (cond b (Some m) (find (λ (x : Module). bytes_eq name x.0) ms)) None ≡ Some text
        → (library_of ms name ≡ Some text → Contains (map (λ (x : Module). x.0) ms) name) → Contains (map (λ (x : Module). x.0) (m ∷ ms)) name
    go true h f rest = (0, omega arith, sym (names-eq name m.0 h))
    go false h f rest = Contains-cons m.0 (map (λ (x : Module). x.0) ms) name (rest f)

-- a library of finitely many modules, with a main text, reaches finitely many
pub library-finite : (modules : List Module) (text name : List ℕ) → ReachesFinitelyMany (with_main (library_of modules) text) name
library-finite modules text name = ([] ∷ map (λ (m : Module). m.0) modules, λ other whole r t. go other whole t)
  where
    go : (other whole : List ℕ) → with_main (library_of modules) text other ≡ Some whole → Contains ([] ∷ map (λ (m : Module). m.0) modules) other
    go [] whole t = (0, omega arith, refl)
    go (c ∷ cs) whole t = Contains-cons [] (map (λ (m : Module). m.0) modules) (c ∷ cs) (find-name modules (c ∷ cs) whole t)

-- so each main text over finitely many modules has exactly one list of verdicts
pub texts-determined : Known → TextsAreDetermined
texts-determined known modules text = modules-determined known (with_main (library_of modules) text) [] text refl (library-finite modules text [])
