-- Where modules import one another without end and in no cycle, none of them makes an environment.
use Rattle.std.proofs.Common.{◌≡◌, ℕ, suc, ◌<◌, ◌≤◌, List, length, slice_get, ◌⊎◌, inl, inr, refl, sym, ◌∙◌, ap, subst, arith}
use Rattle.std.proofs.lemmas.Bool.{cases_lt}
use Rattle.chyp_syntax.specs.Words.{Word}
use Rattle.chyp_env.specs.Environment.{Binding}
use Rattle.chyp_env.specs.Site.{Imported, Site}
use Rattle.chyp_verdicts.proofs.OneVerdict.{some-once, none-some, slice_get-read}
use Rattle.chyp_modules.specs.Library.{Library, IsModule}
use Rattle.chyp_modules.specs.Import.{Imports, LeadsTo, Reaches}
use Rattle.chyp_modules.specs.Modules.{Makes, at_start, one_more, Stands, stands, Finds, no_import, of_none, of_cycle, of_module, HasEnvironment}
use Rattle.chyp_verdicts.proofs.Known.{Known}
use Rattle.chyp_modules.proofs.Once.{imports-unique, imports-not-nothing, module-unique}

-- each of the modules imports the next, and none reaches itself
pub record IsEndless (library : Library) (chain : ℕ → List ℕ) : Type 0 where
  pub leads : (k : ℕ) → LeadsTo library (chain k) (chain (suc k))
  pub straight : (k : ℕ) → ¬ Reaches library (chain k) (chain k)

mutual
  makes-never : (library : Library) → Known → (chain : ℕ → List ℕ) → (e : IsEndless library chain) → (name : List ℕ) (number : ℕ) (env : List Binding)
      → Makes library name number env → (k : ℕ) → name ≡ chain k → (e.leads k).number < number → ⊥
  makes-never library known chain e name number env (at_start m) k n h = absurd (omega arith)
  makes-never library known chain e name number env (one_more {number = j} {site = s} st jd x) k n h = stands-never library known chain e name j s st k n (omega arith)

  stands-never : (library : Library) → Known → (chain : ℕ → List ℕ) → (e : IsEndless library chain) → (name : List ℕ) (number : ℕ) (s : Site) → Stands library name number s
      → (k : ℕ) → name ≡ chain k → (e.leads k).number ≤ number → ⊥
  stands-never library known chain e name number s (stands {text} {statements} h m at b f) k n l =
      go (cases_lt (e.leads k).number number) (makes-never library known chain e name number s.scope.env b k n) (λ is. finds-never library known chain e s.scope.words s.imported f k is)
    where
      imports-next : (e.leads k).number ≡ number → Imports s.scope.words (chain (suc k))
      imports-next same =
          let lead = e.leads k in
          let both = module-unique known library (chain k) lead.text text lead.statements statements lead.is_module (subst (λ x. IsModule library x text statements) n m) in
          let tokens = some-once (slice_get statements number) lead.words s.scope.words (ap (λ x. slice_get x number) (sym both.1) ∙ ap (slice_get lead.statements) (sym same) ∙ lead.here) at in
          subst (λ t. Imports t (chain (suc k))) tokens lead.imports

      go : ((e.leads k).number < number) ⊎ (number ≤ (e.leads k).number) → ((e.leads k).number < number → ⊥) → (Imports s.scope.words (chain (suc k)) → ⊥) → ⊥
      go (inl less) before here = before less
      go (inr more) before here = here (imports-next (omega arith))

  finds-never : (library : Library) → Known → (chain : ℕ → List ℕ) → (e : IsEndless library chain) → (tokens : List Word) (i : Imported)
      → Finds library tokens i → (k : ℕ) → Imports tokens (chain (suc k)) → ⊥
  finds-never library known chain e tokens i (no_import none) k is = imports-not-nothing tokens (chain (suc k)) none is
  finds-never library known chain e tokens i (of_none {name} m x) k is =
      none-some (library (chain (suc k))) (e.leads (suc k)).text (ap library (imports-unique known tokens (chain (suc k)) name is m) ∙ x) (e.leads (suc k)).is_module.there
  finds-never library known chain e tokens i (of_cycle {name} m x r) k is =
      e.straight (suc k) (subst (λ y. Reaches library y y) (sym (imports-unique known tokens (chain (suc k)) name is m)) r)
  finds-never library known chain e tokens i (of_module {name} {whole} {statements} {env} m x r b) k is =
      let names = sym (imports-unique known tokens (chain (suc k)) name is m) in
      let lead = e.leads (suc k) in
      let same = module-unique known library (chain (suc k)) lead.text whole lead.statements statements lead.is_module (subst (λ y. IsModule library y whole statements) names x) in
      let within = (slice_get-read lead.statements lead.number lead.words lead.here).0 in
      let lengths : length lead.statements ≡ length statements = ap length same.1 in
      makes-never library known chain e name (length statements) env b (suc k) names (omega arith)

-- no module of such a chain has an environment
pub endless-none : (library : Library) → Known → (chain : ℕ → List ℕ) → IsEndless library chain → (env : List Binding) → ¬ HasEnvironment library (chain 0) env
endless-none library known chain e env h =
    let lead = e.leads 0 in
    let same = module-unique known library (chain 0) lead.text h.text lead.statements h.statements lead.is_module h.is_module in
    let within = (slice_get-read lead.statements lead.number lead.words lead.here).0 in
    let lengths : length lead.statements ≡ length h.statements = ap length same.1 in
    makes-never library known chain e (chain 0) (length h.statements) env h.makes 0 refl (omega arith)
