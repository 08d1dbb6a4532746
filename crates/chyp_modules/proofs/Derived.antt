-- Proved rewrites have derivations from the rules that are permitted to them.
use Rattle.std.proofs.Common.{◌≡◌, ℕ, List, length, sym, subst}
use Rattle.std.proofs.lemmas.List.Elements.{All-nil}
use Rattle.chyp_syntax.specs.Words.{Word}
use Rattle.chyp_env.specs.Environment.{Binding}
use Rattle.chyp_env.specs.Site.{Imported, Site}
use Rattle.chyp_verdicts.proofs.Derived.{AreImportsDerived, AreEquationsDerived, binds-derived, rewrite-derived}
use Rattle.chyp_verdicts.proofs.Known.{Known}
use Rattle.chyp_modules.specs.Library.{Library}
use Rattle.chyp_modules.specs.Laws.{ProvedRewritesAreDerived}
use Rattle.chyp_modules.specs.Modules.{Makes, at_start, one_more, Stands, stands, Finds, no_import, of_none, of_cycle, of_module as found, standing}
use Rattle.chyp_modules.proofs.Senses.{stands-sound}

pub home-is : (library : Library) (name : List ℕ) (number : ℕ) (s : Site) → Stands library name number s → s.home ≡ name
home-is library name number s (stands h m e k f) = h

mutual
  -- every equation of an environment is derived from rules on which its origin rests
  pub makes-derived : (library : Library) → Known → (name : List ℕ) (number : ℕ) (env : List Binding) → Makes library name number env → AreEquationsDerived (standing library) env
  makes-derived library known name number env (at_start m) = All-nil _
  makes-derived library known name number env (one_more {number = k} {site = s} {verdict = v} st j x) =
      let laws = stands-derived library known name k s st in
      let here : Stands library s.home k s = subst (λ h. Stands library h k s) (sym (home-is library name k s st)) st in
      binds-derived (standing library) known k s here (stands-sound library known name k s st).0 laws.0 laws.1 v env j x

  pub stands-derived : (library : Library) → Known → (name : List ℕ) (number : ℕ) (s : Site) → Stands library name number s
      → AreEquationsDerived (standing library) s.scope.env × AreImportsDerived (standing library) s.imported
  stands-derived library known name number s (stands h m e k f) = (makes-derived library known name number s.scope.env k, finds-derived library known s.scope.words s.imported f)

  finds-derived : (library : Library) → Known → (tokens : List Word) (i : Imported) → Finds library tokens i → AreImportsDerived (standing library) i
  finds-derived library known tokens i (no_import n) = tt
  finds-derived library known tokens i (of_none m e) = tt
  finds-derived library known tokens i (of_cycle m e r) = tt
  finds-derived library known tokens i (found {name} {statements} {env} m f r k) = makes-derived library known name (length statements) env k

-- a rewrite that is proved is derived from the rules that are permitted to it
pub proved-derived : Known → ProvedRewritesAreDerived
proved-derived known library home number site st j first last is =
    rewrite-derived (standing library) known (record { home = home; number = number }) site st (stands-sound library known home number site st).0
    (stands-derived library known home number site st).0 j first last is
