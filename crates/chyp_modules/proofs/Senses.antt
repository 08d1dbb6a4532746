-- What names stand for is sound in every module.
use Rattle.std.proofs.Common.{ℕ, List, length}
use Rattle.std.proofs.lemmas.List.Elements.{All-nil}
use Rattle.chyp_syntax.specs.Words.{Word}
use Rattle.chyp_env.specs.Environment.{Binding}
use Rattle.chyp_env.specs.Site.{Imported, Site}
use Rattle.chyp_env.specs.Sound.{IsSound}
use Rattle.chyp_verdicts.proofs.Sound.{IsSoundImport, binds-sound}
use Rattle.chyp_modules.specs.Library.{Library}
use Rattle.chyp_modules.specs.Modules.{Makes, at_start, one_more, Stands, stands, Finds, no_import, of_none, of_cycle, of_module as found}
use Rattle.chyp_verdicts.proofs.Known.{Known}

mutual
  -- every environment that a module makes is sound
  pub makes-sound : (library : Library) → Known → (name : List ℕ) (number : ℕ) (env : List Binding) → Makes library name number env → IsSound env
  makes-sound library known name number env (at_start m) = record { each = All-nil _; distinct = tt }
  makes-sound library known name number env (one_more {number = k} {site = s} {verdict = v} st j x) =
      let sound = stands-sound library known name k s st in
      binds-sound known s k v env sound.0 sound.1 j x

  pub stands-sound : (library : Library) → Known → (name : List ℕ) (number : ℕ) (s : Site) → Stands library name number s → IsSound s.scope.env × IsSoundImport s.imported
  stands-sound library known name number s (stands h m e k f) = (makes-sound library known name number s.scope.env k, finds-sound library known s.scope.words s.imported f)

  pub finds-sound : (library : Library) → Known → (tokens : List Word) (i : Imported) → Finds library tokens i → IsSoundImport i
  finds-sound library known tokens i (no_import n) = tt
  finds-sound library known tokens i (of_none m e) = tt
  finds-sound library known tokens i (of_cycle m e r) = tt
  finds-sound library known tokens i (found {name} {statements} {env} m f r k) = makes-sound library known name (length statements) env k
