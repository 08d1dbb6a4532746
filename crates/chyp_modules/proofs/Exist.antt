-- Each module that reaches finitely many has an environment, and each of its statements a verdict.
use Rattle.std.proofs.Common.{◌≡◌, ℕ, zero, suc, ◌<◌, ◌≤◌, List, [], length, Option, Some, None, slice_get, ◌⊎◌, inl, inr, refl, sym, subst, arith}
use Rattle.chyp_syntax.specs.Sentence.{IsSentence}
use Rattle.chyp_syntax.specs.Statement.{inclusion}
use Rattle.chyp_syntax.specs.Words.{Word}
use Rattle.chyp_env.specs.Environment.{Binding}
use Rattle.chyp_env.specs.Site.{Imported, nothing, absent, on_cycle, there, Site}
use Rattle.chyp_verdicts.proofs.SomeVerdict.{some-verdict}
use Rattle.chyp_modules.specs.Library.{Library, IsModule}
use Rattle.chyp_modules.specs.Import.{ImportsNothing, LeadsTo, Reaches, at_once}
use Rattle.chyp_modules.specs.Modules.{Makes, at_start, one_more, Stands, stands, Finds, no_import, of_none, of_cycle, of_module as found}
use Rattle.chyp_modules.specs.Laws.{ReachesOnly}
use Rattle.chyp_verdicts.proofs.Known.{Known}
use Rattle.chyp_verdicts.proofs.Sites.{some-binds}
use Rattle.chyp_env.specs.Site.{IsImportState, no_import as alone, an_import}
use Rattle.chyp_modules.proofs.Reaching.{SomeImport, import-or-not, reaches-only-next, reaches-or-not, reaches-without, statements-there, without, without-shorter}
use Rattle.chyp_modules.proofs.Senses.{makes-sound}
use Rattle.chyp_term.proofs.Permuted.{found as get-there}

-- an environment for which this holds
pub record SomeEnv (P : List Binding → Type 0) : Type 0 where
  pub env : List Binding
  pub is : P env

-- what is found is imported by an import
pub import-state : (library : Library) (s : Site) → Finds library s.scope.words s.imported → IsImportState s
import-state library s f = go s.scope.words s.imported refl refl f
  where
    go : (words : List Word) (i : Imported) → words ≡ s.scope.words → i ≡ s.imported → Finds library words i → IsImportState s
    go words i w e (no_import m) = alone (sym e)
    go words i w e (of_none m y) = an_import (subst (λ t. IsSentence t (inclusion m.word m.as_word)) w m.is_sentence)
    go words i w e (of_cycle m y r) = an_import (subst (λ t. IsSentence t (inclusion m.word m.as_word)) w m.is_sentence)
    go words i w e (found m y r k) = an_import (subst (λ t. IsSentence t (inclusion m.word m.as_word)) w m.is_sentence)

-- ---- modules

-- what a module leads to, where it doesn't reach itself, makes an environment
abbrev HasBelow : Library → List ℕ → Type 0
HasBelow library name = (other text : List ℕ) (ss : List (List Word)) → LeadsTo library name other → IsModule library other text ss → ¬ Reaches library other other
    → SomeEnv (Makes library other (length ss))

abbrev IsDecidedBelow : Library → List ℕ → Type 0
IsDecidedBelow library name = (other : List ℕ) → LeadsTo library name other → Reaches library other other ⊎ ¬ Reaches library other other

record SomeFind (library : Library) (tokens : List Word) : Type 0 where
  imported : Imported
  finds : Finds library tokens imported

some-find : (library : Library) → Known → (name text : List ℕ) (ss : List (List Word)) → IsModule library name text ss → HasBelow library name → IsDecidedBelow library name
    → (k : ℕ) (tokens : List Word) → slice_get ss k ≡ Some tokens → SomeFind library tokens
some-find library known name text ss m below decided k tokens at = go (import-or-not known tokens)
  where
    go : SomeImport tokens ⊎ ImportsNothing tokens → SomeFind library tokens
    go (inr n) = record { imported = nothing; finds = no_import n }
    go (inl i) = texts (library i.name) refl
      where
        leads : LeadsTo library name i.name
        leads = record { text = text; statements = ss; is_module = m; number = k; words = tokens; here = at; imports = i.imports }

        cycle : (whole : List ℕ) → library i.name ≡ Some whole → Reaches library i.name i.name ⊎ ¬ Reaches library i.name i.name → SomeFind library tokens
        cycle whole e (inl r) = record { imported = on_cycle; finds = of_cycle i.imports e r }
        cycle whole e (inr r) =
            let rs = statements-there known whole in
            let other : IsModule library i.name whole rs.0 = record { there = e; are = rs.1 } in
            let made = below i.name whole rs.0 leads other r in
            record { imported = there made.env; finds = found i.imports other r made.is }

        texts : (o : Option (List ℕ)) → library i.name ≡ o → SomeFind library tokens
        texts None e = record { imported = absent; finds = of_none i.imports e }
        texts (Some whole) e = cycle whole e (decided i.name leads)

-- a statement of a module has its site, where the statements before it make an environment
record SomeSite (library : Library) (name : List ℕ) (k : ℕ) : Type 0 where
  site : Site
  stands : Stands library name k site

some-site : (library : Library) → Known → (name text : List ℕ) (ss : List (List Word)) → IsModule library name text ss → HasBelow library name → IsDecidedBelow library name
    → (k : ℕ) → k < length ss → SomeEnv (Makes library name k) → SomeSite library name k
some-site library known name text ss m below decided k h before =
    let at = get-there ss k h in
    let f = some-find library known name text ss m below decided k at.0 at.1 in
    let s : Site = record { scope = record { words = at.0; env = before.env }; home = name; imported = f.imported } in
    record { site = s; stands = stands refl m at.1 before.is f.finds }

some-next : (library : Library) → Known → (name : List ℕ) (k : ℕ) → SomeSite library name k → SomeEnv (Makes library name (suc k))
some-next library known name k x = go x.site x.stands
  where
    go : (s : Site) → Stands library name k s → SomeEnv (Makes library name (suc k))
    go s (stands {text} {statements} h m e b f) =
        let sound = makes-sound library known name k s.scope.env b in
        let v = some-verdict known s sound in
        let next = some-binds known s k v.verdict sound (import-state library s f) v.gets in
        record { env = next.next; is = one_more (stands {text = text} {statements = statements} h m e b f) v.gets next.binds }

some-front : (library : Library) → Known → (name text : List ℕ) (ss : List (List Word)) → IsModule library name text ss → HasBelow library name
    → IsDecidedBelow library name
    → (k : ℕ) → k ≤ length ss → SomeEnv (Makes library name k)
some-front library known name text ss m below decided zero h = record { env = []; is = at_start m }
some-front library known name text ss m below decided (suc k) h =
    some-next library known name k (some-site library known name text ss m below decided k (omega arith) (some-front library known name text ss m below decided k (omega arith)))

-- a module that reaches only these, of which there are at most n
pub some-module : (library : Library) → Known → (n : ℕ) (names : List (List ℕ)) → length names ≤ n → (name text : List ℕ) (ss : List (List Word))
    → IsModule library name text ss
    → ReachesOnly library names name → SomeEnv (Makes library name (length ss))
some-module library known zero names short name text ss m only =
    some-front library known name text ss m
    (λ other whole rs l o r. let c = only other whole (at_once l) o.there in absurd (omega (arith, c.1)))
    (λ other l. reaches-or-not known library names other other (reaches-only-next library names name other l only))
    (length ss) (omega arith)
some-module library known (suc n) names short name text ss m only =
    some-front library known name text ss m
    (λ other whole rs l o r.
    let c = only other whole (at_once l) o.there in
    let shorter = without-shorter other names c in
    some-module library known n (without other names) (omega arith) other whole rs o (reaches-without library names other r (reaches-only-next library names name other l only)))
    (λ other l. reaches-or-not known library names other other (reaches-only-next library names name other l only))
    (length ss) (omega arith)
