-- What names an environment has, with their origins, is what the texts declare.
use Rattle.std.proofs.Common.{◌≡◌, ℕ, suc, true, List, [], ◌∷◌, ◌++◌, length, Option, Some, None, slice_get, refl, sym, ◌∙◌, ap, ap₂, subst}
use Rattle.std.specs.Prelude.{option_map}
use Rattle.chyp_base.specs.declared.verdict.Verdict.{Verdict}
use Rattle.chyp_syntax.specs.Heading.{declared_name}
use Rattle.chyp_syntax.specs.Sentence.{IsSentence}
use Rattle.chyp_syntax.specs.Statement.{inclusion}
use Rattle.chyp_syntax.specs.Words.{Word, bytes_at}
use Rattle.chyp_env.specs.Environment.{Binding, is_bound, Origin}
use Rattle.chyp_env.specs.Import.{all_passed_on, first_clash}
use Rattle.chyp_env.specs.Site.{Imported, Site, absent, nothing as alone, on_cycle, there}
use Rattle.chyp_names.specs.Binding.{Binds, again, anew, imports, nothing}
use Rattle.chyp_names.specs.Elaboration.{prefix_at}
use Rattle.chyp_verdicts.specs.Judged.{IsJudged}
use Rattle.chyp_verdicts.proofs.Known.{Known}
use Rattle.chyp_verdicts.proofs.OneBinding.{imports-nothing, inclusion-prefix, takes-in, there-once}
use Rattle.chyp_verdicts.proofs.OneVerdict.{none-some, some-once}
use Rattle.chyp_verdicts.proofs.Sites.{some-binds}
use Rattle.chyp_verdicts.proofs.SomeVerdict.{some-verdict}
use Rattle.chyp_modules.specs.Declares.{Adds, Declaration, Declares, Offers, at_start, its_name, no_name, none, of_cycle, of_module, of_none, offered_by, one_more}
use Rattle.chyp_modules.specs.Import.{Imports}
use Rattle.chyp_modules.specs.Laws.{AreBound, DeclarationsAreDetermined, NamesComeFromTexts, declarations_of}
use Rattle.chyp_modules.specs.Library.{IsModule, Library}
use Rattle.chyp_modules.specs.Modules.{Finds, Makes, Stands, stands}
use Rattle.chyp_modules.specs.Modules.{at_start as starts, no_import, of_cycle as cycle_found, of_module as found, of_none as none_found, one_more as makes_more}
use Rattle.chyp_modules.proofs.Adding.{adds-again, adds-anew, adds-import, adds-nothing, adds-once, clash-found, offered-same}
use Rattle.chyp_modules.proofs.Exist.{import-state}
use Rattle.chyp_modules.proofs.Importing.{accepted-fits, fits-accepted}
use Rattle.chyp_modules.proofs.Reaching.{begins}
use Rattle.chyp_modules.proofs.Senses.{makes-sound}
use Rattle.chyp_modules.proofs.Verdicts.{modules-determined}

-- ---- what a statement offers

-- These are what the statement offers, where it imports this: its own name, what the environment passes on, or nothing.
data AreOffered (origin : Origin) (words : List Word) (i : Imported) (offered : List Declaration) : Type 0 where
  own : {name : List ℕ} → declared_name words ≡ Some name → offered ≡ record { name = name; origin = origin } ∷ [] → AreOffered origin words i offered
  nothing_at_all : declared_name words ≡ None → ((env : List Binding) → ¬ (i ≡ there env)) → offered ≡ [] → AreOffered origin words i offered
  passed : {word : ℕ} {as_word : Option ℕ} {env : List Binding} → IsSentence words (inclusion word as_word) → i ≡ there env
      → offered ≡ declarations_of (all_passed_on (option_map (bytes_at words) as_word) env) → AreOffered origin words i offered

-- what the statement binds is what it adds of them
binds-adds : Known → (s : Site) (number : ℕ) (v : Verdict) (next : List Binding) (offered : List Declaration) → AreOffered (record { home = s.home; number = number }) s.scope.words s.imported offered
    → IsJudged s v → Binds s number v next → Adds (declarations_of s.scope.env) offered (declarations_of next)
binds-adds known s number v next offered (own {name} e d) j (nothing f o) = absurd (none-some _ name f e)
binds-adds known s number v next offered (own {name} e d) j (again {name = bound} f b) =
    let same = some-once _ bound name f e in
    subst (λ o. Adds (declarations_of s.scope.env) o (declarations_of s.scope.env)) (sym d)
    (adds-again s.scope.env name (record { home = s.home; number = number }) (subst (λ n. is_bound s.scope.env n ≡ true) same b))
binds-adds known s number v next offered (own {name} e d) j (anew {name = bound} {sense} f b x) =
    let same = some-once _ bound name f e in
    subst (λ o. Adds (declarations_of s.scope.env) o (declarations_of (s.scope.env ++ record { name = bound; origin = record { home = s.home; number = number }; sense = sense } ∷ [])))
    (ap (λ (n : List ℕ). record { name = n; origin = record { home = s.home; number = number } } ∷ []) same ∙ sym d) (adds-anew s.scope.env bound (record { home = s.home; number = number }) sense b)
binds-adds known s number v next offered (own {name} e d) j (imports {word} {as_word} f t i) = absurd (imports-nothing s word as_word name t e)
binds-adds known s number v next offered (nothing_at_all e n d) j (nothing f o) =
    subst (λ x. Adds (declarations_of s.scope.env) x (declarations_of s.scope.env)) (sym d) (adds-nothing (declarations_of s.scope.env))
binds-adds known s number v next offered (nothing_at_all e n d) j (again {name} f b) = absurd (none-some _ name e f)
binds-adds known s number v next offered (nothing_at_all e n d) j (anew {name} f b x) = absurd (none-some _ name e f)
binds-adds known s number v next offered (nothing_at_all e n d) j (imports {env} f t i) = absurd (n env i)
binds-adds known s number v next offered (passed {word} {as_word} t i d) j (again {name} f b) = absurd (imports-nothing s word as_word name t f)
binds-adds known s number v next offered (passed {word} {as_word} t i d) j (anew {name} f b x) = absurd (imports-nothing s word as_word name t f)
binds-adds known s number v next offered (passed {word} {as_word} {env} t i d) j (nothing f o) = go (first_clash s.scope.env all) refl
  where
    all : List Binding
    all = all_passed_on (prefix_at s.scope as_word) env

    go : (clash : Option (List ℕ)) → first_clash s.scope.env all ≡ clash → Adds (declarations_of s.scope.env) offered (declarations_of s.scope.env)
    go None e = absurd (o (takes-in s.imported v env i (fits-accepted known s v word as_word env t i j e)))
    go (Some name) e = subst (λ x. Adds (declarations_of s.scope.env) x (declarations_of s.scope.env)) (sym d) (none (clash-found s.scope.env all name e))
binds-adds known s number v next offered (passed {word} {as_word} {env} t i d) j (imports {word = w} {as_word = p} {env = end} f u k) =
    subst (λ x. Adds (declarations_of s.scope.env) x (declarations_of next)) (sym same) (adds-import s.scope.env all (accepted-fits known s v w p end u k j f))
  where
    all : List Binding
    all = all_passed_on (prefix_at s.scope p) end

    prefixes : as_word ≡ p
    prefixes = inclusion-prefix word w as_word p (known.trees s.scope.words (inclusion word as_word) (inclusion w p) t u)

    same : offered ≡ declarations_of all
    same = d ∙ ap₂ (λ x y. declarations_of (all_passed_on (option_map (bytes_at s.scope.words) x) y)) prefixes (there-once env end (sym i ∙ k))

-- ---- what is bound is declared

-- the statement offers something
record SomeOffer (library : Library) (origin : Origin) (words : List Word) (i : Imported) : Type 0 where
  offered : List Declaration
  offers : Offers library origin words offered
  are : AreOffered origin words i offered

-- what is declared in front of a statement, and what it offers
record Behind (library : Library) (name : List ℕ) (number : ℕ) (s : Site) : Type 0 where
  home : s.home ≡ name
  text : List ℕ
  statements : List (List Word)
  is_module : IsModule library name text statements
  here : slice_get statements number ≡ Some s.scope.words
  front : Declares library name number (declarations_of s.scope.env)
  offer : declared_name s.scope.words ≡ None → SomeOffer library (record { home = name; number = number }) s.scope.words s.imported

some-offer : (library : Library) (name : List ℕ) (number : ℕ) (s : Site) → Behind library name number s → SomeOffer library (record { home = name; number = number }) s.scope.words s.imported
some-offer library name number s b = go (declared_name s.scope.words) refl
  where
    go : (o : Option (List ℕ)) → declared_name s.scope.words ≡ o → SomeOffer library (record { home = name; number = number }) s.scope.words s.imported
    go None e = b.offer e
    go (Some own_name) e = record { offered = record { name = own_name; origin = record { home = name; number = number } } ∷ []; offers = its_name e; are = own e refl }

declare-next : (library : Library) → Known → (name : List ℕ) (number : ℕ) (s : Site) (v : Verdict) (next : List Binding) → Behind library name number s → IsJudged s v
    → Binds s number v next → Declares library name (suc number) (declarations_of next)
declare-next library known name number s v next b j x =
    let some = some-offer library name number s b in
    let are : AreOffered (record { home = s.home; number = number }) s.scope.words s.imported some.offered =
    subst (λ h. AreOffered (record { home = h; number = number }) s.scope.words s.imported some.offered) (sym b.home) some.are in
    one_more b.is_module b.here b.front some.offers (binds-adds known s number v next some.offered are j x)

mutual
  makes-declare : (library : Library) → Known → (name : List ℕ) (number : ℕ) (env : List Binding) → Makes library name number env
      → Declares library name number (declarations_of env)
  makes-declare library known name number env (starts m) = at_start m
  makes-declare library known name number env (makes_more {number = k} {site = s} {verdict = v} st j x) =
      declare-next library known name k s v env (stands-declare library known name k s st) j x

  stands-declare : (library : Library) → Known → (name : List ℕ) (number : ℕ) (s : Site) → Stands library name number s → Behind library name number s
  stands-declare library known name number s (stands {text} {statements} h m e k f) = record {
    home = h;
    text = text;
    statements = statements;
    is_module = m;
    here = e;
    front = makes-declare library known name number s.scope.env k;
    offer = λ free. finds-declare library known (record { home = name; number = number }) s.scope.words s.imported free f;
  }

  finds-declare : (library : Library) → Known → (origin : Origin) (words : List Word) (i : Imported) → declared_name words ≡ None → Finds library words i
      → SomeOffer library origin words i
  finds-declare library known origin words i free (no_import n) = record { offered = []; offers = no_name free n; are = nothing_at_all free (λ env e. absurd cc) refl }
  finds-declare library known origin words i free (none_found m e) = record { offered = []; offers = of_none m e; are = nothing_at_all free (λ env f. absurd cc) refl }
  finds-declare library known origin words i free (cycle_found m e r) = record { offered = []; offers = of_cycle m r; are = nothing_at_all free (λ env f. absurd cc) refl }
  finds-declare library known origin words i free (found {name} {statements} {env} m f r k) =
      let prefix : Option (List ℕ) = option_map (bytes_at words) m.as_word in
      record {
        offered = offered_by prefix (declarations_of env);
        offers = of_module m f r (makes-declare library known name (length statements) env k);
        are = passed m.is_sentence refl (offered-same prefix env);
      }

-- ---- what is declared is bound

-- the statement imports something
record SomeFound (library : Library) (origin : Origin) (words : List Word) (offered : List Declaration) : Type 0 where
  imported : Imported
  finds : Finds library words imported
  are : AreOffered origin words imported offered

-- a statement with these words that stands somewhere
abbrev anywhere : List Word → Site
anywhere words = record { scope = record { words = words; env = [] }; home = []; imported = alone }

-- an import declares no name
import-nameless : (words : List Word) (name : List ℕ) → Imports words name → declared_name words ≡ None
import-nameless words name i = go (declared_name words) refl
  where
    go : (o : Option (List ℕ)) → declared_name words ≡ o → o ≡ None
    go None e = refl
    go (Some own_name) e = absurd (imports-nothing (anywhere words) i.word i.as_word own_name i.is_sentence e)

bind-next : (library : Library) → Known → (name : List ℕ) (number : ℕ) (text : List ℕ) (statements : List (List Word)) (words : List Word)
    → IsModule library name text statements → slice_get statements number ≡ Some words
    → (front offered next : List Declaration) → AreBound library name number front → SomeFound library (record { home = name; number = number }) words offered → Adds front offered next
    → AreBound library name (suc number) next
bind-next library known name number text statements words m at front offered next before f a =
    let s : Site = record { scope = record { words = words; env = before.env }; home = name; imported = f.imported } in
    let st : Stands library name number s = stands {text = text} {statements = statements} refl m at before.makes f.finds in
    let sound = makes-sound library known name number before.env before.makes in
    let v = some-verdict known s sound in
    let bound = some-binds known s number v.verdict sound (import-state library s f.finds) v.gets in
    let adds = binds-adds known s number v.verdict bound.next offered f.are v.gets bound.binds in
    record {
      env = bound.next;
      makes = makes_more st v.gets bound.binds;
      names = adds-once front offered (declarations_of bound.next) next (subst (λ ds. Adds ds offered (declarations_of bound.next)) before.names adds) a;
    }

mutual
  declared-bound : (library : Library) → Known → (name : List ℕ) (number : ℕ) (declarations : List Declaration) → Declares library name number declarations
      → AreBound library name number declarations
  declared-bound library known name number declarations (at_start m) = record { env = []; makes = starts m; names = refl }
  declared-bound library known name number declarations (one_more {text} {number = k} {statements} {words} {front} {offered} m at d o a) =
      bind-next library known name k text statements words m at front offered declarations (declared-bound library known name k front d)
      (offers-found library known (record { home = name; number = k }) words offered o) a

  offers-found : (library : Library) → Known → (origin : Origin) (words : List Word) (offered : List Declaration) → Offers library origin words offered
      → SomeFound library origin words offered
  offers-found library known origin words offered (its_name {name} e) = record {
    imported = alone;
    finds = no_import (λ word as_word t. imports-nothing (anywhere words) word as_word name t e);
    are = own e refl;
  }
  offers-found library known origin words offered (no_name e n) = record { imported = alone; finds = no_import n; are = nothing_at_all e (λ env f. absurd cc) refl }
  offers-found library known origin words offered (of_none {name} m e) = record {
    imported = absent;
    finds = none_found m e;
    are = nothing_at_all (import-nameless words name m) (λ env f. absurd cc) refl;
  }
  offers-found library known origin words offered (of_cycle {name} m r) =
      let at = begins library name name r in
      record { imported = on_cycle; finds = cycle_found m at.1 r; are = nothing_at_all (import-nameless words name m) (λ env f. absurd cc) refl }
  offers-found library known origin words offered (of_module {name} {statements} {declarations} m f r d) =
      let b = declared-bound library known name (length statements) declarations d in
      let prefix : Option (List ℕ) = option_map (bytes_at words) m.as_word in
      record { imported = there b.env; finds = found m f r b.makes; are = passed m.is_sentence refl (ap (offered_by prefix) (sym b.names) ∙ offered-same prefix b.env) }

-- ---- laws

-- exactly what is declared is bound
pub names-from-texts : Known → NamesComeFromTexts
names-from-texts known library name number declarations = (
  declared-bound library known name number declarations,
  λ b. subst (Declares library name number) b.names (makes-declare library known name number b.env b.makes),
)

-- each module that is there and reaches finitely many has exactly one list of names
pub declarations-determined : Known → DeclarationsAreDetermined
declarations-determined known library name text is_there finite =
    let one = (modules-determined known library name text is_there finite).0 in
    let h = one.has in
    record {
      declarations = declarations_of one.env;
      are = record {
        text = h.text;
        statements = h.statements;
        is_module = h.is_module;
        declares = makes-declare library known name (length h.statements) one.env h.makes;
      };
      only = λ others d.
          let b = declared-bound library known name (length d.statements) others d.declares in
          sym b.names ∙ ap declarations_of (one.only b.env (record { text = d.text; statements = d.statements; is_module = d.is_module; makes = b.makes }));
    }
