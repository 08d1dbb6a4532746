-- What holds of the modules of a library.
use Rattle.std.specs.Prelude.{◌≡◌, ℕ, List, [], map, Some, Contains}
use Rattle.chyp_base.specs.declared.verdict.Verdict.{Verdict}
use Rattle.chyp_base.specs.declared.verdict.Verdict.TheVariants.{Proved}
use Rattle.chyp_term.specs.Morphism.{Morphism}
use Rattle.chyp_env.specs.Closed.{HasBoundSense}
use Rattle.chyp_env.specs.Environment.{Binding}
use Rattle.chyp_env.specs.Site.{Site}
use Rattle.chyp_verdicts.specs.Judged.{IsJudged}
use Rattle.chyp_verdicts.specs.Rules.{IsDerived, IsRewriteOf}
use Rattle.chyp_modules.specs.Declares.{Declaration, Declares, HasDeclarations}
use Rattle.chyp_modules.specs.Import.{Reaches}
use Rattle.chyp_modules.specs.Library.{Library, Module, library_of, with_main}
use Rattle.chyp_modules.specs.Modules.{Makes, Stands, HasEnvironment, AreVerdicts, standing}

-- all modules that are there and that this one reaches are among these
abbrev pub ReachesOnly : Library → List (List ℕ) → List ℕ → Type 0
ReachesOnly library names name = (other text : List ℕ) → Reaches library name other → library other ≡ Some text → Contains names other

-- the module reaches only finitely many
abbrev pub ReachesFinitelyMany : Library → List ℕ → Type 0
ReachesFinitelyMany library name = (names : List (List ℕ)) × ReachesOnly library names name

-- a module makes exactly one environment
pub record HasOneEnvironment (library : Library) (name : List ℕ) : Type 0 where
  pub env : List Binding
  pub has : HasEnvironment library name env
  pub only : (other : List Binding) → HasEnvironment library name other → other ≡ env

-- its statements get exactly one list of verdicts
pub record HasOneListOfVerdicts (library : Library) (name : List ℕ) : Type 0 where
  pub verdicts : List Verdict
  pub are : AreVerdicts library name verdicts
  pub only : (others : List Verdict) → AreVerdicts library name others → others ≡ verdicts

-- so it is for each module that is there and reaches finitely many, in whatever cycles others import one another
abbrev pub ModulesAreDetermined : Type 0
ModulesAreDetermined = (library : Library) (name text : List ℕ) → library name ≡ Some text → ReachesFinitelyMany library name
    → HasOneEnvironment library name × HasOneListOfVerdicts library name

-- and so for each main text, over any finitely many modules
abbrev pub TextsAreDetermined : Type 0
TextsAreDetermined = (modules : List Module) (text : List ℕ)
    → HasOneEnvironment (with_main (library_of modules) text) [] × HasOneListOfVerdicts (with_main (library_of modules) text) []

-- a rewrite that is proved has a derivation, from its first term to its last, from rules that are permitted to it
abbrev pub ProvedRewritesAreDerived : Type 0
ProvedRewritesAreDerived = (library : Library) (home : List ℕ) (number : ℕ) (site : Site) → Stands library home number site
    → IsJudged site Proved → (first last : Morphism) → IsRewriteOf site first last
    → IsDerived (standing library) (record { home = home; number = number }) first last

-- bindings of one origin have one sense, in all environments that modules of one library make
abbrev pub OriginsDetermineSenses : Type 0
OriginsDetermineSenses = (library : Library) (name other : List ℕ) (m n : ℕ) (env end : List Binding) → Makes library name m env
    → Makes library other n end
    → (a b : Binding) → Contains env a → Contains end b → a.origin ≡ b.origin → a.sense ≡ b.sense

-- each generator of a term that a name stands for has a binding of its own in the same environment
abbrev pub GeneratorsAreBound : Type 0
GeneratorsAreBound = (library : Library) (name : List ℕ) (number : ℕ) (env : List Binding) → Makes library name number env
    → (b : Binding) → Contains env b → HasBoundSense env b.sense

-- the name and the origin of each binding, without its sense
abbrev pub declarations_of : List Binding → List Declaration
declarations_of env = map (λ (b : Binding). record { name = b.name; origin = b.origin }) env

-- the first statements of a module make an environment whose names and origins are these
pub record AreBound (library : Library) (name : List ℕ) (number : ℕ) (declarations : List Declaration) : Type 0 where
  pub env : List Binding
  pub makes : Makes library name number env
  pub names : declarations_of env ≡ declarations

-- What names an environment has, with their origins, comes from the texts: those that they declare are bound, and no others, in one
-- order, whatever the verdicts are.
abbrev pub NamesComeFromTexts : Type 0
NamesComeFromTexts = (library : Library) (name : List ℕ) (number : ℕ) (declarations : List Declaration)
    → (Declares library name number declarations → AreBound library name number declarations)
    × (AreBound library name number declarations → Declares library name number declarations)

-- the statements of a module declare exactly one list of names
pub record HasOneListOfDeclarations (library : Library) (name : List ℕ) : Type 0 where
  pub declarations : List Declaration
  pub are : HasDeclarations library name declarations
  pub only : (others : List Declaration) → HasDeclarations library name others → others ≡ declarations

-- so it is for each module that is there and reaches finitely many
abbrev pub DeclarationsAreDetermined : Type 0
DeclarationsAreDetermined = (library : Library) (name text : List ℕ) → library name ≡ Some text → ReachesFinitelyMany library name
    → HasOneListOfDeclarations library name
