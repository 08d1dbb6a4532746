-- What a statement binds, once it has its verdict.
use Rattle.std.specs.Prelude.{◌≡◌, ℕ, false, IsTrue, List, [], ◌∷◌, ◌++◌, length, ◌-◌, Option, None, Some, IsSome, IfSome, slice_get}
use Rattle.chyp_base.specs.declared.sort.Sort.{Sort}
use Rattle.chyp_base.specs.declared.verdict.Verdict.{Verdict}
use Rattle.chyp_base.specs.declared.verdict.Verdict.TheVariants.{Accepted, Proved}
use Rattle.chyp_lex.specs.declared.token.TokenKind.TheVariants.{WordRewrite}
use Rattle.chyp_syntax.specs.Heading.{declared_name}
use Rattle.chyp_syntax.specs.Sentence.{IsSentence}
use Rattle.chyp_syntax.specs.Statement.{StatementTree, generator as a_gen, abbreviation as a_let, rule, rewrite, inclusion}
use Rattle.chyp_syntax.specs.Step.{StepTree}
use Rattle.chyp_syntax.specs.Term.{TermTree}
use Rattle.chyp_syntax.specs.Words.{Word}
use Rattle.chyp_term.specs.Morphism.{Morphism, generator as a_generator}
use Rattle.chyp_env.specs.Environment.{Sense, generator, abbreviation, equation, unproved, broken, Binding, is_bound}
use Rattle.chyp_env.specs.Import.{all_passed_on, new_in}
use Rattle.chyp_env.specs.Site.{Imported, there, Site}
use Rattle.chyp_names.specs.declared.body.Body.{Body}
use Rattle.chyp_names.specs.Elaboration.{terms_of, prefix_at, Passes, IsBody}

-- the statement begins with `rewrite`
abbrev pub IsRewrite : List Word → Type 0
IsRewrite [] = ⊥
IsRewrite (keyword ∷ rest) = keyword.kind ≡ WordRewrite

-- What the name of a statement stands for. An accepted `gen` is a generator, an accepted `let` its term, and an accepted
-- `rule` and a proved `rewrite` are equations, from the first term to the last. Any other `rewrite` is unproved, whatever its
-- verdict, and any other statement that is refused is broken.
pub data StandsFor (site : Site) : Verdict → Sense → Type 0 where
  a_declared_generator : {name dom cod : ℕ} {label : List ℕ} {a b : List Sort} → IsSentence site.scope.words (a_gen name dom cod)
      → terms_of site (a_gen name dom cod) ≡ a_generator label a b ∷ [] → StandsFor site Accepted (generator label a b)
  a_term : {name : ℕ} {tree : TermTree} {term : Morphism} → IsSentence site.scope.words (a_let name tree)
      → terms_of site (a_let name tree) ≡ term ∷ [] → StandsFor site Accepted (abbreviation term)
  a_rule : {name equals : ℕ} {left right : TermTree} {first last : Morphism} → IsSentence site.scope.words (rule name left equals right)
      → terms_of site (rule name left equals right) ≡ first ∷ last ∷ [] → StandsFor site Accepted (equation first last)
  a_proved_rewrite : {name : ℕ} {tree : TermTree} {steps : List StepTree} {first last : Morphism}
      → IsSentence site.scope.words (rewrite name tree steps)
      → slice_get (terms_of site (rewrite name tree steps)) 0 ≡ Some first
      → slice_get (terms_of site (rewrite name tree steps)) (length (terms_of site (rewrite name tree steps)) - 1) ≡ Some last
      → StandsFor site Proved (equation first last)
  an_unproved_rewrite : {verdict : Verdict} → IsRewrite site.scope.words → ¬ (verdict ≡ Proved) → StandsFor site verdict unproved
  a_broken_statement : {verdict : Verdict} → ¬ IsRewrite site.scope.words → ¬ (verdict ≡ Accepted) → StandsFor site verdict broken

-- the statement is an import that is accepted
abbrev pub TakesIn : Imported → Verdict → Type 0
TakesIn (there env) Accepted = Unit {0}
TakesIn _ _ = ⊥

-- What names stand for behind the statement, which has this number in its module. It binds its name, unless it declares
-- none or the name is bound already. An accepted import binds each name of its module that isn't bound already.
pub data Binds (site : Site) (number : ℕ) (verdict : Verdict) : List Binding → Type 0 where
  nothing : declared_name site.scope.words ≡ None → ¬ TakesIn site.imported verdict → Binds site number verdict site.scope.env
  again : {name : List ℕ} → declared_name site.scope.words ≡ Some name → IsTrue (is_bound site.scope.env name)
      → Binds site number verdict site.scope.env
  anew : {name : List ℕ} {sense : Sense} → declared_name site.scope.words ≡ Some name → is_bound site.scope.env name ≡ false
      → StandsFor site verdict sense
      → Binds site number verdict
      (site.scope.env ++ record { name = name; origin = record { home = site.home; number = number }; sense = sense } ∷ [])
  imports : {word : ℕ} {as_word : Option ℕ} {env : List Binding} → verdict ≡ Accepted → IsSentence site.scope.words (inclusion word as_word)
      → site.imported ≡ there env
      → Binds site number verdict (site.scope.env ++ new_in site.scope.env (all_passed_on (prefix_at site.scope as_word) env))

-- a body is that of the statement, which is a sentence that nothing refuses
pub record Elaborates (site : Site) (body : Body) : Type 0 where
  pub tree : StatementTree
  pub is_sentence : IsSentence site.scope.words tree
  pub passes : Passes site tree
  pub is_body : IsBody site tree body

-- the verdict is one that a statement with this body, or without one, may have: only a statement with a body is good, a
-- rewrite is not accepted, and nothing else is proved
pub record IsOutcome (site : Site) (body : Option Body) (verdict : Verdict) : Type 0 where
  pub elaborates : IfSome body (Elaborates site)
  pub accepted : verdict ≡ Accepted → IsSome body × ¬ IsRewrite site.scope.words
  pub proved : verdict ≡ Proved → IsSome body × IsRewrite site.scope.words
