-- What is wanted of an import that is the first statement.
use Rattle.std.proofs.Common.{◌≡◌, true, List, [], subst, arith}
use Rattle.std.specs.Prelude.{Contains}
use Rattle.std.proofs.lemmas.Bool.{false≢true}
use Rattle.chyp_syntax.specs.Sentence.{IsSentence}
use Rattle.chyp_syntax.specs.Statement.{StatementTree, generator, abbreviation, rule, rewrite, inclusion, showing}
use Rattle.chyp_env.specs.Environment.{Binding}
use Rattle.chyp_env.specs.Import.{AgreeOnOrigins}
use Rattle.chyp_env.specs.Site.{Imported, nothing, absent, on_cycle, there, Site, IsImportState, an_import}
use Rattle.chyp_names.specs.Elaboration.{is_import}

-- no name agrees with all
pub agrees : (env : List Binding) (imported : Imported) → env ≡ [] → AgreeOnOrigins env imported
agrees env nothing none = tt
agrees env absent none = tt
agrees env on_cycle none = tt
agrees env (there other) none = λ a b has c same. let h = subst (λ bs. Contains bs a) none has in absurd (omega (arith, h.1))

-- a sentence that is an import is one
pub import_state : (site : Site) (tree : StatementTree) → IsSentence site.scope.words tree → is_import tree ≡ true → IsImportState site
import_state site (inclusion word prefix) s e = an_import s
import_state site (generator name dom cod) s e = absurd (false≢true e)
import_state site (abbreviation name tree) s e = absurd (false≢true e)
import_state site (rule name left equals right) s e = absurd (false≢true e)
import_state site (rewrite name first steps) s e = absurd (false≢true e)
import_state site (showing name) s e = absurd (false≢true e)
