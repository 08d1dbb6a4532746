-- The statements of one module, one by one.
use Rattle.std.proofs.Common.{◌≡◌, ℕ, zero, suc, ◌+◌, ◌<◌, true, false, List, [], ◌∷◌, ◌++◌, length, Option, None, Some, slice_get, slice_index_or, refl, sym, ◌∙◌, ap, ap₂, subst, arith}
use Rattle.std.specs.Prelude.{Err, IfOk, IsSome, Ok, Result}
use Rattle.std.proofs.lemmas.List.{length-map}
use Rattle.std.proofs.lemmas.Bool.{false≢true}
use Rattle.chyp_base.specs.declared.verdict.Verdict.{Verdict}
use Rattle.chyp_lex.specs.Tokens.{HasOneTokenList}
use Rattle.chyp_lex.specs.declared.token.Token.{Token}
use Rattle.chyp_syntax.specs.Chunk.{AreChunks, HasOneListOfChunks}
use Rattle.chyp_syntax.specs.declared.chunk.Chunk.{Chunk}
use Rattle.chyp_syntax.specs.Words.{Word}
use Rattle.chyp_verdicts.proofs.OneVerdict.{some-once}
use Rattle.chyp_verdicts.specs.Texts.{statement_of, statements_of}
use Rattle.chyp_modules.specs.Checking.{HaveStatements, of_more, of_none as none_more}
use Rattle.chyp_env.specs.Environment.{Binding}
use Rattle.chyp_env.specs.Import.{AgreeOnOrigins}
use Rattle.chyp_env.specs.Site.{Imported, on_cycle, there, Site}
use Rattle.chyp_names.specs.Binding.{Binds}
use Rattle.chyp_verdicts.specs.Judged.{IsJudged}
use Rattle.chyp_verdicts.proofs.Texts.{HaveVerdicts, no-verdicts, push-verdict}
use Rattle.chyp_modules.specs.Import.{Imports, LeadsTo, Reaches, at_once}
use Rattle.chyp_modules.specs.Library.{Library, AreStatements, IsModule}
use Rattle.chyp_modules.specs.Laws.{OriginsDetermineSenses}
use Rattle.chyp_modules.specs.Modules.{Makes, at_start, one_more, Stands, stands, Finds, no_import, of_none, of_cycle, of_module, HasEnvironment, AreVerdicts, standing}
use Rattle.chyp_load.specs.Statements.{CutText, IsCut}
use Rattle.chyp_reach.specs.Relation.{relates}
use Rattle.chyp_check.specs.Progress.{AreMade, Environments, IsNext}
use Rattle.chyp_check.specs.Project.{IsMapped, Project, library_in, name_at, text_at}
use Rattle.chyp_check.proofs.Reached.{library-at}

-- ---- what is imported

pub finds-cycle : (project : Project) (words : List Word) (name : List ℕ) (place : ℕ) → IsMapped project → place < length project.nodes → name_at project.nodes place ≡ name
    → relates project.rows place place ≡ true → Imports words name → Finds (library_in project.nodes) words on_cycle
finds-cycle project words name place mapped h named e i =
    let nodes = project.nodes in
    let V = library_in nodes in
    of_cycle i (subst (λ n. V n ≡ Some (text_at nodes place)) named (library-at nodes mapped.distinct place h))
    (subst (λ n. Reaches V n n) named ((mapped.reflects place place h h).0 e))

pub finds-module : (project : Project) (envs : Environments) (words : List Word) (name : List ℕ) (place : ℕ) (env : List Binding) → IsMapped project → AreMade project envs
    → place < length project.nodes → name_at project.nodes place ≡ name → relates project.rows place place ≡ false → slice_index_or envs place None ≡ Some env → Imports words name
    → Finds (library_in project.nodes) words (there env)
finds-module project envs words name place env mapped made h named e at i =
    let V = library_in project.nodes in
    let has = subst (λ n. HasEnvironment V n env) named (made.each place env at) in
    of_module i has.is_module (λ r. false≢true (sym e ∙ (mapped.reflects place place h h).1 (subst (λ n. Reaches V n n) (sym named) r))) has.makes

-- what the text imports is one that it reaches
pub leads-reached : (project : Project) (number place : ℕ) (name : List ℕ) → IsMapped project → number < length project.nodes → place < length project.nodes
    → name_at project.nodes place ≡ name → LeadsTo (library_in project.nodes) (name_at project.nodes number) name → relates project.rows number place ≡ true
leads-reached project number place name mapped h k named l =
    let V = library_in project.nodes in
    (mapped.reflects number place h k).1 (at_once (subst (λ n. LeadsTo V (name_at project.nodes number) n) (sym named) l))

-- ---- one statement more

-- the first statements of a module have these verdicts, and make this environment
pub record IsFront (library : Library) (name : List ℕ) (number : ℕ) (verdicts : List Verdict) (env : List Binding) : Type 0 where
  pub makes : Makes library name number env
  pub have : HaveVerdicts (standing library) name number verdicts

pub front-start : (library : Library) (name text : List ℕ) (ss : List (List Word)) → IsModule library name text ss → IsFront library name 0 [] []
front-start library name text ss m = record { makes = at_start m; have = no-verdicts (standing library) name }

-- where a statement stands
abbrev pub site_with : List Word → List Binding → List ℕ → Imported → Site
site_with words env home imported = record { scope = record { words = words; env = env }; home = home; imported = imported }

pub front-next : (library : Library) (name text : List ℕ) (ss : List (List Word)) (i : ℕ) (words : List Word) (imported : Imported) (verdicts : List Verdict) (verdict : Verdict)
    (env next : List Binding) → IsModule library name text ss → slice_get ss i ≡ Some words → Finds library words imported → IsFront library name i verdicts env
    → IsJudged (site_with words env name imported) verdict → Binds (site_with words env name imported) i verdict next
    → IsFront library name (i + 1) (verdicts ++ verdict ∷ []) next
front-next library name text ss i words imported verdicts verdict env next m at finds front judged binds =
    let site = site_with words env name imported in
    let st : Stands library name i site = stands refl m at front.makes finds in
    let number : suc i ≡ i + 1 = omega arith in
    subst (λ n. IsFront library name n (verdicts ++ verdict ∷ []) next) number
    (record { makes = one_more st judged binds; have = push-verdict (standing library) name i verdicts verdict front.have (record { site = site; stands = st; judged = judged }) })

-- what a statement imports agrees with what stands before it
pub finds-agree : OriginsDetermineSenses → (library : Library) (name : List ℕ) (i : ℕ) (env : List Binding) (words : List Word) (imported : Imported) → Makes library name i env
    → Finds library words imported → AgreeOnOrigins env imported
finds-agree senses library name i env words _ makes (no_import n) = tt
finds-agree senses library name i env words _ makes (of_none n e) = tt
finds-agree senses library name i env words _ makes (of_cycle n e r) = tt
finds-agree senses library name i env words _ makes (of_module {name = other} {statements} {env = end} n is r made) =
    senses library name other i (length statements) env end makes made

-- what is there is found, whatever stands for what isn't
pub any-default : (A : Type 0) (xs : List A) (i : ℕ) (d e : A) → i < length xs → slice_index_or xs i d ≡ slice_index_or xs i e
any-default A [] i d e h = absurd (omega arith)
any-default A (x ∷ xs) zero d e h = refl
any-default A (x ∷ xs) (suc i) d e h = any-default A xs i d e (omega arith)

pub none-not-some : (o : Option (List Binding)) → o ≡ None → IsSome o → ⊥
none-not-some None e s = false≢true s
none-not-some (Some x) e s = absurd cc

-- the verdict of the next statement, under the name of its module
pub if-next : {E : Type 0} (library : Library) (home name : List ℕ) (words : List Word) (env next : List Binding) (number : ℕ) (imported : Imported) (result : Result Verdict E)
    → home ≡ name → Finds library words imported → IfOk result (λ verdict. IsJudged (site_with words env home imported) verdict)
    → IfOk result (λ verdict. Binds (site_with words env home imported) number verdict next) → IfOk result (λ verdict. IsNext library name words env number verdict next)
if-next library home name words env next number imported (Ok verdict) same finds judged binds = record {
  imported = imported;
  finds = finds;
  judged = subst (λ h. IsJudged (site_with words env h imported) verdict) same judged;
  binds = subst (λ h. Binds (site_with words env h imported) number verdict next) same binds;
}
if-next library home name words env next number imported (Err e) same finds judged binds = tt

-- ---- the statements of a text

-- what was read from the text of this number are the statements of its module
pub this-cut : (project : Project) (number : ℕ) (cut : CutText) → IsMapped project → number < length project.nodes → cut.text ≡ text_at project.nodes number → IsCut cut
    → IsModule (library_in project.nodes) (name_at project.nodes number) cut.text (statements_of cut.text cut.tokens cut.chunks)
this-cut project number cut mapped h same is = record {
  there = library-at project.nodes mapped.distinct number h ∙ ap Some (sym same);
  are = record { tokens = cut.tokens; chunks = cut.chunks; are_tokens = is.tokens; are_chunks = is.chunks; each = refl };
}

pub leads-from : (library : Library) (name text : List ℕ) (ss : List (List Word)) (i : ℕ) (words : List Word) → IsModule library name text ss → slice_get ss i ≡ Some words
    → (other : List ℕ) → Imports words other → LeadsTo library name other
leads-from library name text ss i words m at other imports =
    record { text = text; statements = ss; is_module = m; number = i; words = words; here = at; imports = imports }

-- the first ones are all
pub front-environment : (library : Library) (name text : List ℕ) (ss : List (List Word)) (i : ℕ) (verdicts : List Verdict) (env : List Binding) → IsModule library name text ss → i ≡ length ss
    → IsFront library name i verdicts env → HasEnvironment library name env
front-environment library name text ss i verdicts env m e front =
    record { text = text; statements = ss; is_module = m; makes = subst (λ n. Makes library name n env) e front.makes }

pub front-verdicts : (library : Library) (name text : List ℕ) (ss : List (List Word)) (i : ℕ) (verdicts : List Verdict) (env : List Binding) → IsModule library name text ss → i ≡ length ss
    → IsFront library name i verdicts env → AreVerdicts library name verdicts
front-verdicts library name text ss i verdicts env m e front = record { text = text; statements = ss; is_module = m; many = front.have.many ∙ e; each = front.have.each }

-- a text has one list of statements
same-statements : ((text : List ℕ) → HasOneTokenList text) → ((tokens : List Token) → HasOneListOfChunks tokens) → (text : List ℕ) (ss rs : List (List Word)) → AreStatements text ss
    → AreStatements text rs → ss ≡ rs
same-statements tokens_known chunks_known text ss rs a b =
    let tokens : a.tokens ≡ b.tokens = (tokens_known text).unique a.tokens b.tokens a.are_tokens b.are_tokens in
    let one = chunks_known a.tokens in
    let chunks : b.chunks ≡ a.chunks = one.2 b.chunks (subst (λ t. AreChunks t b.chunks) (sym tokens) b.are_chunks) ∙ sym (one.2 a.chunks a.are_chunks) in
    a.each ∙ ap₂ (statements_of text) tokens (sym chunks) ∙ sym b.each

-- and so many statements
pub have-one : ((text : List ℕ) → HasOneTokenList text) → ((tokens : List Token) → HasOneListOfChunks tokens) → (library : Library) (name text : List ℕ) (tokens : List Token)
    (chunks : List Chunk) (n : ℕ) → IsModule library name text (statements_of text tokens chunks) → HaveStatements library (name ∷ []) n → n ≡ length chunks
have-one tokens_known chunks_known library name text tokens chunks n m (of_more {text = t} {statements = ss} k none_more) =
    let texts = some-once (library name) t text k.there m.there in
    let same = same-statements tokens_known chunks_known text ss (statements_of text tokens chunks) (subst (λ x. AreStatements x ss) texts k.are) m.are in
    let lengths : length ss ≡ length (statements_of text tokens chunks) = ap length same in
    let mapped = length-map chunks (statement_of text tokens) in
    omega arith

-- where the next statement has its verdict
pub front-more : (library : Library) (name text : List ℕ) (ss : List (List Word)) (i : ℕ) (words : List Word) (verdicts : List Verdict) (verdict : Verdict)
    (env next : List Binding) → IsModule library name text ss → slice_get ss i ≡ Some words → IsFront library name i verdicts env
    → IsNext library name words env i verdict next → IsFront library name (i + 1) (verdicts ++ verdict ∷ []) next
front-more library name text ss i words verdicts verdict env next m at front n =
    front-next library name text ss i words n.imported verdicts verdict env next m at n.finds front n.judged n.binds
