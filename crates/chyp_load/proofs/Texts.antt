-- The imports of a text, statement by statement.
use Rattle.std.proofs.Common.{◌≡◌, ℕ, ◌+◌, ◌<◌, ◌≤◌, List, [], ◌∷◌, ◌++◌, length, drop, slice_get, All, IsTrue, Option, None, Some, IfSome, IfNone, ◌⊎◌, inl, inr, sym, ◌∙◌, ap, ap₂, subst, arith}
use Rattle.std.specs.Prelude.{Contains}
use Rattle.std.specs.Str.{IsUtf8}
use Rattle.std.proofs.lemmas.Bool.{cases_lt}
use Rattle.std.proofs.lemmas.List.{length-append, length-map}
use Rattle.std.proofs.lemmas.List.Elements.{All-contains, All-drop, All-nil, All-push, All-take, Contains-append_left, Contains-push}
use Rattle.chyp_lex.specs.Names.{IsNameText, NamesAreText, is_name}
use Rattle.chyp_lex.specs.Tokens.{AreSpans, HasOneTokenList, token_text}
use Rattle.chyp_lex.specs.declared.token.Token.{Token}
use Rattle.chyp_lex.specs.declared.token.TokenKind.TheVariants.{Ident}
use Rattle.chyp_syntax.specs.Chunk.{AreChunks, HasOneListOfChunks, Tile}
use Rattle.chyp_syntax.specs.Heading.{chunk_tokens}
use Rattle.chyp_syntax.specs.declared.chunk.Chunk.{Chunk}
use Rattle.chyp_syntax.specs.Failing.{HasOneTree}
use Rattle.chyp_syntax.specs.Sentence.{IsSentence}
use Rattle.chyp_syntax.specs.Statement.{inclusion}
use Rattle.chyp_syntax.specs.Words.{Word, bytes_at}
use Rattle.chyp_syntax.proofs.Spans.{spans_few}
use Rattle.chyp_verdicts.specs.Texts.{statement_of, statements_of}
use Rattle.chyp_verdicts.proofs.OneVerdict.{some-once}
use Rattle.chyp_modules.specs.Import.{Imports, ImportsNothing}
use Rattle.chyp_modules.specs.Library.{AreStatements}
use Rattle.chyp_load.specs.Imports.{AreImports, IsImportedBy}
use Rattle.chyp_term.proofs.Positions.{slice_get-length}
use Rattle.chyp_modules.proofs.Once.{inclusion-word}

tile_few : (start end : ℕ) (chunks : List Chunk) → Tile start chunks end → start + length chunks ≤ end
tile_few start end [] h = omega arith
tile_few start end (chunk ∷ chunks) h = let rest = tile_few (start + chunk.count) end chunks h.2 in let some = h.1 in omega arith

pub chunks_few : (size : ℕ) (tokens : List Token) (chunks : List Chunk) → AreSpans size tokens → AreChunks tokens chunks → length chunks ≤ size
chunks_few size tokens chunks spans are = let few = spans_few 0 size tokens spans in let fewer = tile_few 0 (length tokens) chunks are.tile in omega arith

-- the identifiers of a statement are UTF-8, and names by themselves
pub spelled : (text : List ℕ) (tokens : List Token) (chunk : Chunk) → NamesAreText text tokens
    → All (λ token. token.kind ≡ Ident → IsUtf8 (token_text text token) × IsNameText (token_text text token)) (chunk_tokens tokens chunk)
spelled text tokens chunk names = λ k d h is.
    let P : Token → Type 0 = λ token. IsTrue (is_name token.kind) → IsUtf8 (token_text text token) × IsNameText (token_text text token) in
    All-take P chunk.count (drop chunk.first tokens) (All-drop P chunk.first tokens names) k d h (ap is_name is)

-- the names are those of the modules that the first statements import, as many as this
pub record HaveImports (text : List ℕ) (statements : List (List Word)) (count : ℕ) (names : List (List ℕ)) : Type 0 where
  pub all : (k : ℕ) (words : List Word) → k < count → slice_get statements k ≡ Some words → (name : List ℕ) → Imports words name → Contains names name
  pub only : All (IsImportedBy text) names
  pub few : length names ≤ count

pub no-imports : (text : List ℕ) (statements : List (List Word)) (names : List (List ℕ)) → names ≡ [] → HaveImports text statements 0 names
no-imports text statements names e =
    subst (HaveImports text statements 0) (sym e) (record { all = λ k words h. absurd (omega arith); only = All-nil (IsImportedBy text); few = omega arith })

same-module : (words : List Word) (name other : List ℕ) → HasOneTree words → Imports words name → Imports words other → name ≡ other
same-module words name other one i j =
    let word = inclusion-word i.word j.word i.as_word j.as_word (one (inclusion i.word i.as_word) (inclusion j.word j.as_word) i.is_sentence j.is_sentence) in
    sym i.named ∙ ap (bytes_at words) word ∙ j.named

module _ (text : List ℕ) (statements : List (List Word)) (are : AreStatements text statements) (count : ℕ) (names : List (List ℕ)) (words : List Word)
    (here' : slice_get statements count ≡ Some words) (have : HaveImports text statements count names) where
  at-last : (k : ℕ) (ws : List Word) → slice_get statements k ≡ Some ws → count ≤ k → k < count + 1 → ws ≡ words
  at-last k ws e low high =
      let s : k ≡ count = omega arith in
      some-once (slice_get statements count) ws words (subst (λ n. slice_get statements n ≡ Some ws) s e) here'

  -- one statement more, which is no import
  pub one-nothing : ImportsNothing words → HaveImports text statements (count + 1) names
  one-nothing none = record {
    all = λ k ws h e name i. go k ws h e name i (cases_lt k count);
    only = have.only;
    few = let few = have.few in omega arith;
  }
    where
      go : (k : ℕ) (ws : List Word) → k < count + 1 → slice_get statements k ≡ Some ws → (name : List ℕ) → Imports ws name → (k < count) ⊎ (count ≤ k) → Contains names name
      go k ws h e name i (inl below) = have.all k ws below e name i
      go k ws h e name i (inr last) = absurd (none i.word i.as_word (subst (λ w. IsSentence w (inclusion i.word i.as_word)) (at-last k ws e last h) i.is_sentence))

  -- one statement more, which is one
  pub one-import : HasOneTree words → (name : List ℕ) → Imports words name → HaveImports text statements (count + 1) (names ++ name ∷ [])
  one-import one name imports = record {
    all = λ k ws h e other i. go k ws h e other i (cases_lt k count);
    only = All-push (IsImportedBy text) names name have.only (record { statements = statements; are = are; number = count; words = words; here = here'; imports = imports });
    few = let few = have.few in let l = length-append names (name ∷ []) in omega arith;
  }
    where
      go : (k : ℕ) (ws : List Word) → k < count + 1 → slice_get statements k ≡ Some ws → (other : List ℕ) → Imports ws other → (k < count) ⊎ (count ≤ k)
          → Contains (names ++ name ∷ []) other
      go k ws h e other i (inl below) = Contains-append_left names (name ∷ []) other (have.all k ws below e other i)
      go k ws h e other i (inr last) =
          let same : name ≡ other = same-module words name other one imports (subst (λ w. Imports w other) (at-last k ws e last h) i) in
          subst (Contains (names ++ name ∷ [])) same (Contains-push names name)

-- all imports of a text, once all its statements were looked at
pub all-imports : ((text : List ℕ) → HasOneTokenList text) → ((tokens : List Token) → HasOneListOfChunks tokens) → (text : List ℕ) (tokens : List Token) (chunks : List Chunk)
    (names : List (List ℕ)) → AreStatements text (statements_of text tokens chunks) → HaveImports text (statements_of text tokens chunks) (length chunks) names
    → AreImports text names
all-imports token_lists chunk_lists text tokens chunks names are have = record {
  all = λ name i.
      let ours = statements_of text tokens chunks in
      let same : i.statements ≡ ours = statements-same i.statements i.are in
      let there : slice_get ours i.number ≡ Some i.words = ap (λ ss. slice_get ss i.number) (sym same) ∙ i.here in
      let within = slice_get-length ours i.number i.words there in
      let many = length-map chunks (statement_of text tokens) in
      have.all i.number i.words (omega arith) there name i.imports;
  only = λ name c. All-contains (IsImportedBy text) names name have.only c;
}
  where
    statements-same : (others : List (List Word)) → AreStatements text others → others ≡ statements_of text tokens chunks
    statements-same others a =
        let same : a.tokens ≡ are.tokens = (token_lists text).unique a.tokens are.tokens a.are_tokens are.are_tokens in
        let one = chunk_lists a.tokens in
        let cut : are.chunks ≡ a.chunks = one.2 are.chunks (subst (λ t. AreChunks t are.chunks) (sym same) are.are_chunks) ∙ sym (one.2 a.chunks a.are_chunks) in
        a.each ∙ ap₂ (statements_of text) same (sym cut) ∙ sym are.each

-- what holds of a value that is there
pub of-some : {A : Type 0} (o : Option A) (P : A → Type 0) (x : A) → o ≡ Some x → IfSome o P → P x
of-some None P x e p = absurd cc
of-some (Some y) P x e p = let same : y ≡ x = cc in subst P same p

pub of-none : {A : Type 0} (o : Option A) (P : Type 0) → o ≡ None → IfNone o P → P
of-none None P e p = p
of-none (Some y) P e p = absurd cc
