-- No statement imports the module of the empty name, which is the main text.
use Rattle.std.proofs.Common.{◌≡◌, ℕ, ◌+◌, ◌<◌, List, [], ◌∷◌, length, take, drop, Option, Some, slice_get, All, refl, sym, ◌∙◌, ap, subst, arith}
use Rattle.std.proofs.lemmas.List.{drop-drop, length-take-le}
use Rattle.std.proofs.lemmas.List.Elements.{All-cons, All-drop, All-head, All-map, All-nil, All-tail, All-take}
use Rattle.chyp_lex.specs.declared.token.Token.{Token}
use Rattle.chyp_lex.specs.Tokens.{AreTokensFrom, nothing_left, passed_over, read, token_at, token_text}
use Rattle.chyp_lex.proofs.Pieces.{IsNext-fits}
use Rattle.chyp_syntax.specs.declared.chunk.Chunk.{Chunk}
use Rattle.chyp_syntax.specs.Heading.{chunk_tokens}
use Rattle.chyp_syntax.specs.Numbered.{NumberedToken}
use Rattle.chyp_syntax.specs.Sentence.{IsSentence, IsStatement, is_gen, is_import, is_import_as, is_let, is_rewrite, is_rule, is_show}
use Rattle.chyp_syntax.specs.Statement.{StatementTree, inclusion}
use Rattle.chyp_syntax.specs.Words.{Word, bytes_at, word_of}
use Rattle.chyp_verdicts.specs.Texts.{statement_of}
use Rattle.chyp_env.proofs.Bindings.{All-from}
use Rattle.chyp_verdicts.proofs.OneVerdict.{slice_get-read}
use Rattle.chyp_modules.specs.Import.{Imports, LeadsTo, Reaches, at_once, by_way_of}
use Rattle.chyp_modules.specs.Library.{AreStatements, Library, with_main}

-- ---- words have bytes

tokens-some : (whole : List ℕ) (start : ℕ) (text : List ℕ) (tokens : List Token) → text ≡ drop start whole → AreTokensFrom start text tokens
    → All (λ (t : Token). 0 < length (token_text whole t)) tokens
tokens-some whole start text tokens e nothing_left = All-nil _
tokens-some whole start text tokens e (passed_over {n} next rest) = tokens-some whole (start + n) (drop n text) tokens (ap (drop n) e ∙ drop-drop n start whole) rest
tokens-some whole start text tokens e (read {n} {kind} {tokens = others} next rest) =
    All-cons (λ (t : Token). 0 < length (token_text whole t)) (token_at start text n kind) others some
    (tokens-some whole (start + n) (drop n text) others (ap (drop n) e ∙ drop-drop n start whole) rest)
  where
    some : 0 < length (take n (drop start whole))
    some =
        let fits = IsNext-fits next in
        let size : length (take n (drop start whole)) ≡ n = ap (λ (t : List ℕ). length (take n t)) (sym e) ∙ length-take-le n text fits.1 in
        omega (arith, size, fits.0)

abbrev HasBytes : Word → Type 0
HasBytes word = 0 < length word.bytes

words-some : (text : List ℕ) (tokens : List Token) (chunk : Chunk) → All (λ (t : Token). 0 < length (token_text text t)) tokens → All HasBytes (statement_of text tokens chunk)
words-some text tokens chunk all =
    let P : Token → Type 0 = λ t. 0 < length (token_text text t) in
    All-map HasBytes (word_of text) (chunk_tokens tokens chunk) (All-take P chunk.count (drop chunk.first tokens) (All-drop P chunk.first tokens all))

statements-some : (text : List ℕ) (ss : List (List Word)) → AreStatements text ss → All (All HasBytes) ss
statements-some text ss are =
    let all = tokens-some text 0 text are.tokens refl are.are_tokens in
    subst (All (All HasBytes)) (sym are.each)
    (All-map (All HasBytes) (statement_of text are.tokens) are.chunks
    (All-from (λ (c : Chunk). All HasBytes (statement_of text are.tokens c)) are.chunks (λ c has. words-some text are.tokens c all)))

-- ---- imports name something

-- an import has the name of its module behind its keyword
abbrev NamesSecond : StatementTree → List NumberedToken → Type 0
NamesSecond (inclusion imported prefix) [] = ⊥
NamesSecond (inclusion imported prefix) (word ∷ []) = ⊥
NamesSecond (inclusion imported prefix) (word ∷ second ∷ rest) = second.0 ≡ imported
NamesSecond _ tokens = Unit {0}

names-second : {tokens : List NumberedToken} {tree : StatementTree} → IsStatement tokens tree → NamesSecond tree tokens
names-second (is_gen w n c d a e) = tt
names-second (is_let w n e t) = tt
names-second (is_rule equals w n c l e r) = tt
names-second (is_rewrite w n c t s) = tt
names-second (is_import w n) = refl
names-second (is_import_as w n a p) = refl
names-second (is_show w n) = tt

sentence-names : (words : List Word) (word : ℕ) (prefix : Option ℕ) → All HasBytes words → IsSentence words (inclusion word prefix) → 0 < length (bytes_at words word)
sentence-names [] word prefix all s = absurd (names-second s.statement)
sentence-names (first ∷ []) word prefix all s = absurd (names-second s.statement)
sentence-names (first ∷ second ∷ rest) word prefix all s =
    subst (λ n. 0 < length (bytes_at (first ∷ second ∷ rest) n)) (names-second s.statement) (All-head HasBytes second rest (All-tail HasBytes first (second ∷ rest) all))

-- what a statement of a text imports isn't the module of the empty name
pub import-named : (text : List ℕ) (ss : List (List Word)) (k : ℕ) (words : List Word) (name : List ℕ) → AreStatements text ss → slice_get ss k ≡ Some words → Imports words name
    → ¬ (name ≡ [])
import-named text ss k words name are at i empty =
    let read = slice_get-read ss k words at in
    let all : All HasBytes words = subst (All HasBytes) read.1 (statements-some text ss are k words read.0) in
    let some = sentence-names words i.word i.as_word all i.is_sentence in
    let none : length (bytes_at words i.word) ≡ 0 = ap length (i.named ∙ empty) in
    absurd (omega arith)

-- nor is what a module leads to, or reaches
leads-named : (library : Library) (a b : List ℕ) → LeadsTo library a b → ¬ (b ≡ [])
leads-named library a b l = import-named l.text l.statements l.number l.words b l.is_module.are l.here l.imports

pub reached-named : (library : Library) (a b : List ℕ) → Reaches library a b → ¬ (b ≡ [])
reached-named library a b (at_once l) = leads-named library a b l
reached-named library a b (by_way_of {next} l r) = reached-named library next b r

-- the library with a main text has the library's text of each other name
pub with-main-below : (library : Library) (text name : List ℕ) → ¬ (name ≡ []) → with_main library text name ≡ library name
with-main-below library text [] some = absurd (some refl)
with-main-below library text (byte ∷ name) some = refl
