-- Which statements are imports.
use Rattle.std.proofs.Common.{◌≡◌, ℕ, List, [], ◌∷◌, Option, Some, refl, ap, subst}
use Rattle.std.specs.Str.{IsUtf8}
use Rattle.std.proofs.lemmas.List.Elements.{All-head, All-tail}
use Rattle.chyp_lex.specs.declared.token.TokenKind.TheVariants.{Ident, WordImport}
use Rattle.chyp_syntax.specs.Numbered.{NumberedToken, kind_of}
use Rattle.chyp_syntax.specs.Sentence.{IsStatement, IsSentence, is_gen, is_let, is_rule, is_rewrite, is_import, is_import_as, is_show}
use Rattle.chyp_syntax.specs.Statement.{StatementTree, generator, abbreviation, rule, rewrite, inclusion, showing}
use Rattle.chyp_syntax.specs.Words.{Word, bytes_at, keyword_in}
use Rattle.chyp_env.specs.ChunkView.{AreSpelled}
use Rattle.chyp_modules.specs.Import.{ImportsNothing}
use Rattle.chyp_load.specs.Imported.{imported_word}

-- how an import begins: with its keyword, and with the name of the module
abbrev Begins : StatementTree → List NumberedToken → Type 0
Begins (inclusion imported prefix) [] = ⊥
Begins (inclusion imported prefix) (word ∷ []) = ⊥
Begins (inclusion imported prefix) (word ∷ second ∷ rest) = (kind_of word ≡ WordImport) × (second.0 ≡ imported) × (kind_of second ≡ Ident)
Begins _ tokens = Unit {0}

begins : {tokens : List NumberedToken} {tree : StatementTree} → IsStatement tokens tree → Begins tree tokens
begins (is_gen w n c d a e) = tt
begins (is_let w n e t) = tt
begins (is_rule equals w n c l e r) = tt
begins (is_rewrite w n c t s) = tt
begins (is_import w n) = (w, refl, n)
begins (is_import_as w n a p) = (w, refl, n)
begins (is_show w n) = tt

import_keyword : (words : List Word) (word : ℕ) (prefix : Option ℕ) → IsSentence words (inclusion word prefix) → keyword_in words ≡ Some WordImport
import_keyword [] word prefix s = absurd (begins s.statement)
import_keyword (first ∷ []) word prefix s = absurd (begins s.statement)
import_keyword (first ∷ second ∷ rest) word prefix s = ap Some (begins s.statement).0

-- a statement that begins with another word is no import
pub other_keyword : (words : List Word) → ¬ (keyword_in words ≡ Some WordImport) → ImportsNothing words
other_keyword words other word prefix s = other (import_keyword words word prefix s)

import_spelled : (words : List Word) (word : ℕ) (prefix : Option ℕ) → AreSpelled words → IsSentence words (inclusion word prefix) → IsUtf8 (bytes_at words word)
import_spelled [] word prefix spelled s = absurd (begins s.statement)
import_spelled (first ∷ []) word prefix spelled s = absurd (begins s.statement)
import_spelled (first ∷ second ∷ rest) word prefix spelled s =
    let starts = begins s.statement in
    let P : Word → Type 0 = λ w. w.kind ≡ Ident → IsUtf8 w.bytes in
    subst (λ n. IsUtf8 (bytes_at (first ∷ second ∷ rest) n)) starts.1 (All-head P second rest (All-tail P first (second ∷ rest) spelled) starts.2)

-- the name of the module is UTF-8
pub module_spelled : (words : List Word) (tree : StatementTree) (word : ℕ) → AreSpelled words → IsSentence words tree → imported_word tree ≡ Some word
    → IsUtf8 (bytes_at words word)
module_spelled words (inclusion w prefix) word spelled s e = let same : w ≡ word = cc in subst (λ n. IsUtf8 (bytes_at words n)) same (import_spelled words w prefix spelled s)
module_spelled words (generator name dom cod) word spelled s e = absurd cc
module_spelled words (abbreviation name term) word spelled s e = absurd cc
module_spelled words (rule name left equals right) word spelled s e = absurd cc
module_spelled words (rewrite name first steps) word spelled s e = absurd cc
module_spelled words (showing name) word spelled s e = absurd cc
