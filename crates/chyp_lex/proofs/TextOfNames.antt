-- The bytes of a name are UTF-8, since it is made of characters that were decoded, and a name by themselves.
use Rattle.std.proofs.Common.{◌≡◌, ℕ, ◌+◌, Bool, IsTrue, List, [], ◌∷◌, length, take, drop, slice_get, Some, inl, inr, refl, sym, ap, subst, ◌∙◌, rules}
use Rattle.std.proofs.Math.Seq.{take-add, take-append_seam}
use Rattle.std.proofs.lemmas.List.{drop-drop}
use Rattle.std.proofs.lemmas.List.Elements.{All-cons, All-nil}
use Rattle.std.specs.Char.{encode_utf8}
use Rattle.std.specs.Str.{IsUtf8, byte}
use Rattle.std.proofs.lemmas.Str.{IsUtf8-append, IsUtf8-encode, IsUtf8-from_ascii, IsUtf8-nil}
use Rattle.bstr.specs.Utf8.{decoded}
use Rattle.unicode_ident.specs.Ident.{is_xid_continue}
use Rattle.bstr.proofs.lemmas.SoundLemmas.{SpellsChar-decoded}
use Rattle.chyp_lex.specs.declared.token.Token.{Token}
use Rattle.chyp_lex.specs.declared.token.TokenKind.{TokenKind}
use Rattle.chyp_lex.specs.Lexemes.{BeginsWith, BeginsWithCharacter, BeginsWithIdentifier, BeginsWithMany, BeginsWithMember, BeginsWithDotted, BeginsWithSymbol, begins_identifier, no_more, one_more, identifier, member, dotted_name, colon, arrow, equals, semicolon, star, left_parenthesis, right_parenthesis, left_bracket, right_bracket, comma, minus, question_mark, word, dotted, number, too_large, symbol}
use Rattle.chyp_lex.specs.Names.{is_name, IsNameText, NamesAreText}
use Rattle.chyp_lex.specs.Tokens.{AreTokensFrom, IsNext, token_at, token_text, lexeme, bad, nothing_left, passed_over, read}
use Rattle.chyp_lex.proofs.Cutting.{dotted-alone, identifier-alone, name-kind}

-- two pieces of text behind one another
both : (m n : ℕ) (text : List ℕ) → IsUtf8 (take m text) → IsUtf8 (take n (drop m text)) → IsUtf8 (take (m + n) text)
both m n text a b = subst IsUtf8 (sym (take-add m n text)) (IsUtf8-append (take m text) (take n (drop m text)) a b)

character : (test : ℕ → Bool) (text : List ℕ) (n : ℕ) → BeginsWithCharacter test text n → IsUtf8 (take n text)
character test text n c =
    let spelt = SpellsChar-decoded text c.char c.decodes in
    let bytes = encode_utf8 c.char in
    let front : take n text ≡ bytes =
    ap (λ k. take k text) (sym (spelt.width ∙ c.size)) ∙ ap (take (length bytes)) spelt.bytes ∙ take-append_seam bytes (drop (decoded text).size text) in
    subst IsUtf8 (sym front) (IsUtf8-encode c.char spelt.scalar)

many : (Piece : List ℕ → ℕ → Type 0) → ((text : List ℕ) (n : ℕ) → Piece text n → IsUtf8 (take n text)) → (text : List ℕ) (n : ℕ) → BeginsWithMany Piece text n → IsUtf8 (take n text)
many Piece one text n no_more = IsUtf8-nil
many Piece one text n (one_more {m = m} {n = k} piece rest) = both m k text (one text m piece) (many Piece one (drop m text) k rest)

identifier-text : (text : List ℕ) (n : ℕ) → BeginsWithIdentifier text n → IsUtf8 (take n text)
identifier-text text n (identifier {m = m} {n = k} first rest) =
    both m k text (character begins_identifier text m first) (many (BeginsWithCharacter is_xid_continue) (character is_xid_continue) (drop m text) k rest)

dot : (text : List ℕ) → slice_get text 0 ≡ Some (byte ".") → IsUtf8 (take 1 text)
dot [] e = absurd cc
dot (b ∷ text) e = let is : b ≡ byte "." = cc in subst (λ x. IsUtf8 (x ∷ [])) (sym is) (IsUtf8-from_ascii (byte "." ∷ []) (search rules))

member-text : (text : List ℕ) (n : ℕ) → BeginsWithMember text n → IsUtf8 (take n text)
member-text text n (member {n = k} at rest) = both 1 k text (dot text at) (identifier-text (drop 1 text) k rest)

dotted-text : (text : List ℕ) (n : ℕ) → BeginsWithDotted text n → IsUtf8 (take n text)
dotted-text text n (dotted_name {m = m} {n = k} first some rest) =
    both m k text (identifier-text text m first) (many BeginsWithMember member-text (drop m text) k rest)

no_symbol : (text : List ℕ) (n : ℕ) (kind : TokenKind) → BeginsWithSymbol text n kind → IsTrue (is_name kind) → ⊥
no_symbol text n kind colon h = absurd cc
no_symbol text n kind arrow h = absurd cc
no_symbol text n kind equals h = absurd cc
no_symbol text n kind semicolon h = absurd cc
no_symbol text n kind star h = absurd cc
no_symbol text n kind left_parenthesis h = absurd cc
no_symbol text n kind right_parenthesis h = absurd cc
no_symbol text n kind left_bracket h = absurd cc
no_symbol text n kind right_bracket h = absurd cc
no_symbol text n kind comma h = absurd cc
no_symbol text n kind minus h = absurd cc
no_symbol text n kind question_mark h = absurd cc

lexeme-text : (text : List ℕ) (n : ℕ) (kind : TokenKind) → BeginsWith text n (Some kind) → IsTrue (is_name kind) → IsUtf8 (take n text) × IsNameText (take n text)
lexeme-text text n kind (word at) h = (identifier-text text n at, inl (identifier-alone text n at, name-kind (take n text) h))
lexeme-text text n kind (dotted at) h = (dotted-text text n at, inr (dotted-alone text n at))
lexeme-text text n kind (number run small) h = absurd cc
lexeme-text text n kind (too_large run large) h = absurd cc
lexeme-text text n kind (symbol at) h = absurd (no_symbol text n kind at h)

next-text : (text : List ℕ) (n : ℕ) (kind : TokenKind) → IsNext text n (Some kind) → IsTrue (is_name kind) → IsUtf8 (take n text) × IsNameText (take n text)
next-text text n kind (lexeme longest) h = lexeme-text text n kind longest.begins h
next-text text n kind (bad some none) h = absurd cc

abbrev IsTextIn : List ℕ → Token → Type 0
IsTextIn whole token = IsTrue (is_name token.kind) → IsUtf8 (token_text whole token) × IsNameText (token_text whole token)

from : (whole : List ℕ) (start : ℕ) (text : List ℕ) (tokens : List Token) → text ≡ drop start whole → AreTokensFrom start text tokens → NamesAreText whole tokens
from whole start text tokens e nothing_left = All-nil (IsTextIn whole)
from whole start text tokens e (passed_over {n = n} next rest) = from whole (start + n) (drop n text) tokens (ap (drop n) e ∙ drop-drop n start whole) rest
from whole start text tokens e (read {n = n} {kind = kind} {tokens = others} next rest) =
    All-cons (IsTextIn whole) (token_at start text n kind) others (λ h. subst (λ t. IsUtf8 (take n t) × IsNameText (take n t)) e (next-text text n kind next h))
    (from whole (start + n) (drop n text) others (ap (drop n) e ∙ drop-drop n start whole) rest)

-- the names of a text are UTF-8, and names by themselves
pub names_are_text : (text : List ℕ) (tokens : List Token) → AreTokensFrom 0 text tokens → NamesAreText text tokens
names_are_text text tokens are = from text 0 text tokens refl are
