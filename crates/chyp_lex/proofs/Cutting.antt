-- What a text begins with, it begins with also where it is cut off behind that.
use Rattle.std.proofs.Common.{◌≡◌, ℕ, zero, suc, ◌+◌, ◌-◌, ◌≤◌, Bool, true, false, cond, List, [], ◌∷◌, ◌++◌, length, take, drop, slice_get, unwrap_or, Some, refl, sym, ap, subst, ◌∙◌, arith}
use Rattle.std.proofs.Math.Seq.{take-append-add}
use Rattle.std.proofs.lemmas.Bool.{false≢true}
use Rattle.std.proofs.lemmas.List.{drop-take, length-take-le}
use Rattle.std.specs.Char.{encode_utf8}
use Rattle.std.specs.Map.{lookup}
use Rattle.std.specs.Str.{bytes_eq, byte}
use Rattle.bstr.specs.Utf8.{Decoded, decoded, good}
use Rattle.bstr.proofs.lemmas.EncodeLemmas.{decoded-encode}
use Rattle.bstr.proofs.lemmas.SoundLemmas.{SpellsChar-decoded}
use Rattle.unicode_ident.specs.Ident.{is_xid_continue}
use Rattle.chyp_lex.specs.declared.token.TokenKind.{TokenKind}
use Rattle.chyp_lex.specs.declared.token.TokenKind.TheVariants.{Ident}
use Rattle.chyp_lex.specs.Lexemes.{BeginsWithCharacter, BeginsWithDotted, BeginsWithIdentifier, BeginsWithMany, BeginsWithMember, begins_identifier, dotted_name, identifier, kind_of_word, member, no_more, one_more, reserved_words}
use Rattle.chyp_lex.specs.Names.{is_name}
use Rattle.chyp_lex.proofs.Extending.{dotted-fits, identifier-fits}

-- what is left of a cut text behind its first items
rest-cut : (m n k : ℕ) (text : List ℕ) → m + n ≤ k → drop m (take k text) ≡ take (k - m) (drop m text)
rest-cut m n k text h = let same : m + (k - m) ≡ k = omega (arith, h) in subst (λ j. drop m (take j text) ≡ take (k - m) (drop m text)) same (drop-take m (k - m) text)

character-cut : (test : ℕ → Bool) (text : List ℕ) (n k : ℕ) → n ≤ k → BeginsWithCharacter test text n → BeginsWithCharacter test (take k text) n
character-cut test text n k h c =
    let spelt = SpellsChar-decoded text c.char c.decodes in
    let bytes = encode_utf8 c.char in
    let rest = drop (decoded text).size text in
    let width : length bytes ≡ n = spelt.width ∙ c.size in
    let long : length bytes + (k - length bytes) ≡ k = omega (arith, h) in
    let cut : take k text ≡ bytes ++ take (k - length bytes) rest =
    ap (take k) spelt.bytes ∙ ap (λ j. take j (bytes ++ rest)) (sym long) ∙ take-append-add bytes rest (k - length bytes) in
    let is : decoded (take k text) ≡ good c.char (length bytes) = ap decoded cut ∙ decoded-encode c.char (take (k - length bytes) rest) spelt.scalar in
    record { char = c.char; decodes = ap (λ (d : Decoded). d.char) is; size = ap (λ (d : Decoded). d.size) is ∙ width; passes = c.passes }

many-cut : (Piece : List ℕ → ℕ → Type 0) → ((text : List ℕ) (n k : ℕ) → n ≤ k → Piece text n → Piece (take k text) n) → (text : List ℕ) (n k : ℕ) → n ≤ k
    → BeginsWithMany Piece text n → BeginsWithMany Piece (take k text) n
many-cut Piece cut text n k h no_more = no_more
many-cut Piece cut text n k h (one_more {m = m} {n = j} piece others) =
    one_more (cut text m k (omega (arith, h)) piece)
    (subst (λ t. BeginsWithMany Piece t j) (sym (rest-cut m j k text h)) (many-cut Piece cut (drop m text) j (k - m) (omega (arith, h)) others))

identifier-cut : (text : List ℕ) (n k : ℕ) → n ≤ k → BeginsWithIdentifier text n → BeginsWithIdentifier (take k text) n
identifier-cut text n k h (identifier {m = m} {n = j} first others) =
    identifier (character-cut begins_identifier text m k (omega (arith, h)) first)
    (subst (λ t. BeginsWithMany (BeginsWithCharacter is_xid_continue) t j) (sym (rest-cut m j k text h))
    (many-cut (BeginsWithCharacter is_xid_continue) (character-cut is_xid_continue) (drop m text) j (k - m) (omega (arith, h)) others))

first-cut : (text : List ℕ) (k n : ℕ) → 1 + n ≤ k → slice_get text 0 ≡ Some (byte ".") → slice_get (take k text) 0 ≡ Some (byte ".")
first-cut text zero n h e = absurd (omega (arith, h))
first-cut [] (suc k) n h e = e
first-cut (b ∷ text) (suc k) n h e = e

member-cut : (text : List ℕ) (n k : ℕ) → n ≤ k → BeginsWithMember text n → BeginsWithMember (take k text) n
member-cut text n k h (member {n = j} at others) =
    member (first-cut text k j h at)
    (subst (λ t. BeginsWithIdentifier t j) (sym (rest-cut 1 j k text h)) (identifier-cut (drop 1 text) j (k - 1) (omega (arith, h)) others))

dotted-cut : (text : List ℕ) (n k : ℕ) → n ≤ k → BeginsWithDotted text n → BeginsWithDotted (take k text) n
dotted-cut text n k h (dotted_name {m = m} {n = j} first some others) =
    dotted_name (identifier-cut text m k (omega (arith, h)) first) some
    (subst (λ t. BeginsWithMany BeginsWithMember t j) (sym (rest-cut m j k text h)) (many-cut BeginsWithMember member-cut (drop m text) j (k - m) (omega (arith, h)) others))

-- an identifier is one by itself
pub identifier-alone : (text : List ℕ) (n : ℕ) → BeginsWithIdentifier text n → BeginsWithIdentifier (take n text) (length (take n text))
identifier-alone text n at =
    subst (BeginsWithIdentifier (take n text)) (sym (length-take-le n text (identifier-fits text n at))) (identifier-cut text n n (omega arith) at)

-- so is a dotted name
pub dotted-alone : (text : List ℕ) (n : ℕ) → BeginsWithDotted text n → BeginsWithDotted (take n text) (length (take n text))
dotted-alone text n at = subst (BeginsWithDotted (take n text)) (sym (length-take-le n text (dotted-fits text n at))) (dotted-cut text n n (omega arith) at)

-- no word is of the kind of a name
abbrev no-name : List (List ℕ × TokenKind) → Bool
no-name [] = true
no-name (word ∷ words) = cond (is_name word.1) false (no-name words)

kind-among : (name : List ℕ) (words : List (List ℕ × TokenKind)) → no-name words ≡ true → is_name (unwrap_or (lookup (bytes_eq name) words) Ident) ≡ true
    → unwrap_or (lookup (bytes_eq name) words) Ident ≡ Ident
kind-among name [] none h = refl
kind-among name (word ∷ words) none h = go (bytes_eq name word.0) (is_name word.1) refl none h (kind-among name words)
  where
    go : (same named : Bool) → is_name word.1 ≡ named → cond named false (no-name words) ≡ true
        → is_name (unwrap_or (cond same (Some word.1) (lookup (bytes_eq name) words)) Ident) ≡ true
        → (no-name words ≡ true → is_name (unwrap_or (lookup (bytes_eq name) words) Ident) ≡ true → unwrap_or (lookup (bytes_eq name) words) Ident ≡ Ident)
        → unwrap_or (cond same (Some word.1) (lookup (bytes_eq name) words)) Ident ≡ Ident
    go same true is none h rest = absurd (false≢true none)
    go true false is none h rest = absurd (false≢true (sym is ∙ h))
    go false false is none h rest = rest none h

-- a word whose kind is that of a name is no reserved one
pub name-kind : (name : List ℕ) → is_name (kind_of_word name) ≡ true → kind_of_word name ≡ Ident
name-kind name h = kind-among name reserved_words refl h
