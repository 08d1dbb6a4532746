-- What a text begins with, it begins with also where more comes behind it.
use Rattle.std.proofs.Common.{◌≡◌, ℕ, ◌≤◌, Bool, List, [], ◌∷◌, ◌++◌, length, drop, sym, ap, subst, ◌∙◌, arith, append_assoc, length-drop}
use Rattle.std.proofs.lemmas.List.{drop-append-le}
use Rattle.std.specs.Char.{encode_utf8}
use Rattle.bstr.specs.Utf8.{Decoded, decoded, good}
use Rattle.bstr.proofs.lemmas.EncodeLemmas.{decoded-encode}
use Rattle.bstr.proofs.lemmas.SoundLemmas.{SpellsChar-decoded}
use Rattle.unicode_ident.specs.Ident.{is_xid_continue}
use Rattle.chyp_lex.specs.Lexemes.{BeginsWithCharacter, BeginsWithDotted, BeginsWithIdentifier, BeginsWithMany, BeginsWithMember, begins_identifier, dotted_name, identifier, member, no_more, one_more}
use Rattle.chyp_lex.proofs.Names.{character-bounds}

module _ (rest : List ℕ) where
  -- what decodes doesn't look at what follows it
  pub character-more : (test : ℕ → Bool) (text : List ℕ) (n : ℕ) → BeginsWithCharacter test text n → BeginsWithCharacter test (text ++ rest) n
  character-more test text n c =
      let spelt = SpellsChar-decoded text c.char c.decodes in
      let bytes : text ++ rest ≡ encode_utf8 c.char ++ (drop (decoded text).size text ++ rest) =
      ap (λ t. t ++ rest) spelt.bytes ∙ append_assoc (encode_utf8 c.char) (drop (decoded text).size text) rest in
      let is : decoded (text ++ rest) ≡ good c.char (length (encode_utf8 c.char)) = ap decoded bytes ∙ decoded-encode c.char (drop (decoded text).size text ++ rest) spelt.scalar in
      record { char = c.char; decodes = ap (λ (d : Decoded). d.char) is; size = ap (λ (d : Decoded). d.size) is ∙ spelt.width ∙ c.size; passes = c.passes }

  pub many-more : (Piece : List ℕ → ℕ → Type 0) → ((text : List ℕ) (n : ℕ) → Piece text n → n ≤ length text) → ((text : List ℕ) (n : ℕ) → Piece text n → Piece (text ++ rest) n)
      → {text : List ℕ} {n : ℕ} → BeginsWithMany Piece text n → BeginsWithMany Piece (text ++ rest) n
  many-more Piece fits more no_more = no_more
  many-more Piece fits more (one_more {text} {m} {n} piece others) =
      one_more (more text m piece) (subst (λ t. BeginsWithMany Piece t n) (sym (drop-append-le m text rest (fits text m piece))) (many-more Piece fits more others))

many-fits : (Piece : List ℕ → ℕ → Type 0) → ((text : List ℕ) (n : ℕ) → Piece text n → n ≤ length text) → {text : List ℕ} {n : ℕ} → BeginsWithMany Piece text n → n ≤ length text
many-fits Piece fits no_more = omega arith
many-fits Piece fits (one_more {text} {m} {n} piece others) =
    let first = fits text m piece in
    let cut = length-drop m text in
    omega (arith, many-fits Piece fits others)

character-fits : (test : ℕ → Bool) (text : List ℕ) (n : ℕ) → BeginsWithCharacter test text n → n ≤ length text
character-fits test text n c = (character-bounds test text n c).1

pub identifier-fits : (text : List ℕ) (n : ℕ) → BeginsWithIdentifier text n → n ≤ length text
identifier-fits text n (identifier {m = m} {n = k} first others) =
    let fits = character-fits begins_identifier text m first in
    let cut = length-drop m text in
    omega (arith, many-fits (BeginsWithCharacter is_xid_continue) (character-fits is_xid_continue) others)

pub member-fits : (text : List ℕ) (n : ℕ) → BeginsWithMember text n → n ≤ length text
member-fits [] n (member at others) = absurd cc
member-fits (b ∷ text) n (member {n = k} at others) = omega (arith, identifier-fits text k others)

module _ (rest : List ℕ) where
  pub identifier-more : (text : List ℕ) (n : ℕ) → BeginsWithIdentifier text n → BeginsWithIdentifier (text ++ rest) n
  identifier-more text n (identifier {m = m} {n = k} first others) =
      let cut = drop-append-le m text rest (character-fits begins_identifier text m first) in
      identifier (character-more rest begins_identifier text m first) (subst (λ t. BeginsWithMany (BeginsWithCharacter is_xid_continue) t k) (sym cut)
      (many-more rest (BeginsWithCharacter is_xid_continue) (character-fits is_xid_continue) (character-more rest is_xid_continue) others))

  pub member-more : (text : List ℕ) (n : ℕ) → BeginsWithMember text n → BeginsWithMember (text ++ rest) n
  member-more [] n (member at others) = absurd cc
  member-more (b ∷ text) n (member {n = k} at others) = member at (identifier-more text k others)

  pub dotted-more : (text : List ℕ) (n : ℕ) → BeginsWithDotted text n → BeginsWithDotted (text ++ rest) n
  dotted-more text n (dotted_name {m = m} {n = k} first some others) =
      dotted_name (identifier-more text m first) some
      (subst (λ t. BeginsWithMany BeginsWithMember t k) (sym (drop-append-le m text rest (identifier-fits text m first))) (many-more rest BeginsWithMember member-fits member-more others))

pub dotted-fits : (text : List ℕ) (n : ℕ) → BeginsWithDotted text n → n ≤ length text
dotted-fits text n (dotted_name {m = m} {n = k} first some others) =
    let fits = identifier-fits text m first in
    let cut = length-drop m text in
    omega (arith, many-fits BeginsWithMember member-fits others)
