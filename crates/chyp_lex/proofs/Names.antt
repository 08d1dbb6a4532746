-- Characters, identifiers and dotted names, against how far the code finds them to reach.
use Rattle.std.proofs.Common.{◌≡◌, ◌≢◌, ◌⊎◌, ℕ, zero, suc, ◌+◌, ◌<◌, ◌≤◌, Bool, true, false, cond, List, [], ◌∷◌, length, drop, refl, sym, ap, ◌∙◌, arith, inl, inr, ⊎_elim, Option, Some, None, slice_index, slice_get, length-drop}
use Rattle.std.specs.Prelude.{◌==◌, ◌||◌}
use Rattle.std.specs.Char.{is_ascii_alphabetic}
use Rattle.std.proofs.lemmas.Bool.{cases_Bool, cond-true, cond-false, cases_lt, false≢true}
use Rattle.std.proofs.lemmas.Bool.Decides.{nat_tests}
use Rattle.std.proofs.lemmas.List.{drop-drop}
use Rattle.bstr.specs.Utf8.{decoded, good}
use Rattle.bstr.proofs.lemmas.PieceLemmas.{piece-bounds, value-1}
use Rattle.unicode_ident.specs.Ident.{is_xid_continue}
use Rattle.unicode_ident.proofs.IdentLemmas.{is_xid_start-ascii, is_xid_continue-ascii}
use Rattle.chyp_lex.specs.Lexemes.{BeginsWithCharacter, BeginsWithMany, BeginsWithIdentifier, identifier, BeginsWithMember, member, begins_identifier}
use Rattle.chyp_lex.specs.Longest.{size_if, character_len, continuation_len, identifier_len, member_len, members_len}
use Rattle.chyp_lex.proofs.Repeats.{repeated-le-length, repeated-stop, FindsPiece, Many-repeated, Reaches, Many-reaches, Many-exact}

-- characters

size_if-some : (test : ℕ → Bool) (o : Option ℕ) (size : ℕ) → 0 < size_if test o size → (c : ℕ) × (o ≡ Some c) × (test c ≡ true) × (size_if test o size ≡ size)
size_if-some test None size h = absurd (omega arith)
size_if-some test (Some c) size h =
    ⊎_elim
    (λ yes. (c, refl, yes, cond-true _ _ _ yes))
    (λ no. let none : cond (test c) size 0 ≡ 0 = cond-false _ _ _ no in absurd (omega arith))
    (cases_Bool (test c))

pub character_len-finds : (test : ℕ → Bool) (text : List ℕ) → 0 < character_len test text → BeginsWithCharacter test text (character_len test text)
unfolding character_len
character_len-finds test text h =
    let found = size_if-some test (decoded text).char (decoded text).size h in
    record { char = found.0; decodes = found.1; size = sym found.3; passes = found.2 }

pub character_len-exact : (test : ℕ → Bool) (text : List ℕ) (n : ℕ) → BeginsWithCharacter test text n → character_len test text ≡ n
unfolding character_len
character_len-exact test text n c = rw (c.decodes) (cond-true _ _ _ c.passes) ∙ c.size

-- a text that decodes to a character isn't empty
decodes-some : (text : List ℕ) (c : ℕ) → (decoded text).char ≡ Some c → 0 < length text
decodes-some [] c h = cc
decodes-some (b ∷ rest) c h = omega arith

pub character-bounds : (test : ℕ → Bool) (text : List ℕ) (n : ℕ) → BeginsWithCharacter test text n → (0 < n) × (n ≤ length text)
character-bounds test text n c =
    let bounds = piece-bounds text (decodes-some text c.char c.decodes) in
    let size = c.size in
    (omega (arith, bounds.0), omega (arith, bounds.2))

size_if-le : (test : ℕ → Bool) (o : Option ℕ) (size : ℕ) → size_if test o size ≤ size
size_if-le test None size = omega arith
size_if-le test (Some c) size = ⊎_elim (λ yes. rw (cond-true _ _ _ yes) (omega arith)) (λ no. rw (cond-false _ _ _ no) (omega arith)) (cases_Bool (test c))

pub character_len-le-length : (test : ℕ → Bool) (text : List ℕ) → character_len test text ≤ length text
unfolding character_len
character_len-le-length test [] = omega arith
character_len-le-length test (b ∷ rest) =
    let bounds = piece-bounds (b ∷ rest) (omega arith) in
    omega (arith, bounds.2, size_if-le test (decoded (b ∷ rest)).char (decoded (b ∷ rest)).size)

-- an ASCII byte is a character by itself
pub decoded-ascii : (text : List ℕ) → 0 < length text → slice_index text 0 < 128 → decoded text ≡ good (slice_index text 0) 1
decoded-ascii text some low = value-1 (length text) (slice_index text 0) (slice_index text 1) (slice_index text 2) (slice_index text 3) (some, low)

character-ascii : (test : ℕ → Bool) (text : List ℕ) (n : ℕ) → BeginsWithCharacter test text n → slice_index text 0 < 128 → test (slice_index text 0) ≡ true
character-ascii test text n c low =
    let is = decoded-ascii text (decodes-some text c.char c.decodes) low in
    let same : Some (slice_index text 0) ≡ Some c.char = ap (λ d. d.char) (sym is) ∙ c.decodes in
    let first : slice_index text 0 ≡ c.char = cc in
    rw first c.passes

-- an identifier begins with an ASCII letter, `_` or a byte that isn't ASCII
pub record IsNameByte (b : ℕ) : Type 0 where
  pub above : 64 < b
  pub no_left_bracket : b ≢ 91
  pub no_right_bracket : b ≢ 93

letter-byte : (b : ℕ) → b < 128 → begins_identifier b ≡ true → IsNameByte b
letter-byte b low h =
    let test : ((b == 95) || is_ascii_alphabetic b) ≡ true = rw is_xid_start-ascii at h in
    record { above = grind (arith, nat_tests); no_left_bracket = grind (arith, nat_tests); no_right_bracket = grind (arith, nat_tests) }

first-name-byte : (text : List ℕ) (n : ℕ) → BeginsWithCharacter begins_identifier text n → IsNameByte (slice_index text 0)
first-name-byte text n c =
    ⊎_elim
    (λ low. letter-byte (slice_index text 0) low (character-ascii begins_identifier text n c low))
    (λ high. record { above = omega arith; no_left_bracket = omega arith; no_right_bracket = omega arith })
    (cases_lt (slice_index text 0) 128)

-- a `.` continues no identifier
continues-no-dot : (text : List ℕ) (n : ℕ) → BeginsWithCharacter is_xid_continue text n → slice_index text 0 ≢ 46
continues-no-dot text n c dot =
    let low : slice_index text 0 < 128 = omega arith in
    let yes = character-ascii is_xid_continue text n c low in
    let no : is_xid_continue 46 ≡ false = is_xid_continue-ascii 46 (omega arith) in
    absurd (false≢true (sym no ∙ rw dot at yes))

-- identifiers

continuations-find : FindsPiece (BeginsWithCharacter is_xid_continue) (character_len is_xid_continue)
continuations-find = record { finds = character_len-finds is_xid_continue; within = character_len-le-length is_xid_continue }

continuations-exact : (t : List ℕ) (n : ℕ) → BeginsWithCharacter is_xid_continue t n → (0 < n) × (n ≡ character_len is_xid_continue t)
continuations-exact t n c = ((character-bounds is_xid_continue t n c).0, sym (character_len-exact is_xid_continue t n c))

-- what the identifier's length is, where there is one and where there is none
pub identifier_len-some : (text : List ℕ) (first : ℕ) → character_len begins_identifier text ≡ first → 0 < first → identifier_len text ≡ first + continuation_len (drop first text)
unfolding identifier_len
identifier_len-some text first is some =
    let test : (first == 0) ≡ false = grind (arith, nat_tests) in
    rw is (cond-false _ _ _ test)

pub identifier_len-none : (text : List ℕ) → character_len begins_identifier text ≡ 0 → identifier_len text ≡ 0
unfolding identifier_len
identifier_len-none text is =
    let test : (character_len begins_identifier text == 0) ≡ true = grind (arith, nat_tests) in
    cond-true _ _ _ test

pub zero_or_some : (n : ℕ) → (n ≡ 0) ⊎ (0 < n)
zero_or_some zero = inl refl
zero_or_some (suc n) = inr (omega arith)

pub identifier_len-le-length : (text : List ℕ) → identifier_len text ≤ length text
identifier_len-le-length text =
    let first = character_len begins_identifier text in
    let within = character_len-le-length begins_identifier text in
    let more = repeated-le-length (character_len is_xid_continue) (drop first text) in
    let cut = length-drop first text in
    ⊎_elim
    (λ (none : character_len begins_identifier text ≡ 0). omega (arith, identifier_len-none text none))
    (λ (some : 0 < character_len begins_identifier text). omega (arith, identifier_len-some text first refl some))
    (zero_or_some (character_len begins_identifier text))

pub identifier_len-finds : (text : List ℕ) → 0 < identifier_len text → BeginsWithIdentifier text (identifier_len text)
identifier_len-finds text h =
    let first = character_len begins_identifier text in
    ⊎_elim
    (λ (none : character_len begins_identifier text ≡ 0). let zero = identifier_len-none text none in absurd (omega arith))
    (λ (some : 0 < character_len begins_identifier text).
    rw (identifier_len-some text first refl some)
    (identifier (character_len-finds begins_identifier text some) (Many-repeated _ _ continuations-find (length (drop first text)) (drop first text) (omega arith))))
    (zero_or_some (character_len begins_identifier text))

-- an identifier is as long as the longest, or shorter, and then no `.` follows it
pub record IdentifierReaches (text : List ℕ) (n : ℕ) : Type 0 where
  pub some : 0 < n
  pub starts : IsNameByte (slice_index text 0)
  pub longest : (n ≡ identifier_len text) ⊎ ((n ≤ identifier_len text) × (slice_index (drop n text) 0 ≢ 46))

pub Identifier-reaches : {text : List ℕ} {n : ℕ} → BeginsWithIdentifier text n → IdentifierReaches text n
Identifier-reaches (identifier {text} {m} {n} c rest) =
    let first = character_len-exact begins_identifier text m c in
    let some = (character-bounds begins_identifier text m c).0 in
    let len = identifier_len-some text m first some in
    let within = Many-reaches _ _ (record {
      within = character_len-le-length is_xid_continue;
      some = λ t k p. omega (arith, (continuations-exact t k p).0, (continuations-exact t k p).1);
      reaches = λ t k p. inl (continuations-exact t k p).1;
    }) rest in
    record {
      some = omega arith;
      starts = first-name-byte text m c;
      longest =
          ⊎_elim
          (λ (same : n ≡ continuation_len (drop m text)). inl (omega arith))
          (λ (more : 0 < character_len is_xid_continue (drop n (drop m text))).
          let no_dot = continues-no-dot (drop n (drop m text)) _ (character_len-finds is_xid_continue _ more) in
          inr (omega arith, rw drop-drop at no_dot))
          (Many-exact _ _ (character_len-le-length is_xid_continue) continuations-exact rest);
    }

pub identifier_len-name-byte : (text : List ℕ) → 0 < identifier_len text → IsNameByte (slice_index text 0)
identifier_len-name-byte text some = (Identifier-reaches (identifier_len-finds text some)).starts

-- members of dotted names

pub slice_get-first : (text : List ℕ) (b : ℕ) → slice_get text 0 ≡ Some b → slice_index text 0 ≡ b
slice_get-first [] b h = cc
slice_get-first (c ∷ rest) b h = cc

pub slice_get-some : (text : List ℕ) (b : ℕ) → 0 < length text → slice_index text 0 ≡ b → slice_get text 0 ≡ Some b
slice_get-some [] b some h = absurd (omega arith)
slice_get-some (c ∷ rest) b some h = ap Some h

pub member_len-some : (text : List ℕ) → slice_index text 0 ≡ 46 → 0 < identifier_len (drop 1 text) → member_len text ≡ 1 + identifier_len (drop 1 text)
unfolding member_len
member_len-some text dot some =
    let test : (slice_index text 0 == 46) ≡ true = grind (arith, nat_tests) in
    let inner : (identifier_len (drop 1 text) == 0) ≡ false = grind (arith, nat_tests) in
    cond-true _ _ _ test ∙ cond-false _ _ _ inner

pub member_len-no_dot : (text : List ℕ) → slice_index text 0 ≢ 46 → member_len text ≡ 0
unfolding member_len
member_len-no_dot text dot =
    let test : (slice_index text 0 == 46) ≡ false = grind (arith, nat_tests) in
    cond-false _ _ _ test

pub member_len-no_name : (text : List ℕ) → identifier_len (drop 1 text) ≡ 0 → member_len text ≡ 0
unfolding member_len
member_len-no_name text none =
    let inner : (identifier_len (drop 1 text) == 0) ≡ true = grind (arith, nat_tests) in
    ⊎_elim
    (λ yes. cond-true _ _ _ yes ∙ cond-true _ _ _ inner)
    (λ no. cond-false _ _ _ no)
    (cases_Bool (slice_index text 0 == 46))

-- which of the three it is
member_len-cases : (text : List ℕ) → (member_len text ≡ 0) ⊎ ((slice_index text 0 ≡ 46) × (0 < identifier_len (drop 1 text)) × (member_len text ≡ 1 + identifier_len (drop 1 text)))
member_len-cases text =
    ⊎_elim
    (λ yes.
    let dot : slice_index text 0 ≡ 46 = grind (arith, nat_tests) in
    ⊎_elim
    (λ (none : identifier_len (drop 1 text) ≡ 0). inl (member_len-no_name text none))
    (λ (some : 0 < identifier_len (drop 1 text)). inr (dot, some, member_len-some text dot some))
    (zero_or_some (identifier_len (drop 1 text))))
    (λ no. let other : slice_index text 0 ≢ 46 = grind (arith, nat_tests) in inl (member_len-no_dot text other))
    (cases_Bool (slice_index text 0 == 46))

pub member_len-le-length : (text : List ℕ) → member_len text ≤ length text
member_len-le-length text =
    let within = identifier_len-le-length (drop 1 text) in
    let cut = length-drop 1 text in
    ⊎_elim (λ none. omega arith) (λ some. omega (arith, some.1, some.2)) (member_len-cases text)

pub index-some : (text : List ℕ) (b : ℕ) → slice_index text 0 ≡ b → 0 < b → 0 < length text
index-some [] b is some = absurd (omega arith)
index-some (c ∷ rest) b is some = omega arith

member_len-finds : (text : List ℕ) → 0 < member_len text → BeginsWithMember text (member_len text)
member_len-finds text h =
    ⊎_elim
    (λ none. absurd (omega arith))
    (λ (found : (slice_index text 0 ≡ 46) × (0 < identifier_len (drop 1 text)) × (member_len text ≡ 1 + identifier_len (drop 1 text))).
    rw found.2 (member (slice_get-some text 46 (index-some text 46 found.0 (omega arith)) found.0) (identifier_len-finds (drop 1 text) found.1)))
    (member_len-cases text)

pub members-find : FindsPiece BeginsWithMember member_len
members-find = record { finds = member_len-finds; within = member_len-le-length }

Member-reaches : {text : List ℕ} {n : ℕ} → BeginsWithMember text n → (0 < member_len text) × ((n ≡ member_len text) ⊎ ((n ≤ member_len text) × (member_len (drop n text) ≡ 0)))
Member-reaches (member {text} {n} dot rest) =
    let name = Identifier-reaches rest in
    let long : (0 < identifier_len (drop 1 text)) = ⊎_elim (λ same. omega (arith, name.some)) (λ shorter. omega (arith, name.some, shorter.0)) name.longest in
    let is = member_len-some text (slice_get-first text 46 dot) long in (
      omega arith,
      ⊎_elim
          (λ same. inl (omega arith))
          (λ (shorter : (n ≤ identifier_len (drop 1 text)) × (slice_index (drop n (drop 1 text)) 0 ≢ 46)).
          let no_dot = rw drop-drop at shorter.1 in
          inr (omega (arith, shorter.0), member_len-no_dot (drop (1 + n) text) no_dot))
          name.longest,
    )

pub members-reach : Reaches BeginsWithMember member_len
members-reach = record {
  within = member_len-le-length;
  some = λ t n piece. (Member-reaches piece).0;
  reaches = λ t n piece. (Member-reaches piece).1;
}

-- no members stand where no `.` does
pub Members-no_dot : (t : List ℕ) (n : ℕ) → BeginsWithMany BeginsWithMember t n → slice_index t 0 ≢ 46 → n ≡ 0
Members-no_dot t n members no_dot =
    let within = Many-reaches _ _ members-reach members in
    let none = repeated-stop member_len t (member_len-no_dot t no_dot) in
    omega arith

pub members_len-le-length : (text : List ℕ) → members_len text ≤ length text
members_len-le-length text = repeated-le-length member_len text
