-- What comes first in a text: `next_of` gives the longest lexeme or the bad piece, and nothing else fits.
use Rattle.std.proofs.Common.{◌≡◌, ◌≢◌, ◌⊎◌, ℕ, ◌+◌, ◌<◌, ◌≤◌, ◌^◌, Bool, true, false, cond, not, List, [], ◌∷◌, length, take, drop, refl, sym, ap, ◌∙◌, arith, inl, inr, ⊎_elim, Option, Some, None, slice_index, length-drop, length-take}
use Rattle.std.specs.Prelude.{◌==◌, nat_lt, ◌&&◌, option_map}
use Rattle.std.specs.Map.{lookup}
use Rattle.std.specs.Char.{is_ascii_digit}
use Rattle.std.specs.List.{prefix_len}
use Rattle.std.specs.Str.Parse.{digits_value}
use Rattle.std.proofs.lemmas.Bool.{cases_Bool, cond-true, cond-false, cases_lt, eqb-true, false≢true}
use Rattle.std.proofs.lemmas.Bool.Decides.{nat_tests}
use Rattle.std.proofs.lemmas.Grind.{common_steps}
use Rattle.std.proofs.lemmas.List.Sums.{prefix_len_passes, prefix_len_stops, prefix_len-le-length}
use Rattle.bstr.specs.Utf8.{decoded}
use Rattle.bstr.proofs.lemmas.PieceLemmas.{piece-bounds}
use Rattle.chyp_lex.specs.declared.token.TokenKind.{TokenKind}
use Rattle.chyp_lex.specs.declared.token.TokenKind.TheVariants.{Dotted, Number, Bad, Arrow, Minus}
use Rattle.chyp_lex.specs.Lexemes.{BeginsWithRun, BeginsWithIdentifier, BeginsWithDotted, dotted_name, BeginsWithSymbol, colon, arrow, equals, semicolon, star, left_parenthesis, right_parenthesis, left_bracket, right_bracket, comma, minus, question_mark, BeginsWith, blanks, comment, word, dotted, number, too_large, symbol, is_blank, is_line_feed, kind_of_word}
use Rattle.chyp_lex.specs.Tokens.{IsNext, lexeme, bad, value_of}
use Rattle.chyp_lex.specs.Longest.{one_byte_symbols, identifier_len, members_len, symbol_of, name_of, number_of, bad_of, symbol_or, next_of}
use Rattle.chyp_lex.proofs.Repeats.{Many-repeated, Many-reaches}
use Rattle.chyp_lex.proofs.Names.{IsNameByte, identifier_len-finds, identifier_len-le-length, identifier_len-name-byte, Identifier-reaches, slice_get-first, slice_get-some, zero_or_some, members-find, members-reach, Members-no_dot, members_len-le-length}

-- runs

get_or-first-take : (text : List ℕ) (n k : ℕ) → k < n → n ≤ length text → slice_index (take n text) k ≡ slice_index text k
get_or-first-take text n k h within = grind (arith, common_steps)

-- a run is no longer than the longest
pub Run-reaches : (test : ℕ → Bool) (text : List ℕ) (n : ℕ) → BeginsWithRun test text n → n ≤ prefix_len test text
Run-reaches test text n run =
    ⊎_elim
    (λ (longer : prefix_len test text < n).
    let within = run.within in
    let stops : test (slice_index text (prefix_len test text)) ≡ false = prefix_len_stops test text 0 (omega arith) in
    let size = length-take n text in
    let passes : test (slice_index (take n text) (prefix_len test text)) ≡ true = run.pass (prefix_len test text) 0 (omega arith) in
    let same = get_or-first-take text n (prefix_len test text) longer within in
    absurd (false≢true (sym stops ∙ rw same at passes)))
    (λ fits. fits)
    (cases_lt (prefix_len test text) n)

-- the longest run, where one begins
pub Run-finds : (test : ℕ → Bool) (text : List ℕ) → 0 < length text → test (slice_index text 0) ≡ true → BeginsWithRun test text (prefix_len test text)
Run-finds test text some first = record {
  some =
      ⊎_elim
      (λ (none : prefix_len test text < 1).
      let zero : prefix_len test text ≡ 0 = omega arith in
      let stops : test (slice_index text (prefix_len test text)) ≡ false = prefix_len_stops test text 0 (omega arith) in
      absurd (false≢true (sym (rw zero at stops) ∙ first)))
      (λ fits. omega arith)
      (cases_lt (prefix_len test text) 1);
  within = prefix_len-le-length test text;
  pass = λ k d h.
      let within = prefix_len-le-length test text in
      let size = length-take (prefix_len test text) text in
      let below : k < prefix_len test text = omega arith in
      let passes = prefix_len_passes test text k d below in
      grind (arith, common_steps);
}

Run-first : (test : ℕ → Bool) (text : List ℕ) (n : ℕ) → BeginsWithRun test text n → test (slice_index text 0) ≡ true
Run-first test text n run =
    let size = length-take n text in
    let some = run.some in
    let within = run.within in
    let passes : test (slice_index (take n text) 0) ≡ true = run.pass 0 0 (omega arith) in
    rw (get_or-first-take text n 0 some within) at passes

-- the branches of `next_of`

pub next-blanks : (text : List ℕ) → is_blank (slice_index text 0) ≡ true → next_of text ≡ (prefix_len is_blank text, None)
unfolding next_of
next-blanks text passes = cond-true _ _ _ passes

pub next-comment : (text : List ℕ) → slice_index text 0 ≡ 35 → next_of text ≡ (prefix_len (λ b. not (is_line_feed b)) text, None)
unfolding next_of
next-comment text is =
    let no_blank : is_blank (slice_index text 0) ≡ false = rw is refl in
    let yes : (slice_index text 0 == 35) ≡ true = rw is refl in
    cond-false _ _ _ no_blank ∙ cond-true _ _ _ yes

digit-bounds : (b : ℕ) → is_ascii_digit b ≡ true → (48 ≤ b) × (b ≤ 57)
digit-bounds b h = (grind (arith, nat_tests), grind (arith, nat_tests))

pub next-number : (text : List ℕ) → is_ascii_digit (slice_index text 0) ≡ true → next_of text ≡ number_of text
unfolding next_of
next-number text passes =
    let bounds = digit-bounds (slice_index text 0) passes in
    let low = bounds.0 in
    let no_blank : is_blank (slice_index text 0) ≡ false = grind (arith, nat_tests) in
    let no_hash : (slice_index text 0 == 35) ≡ false = grind (arith, nat_tests) in
    cond-false _ _ _ no_blank ∙ cond-false _ _ _ no_hash ∙ cond-true _ _ _ passes

pub next-other : (text : List ℕ) → is_blank (slice_index text 0) ≡ false → (slice_index text 0 == 35) ≡ false → is_ascii_digit (slice_index text 0) ≡ false
    → next_of text ≡ symbol_or (symbol_of (slice_index text 0) (slice_index text 1)) (cond (identifier_len text == 0) (bad_of text) (name_of text))
unfolding next_of
next-other text no_blank no_hash no_digit = cond-false _ _ _ no_blank ∙ cond-false _ _ _ no_hash ∙ cond-false _ _ _ no_digit

pub next-symbol : (text : List ℕ) (found : ℕ × TokenKind) → is_blank (slice_index text 0) ≡ false → (slice_index text 0 == 35) ≡ false → is_ascii_digit (slice_index text 0) ≡ false
    → symbol_of (slice_index text 0) (slice_index text 1) ≡ Some found → next_of text ≡ (found.0, Some found.1)
next-symbol text found no_blank no_hash no_digit is = next-other text no_blank no_hash no_digit ∙ ap (λ o. symbol_or o (cond (identifier_len text == 0) (bad_of text) (name_of text))) is

-- a byte with which a name may begin is in no other class
pub record IsOtherwise (b c : ℕ) : Type 0 where
  pub no_blank : is_blank b ≡ false
  pub no_hash : (b == 35) ≡ false
  pub no_digit : is_ascii_digit b ≡ false
  pub no_symbol : symbol_of b c ≡ None

name-byte-no_symbol : (b c : ℕ) → IsNameByte b → symbol_of b c ≡ None
unfolding symbol_of
name-byte-no_symbol b c name =
    let above = name.above in
    let no_left_bracket = name.no_left_bracket in
    let no_right_bracket = name.no_right_bracket in
    let t45 : (b == 45) ≡ false = grind (arith, nat_tests) in
    let t58 : (58 == b) ≡ false = grind (arith, nat_tests) in
    let t61 : (61 == b) ≡ false = grind (arith, nat_tests) in
    let t59 : (59 == b) ≡ false = grind (arith, nat_tests) in
    let t42 : (42 == b) ≡ false = grind (arith, nat_tests) in
    let t40 : (40 == b) ≡ false = grind (arith, nat_tests) in
    let t41 : (41 == b) ≡ false = grind (arith, nat_tests) in
    let t91 : (91 == b) ≡ false = grind (arith, nat_tests) in
    let t93 : (93 == b) ≡ false = grind (arith, nat_tests) in
    let t44 : (44 == b) ≡ false = grind (arith, nat_tests) in
    let u45 : (45 == b) ≡ false = grind (arith, nat_tests) in
    let t63 : (63 == b) ≡ false = grind (arith, nat_tests) in
    simp (t45, t58, t61, t59, t42, t40, t41, t91, t93, t44, u45, t63)

pub name-byte-otherwise : (b c : ℕ) → IsNameByte b → IsOtherwise b c
name-byte-otherwise b c name =
    let above = name.above in
    record {
      no_blank = grind (arith, nat_tests);
      no_hash = grind (arith, nat_tests);
      no_digit = grind (arith, nat_tests);
      no_symbol = name-byte-no_symbol b c name;
    }

pub next-name : (text : List ℕ) → IsNameByte (slice_index text 0) → next_of text ≡ cond (identifier_len text == 0) (bad_of text) (name_of text)
next-name text name =
    let other = name-byte-otherwise (slice_index text 0) (slice_index text 1) name in
    next-other text other.no_blank other.no_hash other.no_digit
    ∙ ap (λ o. symbol_or o (cond (identifier_len text == 0) (bad_of text) (name_of text))) other.no_symbol

pub next-name-some : (text : List ℕ) → 0 < identifier_len text → next_of text ≡ name_of text
next-name-some text some =
    let test : (identifier_len text == 0) ≡ false = grind (arith, nat_tests) in
    next-name text (identifier_len-name-byte text some) ∙ cond-false _ _ _ test

-- names

pub name_of-word : (text : List ℕ) → members_len (drop (identifier_len text) text) ≡ 0 → name_of text ≡ (identifier_len text, Some (kind_of_word (take (identifier_len text) text)))
unfolding name_of
name_of-word text none =
    let test : (members_len (drop (identifier_len text) text) == 0) ≡ true = grind (arith, nat_tests) in
    cond-true _ _ _ test

pub name_of-dotted : (text : List ℕ) → 0 < members_len (drop (identifier_len text) text) → name_of text ≡ (identifier_len text + members_len (drop (identifier_len text) text), Some Dotted)
unfolding name_of
name_of-dotted text some =
    let test : (members_len (drop (identifier_len text) text) == 0) ≡ false = grind (arith, nat_tests) in
    cond-false _ _ _ test

-- numbers

pub number_of-fits : (text : List ℕ) → digits_value 10 (take (prefix_len is_ascii_digit text) text) < 2 ^ 64 → number_of text ≡ (prefix_len is_ascii_digit text, Some Number)
unfolding number_of
number_of-fits text fits =
    let test : nat_lt (digits_value 10 (take (prefix_len is_ascii_digit text) text)) (2 ^ 64) ≡ true = grind (arith, nat_tests) in
    ap (λ kind. (prefix_len is_ascii_digit text, Some kind)) (cond-true _ Number Bad test)

pub number_of-too_large : (text : List ℕ) → 2 ^ 64 ≤ digits_value 10 (take (prefix_len is_ascii_digit text) text) → number_of text ≡ (prefix_len is_ascii_digit text, Some Bad)
unfolding number_of
number_of-too_large text large =
    let test : nat_lt (digits_value 10 (take (prefix_len is_ascii_digit text) text)) (2 ^ 64) ≡ false = grind (arith, nat_tests) in
    ap (λ kind. (prefix_len is_ascii_digit text, Some kind)) (cond-false _ Number Bad test)

-- every lexeme at the front is within what `next_of` gives, and at that length of the same kind

pub record IsWithinNext (text : List ℕ) (n : ℕ) (kind : Option TokenKind) : Type 0 where
  pub some : 0 < n
  pub within : n ≤ (next_of text).0
  pub same : n ≡ (next_of text).0 → kind ≡ (next_of text).1
  pub not_bad : IsOtherwise (slice_index text 0) (slice_index text 1) → identifier_len text ≡ 0 → ⊥

within_next : (text : List ℕ) (n : ℕ) (kind : Option TokenKind) (found : ℕ × Option TokenKind) → next_of text ≡ found → 0 < n → n ≤ found.0 → (n ≡ found.0 → kind ≡ found.1)
    → (IsOtherwise (slice_index text 0) (slice_index text 1) → identifier_len text ≡ 0 → ⊥) → IsWithinNext text n kind
within_next text n kind found is some within same not_bad = record {
  some = some;
  within = rw is within;
  same = rw is same;
  not_bad = not_bad;
}

-- a symbol is the one that its first bytes give, or `-` before `>`
record IsWithinSymbol (b c n : ℕ) (kind : TokenKind) : Type 0 where
  found : ℕ × TokenKind
  is : symbol_of b c ≡ Some found
  some : 0 < n
  within : n ≤ found.0
  same : n ≡ found.0 → kind ≡ found.1
  no_blank : is_blank b ≡ false
  no_hash : (b == 35) ≡ false
  no_digit : is_ascii_digit b ≡ false

one-byte : (b c : ℕ) (kind : TokenKind) → symbol_of b c ≡ Some (1, kind) → is_blank b ≡ false → (b == 35) ≡ false → is_ascii_digit b ≡ false → IsWithinSymbol b c 1 kind
one-byte b c kind is no_blank no_hash no_digit = record {
  found = (1, kind);
  is = is;
  some = omega arith;
  within = omega arith;
  same = λ _. refl;
  no_blank = no_blank;
  no_hash = no_hash;
  no_digit = no_digit;
}

Symbol-within : {text : List ℕ} {n : ℕ} {kind : TokenKind} → BeginsWithSymbol text n kind → IsWithinSymbol (slice_index text 0) (slice_index text 1) n kind
unfolding symbol_of
Symbol-within colon = one-byte 58 _ _ refl refl refl refl
Symbol-within arrow = record { found = (2, Arrow); is = refl; some = omega arith; within = omega arith; same = λ _. refl; no_blank = refl; no_hash = refl; no_digit = refl }
Symbol-within equals = one-byte 61 _ _ refl refl refl refl
Symbol-within semicolon = one-byte 59 _ _ refl refl refl refl
Symbol-within star = one-byte 42 _ _ refl refl refl refl
Symbol-within left_parenthesis = one-byte 40 _ _ refl refl refl refl
Symbol-within right_parenthesis = one-byte 41 _ _ refl refl refl refl
Symbol-within left_bracket = one-byte 91 _ _ refl refl refl refl
Symbol-within right_bracket = one-byte 93 _ _ refl refl refl refl
Symbol-within comma = one-byte 44 _ _ refl refl refl refl
Symbol-within (minus {rest}) =
    ⊎_elim
    (λ (is : (slice_index rest 0 == 62) ≡ true). record {
      found = (2, Arrow);
      is = cond-true _ _ _ is;
      some = omega arith;
      within = omega arith;
      same = λ e. absurd (omega arith);
      no_blank = refl;
      no_hash = refl;
      no_digit = refl;
    })
    (λ (is : (slice_index rest 0 == 62) ≡ false). one-byte 45 (slice_index rest 0) Minus (cond-false _ _ _ is) refl refl refl)
    (cases_Bool (slice_index rest 0 == 62))
Symbol-within question_mark = one-byte 63 _ _ refl refl refl refl

Identifier-long : {text : List ℕ} {n : ℕ} → BeginsWithIdentifier text n → (0 < n) × (n ≤ identifier_len text)
Identifier-long name =
    let reaches = Identifier-reaches name in
    (reaches.some, ⊎_elim (λ same. omega arith) (λ shorter. shorter.0) reaches.longest)

Word-within : {text : List ℕ} {n : ℕ} → BeginsWithIdentifier text n → IsWithinNext text n (Some (kind_of_word (take n text)))
Word-within {text} {n} name =
    let long = Identifier-long name in
    let some : 0 < identifier_len text = omega (arith, long.0, long.1) in
    let is = next-name-some text some in
    ⊎_elim
    (λ (none : members_len (drop (identifier_len text) text) ≡ 0).
    within_next text n (Some (kind_of_word (take n text))) _ (is ∙ name_of-word text none) long.0 long.1
    (λ (e : n ≡ identifier_len text). ap (λ k. Some (kind_of_word (take k text))) e)
    (λ _ zero. absurd (omega arith)))
    (λ (more : 0 < members_len (drop (identifier_len text) text)).
    within_next text n (Some (kind_of_word (take n text))) _ (is ∙ name_of-dotted text more) long.0 (omega (arith, long.1))
    (λ (e : n ≡ identifier_len text + members_len (drop (identifier_len text) text)). absurd (omega (arith, long.1)))
    (λ _ zero. absurd (omega arith)))
    (zero_or_some (members_len (drop (identifier_len text) text)))

Dotted-within : {text : List ℕ} {n : ℕ} → BeginsWithDotted text n → IsWithinNext text n (Some Dotted)
Dotted-within (dotted_name {text} {m} {n} name more members) =
    let long = Identifier-long name in
    let some : 0 < identifier_len text = omega (arith, long.0, long.1) in
    let is = next-name-some text some in
    ⊎_elim
    (λ (same : m ≡ identifier_len text).
    let reach : n ≤ members_len (drop (identifier_len text) text) = rw same at (Many-reaches _ _ members-reach members) in
    within_next text (m + n) (Some Dotted) _ (is ∙ name_of-dotted text (omega arith)) (omega arith) (omega arith) (λ _. refl) (λ _ zero. absurd (omega arith)))
    (λ (shorter : (m ≤ identifier_len text) × (slice_index (drop m text) 0 ≢ 46)).
    let none = Members-no_dot (drop m text) n members shorter.1 in
    absurd (omega arith))
    (Identifier-reaches name).longest

pub within-next : {text : List ℕ} {n : ℕ} {kind : Option TokenKind} → BeginsWith text n kind → IsWithinNext text n kind
within-next (blanks {text} {n} run) =
    let first = Run-first is_blank text n run in
    within_next text n None _ (next-blanks text first) run.some (Run-reaches is_blank text n run) (λ _. refl) (λ o _. absurd (false≢true (sym o.no_blank ∙ first)))
within-next (comment {text} {n} hash run) =
    let first = slice_get-first text 35 hash in
    within_next text n None _ (next-comment text first) run.some (Run-reaches _ text n run) (λ _. refl)
    (λ o _. let no = o.no_hash in absurd (false≢true (sym no ∙ rw first refl)))
within-next (word name) = Word-within name
within-next (dotted name) = Dotted-within name
within-next (number {text} {n} run fits) =
    let first = Run-first is_ascii_digit text n run in
    let reach = Run-reaches is_ascii_digit text n run in
    ⊎_elim
    (λ (low : digits_value 10 (take (prefix_len is_ascii_digit text) text) < 2 ^ 64).
    within_next text n (Some Number) _ (next-number text first ∙ number_of-fits text low) run.some reach (λ _. refl) (λ o _. absurd (false≢true (sym o.no_digit ∙ first))))
    (λ (high : 2 ^ 64 ≤ digits_value 10 (take (prefix_len is_ascii_digit text) text)).
    within_next text n (Some Number) _ (next-number text first ∙ number_of-too_large text high) run.some reach
    (λ (e : n ≡ prefix_len is_ascii_digit text). let low = rw e at fits in absurd (omega arith))
    (λ o _. absurd (false≢true (sym o.no_digit ∙ first))))
    (cases_lt (digits_value 10 (take (prefix_len is_ascii_digit text) text)) (2 ^ 64))
within-next (too_large {text} {n} run large) =
    let first = Run-first is_ascii_digit text n run in
    let reach = Run-reaches is_ascii_digit text n run in
    ⊎_elim
    (λ (low : digits_value 10 (take (prefix_len is_ascii_digit text) text) < 2 ^ 64).
    within_next text n (Some Bad) _ (next-number text first ∙ number_of-fits text low) run.some reach
    (λ (e : n ≡ prefix_len is_ascii_digit text). let high = rw e at large in absurd (omega arith))
    (λ o _. absurd (false≢true (sym o.no_digit ∙ first))))
    (λ (high : 2 ^ 64 ≤ digits_value 10 (take (prefix_len is_ascii_digit text) text)).
    within_next text n (Some Bad) _ (next-number text first ∙ number_of-too_large text high) run.some reach (λ _. refl) (λ o _. absurd (false≢true (sym o.no_digit ∙ first))))
    (cases_lt (digits_value 10 (take (prefix_len is_ascii_digit text) text)) (2 ^ 64))
within-next (symbol {text} {n} {kind} s) =
    let w = Symbol-within s in
    within_next text n (Some kind) _ (next-symbol text w.found w.no_blank w.no_hash w.no_digit w.is) w.some w.within
    (λ e. ap Some (w.same e))
    (λ o _. let no = o.no_symbol in let is = w.is in cc)

-- what `next_of` gives is at the front of the text

-- b and kind stand side by side in the table
abbrev InTable : ℕ → TokenKind → List (ℕ × TokenKind) → Type 0
InTable b kind [] = ⊥
InTable b kind (e ∷ es) = ((e.0 ≡ b) × (e.1 ≡ kind)) ⊎ InTable b kind es

lookup-in : (b : ℕ) (kind : TokenKind) (table : List (ℕ × TokenKind)) → lookup (λ s. s == b) table ≡ Some kind → InTable b kind table
lookup-in b kind [] h = cc
lookup-in b kind (e ∷ es) h =
    ⊎_elim
    (λ (is : (e.0 == b) ≡ true).
    let found : Some e.1 ≡ Some kind = sym (cond-true _ (Some e.1) (lookup (λ s. s == b) es) is) ∙ h in
    inl (eqb-true _ _ is, cc))
    (λ (is : (e.0 == b) ≡ false). inr (lookup-in b kind es (sym (cond-false _ (Some e.1) (lookup (λ s. s == b) es) is) ∙ h)))
    (cases_Bool (e.0 == b))

moved : {k b : ℕ} {other kind : TokenKind} {rest : List ℕ} → BeginsWithSymbol (k ∷ rest) 1 other → (k ≡ b) × (other ≡ kind) → BeginsWithSymbol (b ∷ rest) 1 kind
moved {rest = rest} s e = rw e.0 at (rw e.1 at s)

one_byte_symbol-stands : (b : ℕ) (kind : TokenKind) (rest : List ℕ) → InTable b kind one_byte_symbols → BeginsWithSymbol (b ∷ rest) 1 kind
one_byte_symbol-stands b kind rest h =
    elim h [
      | inl e ↦ moved colon e
      | inr h1 ↦
          elim h1 [
            | inl e ↦ moved equals e
            | inr h2 ↦
                elim h2 [
                  | inl e ↦ moved semicolon e
                  | inr h3 ↦
                      elim h3 [
                        | inl e ↦ moved star e
                        | inr h4 ↦
                            elim h4 [
                              | inl e ↦ moved left_parenthesis e
                              | inr h5 ↦
                                  elim h5 [
                                    | inl e ↦ moved right_parenthesis e
                                    | inr h6 ↦
                                        elim h6 [
                                          | inl e ↦ moved left_bracket e
                                          | inr h7 ↦
                                              elim h7 [
                                                | inl e ↦ moved right_bracket e
                                                | inr h8 ↦
                                                    elim h8 [
                                                      | inl e ↦ moved comma e
                                                      | inr h9 ↦
                                                          elim h9 [
                                                            | inl e ↦ moved minus e
                                                            | inr h10 ↦
                                                                elim h10 [
                                                                  | inl e ↦ moved question_mark e
                                                                  | inr h11 ↦
                                                                      absurd h11
                                                                ]
                                                          ]
                                                    ]
                                              ]
                                        ]
                                  ]
                            ]
                      ]
                ]
          ]
    ]

none_or_some : {A : Type 0} (o : Option A) → (o ≡ None) ⊎ ((x : A) × (o ≡ Some x))
none_or_some None = inl refl
none_or_some (Some x) = inr (x, refl)

arrow-stands : (b : ℕ) (rest : List ℕ) → b ≡ 45 → slice_index rest 0 ≡ 62 → BeginsWithSymbol (b ∷ rest) 2 Arrow
arrow-stands b [] first second = absurd (omega arith)
arrow-stands b (c ∷ rest) first second = rw (first, second) arrow

and-both : (p q : Bool) → p && q ≡ true → (p ≡ true) × (q ≡ true)
and-both true q h = (refl, h)
and-both false q h = (h, absurd (false≢true h))

option_map-some : {A B : Type 0} (f : A → B) (o : Option A) (y : B) → option_map f o ≡ Some y → (x : A) × (o ≡ Some x) × (f x ≡ y)
option_map-some f None y h = cc
option_map-some f (Some x) y h = (x, refl, cc)

symbol_of-stands : (b : ℕ) (rest : List ℕ) (found : ℕ × TokenKind) → symbol_of b (slice_index rest 0) ≡ Some found → BeginsWithSymbol (b ∷ rest) found.0 found.1
unfolding symbol_of
symbol_of-stands b rest found h =
    ⊎_elim
    (λ (is : ((b == 45) && (slice_index rest 0 == 62)) ≡ true).
    let same : Some (2, Arrow) ≡ Some found = sym (cond-true _ _ _ is) ∙ h in
    let found_is : (2, Arrow) ≡ found = cc in
    let both = and-both _ _ is in
    rw (← found_is) (arrow-stands b rest (eqb-true _ _ both.0) (eqb-true _ _ both.1)))
    (λ (is : ((b == 45) && (slice_index rest 0 == 62)) ≡ false).
    let one = option_map-some (λ (kind : TokenKind). let pair : ℕ × TokenKind = (1, kind) in pair) (lookup (λ s. s == b) one_byte_symbols) found (sym (cond-false _ _ _ is) ∙ h) in
    rw (← one.2) (one_byte_symbol-stands b one.0 rest (lookup-in b one.0 one_byte_symbols one.1)))
    (cases_Bool ((b == 45) && (slice_index rest 0 == 62)))

symbol-stands : (text : List ℕ) (found : ℕ × TokenKind) → 0 < length text → symbol_of (slice_index text 0) (slice_index text 1) ≡ Some found → BeginsWithSymbol text found.0 found.1
symbol-stands [] found some h = absurd (omega arith)
symbol-stands (b ∷ rest) found some h = symbol_of-stands b rest found h

name-stands : (text : List ℕ) → 0 < identifier_len text → BeginsWith text (name_of text).0 (name_of text).1
name-stands text some =
    let name = identifier_len-finds text some in
    let rest = drop (identifier_len text) text in
    ⊎_elim
    (λ (none : members_len (drop (identifier_len text) text) ≡ 0). rw (name_of-word text none) (word name))
    (λ (more : 0 < members_len (drop (identifier_len text) text)).
    rw (name_of-dotted text more) (dotted (dotted_name name more (Many-repeated _ _ members-find (length rest) rest (omega arith)))))
    (zero_or_some (members_len (drop (identifier_len text) text)))

number-stands : (text : List ℕ) → BeginsWithRun is_ascii_digit text (prefix_len is_ascii_digit text) → BeginsWith text (number_of text).0 (number_of text).1
number-stands text run =
    ⊎_elim
    (λ (fits : digits_value 10 (take (prefix_len is_ascii_digit text) text) < 2 ^ 64). rw (number_of-fits text fits) (number run fits))
    (λ (large : 2 ^ 64 ≤ digits_value 10 (take (prefix_len is_ascii_digit text) text)). rw (number_of-too_large text large) (too_large run large))
    (cases_lt (digits_value 10 (take (prefix_len is_ascii_digit text) text)) (2 ^ 64))

-- no lexeme is at the front
pub record BeginsBadly (text : List ℕ) : Type 0 where
  pub is : next_of text ≡ bad_of text
  pub first : IsOtherwise (slice_index text 0) (slice_index text 1)
  pub no_name : identifier_len text ≡ 0

pub next-stands : (text : List ℕ) → 0 < length text → BeginsWith text (next_of text).0 (next_of text).1 ⊎ BeginsBadly text
next-stands text some =
    ⊎_elim
    (λ (is : is_blank (slice_index text 0) ≡ true). inl (rw (next-blanks text is) (blanks (Run-finds is_blank text some is))))
    (λ (no_blank : is_blank (slice_index text 0) ≡ false).
    ⊎_elim
    (λ (is : (slice_index text 0 == 35) ≡ true).
    let hash : slice_index text 0 ≡ 35 = eqb-true _ _ is in
    let passes : not (is_line_feed (slice_index text 0)) ≡ true = rw hash refl in
    inl (rw (next-comment text hash) (comment (slice_get-some text 35 some hash) (Run-finds (λ b. not (is_line_feed b)) text some passes))))
    (λ (no_hash : (slice_index text 0 == 35) ≡ false).
    ⊎_elim
    (λ (is : is_ascii_digit (slice_index text 0) ≡ true). inl (rw (next-number text is) (number-stands text (Run-finds is_ascii_digit text some is))))
    (λ (no_digit : is_ascii_digit (slice_index text 0) ≡ false).
    ⊎_elim
    (λ (no_symbol : symbol_of (slice_index text 0) (slice_index text 1) ≡ None).
    let other = next-other text no_blank no_hash no_digit ∙ ap (λ o. symbol_or o (cond (identifier_len text == 0) (bad_of text) (name_of text))) no_symbol in
    ⊎_elim
    (λ (none : identifier_len text ≡ 0).
    let test : (identifier_len text == 0) ≡ true = rw none refl in
    inr (record {
      is = other ∙ cond-true _ _ _ test;
      first = record { no_blank = no_blank; no_hash = no_hash; no_digit = no_digit; no_symbol = no_symbol };
      no_name = none;
    }))
    (λ (long : 0 < identifier_len text). inl (rw (next-name-some text long) (name-stands text long)))
    (zero_or_some (identifier_len text)))
    (λ (found : (x : ℕ × TokenKind) × (symbol_of (slice_index text 0) (slice_index text 1) ≡ Some x)).
    inl (rw (next-symbol text found.0 no_blank no_hash no_digit found.1) (symbol (symbol-stands text found.0 some found.1))))
    (none_or_some (symbol_of (slice_index text 0) (slice_index text 1))))
    (cases_Bool (is_ascii_digit (slice_index text 0))))
    (cases_Bool (slice_index text 0 == 35)))
    (cases_Bool (is_blank (slice_index text 0)))

-- the first piece of a text is what `next_of` gives, and nothing else

pub IsNext-next : (text : List ℕ) → 0 < length text → IsNext text (next_of text).0 (next_of text).1
IsNext-next text some =
    ⊎_elim
    (λ (begins : BeginsWith text (next_of text).0 (next_of text).1). lexeme (record { begins = begins; longest = λ m other b. (within-next b).within }))
    (λ (none : BeginsBadly text). rw none.is (bad some (λ n kind b. (within-next b).not_bad none.first none.no_name)))
    (next-stands text some)

Symbol-fits : {text : List ℕ} {n : ℕ} {kind : TokenKind} → BeginsWithSymbol text n kind → n ≤ length text
Symbol-fits colon = omega arith
Symbol-fits arrow = omega arith
Symbol-fits equals = omega arith
Symbol-fits semicolon = omega arith
Symbol-fits star = omega arith
Symbol-fits left_parenthesis = omega arith
Symbol-fits right_parenthesis = omega arith
Symbol-fits left_bracket = omega arith
Symbol-fits right_bracket = omega arith
Symbol-fits comma = omega arith
Symbol-fits minus = omega arith
Symbol-fits question_mark = omega arith

members_len-fits : (text : List ℕ) → identifier_len text + members_len (drop (identifier_len text) text) ≤ length text
members_len-fits text =
    let name = identifier_len-le-length text in
    let more = members_len-le-length (drop (identifier_len text) text) in
    let cut = length-drop (identifier_len text) text in
    omega arith

name_of-fits : (text : List ℕ) → (name_of text).0 ≤ length text
name_of-fits text =
    let fits = members_len-fits text in
    ⊎_elim
    (λ (none : members_len (drop (identifier_len text) text) ≡ 0). rw (name_of-word text none) (omega arith))
    (λ (more : 0 < members_len (drop (identifier_len text) text)). rw (name_of-dotted text more) fits)
    (zero_or_some (members_len (drop (identifier_len text) text)))

Dotted-starts : {text : List ℕ} {n : ℕ} → BeginsWithDotted text n → 0 < identifier_len text
Dotted-starts (dotted_name name more members) = let long = Identifier-long name in omega (arith, long.0, long.1)

pub BeginsWith-fits : {text : List ℕ} {n : ℕ} {kind : Option TokenKind} → BeginsWith text n kind → (0 < n) × (n ≤ length text)
BeginsWith-fits (blanks run) = (run.some, run.within)
BeginsWith-fits (comment hash run) = (run.some, run.within)
BeginsWith-fits (word {text} {n} name) =
    let long = Identifier-long name in
    let within = identifier_len-le-length text in
    (long.0, omega (arith, long.1))
BeginsWith-fits (dotted {text} {n} name) =
    let w = within-next (dotted name) in
    let within : n ≤ (name_of text).0 = rw (next-name-some text (Dotted-starts name)) at w.within in
    (w.some, omega (arith, name_of-fits text))
BeginsWith-fits (number run fits) = (run.some, run.within)
BeginsWith-fits (too_large run large) = (run.some, run.within)
BeginsWith-fits (symbol s) = ((Symbol-within s).some, Symbol-fits s)

bad-fits : (text : List ℕ) → 0 < length text → (0 < (bad_of text).0) × ((bad_of text).0 ≤ length text)
bad-fits text some =
    let bounds = piece-bounds text some in
    ⊎_elim
    (λ (none : (decoded text).char ≡ None). let is : (bad_of text).0 ≡ 1 = rw none refl in (omega arith, omega arith))
    (λ (found : (c : ℕ) × ((decoded text).char ≡ Some c)).
    let is : (bad_of text).0 ≡ (decoded text).size = rw found.1 refl in
    (omega (arith, bounds.0), omega (arith, bounds.2)))
    (none_or_some (decoded text).char)

pub next-fits : (text : List ℕ) → 0 < length text → (0 < (next_of text).0) × ((next_of text).0 ≤ length text)
next-fits text some =
    ⊎_elim
    (λ (begins : BeginsWith text (next_of text).0 (next_of text).1). BeginsWith-fits begins)
    (λ (none : BeginsBadly text). rw none.is (bad-fits text some))
    (next-stands text some)

pub record IsThisNext (text : List ℕ) (n : ℕ) (kind : Option TokenKind) : Type 0 where
  pub nonempty : 0 < length text
  pub size : n ≡ (next_of text).0
  pub kind_is : kind ≡ (next_of text).1

BeginsWith-nonempty : {text : List ℕ} {n : ℕ} {kind : Option TokenKind} → BeginsWith text n kind → 0 < length text
BeginsWith-nonempty begins = let fits = BeginsWith-fits begins in omega (arith, fits.0, fits.1)

pub IsNext-is : {text : List ℕ} {n : ℕ} {kind : Option TokenKind} → IsNext text n kind → IsThisNext text n kind
IsNext-is (lexeme {text} {n} {kind} longest) =
    let some = BeginsWith-nonempty longest.begins in
    let w = within-next longest.begins in
    ⊎_elim
    (λ (begins : BeginsWith text (next_of text).0 (next_of text).1).
    let back = longest.longest _ _ begins in
    let size : n ≡ (next_of text).0 = omega (arith, w.within) in
    record { nonempty = some; size = size; kind_is = w.same size })
    (λ (none : BeginsBadly text). absurd (w.not_bad none.first none.no_name))
    (next-stands text some)
IsNext-is (bad {text} some none) =
    ⊎_elim
    (λ (begins : BeginsWith text (next_of text).0 (next_of text).1). absurd (none _ _ begins))
    (λ (badly : BeginsBadly text). record { nonempty = some; size = ap (λ p. p.0) (sym badly.is); kind_is = ap (λ p. p.1) (sym badly.is) })
    (next-stands text some)

pub IsNext-fits : {text : List ℕ} {n : ℕ} {kind : Option TokenKind} → IsNext text n kind → (0 < n) × (n ≤ length text)
IsNext-fits {text} {n} next =
    let is = IsNext-is next in
    let fits = next-fits text is.nonempty in
    let size = is.size in
    (omega (arith, fits.0), omega (arith, fits.1))

-- symbols, by the bytes that they begin with

pub next-is_symbol : (text : List ℕ) (found : ℕ × TokenKind) → 0 < length text → symbol_of (slice_index text 0) (slice_index text 1) ≡ Some found → next_of text ≡ (found.0, Some found.1)
next-is_symbol text found some is =
    let w = Symbol-within (symbol-stands text found some is) in
    next-symbol text found w.no_blank w.no_hash w.no_digit is

Symbol-value : {text : List ℕ} {n : ℕ} {kind : TokenKind} (bytes : List ℕ) → BeginsWithSymbol text n kind → value_of kind bytes ≡ 0
Symbol-value bytes colon = refl
Symbol-value bytes arrow = refl
Symbol-value bytes equals = refl
Symbol-value bytes semicolon = refl
Symbol-value bytes star = refl
Symbol-value bytes left_parenthesis = refl
Symbol-value bytes right_parenthesis = refl
Symbol-value bytes left_bracket = refl
Symbol-value bytes right_bracket = refl
Symbol-value bytes comma = refl
Symbol-value bytes minus = refl
Symbol-value bytes question_mark = refl

pub symbol_of-value : (text : List ℕ) (found : ℕ × TokenKind) (bytes : List ℕ) → 0 < length text → symbol_of (slice_index text 0) (slice_index text 1) ≡ Some found → value_of found.1 bytes ≡ 0
symbol_of-value text found bytes some is = Symbol-value bytes (symbol-stands text found some is)

pub next-is_other : (text : List ℕ) → is_blank (slice_index text 0) ≡ false → slice_index text 0 ≢ 35 → is_ascii_digit (slice_index text 0) ≡ false
    → symbol_of (slice_index text 0) (slice_index text 1) ≡ None → next_of text ≡ cond (identifier_len text == 0) (bad_of text) (name_of text)
next-is_other text no_blank no_hash no_digit none =
    let test : (slice_index text 0 == 35) ≡ false = grind (arith, nat_tests) in
    next-other text no_blank test no_digit ∙ ap (λ o. symbol_or o (cond (identifier_len text == 0) (bad_of text) (name_of text))) none

-- a piece as the code finds it

pub next-is_within : (text : List ℕ) (n : ℕ) (kind : Option TokenKind) → 0 < length text → next_of text ≡ (n, kind) → (0 < n) × (n ≤ length text)
next-is_within text n kind some is = rw is at (next-fits text some)

pub next-is_next : (text : List ℕ) (n : ℕ) (kind : Option TokenKind) → 0 < length text → next_of text ≡ (n, kind) → IsNext text n kind
next-is_next text n kind some is = rw is at (IsNext-next text some)
