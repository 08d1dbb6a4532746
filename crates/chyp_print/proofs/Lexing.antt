-- Words and numbers that are read as one token each, where what comes behind them ends them.
use Rattle.std.proofs.Common.{◌≡◌, ◌≢◌, ℕ, ◌+◌, ◌<◌, ◌≤◌, ◌^◌, true, false, List, [], ◌∷◌, ◌++◌, length, take, drop, slice_index, Some, ⊎_elim, refl, sym, ap, subst, ◌∙◌, arith}
use Rattle.std.specs.Prelude.{decimal}
use Rattle.std.specs.Char.{digit_value, is_ascii_digit}
use Rattle.std.specs.List.{prefix_len}
use Rattle.std.specs.Str.Parse.{AllDigits, digits_value}
use Rattle.std.proofs.lemmas.Bool.{cond-false, cond-true}
use Rattle.std.proofs.lemmas.Bool.Decides.{nat_tests}
use Rattle.std.proofs.lemmas.List.{drop-drop}
use Rattle.std.proofs.lemmas.Fmt.{decimal_is_IsNumeral}
use Rattle.std.proofs.Math.Seq.{drop-append_seam, take-append_seam}
use Rattle.unicode_ident.specs.Ident.{is_xid_continue}
use Rattle.unicode_ident.proofs.IdentLemmas.{is_xid_continue-ascii}
use Rattle.chyp_lex.specs.declared.token.TokenKind.TheVariants.{Dotted, Number}
use Rattle.chyp_lex.specs.Lexemes.{BeginsWithCharacter, BeginsWithDotted, BeginsWithIdentifier, BeginsWithMany, BeginsWithMember, begins_identifier, dotted_name, identifier, kind_of_word, member, no_more, one_more}
use Rattle.chyp_lex.specs.Longest.{character_len, continuation_len, identifier_len, member_len, members_len, next_of}
use Rattle.chyp_lex.proofs.NameSteps.{character_len-ascii_fails, character_len-empty, member_len-empty}
use Rattle.chyp_lex.proofs.Names.{character-bounds, character_len-exact, character_len-le-length, Identifier-reaches, Members-no_dot, identifier_len-some, member_len-no_dot, member_len-some, members-reach, slice_get-first}
use Rattle.chyp_lex.proofs.Pieces.{name_of-dotted, name_of-word, next-name-some, next-number, number_of-fits}
use Rattle.chyp_lex.proofs.Repeats.{Many-exact, repeated-go, repeated-stop}
use Rattle.chyp_lex.proofs.Extending.{dotted-more, identifier-more}

-- a byte that is in no name and in no number
pub record IsEnd (b : ℕ) : Type 0 where
  pub low : b < 128
  pub no_name : is_xid_continue b ≡ false
  pub no_dot : b ≢ 46
  pub no_digit : is_ascii_digit b ≡ false

pub blank-ends : IsEnd 32
blank-ends = record { low = omega arith; no_name = is_xid_continue-ascii 32 (omega arith); no_dot = omega arith; no_digit = refl }

pub parenthesis-ends : IsEnd 41
parenthesis-ends = record { low = omega arith; no_name = is_xid_continue-ascii 41 (omega arith); no_dot = omega arith; no_digit = refl }

pub comma-ends : IsEnd 44
comma-ends = record { low = omega arith; no_name = is_xid_continue-ascii 44 (omega arith); no_dot = omega arith; no_digit = refl }

pub left_bracket-ends : IsEnd 91
left_bracket-ends = record { low = omega arith; no_name = is_xid_continue-ascii 91 (omega arith); no_dot = omega arith; no_digit = refl }

pub right_bracket-ends : IsEnd 93
right_bracket-ends = record { low = omega arith; no_name = is_xid_continue-ascii 93 (omega arith); no_dot = omega arith; no_digit = refl }

-- the text ends, or begins with such a byte
abbrev pub Ends : List ℕ → Type 0
Ends [] = Unit {0}
Ends (b ∷ rest) = IsEnd b

ends-no_character : (rest : List ℕ) → Ends rest → character_len is_xid_continue rest ≡ 0
ends-no_character [] e = character_len-empty is_xid_continue [] refl
ends-no_character (b ∷ rest) e = character_len-ascii_fails is_xid_continue (b ∷ rest) (omega arith) e.low e.no_name

ends-no_member : (rest : List ℕ) → Ends rest → member_len rest ≡ 0
ends-no_member [] e = member_len-empty [] refl
ends-no_member (b ∷ rest) e = member_len-no_dot (b ∷ rest) e.no_dot

continuations-exact : (text : List ℕ) (n : ℕ) → BeginsWithCharacter is_xid_continue text n → (0 < n) × (n ≡ character_len is_xid_continue text)
continuations-exact text n c = ((character-bounds is_xid_continue text n c).0, sym (character_len-exact is_xid_continue text n c))

-- an identifier that is ended is the longest
identifier-exact : {text : List ℕ} {n : ℕ} → BeginsWithIdentifier text n → Ends (drop n text) → identifier_len text ≡ n
identifier-exact (identifier {text} {m} {n} first others) e =
    let len = identifier_len-some text m (character_len-exact begins_identifier text m first) (character-bounds begins_identifier text m first).0 in
    ⊎_elim
    (λ (same : n ≡ continuation_len (drop m text)). omega arith)
    (λ (more : 0 < character_len is_xid_continue (drop n (drop m text))).
    let none = ends-no_character (drop (m + n) text) e in
    let same : drop n (drop m text) ≡ drop (m + n) text = drop-drop n m text in
    let same_len : character_len is_xid_continue (drop n (drop m text)) ≡ 0 = ap (character_len is_xid_continue) same ∙ none in
    absurd (omega arith))
    (Many-exact (BeginsWithCharacter is_xid_continue) (character_len is_xid_continue) (character_len-le-length is_xid_continue) continuations-exact others)

-- so is a member
member-exact : {text : List ℕ} {n : ℕ} → BeginsWithMember text n → Ends (drop n text) → member_len text ≡ n
member-exact (member {text} {n} at name) e =
    let rest_is : drop n (drop 1 text) ≡ drop (1 + n) text = drop-drop n 1 text in
    let len : identifier_len (drop 1 text) ≡ n = identifier-exact name (subst Ends (sym rest_is) e) in
    let some = (Identifier-reaches name).some in
    member_len-some text (slice_get-first text 46 at) (omega arith) ∙ ap (λ k. 1 + k) len

-- so are members
members-exact : {text : List ℕ} {n : ℕ} → BeginsWithMany BeginsWithMember text n → Ends (drop n text) → members_len text ≡ n
members-exact (no_more {text}) e = repeated-stop member_len text (ends-no_member text e)
members-exact (one_more {text} {m} {n} piece others) e =
    let rest_is : drop n (drop m text) ≡ drop (m + n) text = drop-drop n m text in
    let rest = members-exact others (subst Ends (sym rest_is) e) in
    let reach = members-reach.reaches text m piece in
    let some = members-reach.some text m piece in
    let go = repeated-go member_len text some (members-reach.within text) in
    ⊎_elim
    (λ (same : m ≡ member_len text). let more : members_len (drop (member_len text) text) ≡ n = rw same at rest in omega (arith, go))
    (λ (shorter : (m ≤ member_len text) × (member_len (drop m text) ≡ 0)).
    let none : members_len (drop m text) ≡ 0 = repeated-stop member_len (drop m text) shorter.1 in
    let last : n ≡ 0 = omega arith in
    let ends : Ends (drop m text) = rw last at (subst Ends (sym rest_is) e) in
    let same : member_len text ≡ m = member-exact piece ends in
    let whole : members_len text ≡ m + members_len (drop m text) = rw same at go in
    omega arith)
    reach

-- a word is read whole, as long as it is ended
pub word-next : (word rest : List ℕ) → BeginsWithIdentifier word (length word) → Ends rest → next_of (word ++ rest) ≡ (length word, Some (kind_of_word word))
word-next word rest is e =
    let text = word ++ rest in
    let more : BeginsWithIdentifier (word ++ rest) (length word) = identifier-more rest word (length word) is in
    let behind : drop (length word) (word ++ rest) ≡ rest = drop-append_seam word rest in
    let len : identifier_len (word ++ rest) ≡ length word = identifier-exact more (subst Ends (sym behind) e) in
    let none : members_len (drop (length word) (word ++ rest)) ≡ 0 = rw behind (repeated-stop member_len rest (ends-no_member rest e)) in
    let long = (Identifier-reaches more).some in
    let some : 0 < identifier_len (word ++ rest) = omega arith in
    next-name-some text some ∙ name_of-word text (rw len none) ∙ rw (len, take-append_seam) refl

dotted-reads : {text : List ℕ} (n : ℕ) → BeginsWithDotted text n → Ends (drop n text) → next_of text ≡ (n, Some Dotted)
dotted-reads n (dotted_name {text} {m} {n = k} name some others) e =
    let reach = Identifier-reaches name in
    let len : m ≡ identifier_len text =
    ⊎_elim (λ same. same)
    (λ (shorter : (m ≤ identifier_len text) × (slice_index (drop m text) 0 ≢ 46)). let none = Members-no_dot (drop m text) k others shorter.1 in absurd (omega arith))
    reach.longest in
    let rest_is : drop k (drop m text) ≡ drop (m + k) text = drop-drop k m text in
    let more : members_len (drop m text) ≡ k = members-exact others (subst Ends (sym rest_is) e) in
    let more' : members_len (drop (identifier_len text) text) ≡ k = rw len at more in
    let long = reach.some in
    next-name-some text (omega arith) ∙ name_of-dotted text (omega arith) ∙ rw (← len, more) refl

-- so is a dotted name
pub dotted-next : (name rest : List ℕ) → BeginsWithDotted name (length name) → Ends rest → next_of (name ++ rest) ≡ (length name, Some Dotted)
dotted-next name rest is e = dotted-reads (length name) (dotted-more rest name (length name) is) (subst Ends (sym (drop-append_seam name rest)) e)

-- a digit of a number
digit-is : (c : ℕ) → digit_value c < 10 → is_ascii_digit c ≡ true
digit-is c h = grind (arith, nat_tests)

digits-pass : (digits : List ℕ) (rest : List ℕ) → AllDigits 10 digits → Ends rest → prefix_len is_ascii_digit (digits ++ rest) ≡ length digits
digits-pass [] [] all e = refl
digits-pass [] (b ∷ rest) all e = cond-false _ _ _ e.no_digit
digits-pass (c ∷ digits) rest all e =
    let inner = digits-pass digits rest all.1 e in
    let first = cond-true (is_ascii_digit c) (1 + prefix_len is_ascii_digit (digits ++ rest)) 0 (digit-is c all.0) in
    first ∙ omega arith

digits-first : (digits rest : List ℕ) → 0 < length digits → AllDigits 10 digits → is_ascii_digit (slice_index (digits ++ rest) 0) ≡ true
digits-first [] rest some all = absurd (omega arith)
digits-first (c ∷ digits) rest some all = digit-is c all.0

-- a number is read whole
pub number-next : (n : ℕ) (rest : List ℕ) → n < 2 ^ 64 → Ends rest → next_of (decimal n ++ rest) ≡ (length (decimal n), Some Number)
number-next n rest small e =
    let numeral = decimal_is_IsNumeral n small in
    let text = decimal n ++ rest in
    let len : prefix_len is_ascii_digit (decimal n ++ rest) ≡ length (decimal n) = digits-pass (decimal n) rest numeral.0.1 e in
    let value : digits_value 10 (take (prefix_len is_ascii_digit (decimal n ++ rest)) (decimal n ++ rest)) ≡ n = rw (len, take-append_seam) numeral.1 in
    next-number text (digits-first (decimal n) rest numeral.0.0 numeral.0.1) ∙ number_of-fits text (omega arith) ∙ ap (λ k. (k, Some Number)) len
