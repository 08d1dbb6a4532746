-- The steps by which the code finds characters and names.
use Rattle.std.proofs.Common.{◌≡◌, ◌≢◌, ℕ, ◌+◌, ◌<◌, ◌≤◌, Bool, true, false, List, [], length, drop, Some, None, slice_index, arith, refl, sym}
use Rattle.std.proofs.lemmas.Bool.{cond-true, cond-false}
use Rattle.std.proofs.lemmas.List.{drop-drop, drop_all}
use Rattle.bstr.specs.Utf8.{decoded}
use Rattle.unicode_ident.proofs.IdentLemmas.{is_xid_start-ascii, is_xid_continue-ascii}
use Rattle.chyp_lex.specs.Lexemes.{begins_identifier}
use Rattle.chyp_lex.specs.Longest.{character_len, continuation_len, identifier_len, member_len, repeated}
use Rattle.chyp_lex.proofs.Repeats.{repeated-go, repeated-stop}
use Rattle.chyp_lex.proofs.Names.{decoded-ascii, character_len-le-length, identifier_len-some, identifier_len-none, identifier_len-le-length, member_len-some, member_len-no_dot, member_len-no_name, member_len-le-length}

-- one byte where an ASCII byte passes, and else none
pub character_len-empty : (test : ℕ → Bool) (text : List ℕ) → length text ≡ 0 → character_len test text ≡ 0
character_len-empty test text none = let within = character_len-le-length test text in omega arith

pub character_len-ascii_passes : (test : ℕ → Bool) (text : List ℕ) → 0 < length text → slice_index text 0 < 128 → test (slice_index text 0) ≡ true → character_len test text ≡ 1
unfolding character_len
character_len-ascii_passes test text some low passes = rw (decoded-ascii text some low) (cond-true _ _ _ passes)

pub character_len-ascii_fails : (test : ℕ → Bool) (text : List ℕ) → 0 < length text → slice_index text 0 < 128 → test (slice_index text 0) ≡ false → character_len test text ≡ 0
unfolding character_len
character_len-ascii_fails test text some low fails = rw (decoded-ascii text some low) (cond-false _ _ _ fails)

pub character_len-none : (test : ℕ → Bool) (text : List ℕ) → (decoded text).char ≡ None → character_len test text ≡ 0
unfolding character_len
character_len-none test text is = rw is refl

pub character_len-passes : (test : ℕ → Bool) (text : List ℕ) (c : ℕ) → (decoded text).char ≡ Some c → test c ≡ true → character_len test text ≡ (decoded text).size
unfolding character_len
character_len-passes test text c is passes = rw is (cond-true _ _ _ passes)

pub character_len-fails : (test : ℕ → Bool) (text : List ℕ) (c : ℕ) → (decoded text).char ≡ Some c → test c ≡ false → character_len test text ≡ 0
unfolding character_len
character_len-fails test text c is fails = rw is (cond-false _ _ _ fails)

pub ruleset character_steps = (character_len-empty, character_len-ascii_passes, character_len-ascii_fails, character_len-none, character_len-passes, character_len-fails, character_len-le-length)

pub ruleset ascii_steps = (is_xid_start-ascii, is_xid_continue-ascii)

pub identifier_len-is : (text : List ℕ) (first : ℕ) → character_len begins_identifier text ≡ first → first ≢ 0 → identifier_len text ≡ first + continuation_len (drop first text)
identifier_len-is text first is some = identifier_len-some text first is (omega arith)

pub ruleset identifier_steps = (identifier_len-is, identifier_len-none, identifier_len-le-length)

pub member_len-is : (text : List ℕ) → slice_index text 0 ≡ 46 → identifier_len (drop 1 text) ≢ 0 → member_len text ≡ 1 + identifier_len (drop 1 text)
member_len-is text dot some = member_len-some text dot (omega arith)

pub member_len-empty : (text : List ℕ) → length text ≡ 0 → member_len text ≡ 0
member_len-empty text none = let within = member_len-le-length text in omega arith

pub ruleset member_steps = (member_len-is, member_len-empty, member_len-no_dot, member_len-no_name, member_len-le-length)

-- a loop that takes a step again and again: one more step, the step that gives 0, and the end of the text
module _ (step : List ℕ → ℕ) (text : List ℕ) (at : ℕ) where
  pub repeated-next : ((t : List ℕ) → step t ≤ length t) → (len : ℕ) → len ≡ step (drop at text) → len ≢ 0 → repeated step text ≡ at + repeated step (drop at text)
      → repeated step text ≡ at + len + repeated step (drop (at + len) text)
  repeated-next within len is some so_far =
      let go = repeated-go step (drop at text) (omega arith) (within (drop at text)) in
      let more : repeated step (drop at text) ≡ len + repeated step (drop (at + len) text) = rw (sym is, drop-drop) at go in
      omega arith

  pub repeated-last : step (drop at text) ≡ 0 → repeated step text ≡ at + repeated step (drop at text) → at ≡ repeated step text
  repeated-last none so_far = let stop = repeated-stop step (drop at text) none in omega arith

  pub repeated-end : step [] ≡ 0 → length text ≤ at → repeated step text ≡ at + repeated step (drop at text) → at ≡ repeated step text
  repeated-end empty end so_far =
      let rest : drop at text ≡ [] = drop_all at text end in
      let stop : repeated step (drop at text) ≡ 0 = rw rest (repeated-stop step [] empty) in
      omega arith
