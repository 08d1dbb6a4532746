-- Comments and words.
use Rattle.std.proofs.Common.{◌≢◌, cond, drop, take, ◌≡◌, ℕ, ◌+◌, ◌<◌, Bool, true, false, not, List, [], ◌∷◌, length, slice_index, arith, refl, sym, ◌∙◌, Option, Some, None, length-take}
use Rattle.std.specs.Prelude.{unwrap_or, ◌==◌}
use Rattle.std.specs.List.{prefix_len, AllPass}
use Rattle.std.proofs.lemmas.Bool.{cond-false}
use Rattle.std.proofs.lemmas.Bool.Decides.{nat_tests}
use Rattle.std.proofs.lemmas.List.Sums.{prefix_len_is, prefix_len_passes, prefix_len-le-length}
use Rattle.std.proofs.lemmas.Grind.{common_steps}
use Rattle.memchr.specs.Find.{IsFirstByte, is_byte}
use Rattle.chyp_lex.specs.declared.token.TokenKind.TheVariants.{Dotted}
use Rattle.chyp_lex.specs.Longest.{bad_of, identifier_len, members_len, name_of}
use Rattle.chyp_lex.specs.Lexemes.{is_line_feed, kind_of_word}
use Rattle.chyp_lex.proofs.Pieces.{name_of-word, name_of-dotted}

not-false : (b : Bool) → (b ≡ true → ⊥) → not b ≡ true
not-false true h = absurd (h refl)
not-false false h = refl

not-true : (b : Bool) → b ≡ true → not b ≡ false
not-true true h = refl
not-true false h = cc

-- a comment goes up to the first line feed, or to the end of the text
pub comment_len-is : (text : List ℕ) (found : Option ℕ) → IsFirstByte (is_byte 10) text found → unwrap_or found (length text) ≡ prefix_len (λ b. not (is_line_feed b)) text
comment_len-is text None h = sym (prefix_len_is _ text (length text) 0 (omega arith) (λ k below. not-false _ (h k (omega arith) below)) (λ h. absurd (omega arith)))
comment_len-is text (Some n) h = sym (prefix_len_is _ text n 0 (omega (arith, h.0.high)) (λ k below. not-false _ (h.0.before k (omega arith) below)) (λ _. not-true _ h.1))

-- a list of known length and elements
pub six_bytes : (xs : List ℕ) (a b c d e f : ℕ) → length xs ≡ 6 → slice_index xs 0 ≡ a → slice_index xs 1 ≡ b → slice_index xs 2 ≡ c → slice_index xs 3 ≡ d → slice_index xs 4 ≡ e
    → slice_index xs 5 ≡ f → xs ≡ a ∷ b ∷ c ∷ d ∷ e ∷ f ∷ []
six_bytes (x0 ∷ x1 ∷ x2 ∷ x3 ∷ x4 ∷ x5 ∷ []) a b c d e f n h0 h1 h2 h3 h4 h5 = cc
six_bytes _ a b c d e f n h0 h1 h2 h3 h4 h5 = absurd (omega arith)

pub seven_bytes : (xs : List ℕ) (a b c d e f g : ℕ) → length xs ≡ 7 → slice_index xs 0 ≡ a → slice_index xs 1 ≡ b → slice_index xs 2 ≡ c → slice_index xs 3 ≡ d → slice_index xs 4 ≡ e
    → slice_index xs 5 ≡ f → slice_index xs 6 ≡ g → xs ≡ a ∷ b ∷ c ∷ d ∷ e ∷ f ∷ g ∷ []
seven_bytes (x0 ∷ x1 ∷ x2 ∷ x3 ∷ x4 ∷ x5 ∷ x6 ∷ []) a b c d e f g n h0 h1 h2 h3 h4 h5 h6 = cc
seven_bytes _ a b c d e f g n h0 h1 h2 h3 h4 h5 h6 = absurd (omega arith)

-- each element of the longest front that passes does
pub prefix_len-pass : (test : ℕ → Bool) (text : List ℕ) → AllPass test (take (prefix_len test text) text)
prefix_len-pass test text k d h =
    let within = prefix_len-le-length test text in
    let size = length-take (prefix_len test text) text in
    let below : k < prefix_len test text = omega arith in
    let passes = prefix_len_passes test text k d below in
    grind (arith, common_steps)

-- what a name of n bytes is read as
module _ (text : List ℕ) (n : ℕ) where
  name_of-some : n ≡ identifier_len text → n ≢ 0 → cond (identifier_len text == 0) (bad_of text) (name_of text) ≡ name_of text
  name_of-some is some = let test : (identifier_len text == 0) ≡ false = grind (arith, nat_tests) in cond-false _ _ _ test

  pub next-is_word : n ≡ identifier_len text → n ≢ 0 → members_len (drop n text) ≡ 0 → cond (identifier_len text == 0) (bad_of text) (name_of text) ≡ (n, Some (kind_of_word (take n text)))
  next-is_word is some none = name_of-some is some ∙ rw is (name_of-word text (rw is at none))

  pub next-is_dotted : (more : ℕ) → n ≡ identifier_len text → n ≢ 0 → more ≡ members_len (drop n text) → more ≢ 0
      → cond (identifier_len text == 0) (bad_of text) (name_of text) ≡ (n + more, Some Dotted)
  next-is_dotted more is some more_is more_some =
      let long : 0 < members_len (drop n text) = omega arith in
      name_of-some is some ∙ rw (more_is, is) (name_of-dotted text (rw is at long))
