-- The place of the next byte.
use Rattle.std.proofs.Common.{◌≡◌, ℕ, ◌+◌, ◌-◌, ◌<◌, Bool, true, false, not, List, take, length, slice_index_or, ap, ap₂, ◌∙◌, arith, ne_eqb}
use Rattle.std.specs.List.{suffix_len}
use Rattle.std.proofs.lemmas.List.Sums.{count_by_more_no, count_by_more_yes, suffix_len-take_no, suffix_len-take_yes}
use Rattle.chyp_session.specs.Place.{is_line_end, place_of}

-- no line end
abbrev goes_on : ℕ → Bool
goes_on byte = not (is_line_end byte)

-- a byte that isn't LF ends no line
pub other_byte : (byte : ℕ) → ¬ (byte ≡ 10) → is_line_end byte ≡ false
other_byte byte h = ne_eqb byte 10 h

-- behind a line end a new line begins
pub place-line_end : (text : List ℕ) (at : ℕ) → at < length text → is_line_end (slice_index_or text at 0) ≡ true
    → place_of text (at + 1) ≡ record { line = (place_of text at).line + 1; col = 1 }
place-line_end text at h e =
    let back : (at + 1) - 1 ≡ at = omega arith in
    let no : goes_on (slice_index_or text ((at + 1) - 1) 0) ≡ false = ap (λ n. goes_on (slice_index_or text n 0)) back ∙ ap not e in
    ap₂ (λ lines cols. record { line = lines + 1; col = cols + 1 }) (count_by_more_yes is_line_end text at 0 h e)
    (suffix_len-take_no goes_on text (at + 1) 0 (omega arith) (omega arith) no)

-- behind another byte the line goes on
pub place-goes_on : (text : List ℕ) (at : ℕ) → at < length text → is_line_end (slice_index_or text at 0) ≡ false
    → place_of text (at + 1) ≡ record { line = (place_of text at).line; col = (place_of text at).col + 1 }
place-goes_on text at h e =
    let back : (at + 1) - 1 ≡ at = omega arith in
    let yes : goes_on (slice_index_or text ((at + 1) - 1) 0) ≡ true = ap (λ n. goes_on (slice_index_or text n 0)) back ∙ ap not e in
    let cols : suffix_len goes_on (take (at + 1) text) ≡ suffix_len goes_on (take at text) + 1 =
    suffix_len-take_yes goes_on text (at + 1) 0 (omega arith) (omega arith) yes ∙ ap (λ n. 1 + suffix_len goes_on (take n text)) back ∙ omega arith in
    ap₂ (λ lines cols. record { line = lines + 1; col = cols + 1 }) (count_by_more_no is_line_end text at 0 h e) cols
