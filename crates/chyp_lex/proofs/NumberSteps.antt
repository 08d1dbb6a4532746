-- The value of digits, one after another.
use Rattle.std.proofs.Common.{◌≡◌, true, ◌-◌, ℕ, ◌+◌, ◌*◌, ◌<◌, ◌≤◌, List, [], ◌∷◌, length, drop, slice_index, arith, refl, add-one, drop-cons}
use Rattle.std.specs.Char.{digit_value, is_ascii_digit}
use Rattle.std.proofs.lemmas.Bool.Decides.{nat_tests}
use Rattle.std.specs.Str.Parse.{digits_value_after}

pub digits_value_after-le : (n : ℕ) (digits : List ℕ) → n ≤ digits_value_after 10 n digits
digits_value_after-le n [] = omega arith
digits_value_after-le n (d ∷ ds) = let rest = digits_value_after-le (n * 10 + digit_value d) ds in omega arith

pub digits_value_after-next : (n : ℕ) (digits : List ℕ) (i : ℕ) → i < length digits
    → digits_value_after 10 n (drop i digits) ≡ digits_value_after 10 (n * 10 + digit_value (slice_index digits i)) (drop (i + 1) digits)
digits_value_after-next n digits i h = rw (drop-cons digits i 0, add-one) refl

-- the value is at least what the digits so far write
pub digits_value_after-bound : (n : ℕ) (digits : List ℕ) (i : ℕ) → i < length digits → n * 10 + digit_value (slice_index digits i) ≤ digits_value_after 10 n (drop i digits)
digits_value_after-bound n digits i h =
    let next = digits_value_after-next n digits i h in
    let rest = digits_value_after-le (n * 10 + digit_value (slice_index digits i)) (drop (i + 1) digits) in
    rw next rest

pub digit_value-is : (d : ℕ) → is_ascii_digit d ≡ true → digit_value d ≡ d - 48
digit_value-is d h = grind (arith, nat_tests)
