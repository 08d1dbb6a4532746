-- A list of places whose items are marked by adding 2^31, one for each place that was looked at.
use Rattle.std.proofs.Common.{ℕ, ◌%◌, ◌<◌, ◌≤◌, ◌≡◌, List, All, length, slice_index}

abbrev pub AreWithin : List ℕ → Type 0
AreWithin o = All (λ k. k < length o) o

-- p is o with a mark at each of its first i places, which are apart
pub record IsMarked (o p : List ℕ) (i : ℕ) : Type 0 where
  pub size : length p ≡ length o
  pub kept : (j : ℕ) → j < length o → slice_index p j % 2147483648 ≡ slice_index o j
  pub seen : (m : ℕ) → m < i → 2147483648 ≤ slice_index p (slice_index o m)
  pub only : (j : ℕ) → j < length o → 2147483648 ≤ slice_index p j → (m : ℕ) × (m < i) × (slice_index o m ≡ j)
  pub apart : (m n : ℕ) → m < i → n < i → slice_index o m ≡ slice_index o n → m ≡ n
