use Rattle.std.proofs.Common.{ℕ, ◌<◌, ◌≡◌, slice_index}
use Rattle.chyp_term.proofs.places.are_apart.Given as goal

abbrev pub invariant-loop-i : goal.invariant-loop-i
invariant-loop-i l = (m n : ℕ) → m < l.i → n < l.i → slice_index l.places m ≡ slice_index l.places n → m ≡ n
