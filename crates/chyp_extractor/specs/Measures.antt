-- Measures of terms, as they are kept: each up to the greatest number of 64 bits. No public clause cites this.
use Rattle.std.specs.Prelude.{ℕ, ◌+◌, ◌-◌, ◌^◌, ◌≤◌, max, min}
use Rattle.chyp_extract.specs.Measuring.{Measures as TermMeasures}
use Rattle.chyp_extractor.specs.declared.measures.Measures.{Measures}

-- the number, or the greatest that is kept where it is greater
abbrev pub capped : ℕ → ℕ
capped n = min n (2 ^ 64 - 1)

-- measures as they are kept
abbrev pub kept : TermMeasures → Measures
kept m = record { size = capped m.size; depth = capped m.depth; gens = capped m.generators }

-- those of a composite or of a tensor
abbrev pub both : Measures → Measures → Measures
both a b = record { size = capped (a.size + b.size + 1); depth = capped (max a.depth b.depth + 1); gens = capped (a.gens + b.gens) }

-- d is one more than the least k for which n is at most 2 to the k
pub record IsHalvedDepth (n d : ℕ) : Type 0 where
  pub some : 1 ≤ d
  pub enough : n ≤ 2 ^ (d - 1)
  pub least : (k : ℕ) → n ≤ 2 ^ k → d ≤ 1 + k
