use Rattle.std.proofs.Common.{◌≡◌, true, take}
use Rattle.chyp_extract.specs.Extraction.{counts_from}
use Rattle.chyp_extractor.proofs.crossing.counts_up.Given as goal

abbrev pub invariant-loop-i : goal.invariant-loop-i
invariant-loop-i l = counts_from 0 (take l.i l.places) ≡ true
