use Rattle.std.proofs.Common.{◌≡◌, ◌-◌, ◌++◌, length, map}
use Rattle.chyp_extract.specs.Measuring.{measures_from}
use Rattle.chyp_extract.specs.Placing.{left_after}
use Rattle.chyp_extractor.specs.Fronts.{live_at}
use Rattle.chyp_extractor.specs.Measures.{kept}
use Rattle.chyp_extractor.specs.Tally.{IsTally}
use Rattle.chyp_extractor.proofs.measuring.parts.Given as goal

abbrev pub invariant-loop-n : goal.invariant-loop-n
invariant-loop-n l = record {
  tally : IsTally l.graph l.n l.tally;
  parts : map kept (measures_from l.graph (length l.graph.edges) l.graph.inputs l.graph.edges)
      ≡ l.tally.parts.items ++ map kept (measures_from l.graph (length l.graph.edges - l.n) (live_at l.graph l.n) (left_after l.graph l.n));
}
