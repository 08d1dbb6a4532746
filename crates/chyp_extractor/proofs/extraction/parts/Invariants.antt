use Rattle.std.proofs.Common.{◌≡◌, ◌-◌, ◌++◌, length}
use Rattle.chyp_term.specs.Term.{morphisms_of}
use Rattle.chyp_extract.specs.Extraction.{parts_from}
use Rattle.chyp_extract.specs.Placing.{left_after}
use Rattle.chyp_extractor.specs.Fronts.{IsFront, live_at}
use Rattle.chyp_extractor.proofs.extraction.parts.Given as goal

abbrev pub invariant-loop-n : goal.invariant-loop-n
invariant-loop-n l = record {
  front : IsFront l.graph l.n l.front;
  parts : parts_from l.graph (length l.graph.edges) l.graph.inputs l.graph.edges
      ≡ morphisms_of l.front.parts.items ++ parts_from l.graph (length l.graph.edges - l.n) (live_at l.graph l.n) (left_after l.graph l.n);
}
