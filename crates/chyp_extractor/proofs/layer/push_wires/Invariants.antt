use Rattle.std.proofs.Common.{◌≡◌, ◌++◌, map, take}
use Rattle.chyp_term.specs.Term.{morphisms_of}
use Rattle.chyp_extract.specs.Extraction.{wire_of}
use Rattle.chyp_extractor.proofs.layer.push_wires.Given as goal

abbrev pub invariant-loop-w : goal.invariant-loop-w
invariant-loop-w l = morphisms_of l.row.items ≡ morphisms_of l.initial.row.items ++ map (wire_of l.graph) (take l.w-index l.wires)
