use Rattle.std.proofs.Common.{◌≡◌, List, length, map, take}
use Rattle.std.specs.List.{enumerate_from, range_with_len}
use Rattle.chyp_layout.specs.PictureOf.{line_of}
use Rattle.chyp_layout.specs.Spots.{bends_on, box_spot}
use Rattle.chyp_layout.specs.declared.placed.Placed.{Placed}
use Rattle.chyp_layout.proofs.picture.lines.Given as goal

abbrev pub invariant-loop-w : goal.invariant-loop-w
invariant-loop-w l = (placed : List Placed) → l.spots ≡ map (box_spot placed) (range_with_len 0 (length l.graph.edges)) → l.bends ≡ map (bends_on placed) (range_with_len 0 (length l.graph.wires))
    → l.lines.items ≡ map (λ p. line_of l.graph placed p.0 p.1) (enumerate_from 0 (take l.w l.graph.wires))
