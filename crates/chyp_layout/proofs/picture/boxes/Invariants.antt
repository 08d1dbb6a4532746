use Rattle.std.proofs.Common.{◌≡◌, List, length, map, take}
use Rattle.std.specs.List.{enumerate_from, range_with_len}
use Rattle.chyp_layout.specs.PictureOf.{box_of}
use Rattle.chyp_layout.specs.Spots.{box_spot}
use Rattle.chyp_layout.specs.declared.placed.Placed.{Placed}
use Rattle.chyp_layout.proofs.picture.boxes.Given as goal

abbrev pub invariant-loop-k : goal.invariant-loop-k
invariant-loop-k l = (placed : List Placed) → l.spots ≡ map (box_spot placed) (range_with_len 0 (length l.graph.edges))
    → l.boxes.items ≡ map (λ p. box_of placed p.0 p.1) (enumerate_from 0 (take l.k l.graph.edges))
