use Rattle.std.proofs.Common.{◌≡◌, ◌<◌, All, drop, length}
use Rattle.chyp_picture.specs.Crossings.{crossings_of}
use Rattle.chyp_layout.specs.PictureOf.{best_after, four_sweeps}
use Rattle.chyp_layout.specs.Side.{AreItems}
use Rattle.chyp_layout.proofs.Best.{best_of}
use Rattle.chyp_layout.proofs.layering.best.Given as goal

abbrev pub invariant-loop-side : goal.invariant-loop-side
invariant-loop-side l = record {
  items : All (AreItems l.graph) l.order.items;
  few : length l.order.items < 2147483648;
  crossings : l.best.crossings ≡ crossings_of l.best.picture;
  best : best_of l.graph (drop l.side-index four_sweeps) l.best.picture l.order.items ≡ best_after l.graph four_sweeps l.initial.order.items;
}
