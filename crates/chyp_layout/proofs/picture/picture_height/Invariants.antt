use Rattle.std.proofs.Common.{◌≡◌, ◌<◌, ◌∷◌, map, take}
use Rattle.chyp_layout.specs.Columns.{greatest}
use Rattle.chyp_layout.specs.PictureOf.{column_height}
use Rattle.chyp_layout.specs.Side.{rim}
use Rattle.chyp_layout.specs.declared.side.Side.TheVariants.{Left, Right}
use Rattle.chyp_layout.proofs.picture.picture_height.Given as goal

abbrev pub invariant-loop-column : goal.invariant-loop-column
invariant-loop-column l = (l.height ≡ greatest (map (column_height l.graph) (rim l.graph Left ∷ rim l.graph Right ∷ take l.column-index l.order))) × (l.height < 9223372036854775808)
