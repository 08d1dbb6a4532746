use Rattle.std.proofs.Common.{below_more, ◌∙◌}
use Rattle.std.proofs.lemmas.List.{get_or-map}
use Rattle.chyp_picture.specs.declared.point.Point.{Point}
use Rattle.chyp_picture_tests.proofs.whole.follow.Goals as goal

abbrev nowhere : Point
nowhere = record { column = 0; place = 0; y = 0 }

pub loop-index-preserved : goal.loop-index-preserved
loop-index-preserved c = below_more _ _ c.loop-index.invariant (get_or-map (λ (b : Point). b.column) c.args.bends.now c.loop-index.index nowhere 0 c.loop-index-test.true ∙ c.if-bend-start.false)
