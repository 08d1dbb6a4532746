use Rattle.std.proofs.Common.{◌<◌, ◌∙◌, All, ap, length, map, subst, sym}
use Rattle.chyp_layout.specs.Side.{IsItem}
use Rattle.chyp_layout.specs.declared.item.Item.TheVariants.{Wire}
use Rattle.chyp_layout.specs.declared.side.Side.TheVariants.{Right}
use Rattle.chyp_layout.proofs.Sweeping.{rim-items}
use Rattle.chyp_layout.proofs.sweep.swept_back.Goals as goal

pub swept-requires-clause-rim : goal.swept-requires-clause-rim
swept-requires-clause-rim c =
    let b = c.is_bounded.ensures in
    subst (All (IsItem c.args.graph.now)) (sym (c.in_ok-rim.ensures ∙ ap (map Wire) c.outputs.ensures.outputs)) (rim-items c.args.graph.now b.valid b.few_wires Right).0

pub swept-requires-clause-few : goal.swept-requires-clause-few
swept-requires-clause-few c =
    let b = c.is_bounded.ensures in
    subst (λ l. length l < 4294967296) (sym (c.in_ok-rim.ensures ∙ ap (map Wire) c.outputs.ensures.outputs)) (rim-items c.args.graph.now b.valid b.few_wires Right).1
