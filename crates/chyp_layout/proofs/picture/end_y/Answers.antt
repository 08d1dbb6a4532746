use Rattle.std.proofs.Common.{◌≡◌, ◌+◌, ◌<◌, ap, get_or, length, subst, sym}
use Rattle.chyp_layout.specs.PictureOf.{IsPortOn, end_y}
use Rattle.chyp_layout.specs.declared.item.Item.TheVariants.{Box}
use Rattle.chyp_layout.proofs.Drawing.{port-drawn}
use Rattle.chyp_layout.proofs.Sweeping.{wires-few}
use Rattle.chyp_layout.proofs.picture.end_y.Goals as goal

pub down-down-requires-clause-few : goal.down-down-requires-clause-few
down-down-requires-clause-few c =
    let g = c.args.graph.now in
    let b = c.is_bounded.ensures in
    let p = subst (IsPortOn g c.args.side) c.in-Port.is c.requires.port in
    subst (λ l. length l < 2147483648) (sym c.wires_on-ports.ensures) (wires-few g b.valid b.few_wires c.args.side (Box c.in-Port.box_index) p.0)

pub returns-in-Port : goal.returns-in-Port
returns-in-Port c =
    λ placed e.
    let g = c.args.graph.now in
    let p = subst (IsPortOn g c.args.side) c.in-Port.is c.requires.port in
    subst (λ x. (get_or c.args.spots.now c.in-Port.box_index (record { column = 0; place = 0; top = 0 })).top + c.down-down.result ≡ end_y g placed c.args.side x) (sym c.in-Port.is)
    (port-drawn g placed c.args.side c.in-Port.box_index c.in-Port.port c.args.spots.now (record { column = 0; place = 0; top = 0 }) c.height.result c.down-down.result
    (length c.wires_on-ports.result.now) e p.0 c.requires.size
    c.height.ensures.height (ap length c.wires_on-ports.ensures) c.down-down.ensures.down)
