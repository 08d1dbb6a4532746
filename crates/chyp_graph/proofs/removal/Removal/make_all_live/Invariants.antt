use Rattle.std.proofs.Common.{take}
use Rattle.chyp_graph.specs.Removal.{AreLive, Grows, IsRemoval, StayLive}
use Rattle.chyp_graph.proofs.removal.Removal.make_all_live.Given as goal

abbrev pub invariant-loop-w : goal.invariant-loop-w
invariant-loop-w l = record {
  removal : IsRemoval l.graph l.self;
  live : AreLive l.self.live.items (take l.w-index l.wires);
  stay : StayLive l.initial.self.live.items l.self.live.items;
  order : Grows l.initial.self.order.items l.self.order.items;
}
