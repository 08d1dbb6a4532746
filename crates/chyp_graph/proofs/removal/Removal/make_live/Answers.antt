use Rattle.std.proofs.Common.{true, refl, sym, subst, slice_set}
use Rattle.chyp_graph.specs.Removal.{IsWaiting}
use Rattle.chyp_graph.proofs.Removing.{output-none, waiting-same}
use Rattle.chyp_graph.proofs.removal.Removal.make_live.Goals as goal

pub returns-in-None-clause-removal : goal.returns-in-None-clause-removal
returns-in-None-clause-removal c =
    let g = c.args.graph.now in
    let r = c.args.self.now in
    subst (λ w. IsWaiting g (slice_set r.live.items w true) r.waits.items r.order.items) (sym c.w.view_is)
    (waiting-same g r.live.items r.waits.items r.order.items c.args.w c.requires.removal c.requires.wire c.requires.made
    (λ k n _. output-none g c.requires.valid c.args.w (c.in-None.ensures.output.0 refl) k n))
