use Rattle.std.proofs.Common.{ap₂}
use Rattle.chyp_layout.specs.Ends.{from_of, to_of}
use Rattle.chyp_layout.specs.declared.ends.Ends.{Ends}
use Rattle.chyp_layout.proofs.Lists.{numbered-more}
use Rattle.chyp_layout.proofs.ends.all_ends.Goals as goal

pub loop-w-preserved : goal.loop-w-preserved
loop-w-preserved c =
    let g = c.args.graph.now in
    numbered-more (λ w. record { from = from_of g w; to = to_of g w }) c.loop-w.ends.items c.push.new.self.items c.loop-w.w
    (record { from = c.from.result; to = c.to.result }) c.loop-w.invariant c.in_ok-push.ensures.items (ap₂ {C = Ends} (λ a b. record { from = a; to = b }) c.from.ensures c.to.ensures)
