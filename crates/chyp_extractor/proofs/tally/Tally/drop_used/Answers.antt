use Rattle.std.proofs.Common.{◌-◌, ◌∙◌, ap, length, sym, take}
use Rattle.chyp_extractor.specs.Tally.{first_of}
use Rattle.chyp_extractor.proofs.Tallies.{keeps-dropped, wires-popped}
use Rattle.chyp_extractor.proofs.tally.Tally.drop_used.Goals as goal

pub loop-w-preserved : goal.loop-w-preserved
loop-w-preserved c =
    let g = c.args.graph.now in
    let l = c.loop-w in
    let stack = l.self.stack.items in
    let rest = c.pop.ensures.rest ∙ ap (λ n. take (n - 1) stack) l.self.stack.ok.0 in
    record {
      wires = wires-popped g stack c.pop.new.self.items (length stack - 1) l.invariant.wires rest;
      unused =
          keeps-dropped g c.args.n c.in-Some.w.now c.args.self.now.stack.items stack c.pop.new.self.items
          (ap first_of (sym c.deref.ensures.value) ∙ sym c.in-Some.ensures.value) rest (sym c.if-not-is_used.ensures) l.invariant.unused;
      live = l.invariant.live;
      parts = l.invariant.parts;
    }
