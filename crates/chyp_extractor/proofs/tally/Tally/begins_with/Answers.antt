use Rattle.std.proofs.Common.{◌+◌, ◌-◌, ◌∙◌, ap, drop, length, sym, take}
use Rattle.chyp_term.proofs.Closure.{get-item}
use Rattle.chyp_extractor.specs.Tally.{begins, unused_in}
use Rattle.chyp_extractor.proofs.Tallies.{begins-next, drop-first, keeps-next, wires-popped}
use Rattle.chyp_extractor.proofs.tally.Tally.begins_with.Goals as goal

pub loop-w-preserved : goal.loop-w-preserved
loop-w-preserved c =
    let g = c.args.graph.now in
    let n = c.args.n in
    let l = c.loop-w in
    let i = l.w-index in
    let w = c.w-item.result in
    let ws = c.args.wanted.now in
    let start = c.args.self.now.stack.items in
    let cur = l.self.stack.items in
    let f = c.is_first.ensures in
    let now = c.is_first.new.self.stack.items in
    let new = c.pop.new.self.items in
    let rest = c.pop.ensures.rest ∙ ap (λ n. take (n - 1) now) c.is_first.new.self.stack.ok.0 in
    let top = f.top c.if-not-is_first.false in
    let found = sym f.exact ∙ c.if-not-is_first.false in
    let at = get-item ws i w c.loop-w-test.true c.w-item.is in
    let split = drop-first ws i w at in
    record {
      exact =
          l.invariant.exact ∙ ap (λ xs. begins xs (unused_in g n cur)) split
          ∙ begins-next g n w (drop (i + 1) ws) start cur now new found f.unused top rest;
      wires = wires-popped g now new (length now - 1) f.wires rest;
      unused = keeps-next g n w i ws start cur now new at l.invariant.unused f.unused top rest;
      live = f.live ∙ l.invariant.live;
      parts = f.parts ∙ l.invariant.parts;
    }
