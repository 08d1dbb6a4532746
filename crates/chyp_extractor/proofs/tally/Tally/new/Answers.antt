use Rattle.std.proofs.Common.{◌∙◌, [], ap, arith, length, reverse}
use Rattle.chyp_extractor.proofs.Fronts.{round-reordered}
use Rattle.chyp_extractor.proofs.Tallies.{stack-first, stack-wires}
use Rattle.chyp_extractor.proofs.tally.Tally.new.Goals as goal

pub returns-clause-tally : goal.returns-clause-tally
returns-clause-tally c =
    let g = c.args.graph.now in
    let v = c.valid.ensures.valid in
    let stack = c.reverse.ensures.items ∙ ap reverse (c.in_ok-stack.ensures.items ∙ c.inputs-inputs.ensures.inputs) in
    record {
      wires = stack-wires g v 0 [] c.reverse.new.self.items g.inputs (λ k d l. absurd (omega arith)) (round-reordered g v c.valid.ensures.few_wires 0).within stack;
      unused = stack-first g v c.reverse.new.self.items stack;
      live = ap length c.inputs-inputs.ensures.inputs;
    }
