use Rattle.chyp_iso.proofs.Ends.{both-answer, both-lead, first-leads, first-refutes}
use Rattle.chyp_iso.proofs.Steps.{when-false, when-true}
use Rattle.chyp_iso.proofs.find.pair_ends.Goals as goal

pub returns-then-pair_lists-clause-leads : goal.returns-then-pair_lists-clause-leads
returns-then-pair_lists-clause-leads c =
    let l = rw (c.inputs.ensures.inputs, c.inputs-2.ensures.inputs) at c.pair_lists.ensures.leads in
    let m = rw (c.outputs.ensures.outputs, c.outputs-then-pair_lists.ensures.outputs) at c.pair_lists-then-pair_lists.ensures.leads in
    both-lead c.args.a.now c.args.b.now c.args.pairing.now c.pair_lists.new.pairing c.pair_lists-then-pair_lists.new.pairing l m

pub returns-then-pair_lists-clause-outcome : goal.returns-then-pair_lists-clause-outcome
returns-then-pair_lists-clause-outcome c =
    let l = rw (c.inputs.ensures.inputs, c.inputs-2.ensures.inputs) at c.pair_lists.ensures.leads in
    let i = rw (c.inputs.ensures.inputs, c.inputs-2.ensures.inputs) at (when-true c.pair_lists.result _ _ c.pair_lists.ensures.outcome c.if-pair_lists.true) in
    let m = rw (c.outputs.ensures.outputs, c.outputs-then-pair_lists.ensures.outputs) at c.pair_lists-then-pair_lists.ensures.leads in
    let o = rw (c.outputs.ensures.outputs, c.outputs-then-pair_lists.ensures.outputs) at c.pair_lists-then-pair_lists.ensures.outcome in
    both-answer c.args.a.now c.args.b.now c.args.pairing.now c.pair_lists.new.pairing c.pair_lists-then-pair_lists.new.pairing c.pair_lists-then-pair_lists.result c.requires.fits.second_valid l i m o

pub returns-else-pair_lists-clause-leads : goal.returns-else-pair_lists-clause-leads
returns-else-pair_lists-clause-leads c =
    let l = rw (c.inputs.ensures.inputs, c.inputs-2.ensures.inputs) at c.pair_lists.ensures.leads in
    first-leads c.args.a.now c.args.b.now c.args.pairing.now c.pair_lists.new.pairing l

pub returns-else-pair_lists-clause-outcome : goal.returns-else-pair_lists-clause-outcome
returns-else-pair_lists-clause-outcome c =
    let r = rw (c.inputs.ensures.inputs, c.inputs-2.ensures.inputs) at (when-false c.pair_lists.result _ _ c.pair_lists.ensures.outcome c.if-pair_lists.false) in
    rw c.if-pair_lists.false (first-refutes c.args.a.now c.args.b.now c.args.pairing.now.pairs r)
