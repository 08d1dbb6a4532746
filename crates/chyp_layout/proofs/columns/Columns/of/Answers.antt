use Rattle.std.proofs.Common.{◌∙◌, ap, refl}
use Rattle.chyp_layout.specs.Columns.{greatest}
use Rattle.chyp_layout.proofs.Rounds.{rounds-columns, rounds-kept}
use Rattle.chyp_layout.proofs.columns.Columns.of.Goals as goal

pub invariant_of-result : goal.invariant_of-result
invariant_of-result c =
    let b = c.is_bounded.ensures in
    rounds-kept c.args.graph.now b.valid c.in_ok-of_boxes.of_boxes.items c.in_ok-of_boxes.ensures b.few_edges c.greatest-last.result (c.greatest-last.ensures ∙ ap greatest c.deref.ensures.value)

pub returns-clause-columns : goal.returns-clause-columns
returns-clause-columns c = rounds-columns c.args.graph.now c.is_bounded.ensures.valid c.in_ok-of_boxes.of_boxes.items c.in_ok-of_boxes.ensures

pub returns-clause-low : goal.returns-clause-low
returns-clause-low c =
    let b = c.is_bounded.ensures in
    (rounds-kept c.args.graph.now b.valid c.in_ok-of_boxes.of_boxes.items c.in_ok-of_boxes.ensures b.few_edges (greatest c.in_ok-of_boxes.of_boxes.items) refl).low
