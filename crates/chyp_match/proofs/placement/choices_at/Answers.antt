use Rattle.std.proofs.Common.{◌-◌, refl, subst, sym, arith}
use Rattle.chyp_pattern.specs.Placements.{BeginAlike, IsThere}
use Rattle.chyp_match.proofs.Counting.{alike-count, anchor-there, known-next}
use Rattle.chyp_match.proofs.placement.choices_at.Goals as goal

pub choices-requires : goal.choices-requires
choices-requires c =
    subst (λ g. IsThere g c.anchor.result) (sym c.graph-whole.ensures.graph)
    (anchor-there c.args.pattern.now.graph c.args.pattern.now.anchors c.graph-whole.ensures.anchors c.args.k c.anchor.result c.anchor.ensures)

pub begin_alike-requires-clause-first : goal.begin_alike-requires-clause-first
begin_alike-requires-clause-first c =
    subst (λ g. IsThere g c.anchor-2.result) (sym c.graph-whole.ensures.graph)
    (anchor-there c.args.pattern.now.graph c.args.pattern.now.anchors c.graph-whole.ensures.anchors (c.args.k - 1) c.anchor-2.result c.anchor-2.ensures)

pub begin_alike-requires-clause-second : goal.begin_alike-requires-clause-second
begin_alike-requires-clause-second c =
    subst (λ g. IsThere g c.anchor-3.result) (sym c.graph-whole.ensures.graph)
    (anchor-there c.args.pattern.now.graph c.args.pattern.now.anchors c.graph-whole.ensures.anchors c.args.k c.anchor-3.result c.anchor-3.ensures)

pub choices-requires-2 : goal.choices-requires-2
choices-requires-2 c =
    subst (λ g. IsThere g c.anchor-4.result) (sym c.graph-whole.ensures.graph)
    (anchor-there c.args.pattern.now.graph c.args.pattern.now.anchors c.graph-whole.ensures.anchors c.args.k c.anchor-4.result c.anchor-4.ensures)

pub returns-then-begin_alike : goal.returns-then-begin_alike
returns-then-begin_alike c =
    let f = c.if-k-eq0.false in
    let alike : BeginAlike c.args.pattern.now.graph c.anchor-2.result c.anchor-3.result =
    subst (λ g. BeginAlike g c.anchor-2.result c.anchor-3.result) c.graph-whole.ensures.graph (c.if-begin_alike.ensures refl) in
    known-next c.args.pattern.now c.args.graph.now c.args.k c.args.before c.anchor-3.result c.anchor-3.ensures
    (alike-count c.args.pattern.now.graph c.args.graph.now c.anchor-2.result c.anchor-3.result c.args.before alike
    (c.requires.known (c.args.k - 1) c.anchor-2.result (omega arith) c.anchor-2.ensures))
