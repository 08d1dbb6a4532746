use Rattle.std.proofs.Common.{◌≡◌, Some, length, slice_get, sym, subst, ap, ◌∙◌, arith}
use Rattle.chyp_term.proofs.Closure.{get-item}
use Rattle.chyp_iso.specs.Port.{the_targets}
use Rattle.chyp_iso.proofs.Ports.{below-edge}
use Rattle.chyp_iso.proofs.Steps.{when-false, when-true}
use Rattle.chyp_match.specs.Reach.{IsReach, LeadsTo}
use Rattle.chyp_match.specs.Convex.{IsTakenAt, MakesImage}
use Rattle.chyp_match.proofs.Unbroken.{broken, taken-marked, the-one, unbroken-all, unbroken-next}
use Rattle.chyp_match.proofs.convex.is_unbroken.Goals as goal
use Rattle.chyp_match.proofs.convex.is_unbroken.Goals.{in-Some+else-is_taken, in_default}

pub find-requires-clause-reach : goal.find-requires-clause-reach
find-requires-clause-reach c = c.loop-u.invariant.reach

pub find-requires-clause-there : goal.find-requires-clause-there
find-requires-clause-there c =
    let g = c.args.graph.now in
    let made = the-one (MakesImage g c.args.pairing.now.pairs c.u-item.result) c.maker.result c.in-Some.k c.in-Some.is c.maker.ensures in
    below-edge g the_targets c.in-Some.k made.1 made.0 made.3

pub row-requires : goal.row-requires
row-requires c =
    let g = c.args.graph.now in
    let made = the-one (MakesImage g c.args.pairing.now.pairs c.u-item.result) c.maker.result c.in-Some.k c.in-Some.is c.maker.ensures in
    let b = below-edge g the_targets c.in-Some.k made.1 made.0 made.3 in
    let s = c.find.ensures.reach.rows.size in
    omega arith

pub is_taken-requires-clause-size : goal.is_taken-requires-clause-size
is_taken-requires-clause-size c = (c.find.ensures.row c.row.result.now c.row.ensures).size

pub returns-then-is_taken-clause-reach : goal.returns-then-is_taken-clause-reach
returns-then-is_taken-clause-reach c = c.find.ensures.reach

pub returns-then-is_taken-clause-outcome : goal.returns-then-is_taken-clause-outcome
returns-then-is_taken-clause-outcome c =
    let g = c.args.graph.now in
    let ps = c.args.pairing.now.pairs in
    let at : slice_get c.args.pattern.now.inputs c.loop-u.u-index ≡ Some c.u-item.result =
    ap (λ vs. slice_get vs c.loop-u.u-index) (sym c.inputs-u-items.ensures.inputs) ∙ get-item c.inputs-u-items.result.now c.loop-u.u-index c.u-item.result c.loop-u-test.true c.u-item.is in
    broken c.args.pattern.now g ps c.loop-u.u-index c.u-item.result c.in-Some.k c.maker.result c.row.result.now.marks at c.maker.ensures c.in-Some.is
    (c.find.ensures.row c.row.result.now c.row.ensures)
    (when-true c.is_taken.result _ _ c.is_taken.ensures c.if-is_taken.true)

pub loop-u-preserved : goal.loop-u-preserved
loop-u-preserved c =
    let g = c.args.graph.now in
    let ps = c.args.pairing.now.pairs in
    let at : slice_get c.args.pattern.now.inputs c.loop-u.u-index ≡ Some c.u-item.result =
    ap (λ vs. slice_get vs c.loop-u.u-index) (sym c.inputs-u-items.ensures.inputs) ∙ get-item c.inputs-u-items.result.now c.loop-u.u-index c.u-item.result c.loop-u-test.true c.u-item.is in
    record {
      reach = elim c.match-maker.branch [
        | in-Some+else-is_taken w ↦ subst (IsReach g) (sym w.reach-is) w.find.ensures.reach
        | in_default w ↦ subst (IsReach g) (sym w.reach-is) c.loop-u.invariant.reach
      ];
      none = unbroken-next c.args.pattern.now g ps c.loop-u.u-index c.u-item.result c.maker.result c.loop-u.invariant.none at c.maker.ensures
          (elim c.match-maker.branch [
            | in-Some+else-is_taken w ↦ λ k e t.
                let both : Some w.in-Some.k ≡ Some k = sym w.in-Some.is ∙ e in
                let one : w.in-Some.k ≡ k = cc in
                let no = when-false w.is_taken.result _ _ w.is_taken.ensures w.if-is_taken.false in
                no (taken-marked c.args.pattern.now g ps w.in-Some.k w.row.result.now.marks (w.find.ensures.row w.row.result.now w.row.ensures)
                (subst (λ z. IsTakenAt c.args.pattern.now g ps (λ j. LeadsTo g j z)) (sym one) t))
            | in_default w ↦ λ k e t. let none = sym w.in_default.is ∙ e in absurd (cc)
          ]);
    }

pub returns-clause-reach : goal.returns-clause-reach
returns-clause-reach c = c.loop-u.invariant.reach

pub returns-clause-outcome : goal.returns-clause-outcome
returns-clause-outcome c =
    let inputs = ap length c.inputs-u-items.ensures.inputs in
    let t = c.loop-u-test.false in
    unbroken-all c.args.pattern.now c.args.graph.now c.args.pairing.now.pairs c.loop-u.u-index (omega arith) c.loop-u.invariant.none
