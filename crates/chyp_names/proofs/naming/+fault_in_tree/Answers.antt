use Rattle.std.proofs.Common.{◌≡◌, [], flat_map, ◌∙◌, ap}
use Rattle.chyp_syntax.specs.declared.term.TermAst.{TermAst}
use Rattle.chyp_names.specs.Faults.{first_fault_among}
use Rattle.chyp_names.specs.Naming.{fault_of}
use Rattle.chyp_names.proofs.Firsts.{stops, goes_on, ends}
use Rattle.chyp_names.proofs.Uses.{part_uses, uses_of_chain, uses_of_tensor}
use Rattle.chyp_names.proofs.naming.+fault_in_tree.Goals as goal
use Rattle.chyp_names.proofs.naming.+fault_in_tree.Goals.{in-Chain, in-Beside}

pub returns-then-is_some : goal.returns-then-is_some
returns-then-is_some t c =
    let uses : part_uses c.args.tree.now ≡ flat_map part_uses c.as_slice-part-items.result.now = elim c.match-tree.branch [
      | in-Chain w ↦ uses_of_chain c.args.tree.now w.in-Chain.parts c.as_slice-part-items.result.now w.in-Chain.semis w.in-Chain.is (c.as_slice-part-items.ensures ∙ ap (λ p. p.now) w.parts-is)
      | in-Beside w ↦ uses_of_tensor c.args.tree.now w.in-Beside.parts c.as_slice-part-items.result.now w.in-Beside.is (c.as_slice-part-items.ensures ∙ ap (λ p. p.now) w.parts-is)
    ] in
    stops (fault_of c.args.scope.now) part_uses c.as_slice-part-items.result.now c.loop-part.part-index c.part-item.result
    (part_uses c.args.tree.now) c.fault_in_tree-fault.result
    uses c.loop-part-test.true c.loop-part.invariant
    (c.fault_in_tree-fault.ensures ∙ ap (λ (part : TermAst). first_fault_among c.args.scope.now (part_uses part)) c.part-item.is) c.if-is_some.ensures

pub loop-part-preserved : goal.loop-part-preserved
loop-part-preserved t c =
    goes_on (fault_of c.args.scope.now) part_uses c.as_slice-part-items.result.now c.loop-part.part-index c.part-item.result c.fault_in_tree-fault.result
    c.loop-part-test.true c.loop-part.invariant
    (c.fault_in_tree-fault.ensures ∙ ap (λ (part : TermAst). first_fault_among c.args.scope.now (part_uses part)) c.part-item.is) c.if-is_some.ensures

pub returns : goal.returns
returns t c =
    let uses : part_uses c.args.tree.now ≡ flat_map part_uses c.as_slice-part-items.result.now = elim c.match-tree.branch [
      | in-Chain w ↦ uses_of_chain c.args.tree.now w.in-Chain.parts c.as_slice-part-items.result.now w.in-Chain.semis w.in-Chain.is (c.as_slice-part-items.ensures ∙ ap (λ p. p.now) w.parts-is)
      | in-Beside w ↦ uses_of_tensor c.args.tree.now w.in-Beside.parts c.as_slice-part-items.result.now w.in-Beside.is (c.as_slice-part-items.ensures ∙ ap (λ p. p.now) w.parts-is)
    ] in
    ends (fault_of c.args.scope.now) part_uses c.as_slice-part-items.result.now c.loop-part.part-index (part_uses c.args.tree.now) uses c.loop-part-test.false
    c.loop-part.invariant
