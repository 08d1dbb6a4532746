use Rattle.std.proofs.Common.{[], map, false, slice_index_or, ◌∙◌, sym}
use Rattle.chyp_names.specs.Naming.{in_reason, fault_of}
use Rattle.chyp_names.proofs.Firsts.{first_one, stops, goes_on, ends}
use Rattle.chyp_names.proofs.Uses.{rule_uses, uses_of_rules}
use Rattle.chyp_names.proofs.naming.fault_in_rules.Goals as goal

pub returns-then-is_some : goal.returns-then-is_some
returns-then-is_some c =
    stops (fault_of c.args.scope.now) rule_uses c.args.rules.now c.loop-rule.rule-index (record { minus = false; name = 0 })
    (map in_reason (map (λ rule. rule.name) c.args.rules.now)) c.fault_in_reason-fault.result (uses_of_rules c.args.rules.now) c.loop-rule-test.true c.loop-rule.invariant
    (c.fault_in_reason-fault.ensures
    ∙ sym (first_one (fault_of c.args.scope.now) (in_reason (slice_index_or c.args.rules.now c.loop-rule.rule-index (record { minus = false; name = 0 })).name)))
    c.if-is_some.ensures

pub loop-rule-preserved : goal.loop-rule-preserved
loop-rule-preserved c =
    goes_on (fault_of c.args.scope.now) rule_uses c.args.rules.now c.loop-rule.rule-index (record { minus = false; name = 0 }) c.fault_in_reason-fault.result
    c.loop-rule-test.true c.loop-rule.invariant
    (c.fault_in_reason-fault.ensures
    ∙ sym (first_one (fault_of c.args.scope.now) (in_reason (slice_index_or c.args.rules.now c.loop-rule.rule-index (record { minus = false; name = 0 })).name)))
    c.if-is_some.ensures

pub returns : goal.returns
returns c = ends (fault_of c.args.scope.now) rule_uses c.args.rules.now c.loop-rule.rule-index (map in_reason (map (λ rule. rule.name) c.args.rules.now))
    (uses_of_rules c.args.rules.now) c.loop-rule-test.false c.loop-rule.invariant
