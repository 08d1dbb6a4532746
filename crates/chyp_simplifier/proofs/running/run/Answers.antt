use Rattle.std.proofs.Common.{map, arith}
use Rattle.chyp_simp.specs.Run.{none}
use Rattle.chyp_simplifier.specs.Rule.{graphs_of}
use Rattle.chyp_simplifier.proofs.Runs.{ends-at_limit, ends-normal, ends-wide, goes-on, grows, has-room, starts}
use Rattle.chyp_simplifier.proofs.running.run.Goals as goal

pub loop-form-init : goal.loop-form-init
loop-form-init c = record { few = omega arith; before = none; small = starts c.args.graph c.requires.small }

pub apply_first-requires-clause-room : goal.apply_first-requires-clause-room
apply_first-requires-clause-room c = has-room c.loop-form.rewrites c.loop-form.form c.loop-form.invariant.few c.loop-form.invariant.small

pub returns-in-Idle : goal.returns-in-Idle
returns-in-Idle c =
    ends-normal (map graphs_of c.args.rules.now) c.args.graph c.loop-form.rewrites c.loop-form.form c.loop-form.invariant.few c.loop-form.invariant.before c.in_ok-apply_first.field-0
    c.in-Idle.is c.in_ok-apply_first.ensures

pub returns-in-TooWide : goal.returns-in-TooWide
returns-in-TooWide c =
    ends-wide (map graphs_of c.args.rules.now) c.args.graph c.loop-form.rewrites c.loop-form.form c.loop-form.invariant.few c.loop-form.invariant.before c.in_ok-apply_first.field-0
    c.in-TooWide.placements c.in-TooWide.is c.in_ok-apply_first.ensures

pub returns-then-rewrites-eq-MOST_REWRITES : goal.returns-then-rewrites-eq-MOST_REWRITES
returns-then-rewrites-eq-MOST_REWRITES c =
    ends-at_limit (map graphs_of c.args.rules.now) c.args.graph c.loop-form.rewrites c.loop-form.form c.loop-form.invariant.few c.loop-form.invariant.before c.in_ok-apply_first.field-0
    c.in-Rewritten.next c.if-rewrites-eq-MOST_REWRITES.true c.in-Rewritten.is c.in_ok-apply_first.ensures

pub overflow_add-rewrites : goal.overflow_add-rewrites
overflow_add-rewrites c = let few = c.loop-form.invariant.few in omega arith

pub loop-form-smaller : goal.loop-form-smaller
loop-form-smaller c =
    let few = c.loop-form.invariant.few in
    let other = c.if-rewrites-eq-MOST_REWRITES.false in
    omega arith

pub loop-form-preserved : goal.loop-form-preserved
loop-form-preserved c =
    let few = c.loop-form.invariant.few in
    let other = c.if-rewrites-eq-MOST_REWRITES.false in
    record {
      few = omega arith;
      before = goes-on (map graphs_of c.args.rules.now) c.args.graph c.loop-form.rewrites c.loop-form.form c.loop-form.invariant.few c.loop-form.invariant.before
          c.in_ok-apply_first.field-0 c.in-Rewritten.next c.in-Rewritten.is c.in_ok-apply_first.ensures;
      small = grows c.args.rules.now c.requires.rules c.loop-form.form c.in-Rewritten.next c.loop-form.rewrites c.loop-form.invariant.small c.in_ok-apply_first.field-0
          c.in-Rewritten.is c.in_ok-apply_first.ensures;
    }
