use Rattle.std.proofs.Common.{◌≡◌, Some, length, slice_get, sym, subst, ap, ◌∙◌, arith}
use Rattle.chyp_term.proofs.Closure.{get-item}
use Rattle.chyp_match.specs.Row.{IsMarked}
use Rattle.chyp_match.proofs.Unbroken.{taken-next, taken-none}
use Rattle.chyp_match.proofs.convex.is_taken.Goals as goal
use Rattle.chyp_match.proofs.convex.is_taken.Goals.{in-Some+else-has, in_default}

pub loop-v-preserved : goal.loop-v-preserved
loop-v-preserved c =
    let outputs = c.outputs-v-items.ensures.outputs in
    let at : slice_get c.args.pattern.now.outputs c.loop-v.v-index ≡ Some c.v-item.result =
    ap (λ vs. slice_get vs c.loop-v.v-index) (sym outputs) ∙ get-item c.outputs-v-items.result.now c.loop-v.v-index c.v-item.result c.loop-v-test.true c.v-item.is in
    taken-next c.args.pattern.now c.args.graph.now c.args.pairing.now.pairs c.args.row.now.marks c.loop-v.v-index c.v-item.result c.taker.result c.loop-v.invariant at c.taker.ensures
    (elim c.match-taker.branch [
      | in-Some+else-has w ↦ λ j e m.
          let both : Some w.in-Some.j ≡ Some j = sym w.in-Some.is ∙ e in
          let one : w.in-Some.j ≡ j = cc in
          let marked = subst (IsMarked c.args.row.now.marks) (sym one) m in
          let no = w.if-has.false in
          let is = w.has.ensures in
          let clash = sym marked ∙ is in
          absurd (cc)
      | in_default w ↦ λ j e m. let none = sym w.in_default.is ∙ e in absurd (cc)
    ])

pub returns : goal.returns
returns c =
    let outputs = ap length c.outputs-v-items.ensures.outputs in
    let t = c.loop-v-test.false in
    taken-none c.args.pattern.now c.args.graph.now c.args.pairing.now.pairs c.args.row.now.marks c.loop-v.v-index (omega arith) c.loop-v.invariant
