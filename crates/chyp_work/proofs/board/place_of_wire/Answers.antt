use Rattle.std.proofs.Common.{arith, sym, ◌∙◌, ◌≡◌, ◌≢◌, ap, Some, slice_get, eqb-true, eq-eqb}
use Rattle.chyp_term.proofs.Closure.{get-item}
use Rattle.chyp_term.proofs.Slices.{take-suc}
use Rattle.chyp_work.proofs.Boards.{apart-more, place-at}
use Rattle.chyp_work.proofs.board.place_of_wire.Goals as goal

pub returns-then-eq : goal.returns-then-eq
returns-then-eq c =
    let e : c.index-list-at.result ≡ c.args.w = eqb-true _ _ (sym c.if-eq.ensures) in
    let g : slice_get c.args.list.now c.loop-at.at ≡ Some c.index-list-at.result = get-item _ _ _ c.loop-at-test.true c.index-list-at.is in
    place-at c.args.w c.args.list.now c.loop-at.at c.loop-at.invariant.passed (g ∙ ap (λ v. Some v) e)

pub loop-at-preserved : goal.loop-at-preserved
loop-at-preserved c =
    let g : slice_get c.args.list.now c.loop-at.at ≡ Some c.index-list-at.result = get-item _ _ _ c.loop-at-test.true c.index-list-at.is in
    let d : c.index-list-at.result ≢ c.args.w = λ q. let y = eq-eqb c.index-list-at.result c.args.w q in let z = c.if-eq.ensures in absurd (cc) in
    record {
      within = omega (arith, c.loop-at-test.true);
      passed = rw (take-suc c.args.list.now c.loop-at.at c.index-list-at.result g) (apart-more c.args.w _ _ c.loop-at.invariant.passed d);
    }
