use Rattle.std.proofs.Common.{◌≡◌, ◌+◌, ◌<◌, ◌≤◌, ℕ, List, Some, length, slice_index_or, slice_set, sym, ◌∙◌, ap, subst, arith}
use Rattle.chyp_check.specs.Order.{IsOrder}
use Rattle.chyp_check.specs.Progress.{Environments, IsReady}
use Rattle.chyp_check.proofs.Outcomes.{on_err}
use Rattle.chyp_check.proofs.Going.{IsGoing, get-number, going-done, going-next, going-ready, going-start, going-stopped, number-ready, number-within, set-length, written}
use Rattle.chyp_check.proofs.all.check_modules.Goals as goal

pub loop-number-init : goal.loop-number-init
loop-number-init g c =
    going-start c.args.project.now c.deref-number-items.result.now c.in_ok-envs.envs.items c.args.steps.now (c.in_ok-envs.ensures.count ∙ c.count.ensures) c.in_ok-envs.ensures.none

pub check_text-requires-clause-within : goal.check_text-requires-clause-within
check_text-requires-clause-within g c =
    let project = c.args.project.now in
    let order : List ℕ = c.deref-number-items.result.now in
    let is : IsOrder project order = subst (IsOrder project) (sym c.deref-number-items.ensures.value) c.in_ok-order.ensures in
    let place = c.loop-number.number-index in
    let h : place < length order = c.loop-number-test.true in
    let number = slice_index_or order place 0 in
    let at = get-number order place h in
    number-within project c.mapped.ensures order is place number h at

pub check_text-requires-clause-ready : goal.check_text-requires-clause-ready
check_text-requires-clause-ready g c =
    let project = c.args.project.now in
    let order : List ℕ = c.deref-number-items.result.now in
    let is : IsOrder project order = subst (IsOrder project) (sym c.deref-number-items.ensures.value) c.in_ok-order.ensures in
    let place = c.loop-number.number-index in
    let h : place < length order = c.loop-number-test.true in
    let number = slice_index_or order place 0 in
    let at = get-number order place h in
    let ready = number-ready project c.mapped.ensures order is place number h at c.loop-number.envs.items c.args.steps.now c.loop-number.steps c.loop-number.invariant in
    subst (λ (envs : Environments). IsReady project envs number) (sym c.deref.ensures.value) ready

pub returns-in_err-env-clause-no_more : goal.returns-in_err-env-clause-no_more
returns-in_err-env-clause-no_more g c n m =
    let project = c.args.project.now in
    let order : List ℕ = c.deref-number-items.result.now in
    let is : IsOrder project order = subst (IsOrder project) (sym c.deref-number-items.ensures.value) c.in_ok-order.ensures in
    let place = c.loop-number.number-index in
    let h : place < length order = c.loop-number-test.true in
    let number = slice_index_or order place 0 in
    let at = get-number order place h in
    on_err c.from_residual-in_err-env.result (c.check_text.new.steps ≤ c.args.steps.now + n)
    (going-stopped project c.mapped.ensures c.square.ensures c.requires.some c.requires.main order is c.loop-number.envs.items c.args.steps.now c.loop-number.steps
    place number n c.check_text.new.steps h at c.loop-number.invariant c.in_err-env.ensures.no_more m)

pub place_env-requires : goal.place_env-requires
place_env-requires g c =
    let project = c.args.project.now in
    let order : List ℕ = c.deref-number-items.result.now in
    let is : IsOrder project order = subst (IsOrder project) (sym c.deref-number-items.ensures.value) c.in_ok-order.ensures in
    let place = c.loop-number.number-index in
    let h : place < length order = c.loop-number-test.true in
    let number = slice_index_or order place 0 in
    let at = get-number order place h in
    let within = number-within project c.mapped.ensures order is place number h at in
    let many = c.loop-number.invariant.made.many in
    let same = ap length c.deref_mut.ensures.value in
    omega (arith, within, many, same)

pub loop-number-preserved : goal.loop-number-preserved
loop-number-preserved g c =
    let project = c.args.project.now in
    let order : List ℕ = c.deref-number-items.result.now in
    let is : IsOrder project order = subst (IsOrder project) (sym c.deref-number-items.ensures.value) c.in_ok-order.ensures in
    let place = c.loop-number.number-index in
    let h : place < length order = c.loop-number-test.true in
    let number = slice_index_or order place 0 in
    let at = get-number order place h in
    let envs : Environments = c.loop-number.envs.items in
    let now : Environments = c.place_env.new.envs in
    let grown : now ≡ slice_set envs number (Some c.in_ok-env.field-0.env) =
    c.place_env.ensures ∙ ap (λ (xs : Environments). slice_set xs number (Some c.in_ok-env.field-0.env)) c.deref_mut.ensures.value in
    let l = c.deref_mut.ensures.len in
    let v = ap length c.deref_mut.ensures.value in
    let s = ap length grown ∙ set-length envs number (Some c.in_ok-env.field-0.env) in
    let whole = written envs now c.loop-number.envs.len (omega arith) in
    subst (λ (xs : Environments). IsGoing project order (place + 1) xs c.args.steps.now c.check_text.new.steps) (sym whole)
    (going-next project c.mapped.ensures order is place number h at envs now c.in_ok-env.field-0.env c.args.steps.now c.loop-number.steps c.check_text.new.steps c.loop-number.invariant grown
    c.in_ok-env.ensures.env c.in_ok-env.ensures.steps c.check_text.ensures.rises)

pub returns-clause-ready : goal.returns-clause-ready
returns-clause-ready g c =
    let order : List ℕ = c.deref-number-items.result.now in
    let is : IsOrder c.args.project.now order = subst (IsOrder c.args.project.now) (sym c.deref-number-items.ensures.value) c.in_ok-order.ensures in
    going-ready c.args.project.now c.mapped.ensures c.square.ensures c.requires.some c.requires.main order is c.loop-number.envs.items c.args.steps.now c.loop-number.steps
    c.loop-number.number-index (let t = c.loop-number-test.false in omega arith) c.loop-number.invariant

pub returns-clause-steps : goal.returns-clause-steps
returns-clause-steps g c n m =
    let order : List ℕ = c.deref-number-items.result.now in
    let is : IsOrder c.args.project.now order = subst (IsOrder c.args.project.now) (sym c.deref-number-items.ensures.value) c.in_ok-order.ensures in
    going-done c.args.project.now c.mapped.ensures c.square.ensures c.requires.some c.requires.main order is c.loop-number.envs.items c.args.steps.now c.loop-number.steps
    c.loop-number.number-index n (let t = c.loop-number-test.false in omega arith) c.loop-number.invariant m
