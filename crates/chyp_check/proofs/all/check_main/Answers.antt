use Rattle.std.proofs.Common.{◌+◌, ◌≤◌, sym, ap, ◌∙◌, arith}
use Rattle.chyp_load.specs.Statements.{CutText}
use Rattle.chyp_check.proofs.Outcomes.{on_err}
use Rattle.chyp_check.proofs.Wanted.{main-first, main-text, main-verdicts, parts, some-node}
use Rattle.chyp_check.proofs.all.check_main.Goals as goal

pub check_modules-requires-clause-some : goal.check_modules-requires-clause-some
check_modules-requires-clause-some g c = some-node c.in_ok-project.project.nodes c.args.main.now.text c.args.modules.now c.in_ok-project.ensures

pub check_modules-requires-clause-main : goal.check_modules-requires-clause-main
check_modules-requires-clause-main g c = main-first c.in_ok-project.project.nodes c.args.main.now.text c.args.modules.now c.in_ok-project.ensures

pub check_statements-requires-clause-within : goal.check_statements-requires-clause-within
check_statements-requires-clause-within g c = some-node c.in_ok-project.project.nodes c.args.main.now.text c.args.modules.now c.in_ok-project.ensures

pub check_statements-requires-clause-text : goal.check_statements-requires-clause-text
check_statements-requires-clause-text g c =
    ap (λ (cut : CutText). cut.text) c.statements.ensures ∙ sym (main-text c.in_ok-project.project.nodes c.args.main.now.text c.args.modules.now c.in_ok-project.ensures)

pub returns-clause-verdicts : goal.returns-clause-verdicts
returns-clause-verdicts g c =
    main-verdicts c.in_ok-project.project.nodes c.args.main.now.text c.args.modules.now c.in_ok-env.field-0.verdicts c.in_ok-project.ensures c.distinct.ensures c.in_ok-env.ensures.verdicts

pub returns-clause-steps : goal.returns-clause-steps
returns-clause-steps g c = λ n h.
    let p = parts c.in_ok-project.project.nodes c.args.main.now.text c.args.modules.now n c.in_ok-project.ensures c.distinct.ensures h in
    let a = c.in_ok-envs.ensures.steps p.wanted p.have in
    let b = c.in_ok-env.ensures.steps p.own p.have_own in
    let sum = p.sum in
    omega arith

pub returns-in_err-envs-clause-no_more : goal.returns-in_err-envs-clause-no_more
returns-in_err-envs-clause-no_more g c = λ n h.
    let p = parts c.in_ok-project.project.nodes c.args.main.now.text c.args.modules.now n c.in_ok-project.ensures c.distinct.ensures h in
    let a = c.in_err-envs.ensures.no_more p.wanted p.have in
    let sum = p.sum in
    on_err c.from_residual-in_err-envs.result (c.check_modules.new.steps ≤ c.args.steps.now + n) (omega arith)

pub returns-in_err-env-clause-no_more : goal.returns-in_err-env-clause-no_more
returns-in_err-env-clause-no_more g c = λ n h.
    let p = parts c.in_ok-project.project.nodes c.args.main.now.text c.args.modules.now n c.in_ok-project.ensures c.distinct.ensures h in
    let a = c.in_ok-envs.ensures.steps p.wanted p.have in
    let b = c.in_err-env.ensures.no_more p.own p.have_own in
    let sum = p.sum in
    on_err c.from_residual-in_err-env.result (c.check_statements.new.steps ≤ c.args.steps.now + n) (omega arith)
