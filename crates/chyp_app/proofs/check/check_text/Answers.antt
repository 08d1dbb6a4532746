use Rattle.std.proofs.Common.{All, IfSome, IsErrOf, List, ℕ, refl, rules, sym, subst}
use Rattle.chyp_load.specs.Imports.{ImportsSome}
use Rattle.chyp_load.specs.Loading.{IsRead, ListsAll}
use Rattle.chyp_load.specs.declared.load_error.LoadError.TheVariants.{Failed, TooLong}
use Rattle.chyp_modules.specs.Checking.{Gives as Results, too_long as too_long'}
use Rattle.chyp_modules.specs.Library.{Module}
use Rattle.chyp_app.specs.Headline.{BeginsToCheck}
use Rattle.chyp_app.specs.Output.{IsCheck, too_long}
use Rattle.chyp_app.proofs.CheckLemmas.{IsMade, all-read, begun, counts_none, made, told, use-told}
use Rattle.chyp_app.proofs.check.check_text.Goals as goal
use Rattle.chyp_check.proofs.Outcomes.{on_err}

pub returns-in_err-main-clause-begins : goal.returns-in_err-main-clause-begins
returns-in_err-main-clause-begins g c =
    let text = c.args.text.now in
    let steps = c.args.steps.now in
    let o = g.L.Library.texts c.args.library.now in
    on_err c.from_residual.result (IfSome o (λ texts. BeginsToCheck (IsCheck texts text) steps steps))
    (told o (λ texts e. counts_none (IsCheck texts text) steps steps refl (c.each_run_has_one_output.ensures.each texts text)))

pub returns-in_err-load-clause-begins : goal.returns-in_err-load-clause-begins
returns-in_err-load-clause-begins g c =
    let text = c.args.text.now in
    let steps = c.args.steps.now in
    let o = g.L.Library.texts c.args.library.now in
    on_err c.from_residual-in_err-load.result (IfSome o (λ texts. BeginsToCheck (IsCheck texts text) steps steps))
    (told o (λ texts e. counts_none (IsCheck texts text) steps steps refl (c.each_run_has_one_output.ensures.each texts text)))

pub returns-in_err-load-clause-long : goal.returns-in_err-load-clause-long
returns-in_err-load-clause-long g c is =
    let o = g.L.Library.texts c.args.library.now in
    let failed : IsErrOf c.load.result TooLong = search rules in
    told o (λ texts e. too_long (subst (λ (t : List ℕ). Results texts t too_long') c.in_ok-main.ensures (use-told _ o texts e (c.load.ensures.long failed))))

pub returns-in_err-load-clause-wanted : goal.returns-in_err-load-clause-wanted
returns-in_err-load-clause-wanted g c is =
    let failed : IsErrOf c.load.result Failed = search rules in
    subst ImportsSome c.in_ok-main.ensures (c.load.ensures.wanted failed)

pub returns-in_err-check_over-clause-begins : goal.returns-in_err-check_over-clause-begins
returns-in_err-check_over-clause-begins g c =
    let text : List ℕ = c.in_ok-main.main.text in
    let steps = c.args.steps.now in
    let now = c.check_over.new.steps in
    let o = g.L.Library.texts c.args.library.now in
    let modules : List Module = c.new-modules.result in
    on_err c.from_residual-in_err-check_over.result (IfSome o (λ texts. BeginsToCheck (IsCheck texts c.args.text.now) steps now))
    (told o (λ texts e.
    let lists = subst (ListsAll text) (sym c.new-modules.ensures) c.in_ok-load.ensures.whole in
    let read = subst (All (IsRead texts text)) (sym c.new-modules.ensures) (use-told _ o texts e c.in_ok-load.ensures.read) in
    let all = all-read texts text modules (c.modules_are_determined.ensures.results texts text) lists read (use-told _ o texts e c.in_ok-load.ensures.fits) in
    subst (λ (t : List ℕ). BeginsToCheck (IsCheck texts t) steps now) c.in_ok-main.ensures
    (begun c.each_run_has_one_output.ensures.counts texts text modules steps now all c.in_err-check_over.ensures.rises c.in_err-check_over.ensures.no_more)))

pub returns-clause-checks : goal.returns-clause-checks
returns-clause-checks g c =
    let text : List ℕ = c.in_ok-main.main.text in
    let steps = c.args.steps.now in
    let now = c.check_over.new.steps in
    let o = g.L.Library.texts c.args.library.now in
    let modules : List Module = c.new-modules.result in
    let report = c.in_ok-check_over.field-0.report.items in
    let status = c.in_ok-check_over.field-0.status in
    told o (λ texts e.
    let lists = subst (ListsAll text) (sym c.new-modules.ensures) c.in_ok-load.ensures.whole in
    let read = subst (All (IsRead texts text)) (sym c.new-modules.ensures) (use-told _ o texts e c.in_ok-load.ensures.read) in
    let all = all-read texts text modules (c.modules_are_determined.ensures.results texts text) lists read (use-told _ o texts e c.in_ok-load.ensures.fits) in
    subst (λ (t : List ℕ). IsMade (IsCheck texts t) report status steps now) c.in_ok-main.ensures
    (made texts text report status modules steps now all c.in_ok-check_over.ensures.report c.in_ok-check_over.ensures.steps))
