use Rattle.std.proofs.Common.{◌≡◌, ◌∙◌, true, false, Some, option_copied, sym, ap}
use Rattle.chyp_env.specs.Entry.{entry_of}
use Rattle.chyp_env.specs.Import.{all_passed_on, clashes, passed_on}
use Rattle.chyp_env.proofs.Turns.{clash-there, no-clash-next, nothing-clashes}
use Rattle.chyp_env.proofs.import.first_clash.Goals as goal

pub returns-then-count-eq0 : goal.returns-then-count-eq0
returns-then-count-eq0 c =
    nothing-clashes c.args.env.now (all_passed_on (option_copied c.args.prefix) c.args.imported.now) (cc (c.count.ensures, c.if-count-eq0.true))

pub returns-then-clashes : goal.returns-then-clashes
returns-then-clashes c =
    let b = entry_of c.entry-entry.result.now in
    let prefix = option_copied c.args.prefix in
    let clashes' : clashes c.args.env.now (passed_on prefix b) ≡ true =
    ap (λ n. clashes c.args.env.now (record { name = n; origin = b.origin; sense = b.sense })) (sym c.in_ok-name.ensures) ∙ sym (c.clashes.ensures b.sense) ∙ c.if-clashes.true in
    ap Some c.in_ok-name.ensures
    ∙ sym (clash-there c.args.env.now c.args.imported.now prefix c.loop-number.number b c.entry-entry.ensures clashes' c.loop-number.invariant)

pub loop-number-preserved : goal.loop-number-preserved
loop-number-preserved c =
    let b = entry_of c.entry-entry.result.now in
    let prefix = option_copied c.args.prefix in
    let fits : clashes c.args.env.now (passed_on prefix b) ≡ false =
    ap (λ n. clashes c.args.env.now (record { name = n; origin = b.origin; sense = b.sense })) (sym c.in_ok-name.ensures) ∙ sym (c.clashes.ensures b.sense) ∙ c.if-clashes.false in
    no-clash-next c.args.env.now c.args.imported.now prefix c.loop-number.number b c.entry-entry.ensures fits c.loop-number.invariant
