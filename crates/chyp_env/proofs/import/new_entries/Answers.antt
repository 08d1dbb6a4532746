use Rattle.std.proofs.Common.{◌≡◌, ◌∙◌, ◌++◌, ◌∷◌, [], false, option_copied, sym, ap, subst}
use Rattle.std.proofs.lemmas.List.Elements.{All-contains}
use Rattle.chyp_env.specs.Entry.{entry_of}
use Rattle.chyp_env.specs.Environment.{Binding, is_bound}
use Rattle.chyp_env.specs.Import.{new_in, passed_on, prefixed}
use Rattle.chyp_env.specs.Sound.{IsSoundSense}
use Rattle.chyp_env.proofs.Turns.{contains-there, new-next, next-free}
use Rattle.chyp_env.proofs.import.new_entries.Goals as goal

pub add-requires-clause-fresh : goal.add-requires-clause-fresh
add-requires-clause-fresh c =
    let b = entry_of c.shared_entry.result.now.value in
    let prefix = option_copied c.args.prefix in
    subst (λ es. is_bound es (prefixed prefix b.name) ≡ false) (sym c.loop-number.invariant)
    (next-free c.args.env.now c.args.imported.now prefix c.loop-number.number b c.shared_entry.ensures c.sound.ensures.distinct)

pub add-requires-clause-sound : goal.add-requires-clause-sound
add-requires-clause-sound c =
    let b = entry_of c.shared_entry.result.now.value in
    All-contains (λ (x : Binding). IsSoundSense x.sense) c.args.imported.now b c.sound.ensures.each (contains-there c.args.imported.now c.loop-number.number b c.shared_entry.ensures)

pub loop-number-preserved : goal.loop-number-preserved
loop-number-preserved c =
    let b = entry_of c.shared_entry.result.now.value in
    let prefix = option_copied c.args.prefix in
    let more = new_in c.args.env.now (passed_on prefix b ∷ []) in
    c.in_ok-add.ensures ∙ ap (λ es. es ++ more) c.loop-number.invariant ∙ sym (new-next c.args.env.now c.args.imported.now prefix c.loop-number.number b c.shared_entry.ensures)
