use Rattle.std.proofs.Common.{◌≡◌, ◌∙◌, false, rc_value, sym, ap, subst}
use Rattle.chyp_env.specs.declared.entry.Entry.{Entry}
use Rattle.chyp_env.specs.Environment.{is_bound}
use Rattle.chyp_env.specs.Sound.{HasDistinctNames}
use Rattle.chyp_env.proofs.Envs.{inserted}
use Rattle.chyp_env.proofs.entries.Entries.insert.Goals as goal

pub invariant_of-self-2 : goal.invariant_of-self-2
invariant_of-self-2 c =
    let named : c.args.entry.value.name ≡ c.in_ok-name.name = ap (λ (e : Entry). e.name) (sym c.deref.ensures) ∙ sym c.in_ok-name.ensures in
    let fresh = subst (λ name. is_bound c.args.self.now name ≡ false) named c.requires.fresh in
    (inserted rc_value c.self.inside.map.entries c.insert.new.self.entries c.args.self.now c.in_ok-name.name c.args.entry c.self.invariant.0 c.self.view_is
    (subst HasDistinctNames c.self.view_is c.self.invariant.1) fresh (record { named = named; sound = c.requires.sound }) c.in_ok-insert.ensures.entries).0

pub returns-clause-ok : goal.returns-clause-ok
returns-clause-ok c =
    let named : c.args.entry.value.name ≡ c.in_ok-name.name = ap (λ (e : Entry). e.name) (sym c.deref.ensures) ∙ sym c.in_ok-name.ensures in
    let fresh = subst (λ name. is_bound c.args.self.now name ≡ false) named c.requires.fresh in
    (inserted rc_value c.self.inside.map.entries c.insert.new.self.entries c.args.self.now c.in_ok-name.name c.args.entry c.self.invariant.0 c.self.view_is
    (subst HasDistinctNames c.self.view_is c.self.invariant.1) fresh (record { named = named; sound = c.requires.sound }) c.in_ok-insert.ensures.entries).1
