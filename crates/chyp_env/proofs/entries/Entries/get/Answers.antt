use Rattle.std.proofs.Common.{◌≡◌, ◌∙◌, List, ℕ, None, Some, option_copied, rc_value, sym, ap}
use Rattle.chyp_env.specs.declared.entry.Entry.{Entry}
use Rattle.chyp_env.specs.Entry.{entry_of}
use Rattle.chyp_env.proofs.Envs.{some_bound, none_bound}
use Rattle.chyp_env.proofs.entries.Entries.get.Goals as goal

pub returns-in-Some-clause-some : goal.returns-in-Some-clause-some
returns-in-Some-clause-some c =
    some_bound rc_value c.self.inside.map.entries c.args.self.now c.args.name.now c.in-Some.entry.now c.self.invariant.0 c.self.view_is (sym (ap option_copied c.in-Some.is) ∙ c.get.ensures.value)
    ∙ ap (λ (e : Entry). Some (entry_of e)) (sym c.as_ref.ensures)

pub returns-in-None-clause-none : goal.returns-in-None-clause-none
returns-in-None-clause-none c =
    none_bound rc_value c.self.inside.map.entries c.args.self.now c.args.name.now c.self.invariant.0 c.self.view_is (sym (ap option_copied c.in-None.is) ∙ c.get.ensures.value)
