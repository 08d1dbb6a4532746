use Rattle.std.proofs.Common.{rc_value, ◌≡◌, ◌∙◌, ◌++◌, map, false, sym, ap, ap₂, subst}
use Rattle.chyp_env.specs.Sound.{HasDistinctNames}
use Rattle.chyp_env.proofs.Envs.{AreKept, binding_in}
use Rattle.chyp_env.proofs.Turns.{appended, each-free}
use Rattle.chyp_env.proofs.entries.Entries.append.Goals as goal

pub invariant_of-self-2 : goal.invariant_of-self-2
invariant_of-self-2 c =
    let free = each-free rc_value c.self.inside.map.entries c.further.inside.map.entries c.args.self.now c.args.further c.self.view_is c.further.view_is c.requires.fresh in
    let done = appended rc_value c.self.inside.map.entries c.further.inside.map.entries c.self.invariant.0 c.self.invariant.1 c.further.invariant.0 c.further.invariant.1 free in
    subst (λ es. AreKept rc_value es × HasDistinctNames (map (binding_in rc_value) es)) (sym c.in_ok-append.ensures.entries) done.0

pub returns-clause-ok : goal.returns-clause-ok
returns-clause-ok c =
    let free = each-free rc_value c.self.inside.map.entries c.further.inside.map.entries c.args.self.now c.args.further c.self.view_is c.further.view_is c.requires.fresh in
    let done = appended rc_value c.self.inside.map.entries c.further.inside.map.entries c.self.invariant.0 c.self.invariant.1 c.further.invariant.0 c.further.invariant.1 free in
    ap (map (binding_in rc_value)) c.in_ok-append.ensures.entries ∙ done.1 ∙ ap₂ (λ a b. a ++ b) c.self.view_is c.further.view_is
