use Rattle.std.proofs.Common.{◌≡◌, ◌+◌, ◌++◌, ◌∷◌, [], ap₂, sym, subst, ap, ◌∙◌, arith}
use Rattle.std.specs.Prelude.{Contains}
use Rattle.chyp_modules.specs.Checking.{AreDistinct}
use Rattle.chyp_load.specs.Loading.{count_there, names_of}
use Rattle.chyp_load.proofs.Lists.{count-more, distinct-more, inserted}
use Rattle.chyp_load.proofs.module_list.ModuleList.push.Goals as goal

pub invariant_of-self : goal.invariant_of-self
invariant_of-self c =
    let old = c.self.inside.modules.entries in
    let fresh = subst (λ ms. ¬ Contains (names_of ms) c.args.name) (sym c.self.view_is) c.requires.fresh in
    let pushed : c.insert.new.self.entries ≡ old ++ (c.args.name, c.args.text) ∷ [] = c.in-Ok.ensures.entries ∙ inserted old c.args.name c.args.text fresh in
    let count : count_there c.insert.new.self.entries ≡ c.self.inside.there + c.one_there.result =
    ap count_there pushed ∙ count-more old c.args.name c.args.text ∙ sym (ap₂ (λ a b. a + b) c.self.invariant.1 c.one_there.ensures) in
    let few = c.if-there-gt-MAX_MODULES.false in
    (subst (λ ms. AreDistinct (names_of ms)) (sym pushed) (distinct-more old c.args.name c.args.text c.self.invariant.0 fresh), sym count, omega arith)

pub returns-in-Ok-clause-ok : goal.returns-in-Ok-clause-ok
returns-in-Ok-clause-ok c =
    let old = c.self.inside.modules.entries in
    let fresh = subst (λ ms. ¬ Contains (names_of ms) c.args.name) (sym c.self.view_is) c.requires.fresh in
    c.in-Ok.ensures.entries ∙ inserted old c.args.name c.args.text fresh ∙ ap (λ ms. ms ++ (c.args.name, c.args.text) ∷ []) c.self.view_is
