use Rattle.std.proofs.Common.{◌∙◌, ap, subst, sym}
use Rattle.chyp_iso.proofs.Steps.{when-false, when-true}
use Rattle.chyp_match.specs.Matcher.{IsPassedBy}
use Rattle.chyp_match.specs.Search.{IsFound}
use Rattle.chyp_match.specs.declared.finder.Finder.{Finder}
use Rattle.chyp_match.proofs.Going.{step-done, step-next}
use Rattle.chyp_match.proofs.finder.advance.Goals as goal

pub returns-then-not-go_on-clause-outcome : goal.returns-then-not-go_on-clause-outcome
returns-then-not-go_on-clause-outcome c =
    let e = c.go_on.ensures.same in
    step-done c.args.finder.now c.go_on.new.finder (when-false c.go_on.result _ _ c.go_on.ensures.outcome c.if-not-go_on.true)
    (ap (λ (x : Finder). x.pattern.now) e) (ap (λ (x : Finder). x.graph.now) e) (ap (λ (x : Finder). x.begun) e)

pub returns-clause-outcome : goal.returns-clause-outcome
returns-clause-outcome c =
    let e = c.go_on.ensures.same in
    let d = c.keep_images.ensures.same in
    let r = when-true c.go_on.result _ _ c.go_on.ensures.outcome c.if-not-go_on.false in
    step-next c.args.finder.now c.keep_images.new.finder
    (subst (IsFound c.args.finder.now.pattern.now c.args.finder.now.graph.now (IsPassedBy c.args.finder.now)) (sym (ap (λ (x : Finder). x.search) d)) r)
    (ap (λ (x : Finder). x.pattern.now) d ∙ ap (λ (x : Finder). x.pattern.now) e) (ap (λ (x : Finder). x.graph.now) d ∙ ap (λ (x : Finder). x.graph.now) e)
    (ap (λ (x : Finder). x.begun) d ∙ ap (λ (x : Finder). x.begun) e) c.keep_images.ensures.images
