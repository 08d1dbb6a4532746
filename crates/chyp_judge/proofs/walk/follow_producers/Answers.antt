use Rattle.std.proofs.Common.{◌≡◌, ◌∙◌, sym, subst}
use Rattle.chyp_term.proofs.Closure.{get-item}
use Rattle.chyp_term.proofs.Positions.{some-same}
use Rattle.chyp_judge.specs.Walk.{AreEnds}
use Rattle.chyp_judge.specs.declared.partners.Partners.{Partners}
use Rattle.chyp_judge.proofs.Partnering.{ends-of_makers}
use Rattle.chyp_judge.proofs.walk.follow_producers.Goals as goal

pub follow_ends-requires-clause-ends : goal.follow_ends-requires-clause-ends
follow_ends-requires-clause-ends c p h =
    let e : c.index.result.now ≡ p =
    some-same c.index.result.now p (sym (get-item c.args.walk.now.partners.items c.args.at c.index.result.now c.requires.at c.index.ensures) ∙ h) in
    subst (λ (q : Partners). AreEnds c.args.walk.now.rewrite.now q c.producer-first.result c.producer-second.result) e
    (ends-of_makers c.args.walk.now.rewrite.now c.index.result.now c.producer-first.result c.producer-second.result c.producer-first.ensures.port c.producer-first.ensures.input
    c.producer-second.ensures.port c.producer-second.ensures.input)
