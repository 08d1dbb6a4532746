use Rattle.std.proofs.Common.{refl}
use Rattle.chyp_iso.proofs.Steps.{when-false, when-true}
use Rattle.chyp_match.proofs.Answering.{next-one, next-seen, none-left, still-seen}
use Rattle.chyp_match.proofs.occurrences.Occurrences.next.Goals as goal

pub returns-then-not-advance : goal.returns-then-not-advance
returns-then-not-advance c =
    let f = c.self.inside.finder in
    let h = c.advance.new.finder in
    let d = when-false c.advance.result _ _ c.advance.ensures.outcome c.if-not-advance.true in (
      (refl, (λ _. tt), still-seen f h c.args.self.now c.self.view_is c.advance.ensures.same d),
      record { some = tt; none = none-left f h c.args.self.now c.self.view_is d; after = tt },
    )

pub returns : goal.returns
returns c =
    let f = c.self.inside.finder in
    let h = c.advance.new.finder in
    let d = when-true c.advance.result _ _ c.advance.ensures.outcome c.if-not-advance.false in (
      (refl, (λ _. tt), next-seen f h c.args.self.now c.self.view_is c.advance.ensures.same d),
      record { some = next-one f h c.args.self.now c.self.view_is d; none = tt; after = tt },
    )
