use Rattle.std.proofs.Common.{◌≡◌, IfOk, ap, map, subst, ◌∙◌}
use Rattle.chyp_picture.specs.Crossings.{inversion_count}
use Rattle.chyp_picture.proofs.CrossingNumber.{crossing_number-inversions}
use Rattle.chyp_picture.proofs.crossing.crossing_count.Goals as goal

pub returns : goal.returns
returns c =
    let counted = crossing_number-inversions c.args.pieces.items c.sort.new.self.items c.in_ok-sort.ensures.permutation c.in_ok-sort.ensures.sorted in
    let ends = c.deref_mut.ensures.value ∙ c.in_ok-ends.ensures ∙ ap (map (λ p. p.right)) c.deref.ensures.value in
    subst (λ number. IfOk c.sort_and_count.result (λ count. count ≡ number)) (ap inversion_count ends ∙ counted) c.sort_and_count.ensures.count
