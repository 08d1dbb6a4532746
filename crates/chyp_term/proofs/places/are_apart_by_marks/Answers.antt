-- Each item is itself again, whether it was marked or not.
use Rattle.std.proofs.Common.{◌∙◌, arith}
use Rattle.std.proofs.lemmas.List.{ext_get_or}
use Rattle.chyp_term.proofs.places.are_apart_by_marks.Goals as goal

pub returns-clause-same : goal.returns-clause-same
returns-clause-same c =
    let first = c.mark-apart.auto.places in
    let second = c.unmark.auto.places in
    ext_get_or 0 _ _ (second ∙ first) (λ j h. c.unmark.ensures j (omega arith) ∙ c.mark-apart.ensures.marked j (omega arith))
