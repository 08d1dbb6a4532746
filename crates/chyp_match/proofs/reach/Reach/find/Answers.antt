use Rattle.std.proofs.Common.{◌≡◌, ◌<◌, Some, slice_get, refl, sym, ◌∙◌, ap, subst}
use Rattle.chyp_match.specs.Reach.{IsRow}
use Rattle.chyp_match.specs.Row.{Marks}
use Rattle.chyp_match.proofs.Reaching.{row-there}
use Rattle.chyp_match.proofs.Walking.{found-reach, found-row}
use Rattle.chyp_match.proofs.reach.Reach.find.Goals as goal

pub returns-clause-reach : goal.returns-clause-reach
returns-clause-reach c =
    let g = c.args.graph.now in
    let u = c.walk.ensures.under_way in
    let at = row-there g c.args.self.now.rows.items c.k.inside.0 c.args.k c.index.result.now c.requires.reach.rows c.k.view_is c.requires.there c.index.ensures in
    let again = row-there g c.walk.new.self.rows.items c.k-2.inside.0 c.args.k c.index_mut.result.now u.rows c.k-2.view_is c.requires.there c.index_mut.ensures.value in
    let same : Some c.index_mut.result.now ≡ Some c.index.result.now = sym again ∙ ap (λ rows. slice_get rows c.args.k) (c.walk.ensures.rows ∙ c.begin.ensures.rows) ∙ at in
    let one : c.index_mut.result.now ≡ c.index.result.now = cc in
    found-reach g c.walk.new.self _ c.swap.new.y c.index_mut.result.now c.k-2.inside.0 c.args.k c.requires.there u c.k-2.view_is (c.walk.ensures.row c.args.k c.begin.ensures.walk)
    c.swap.ensures.y_after again (ap (λ (x : Marks). x.marks) one ∙ c.if-is_known.ensures) c.swap.ensures.x_after refl refl

pub returns-clause-row : goal.returns-clause-row
returns-clause-row c = λ row at.
    let g = c.args.graph.now in
    let u = c.walk.ensures.under_way in
    found-row g c.walk.new.self.rows.items row c.swap.new.y c.k-2.inside.0 c.args.k (subst (λ n. c.args.k < n) (sym u.rows.size) c.requires.there) c.k-2.view_is
    (subst (λ (x : Marks). IsRow g c.args.k x.marks) (sym c.swap.ensures.y_after) (c.walk.ensures.row c.args.k c.begin.ensures.walk)) at
