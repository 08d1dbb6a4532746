use Rattle.std.proofs.Common.{◌∷◌, ◌++◌, [], length, replicate, false, refl, ◌∙◌, ap}
use Rattle.std.proofs.lemmas.List.{length-replicate}
use Rattle.chyp_match.specs.Row.{Marks}
use Rattle.chyp_match.specs.declared.reach.Reach.{Reach}
use Rattle.chyp_match.proofs.Reaching.{row-there, walk-blank, walk-copy}
use Rattle.chyp_match.proofs.Walking.{begun-under_way, begun-walk}
use Rattle.chyp_match.proofs.reach.Reach.begin.Goals as goal
use Rattle.chyp_match.proofs.reach.Reach.begin.Goals.{in-Some, in-None}

pub returns-clause-under_way : goal.returns-clause-under_way
returns-clause-under_way c =
    let g = c.args.graph.now in
    let s = c.args.self.now in
    let m = c.match-known_maker.self in
    let t : Reach = record { rows = m.rows; spare = c.mark.new.self; queue = c.push_reserved.new.self } in
    let r = c.requires.reach in
    let items = c.push_reserved.ensures.items ∙ ap (λ ks. ks ++ c.args.k ∷ []) c.clear.ensures.items in
    let capacity = c.push_reserved.ensures.capacity ∙ c.clear.ensures.capacity in
    elim c.match-known_maker.branch [
      | in-Some w ↦
          begun-under_way g m s t w.copy.new.self c.args.k c.requires.there w.self-is r (ap (λ (x : Marks). x.room) w.copy.ensures ∙ ap (λ (x : Marks). x.room) r.spare)
          (ap (λ (x : Marks). length x.marks) w.copy.ensures
          ∙ (w.in-Some.ensures.row w.index.result.now (row-there g s.rows.items w.j.inside.0 w.in-Some.j w.index.result.now r.rows w.j.view_is w.in-Some.ensures.there w.index.ensures)).size) refl
          c.mark.ensures items capacity
      | in-None w ↦
          begun-under_way g m s t w.blank.new.self c.args.k c.requires.there w.self-is r (ap (λ (x : Marks). x.room) w.blank.ensures ∙ ap (λ (x : Marks). x.room) r.spare)
          (ap (λ (x : Marks). length x.marks) w.blank.ensures ∙ length-replicate s.spare.room false ∙ ap (λ (x : Marks). x.room) r.spare) refl c.mark.ensures items capacity
    ]

pub returns-clause-walk : goal.returns-clause-walk
returns-clause-walk c =
    let g = c.args.graph.now in
    let s = c.args.self.now in
    let m = c.match-known_maker.self in
    let t : Reach = record { rows = m.rows; spare = c.mark.new.self; queue = c.push_reserved.new.self } in
    let r = c.requires.reach in
    let items = c.push_reserved.ensures.items ∙ ap (λ ks. ks ++ c.args.k ∷ []) c.clear.ensures.items in
    elim c.match-known_maker.branch [
      | in-Some w ↦
          begun-walk g m s t w.copy.new.self c.args.k c.requires.there w.self-is r w.index.result.now.marks (ap (λ (x : Marks). x.marks) w.copy.ensures) c.mark.ensures items
          (λ spare e. walk-copy g c.args.k w.in-Some.j w.index.result.now.marks spare c.requires.there
          (w.in-Some.ensures.row w.index.result.now (row-there g s.rows.items w.j.inside.0 w.in-Some.j w.index.result.now r.rows w.j.view_is w.in-Some.ensures.there w.index.ensures))
          w.in-Some.ensures.leads e)
      | in-None w ↦
          begun-walk g m s t w.blank.new.self c.args.k c.requires.there w.self-is r (replicate (length g.edges) false)
          (ap (λ (x : Marks). x.marks) w.blank.ensures ∙ ap (λ (x : Marks). replicate x.room false) r.spare) c.mark.ensures items
          (λ spare e. walk-blank g c.args.k (replicate (length g.edges) false) spare c.requires.there refl (length-replicate (length g.edges) false) e)
    ]
