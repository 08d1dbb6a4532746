use Rattle.std.proofs.Math.ListN.{length-set}
use Rattle.std.proofs.Common.{true, ◌<◌, ◌++◌, ◌∷◌, [], length, Contains, sym, ap, subst, ◌∙◌, arith}
use Rattle.chyp_pattern.proofs.Sweeping.{found-push, kept-more, kept-push, kept-room}
use Rattle.chyp_pattern.proofs.sweep.Sweep.find.Goals as goal

pub unwrap-requires : goal.unwrap-requires
unwrap-requires c =
    let s = c.self.inside in
    let r = kept-room s.visited.items s.found.items _ c.args.k c.self.invariant (subst (λ s. c.args.k < s.edges) (sym c.self.view_is) c.requires)
    (λ h. c.if-has.ensures (subst (λ s. Contains s.found c.args.k) c.self.view_is h)) in
    let l = s.found.ok.0 in
    c.push.ensures.succeeds (omega arith)

pub invariant_of-self : goal.invariant_of-self
invariant_of-self c =
    let s = c.self.inside in
    let items = rw c.unwrap.ensures at c.push.ensures.items in
    kept-more _ _ _ _ c.push.ensures.capacity
    (kept-push s.visited.items s.found.items c.push.new.self.items _ c.k.inside.0 c.self.invariant
    (subst (λ s. c.k.inside.0 < s.edges) (sym c.self.view_is) (subst (λ k. k < c.args.self.now.edges) (sym c.k.view_is) c.requires))
    (subst (λ k. Contains s.found.items k → ⊥) (sym c.k.view_is) (λ h. c.if-has.ensures (subst (λ s. Contains s.found c.args.k) c.self.view_is h)))
    (items ∙ ap (λ k. s.found.items ++ k ∷ []) (sym c.k.view_is)))

pub returns : goal.returns
returns c =
    let items = rw c.unwrap.ensures at c.push.ensures.items in
    found-push (length c.self.inside.visited.items) c.args.k c.self.inside.found.items c.push.new.self.items c.args.self.now _ (sym c.self.view_is)
    (ap (λ n. record { edges = n; found = c.push.new.self.items }) (length-set c.self.inside.visited.items c.k.inside.0 true)) items
