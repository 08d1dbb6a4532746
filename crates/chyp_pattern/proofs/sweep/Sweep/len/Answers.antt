use Rattle.std.proofs.Common.{◌≤◌, length, sym, ap, subst, ◌∙◌}
use Rattle.chyp_pattern.proofs.Sweeping.{kept-few}
use Rattle.chyp_pattern.proofs.sweep.Sweep.len.Goals as goal

pub returns-clause-bound : goal.returns-clause-bound
returns-clause-bound c =
    subst (λ n. c.len.result ≤ n) (ap (λ s. s.edges) c.self.view_is)
    (subst (λ n. n ≤ length c.self.inside.visited.items) (sym (c.len.ensures ∙ c.self.inside.found.ok.0)) (kept-few c.self.inside.visited.items c.self.inside.found.items _ c.self.invariant))
