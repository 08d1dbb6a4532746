use Rattle.std.proofs.Common.{◌<◌, length, sym, ap, subst}
use Rattle.chyp_term.proofs.Closure.{get-item}
use Rattle.chyp_pattern.proofs.Sweeping.{kept-below}
use Rattle.chyp_pattern.proofs.sweep.Sweep.edge.Goals as goal

pub returns-clause-within : goal.returns-clause-within
returns-clause-within c =
    let there : c.args.at < length c.self.inside.found.items = subst (λ s. c.args.at < length s.found) (sym c.self.view_is) c.requires in
    subst (λ n. c.index.result.now < n) (ap (λ s. s.edges) c.self.view_is)
    (kept-below c.self.inside.visited.items c.self.inside.found.items _ c.self.invariant c.args.at c.index.result.now
    (get-item c.self.inside.found.items c.args.at c.index.result.now there c.index.ensures))
