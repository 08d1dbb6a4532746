use Rattle.std.proofs.Common.{ℕ, ◌∙◌, ap, false, length}
use Rattle.chyp_match.specs.Matcher.{given_of}
use Rattle.chyp_match.specs.Search.{chosen}
use Rattle.chyp_match.proofs.Giving.{given-none}
use Rattle.chyp_match.proofs.occurrences.Occurrences.new.Goals as goal

pub returns : goal.returns
returns c =
    let l = c.args.pattern.now in
    let g = c.args.graph.now in
    ap (λ (n : ℕ). record { pattern = l; graph = g; given = n }) (ap (λ levels. length (given_of l g false (chosen levels))) c.in_ok-new-2.ensures.none ∙ given-none l g)
