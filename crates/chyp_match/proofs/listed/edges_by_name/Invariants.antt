use Rattle.std.proofs.Common.{ℕ, ◌≡◌, List, take}
use Rattle.std.specs.Str.{bytes_eq}
use Rattle.chyp_match.specs.Lists.{list_of}
use Rattle.chyp_match.specs.Listed.{ids_where, numbered_from}
use Rattle.chyp_match.proofs.listed.edges_by_name.Given as goal

abbrev pub invariant-loop-k : goal.invariant-loop-k
invariant-loop-k l = (name : List ℕ) → list_of name l.lists ≡ ids_where (λ e. bytes_eq name e.name) (numbered_from 0 (take l.k l.graph.edges))
