use Rattle.std.proofs.Common.{ℕ, ◌≡◌, List, take}
use Rattle.std.specs.Str.{bytes_eq}
use Rattle.chyp_match.specs.Lists.{list_of}
use Rattle.chyp_match.specs.Listed.{ids_where, numbered_from}
use Rattle.chyp_match.proofs.listed.wires_by_sort.Given as goal

abbrev pub invariant-loop-w : goal.invariant-loop-w
invariant-loop-w l = (name : List ℕ) → list_of name l.lists ≡ ids_where (λ sort. bytes_eq name sort.name) (numbered_from 0 (take l.w l.graph.wires))
