-- A run, rewrite by rewrite.
use Rattle.std.proofs.Common.{◌≡◌, ℕ, suc, ◌+◌, ◌*◌, ◌≤◌, List, All, map, length, ap, subst, arith}
use Rattle.chyp_term.proofs.Members.{get-member, member-Contains}
use Rattle.chyp_term.proofs.Permuted.{in_map}
use Rattle.std.proofs.lemmas.List.Elements.{All-contains}
use Rattle.chyp_graph.specs.PlainGraph.{PlainGraph}
use Rattle.chyp_replace.proofs.Sizes.{replaced-edges, replaced-wires}
use Rattle.chyp_simp.specs.Run as run
use Rattle.chyp_simp.specs.Run.{Ends, Rewrites, RewritesIn, limit, most_rewrites, normal, one_more, stops, wide}
use Rattle.chyp_simp.specs.declared.ending.Ending.TheVariants.{AtLimit, NormalForm, TooWide}
use Rattle.chyp_simplifier.specs.Rule.{IsRule, IsSmall, graphs_of, most_size}
use Rattle.chyp_simplifier.specs.Round.{Does, HasRoom, nothing, rewrites, too_wide}
use Rattle.chyp_simplifier.specs.declared.round.Round.{Round}
use Rattle.chyp_simplifier.specs.declared.round.Round.TheVariants as round
use Rattle.chyp_simplifier.specs.declared.rule.Rule.{Rule}

-- what is done is a rewrite
pub rewritten : (rules : List run.Rule) (g : PlainGraph) (r : Round) (h : PlainGraph) → r ≡ round.Rewritten h → Does rules g r → Rewrites rules g h
rewritten rules g r h e (nothing idle) = absurd cc
rewritten rules g r h e (too_wide w) = absurd cc
rewritten rules g r h e (rewrites {h = k} w) = let same : k ≡ h = cc in subst (Rewrites rules g) same w

module _ (rules : List run.Rule) (g : PlainGraph) (n : ℕ) (h : PlainGraph) (few : n ≤ most_rewrites) (before : RewritesIn rules g n h) where
  -- the run ends in a normal form
  pub ends-normal : (r : Round) → r ≡ round.Idle → Does rules h r → Ends rules g (NormalForm h)
  ends-normal r e (nothing idle) = stops few before (normal idle)
  ends-normal r e (too_wide w) = absurd cc
  ends-normal r e (rewrites w) = absurd cc

  -- or at a rule with too many placements
  pub ends-wide : (r : Round) (m : ℕ) → r ≡ round.TooWide m → Does rules h r → Ends rules g (TooWide m)
  ends-wide r m e (nothing idle) = absurd cc
  ends-wide r m e (too_wide {n = k} w) = let same : k ≡ m = cc in subst (λ (x : ℕ). Ends rules g (TooWide x)) same (stops few before (wide w))
  ends-wide r m e (rewrites w) = absurd cc

  -- or at the limit
  pub ends-at_limit : (r : Round) (k : PlainGraph) → n ≡ most_rewrites → r ≡ round.Rewritten k → Does rules h r → Ends rules g AtLimit
  ends-at_limit r k e is d = limit (subst (λ (m : ℕ). RewritesIn rules g m h) e before) (rewritten rules h r k is d)

  -- or it goes on
  pub goes-on : (r : Round) (k : PlainGraph) → r ≡ round.Rewritten k → Does rules h r → RewritesIn rules g (n + 1) k
  goes-on r k is d = let s : suc n ≡ n + 1 = omega arith in subst (λ (m : ℕ). RewritesIn rules g m k) s (one_more before (rewritten rules h r k is d))

-- how large a graph can be after n rewrites
abbrev pub most_after : ℕ → ℕ
most_after n = 200000 + n * 200000

pub starts : (g : PlainGraph) → IsSmall most_size g → IsSmall (most_after 0) g
starts g small = let e = small.edges in let w = small.wires in record { edges = omega arith; wires = omega arith }

-- a rewrite puts at most one right side more into the graph
pub grows : (rules : List Rule) → All IsRule rules → (g h : PlainGraph) (n : ℕ) → IsSmall (most_after n) g → (r : Round) → r ≡ round.Rewritten h
    → Does (map graphs_of rules) g r → IsSmall (most_after (n + 1)) h
grows rules all g h n small r is' d =
    let w = rewritten (map graphs_of rules) g r h is' d in
    let f = in_map graphs_of rules w.reached.k w.rule w.reached.is in
    let is : IsRule f.0 = All-contains IsRule rules f.0 all (member-Contains rules f.0 (get-member rules w.reached.k f.0 f.1)) in
    let right = ap (λ (x : run.Rule). x.1) f.2 in
    let re = ap (λ (x : PlainGraph). length x.edges) right in
    let rw = ap (λ (x : PlainGraph). length x.wires) right in
    let he = ap (λ (x : PlainGraph). length x.edges) w.is in
    let hw = ap (λ (x : PlainGraph). length x.wires) w.is in
    let e = replaced-edges w.rule.0 w.rule.1 g w.at.edges w.at.wires w.least.occurs in
    let v = replaced-wires w.rule.0 w.rule.1 g w.at.edges w.at.wires w.least.occurs in
    let se = is.small.edges in
    let sw = is.small.wires in
    let ge = small.edges in
    let gw = small.wires in
    record { edges = omega arith; wires = omega arith }

-- and within the limit there is room for one
pub has-room : (n : ℕ) (g : PlainGraph) → n ≤ most_rewrites → IsSmall (most_after n) g → HasRoom g
has-room n g few small = let e = small.edges in let w = small.wires in record { edges = omega arith; wires = omega arith }
