-- What rules do to a graph, one after the other.
use Rattle.std.proofs.Common.{◌≡◌, ℕ, ◌≤◌, ◌<◌, List, map, length, Some, option_map, slice_get, refl, sym, ap, ◌∙◌, subst, arith}
use Rattle.std.specs.Prelude.{get_or}
use Rattle.std.proofs.lemmas.List.{length-map}
use Rattle.std.proofs.lemmas.Option.{slice_get-get_or, slice_get-map}
use Rattle.chyp_graph.specs.PlainGraph.{PlainGraph}
use Rattle.chyp_graph.specs.Validity.{IsValid}
use Rattle.chyp_pattern.specs.Pattern.{Parts}
use Rattle.chyp_pattern.specs.Placements.{ArePlacements}
use Rattle.chyp_pattern.specs.Occurrence.{IsOccurrence}
use Rattle.chyp_pattern.specs.declared.occurrence.Occurrence.{Occurrence}
use Rattle.chyp_pattern.proofs.Listed.{are-listed, listed}
use Rattle.chyp_match.specs.Occurring.{OccurrencesAreBounded}
use Rattle.chyp_simp.specs.Run as run
use Rattle.chyp_simp.specs.Run.{AreIdle, HavePlacements, IsIdle, IsLeast, most_placements}
use Rattle.chyp_match.specs.Matcher.{GivesNext, HasGivenAll, Matcher}
use Rattle.chyp_simp.proofs.Some.{first-least, none-occurs}
use Rattle.chyp_simplifier.specs.Rule.{IsRule, graphs_of}
use Rattle.chyp_simplifier.specs.Round.{Applies, Does, IsRewritten, at, at_least, is_idle, is_wide, nothing, nowhere, rewrites, too_wide}
use Rattle.chyp_simplifier.specs.declared.round.Round.{Round}
use Rattle.chyp_simplifier.specs.declared.round.Round.TheVariants.{Idle}
use Rattle.chyp_simplifier.specs.declared.rule.Rule.{Rule}

-- the placements of a rule are those of its left side
pub have : (rule : Rule) → IsRule rule → (g : PlainGraph) (n : ℕ) → ArePlacements rule.left g n → HavePlacements rule.left.graph g n
have rule is g n are = record { pattern = rule.left; is_pattern = is.pattern; of_left = refl; are = are }

-- without placements there is no occurrence
pub none-idle : OccurrencesAreBounded → (rule : Rule) → IsRule rule → (g : PlainGraph) → IsValid g → (n : ℕ) → ArePlacements rule.left g n → n ≡ 0
    → IsIdle rule.left.graph g
none-idle bounded rule is g v n are e = record {
  placements = n;
  are = have rule is g n are;
  few = omega arith;
  none = none-occurs rule.left.graph g (listed rule.left.graph g) (are-listed rule.left.graph g)
      (let b = bounded rule.left g are.counts (listed rule.left.graph g) is.pattern v are.are (are-listed rule.left.graph g) in let m = are.is in omega arith);
}

-- with few placements the least occurrence decides
pub applied : (rule : run.Rule) (g : PlainGraph) (n : ℕ) → HavePlacements rule.0 g n → n ≤ most_placements → (round : Round) → IsRewritten rule g round → Applies rule g round
applied rule g n p few round (nowhere none) = is_idle (record { placements = n; are = p; few = few; none = none })
applied rule g n p few round (at least) = at_least p few least

-- a rule that does nothing is idle
pub idle : (rule : run.Rule) (g : PlainGraph) (round : Round) → round ≡ Idle → Applies rule g round → IsIdle rule.0 g
idle rule g round e (is_idle i) = i
idle rule g round e (is_wide p many) = absurd cc
idle rule g round e (at_least p few least) = absurd cc

-- the first rule that does something decides
pub does : (rules : List run.Rule) (g : PlainGraph) (k : ℕ) (rule : run.Rule) → slice_get rules k ≡ Some rule → AreIdle rules g k → (round : Round)
    → (round ≡ Idle → ⊥) → Applies rule g round → Does rules g round
does rules g k rule is front round busy (is_idle i) = absurd (busy refl)
does rules g k rule is front round busy (is_wide p many) =
    too_wide (record { rule = rule; reached = record { k = k; is = is; front = front }; are = p; many = many })
does rules g k rule is front round busy (at_least {n} {at = o} p few least) =
    rewrites
    (record { rule = rule; reached = record { k = k; is = is; front = front }; placements = n; are = p; few = few; at = o; least = least; is = refl })

-- a search that has given nothing
abbrev start : Parts → PlainGraph → Matcher
start l g = record { pattern = l; graph = g; given = 0 }

module _ (l : Parts) (g h : PlainGraph) (same : h ≡ g) (m : Matcher) (begun : m ≡ start l h) where
  -- it gives the least occurrence first
  pub given-first : (o : Occurrence) → GivesNext m o → IsLeast l.graph g o
  given-first o next =
      let are = are-listed l.graph g in
      let os = listed l.graph g in
      let now : GivesNext (start l g) o = subst (λ (x : PlainGraph). GivesNext (start l x) o) same (subst (λ (x : Matcher). GivesNext x o) begun next) in
      first-least l.graph g os o are (now os are)

  -- or there is none
  pub given-all : HasGivenAll m → (at : Occurrence) → ¬ IsOccurrence l.graph g at.edges at.wires
  given-all done =
      let are = are-listed l.graph g in
      let os = listed l.graph g in
      let now : HasGivenAll (start l g) = subst (λ (x : PlainGraph). HasGivenAll (start l x)) same (subst HasGivenAll begun done) in
      let few = now os are in
      none-occurs l.graph g os are (omega arith)

-- ---- the rules one after the other

-- the graphs of the rule at a place
pub at-place : (rules : List Rule) (k : ℕ) (rule : Rule) → k < length rules → rule ≡ get_or rules k rule → slice_get (map graphs_of rules) k ≡ Some (graphs_of rule)
at-place rules k rule h is =
    let there : slice_get rules k ≡ Some rule = slice_get-get_or rules k rule h ∙ ap (λ (x : Rule). Some x) (sym is) in
    slice_get-map graphs_of rules k ∙ ap (option_map graphs_of) there

-- after the last one none does anything
pub all-idle : (rules : List Rule) (g : PlainGraph) (k : ℕ) → AreIdle (map graphs_of rules) g k → length rules ≤ k → Does (map graphs_of rules) g Idle
all-idle rules g k front h = nothing (λ j rule l is. let e = length-map rules graphs_of in front j rule (omega arith) is)
