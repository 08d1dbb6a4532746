-- What the next answer of a search for occurrences says.
use Rattle.std.proofs.Common.{ℕ, ◌+◌, ◌≤◌, ◌≡◌, List, length, Some, slice_get, ◌∙◌, ap, subst, arith}
use Rattle.chyp_graph.specs.PlainGraph.{PlainGraph}
use Rattle.chyp_pattern.specs.Pattern.{Parts}
use Rattle.chyp_pattern.specs.Occurrences.{AreOccurrences}
use Rattle.chyp_pattern.specs.declared.occurrence.Occurrence.{Occurrence}
use Rattle.chyp_pattern.proofs.Listed.{only-listed}
use Rattle.chyp_match.specs.Matcher.{IsDone, IsNext, IsSame, Matcher, given_by}
use Rattle.chyp_match.specs.declared.finder.Finder.{Finder}

module _ (f h : Finder) (m : Matcher) (seen : record { pattern = f.pattern.now; graph = f.graph.now; given = given_by f } ≡ m) where
  pub none-left : IsDone f h → (os : List Occurrence) → AreOccurrences m.pattern.graph m.graph os → length os ≤ m.given
  none-left d =
      subst (λ (m : Matcher). (os : List Occurrence) → AreOccurrences m.pattern.graph m.graph os → length os ≤ m.given) seen
      (λ os a. let q = ap length (only-listed f.pattern.now.graph f.graph.now os a) in let b = d.before in omega arith)

  pub next-one : IsNext f h → (os : List Occurrence) → AreOccurrences m.pattern.graph m.graph os → slice_get os m.given ≡ Some h.found
  next-one d =
      subst (λ (m : Matcher). (os : List Occurrence) → AreOccurrences m.pattern.graph m.graph os → slice_get os m.given ≡ Some h.found) seen
      (λ os a. ap (λ os. slice_get os (given_by f)) (only-listed f.pattern.now.graph f.graph.now os a) ∙ d.is)

  view_of : (l k : Parts) (g e : PlainGraph) (n o : ℕ) → k ≡ l → e ≡ g → o ≡ n → ◌≡◌ {A = Matcher} (record { pattern = k; graph = e; given = o }) (record { pattern = l; graph = g; given = n })
  view_of l k g e n o a b c = λ i. record { pattern = a i; graph = b i; given = c i }

  pub still-seen : IsSame f h → IsDone f h → record { pattern = h.pattern.now; graph = h.graph.now; given = given_by h } ≡ m
  still-seen s d = view_of f.pattern.now h.pattern.now f.graph.now h.graph.now (given_by f) (given_by h) s.pattern s.graph d.after ∙ seen

  pub next-seen : IsSame f h → IsNext f h → record { pattern = h.pattern.now; graph = h.graph.now; given = given_by h } ≡ record m { given = m.given + 1 }
  next-seen s d =
      view_of f.pattern.now h.pattern.now f.graph.now h.graph.now (given_by f + 1) (given_by h) s.pattern s.graph d.given ∙ ap (λ (m : Matcher). record m { given = m.given + 1 }) seen
