-- Two terms compare in exactly one way, and where they are equal, they have a derivation.
use Rattle.std.proofs.Common.{◌≡◌, ℕ, List, [], ◌⊎◌, inl, inr, refl, sym, ap, subst}
use Rattle.chyp_term.specs.Derivation.{Derives, IsEquation, back, chain}
use Rattle.chyp_term.specs.Morphism.{Morphism}
use Rattle.chyp_graph.specs.GraphOf.{graph_of}
use Rattle.chyp_graph.specs.PlainGraph.{PlainGraph}
use Rattle.chyp_graph.proofs.Validity.{valid}
use Rattle.chyp_laws.proofs.Deciding.{laws-decided}
use Rattle.chyp_extract.specs.Extraction.{extracted}
use Rattle.chyp_extract.proofs.Theorem.{extracted_typed}
use Rattle.chyp_simp.specs.Comparing.{EndsFrom, HaveOneComparison, IsComparison, equal, different, first_wide, first_at_limit, second_wide, second_at_limit}
use Rattle.chyp_simp.specs.Laws.{AreEquations, AreUsable}
use Rattle.chyp_simp.specs.Run.{Ends, rules_of}
use Rattle.chyp_simp.specs.declared.comparison.Comparison.{Comparison}
use Rattle.chyp_simp.specs.declared.comparison.Comparison.TheVariants as compared
use Rattle.chyp_simp.specs.declared.comparison.Comparison.TheVariants.{Equal, Different}
use Rattle.chyp_simp.specs.declared.ending.Ending.{Ending}
use Rattle.chyp_simp.specs.declared.ending.Ending.TheVariants.{AtLimit, NormalForm, TooWide}
use Rattle.chyp_simp.proofs.Derived.{normal-derived, normal-form-derived, with-equations}
use Rattle.chyp_simp.proofs.Once.{ends-once}
use Rattle.chyp_simp.proofs.Some.{have-placements, some-end}

-- equations within the limits are equations
pub usable-equations : (equations : List (Morphism × Morphism)) → AreUsable equations → AreEquations equations
usable-equations equations usable = λ k e is. (usable k e is).0

module _ (equations : List (Morphism × Morphism)) (t u : Morphism) where
  abbrev From : Morphism → Ending → Type 0
  From = EndsFrom equations

  -- a term has one normal form, and one end
  form-once : (s : Morphism) (g h : PlainGraph) → From s (NormalForm g) → From s (NormalForm h) → g ≡ h
  form-once s g h a b = let e = ends-once (rules_of equations) (graph_of s) (NormalForm g) (NormalForm h) a b in cc

  ends-same : (s : Morphism) (a b : Ending) → From s a → From s b → a ≡ b
  ends-same s a b p q = ends-once (rules_of equations) (graph_of s) a b p q

  both-forms : (g h p q : PlainGraph) → From t (NormalForm g) → From u (NormalForm h) → From t (NormalForm p) → From u (NormalForm q)
      → Derives [] (extracted g) (extracted h) → Derives [] (extracted p) (extracted q)
  both-forms g h p q a b c d e =
      subst (λ (x : PlainGraph). Derives [] (extracted x) (extracted q)) (form-once t g p a c)
      (subst (λ (x : PlainGraph). Derives [] (extracted g) (extracted x)) (form-once u h q b d) e)

  pub comparison-once : (a b : Comparison) → IsComparison equations t u a → IsComparison equations t u b → a ≡ b
  comparison-once a b (equal p q d) (equal r s e) = refl
  comparison-once a b (equal {g} {h} p q d) (different {g = k} {h = l} r s e) = absurd (e (both-forms g h k l p q r s d))
  comparison-once a b (equal {g} p q d) (first_wide {n} r) = let e = ends-same t (NormalForm g) (TooWide n) p r in absurd cc
  comparison-once a b (equal {g} p q d) (first_at_limit r) = let e = ends-same t (NormalForm g) AtLimit p r in absurd cc
  comparison-once a b (equal {h} p q d) (second_wide {n} r s) = let e = ends-same u (NormalForm h) (TooWide n) q s in absurd cc
  comparison-once a b (equal {h} p q d) (second_at_limit r s) = let e = ends-same u (NormalForm h) AtLimit q s in absurd cc
  comparison-once a b (different {g} {h} p q d) (equal {g = k} {h = l} r s e) = absurd (d (both-forms k l g h r s p q e))
  comparison-once a b (different p q d) (different r s e) = refl
  comparison-once a b (different {g} p q d) (first_wide {n} r) = let e = ends-same t (NormalForm g) (TooWide n) p r in absurd cc
  comparison-once a b (different {g} p q d) (first_at_limit r) = let e = ends-same t (NormalForm g) AtLimit p r in absurd cc
  comparison-once a b (different {h} p q d) (second_wide {n} r s) = let e = ends-same u (NormalForm h) (TooWide n) q s in absurd cc
  comparison-once a b (different {h} p q d) (second_at_limit r s) = let e = ends-same u (NormalForm h) AtLimit q s in absurd cc
  comparison-once a b (first_wide {n} r) (equal {g} p q d) = let e = ends-same t (NormalForm g) (TooWide n) p r in absurd cc
  comparison-once a b (first_wide {n} r) (different {g} p q d) = let e = ends-same t (NormalForm g) (TooWide n) p r in absurd cc
  comparison-once a b (first_wide {n} p) (first_wide {n = m} q) = let e = ends-same t (TooWide n) (TooWide m) p q in cc
  comparison-once a b (first_wide {n} p) (first_at_limit q) = let e = ends-same t (TooWide n) AtLimit p q in absurd cc
  comparison-once a b (first_wide {n} p) (second_wide {g} q s) = let e = ends-same t (TooWide n) (NormalForm g) p q in absurd cc
  comparison-once a b (first_wide {n} p) (second_at_limit {g} q s) = let e = ends-same t (TooWide n) (NormalForm g) p q in absurd cc
  comparison-once a b (first_at_limit r) (equal {g} p q d) = let e = ends-same t (NormalForm g) AtLimit p r in absurd cc
  comparison-once a b (first_at_limit r) (different {g} p q d) = let e = ends-same t (NormalForm g) AtLimit p r in absurd cc
  comparison-once a b (first_at_limit p) (first_wide {n} q) = let e = ends-same t AtLimit (TooWide n) p q in absurd cc
  comparison-once a b (first_at_limit p) (first_at_limit q) = refl
  comparison-once a b (first_at_limit p) (second_wide {g} q s) = let e = ends-same t AtLimit (NormalForm g) p q in absurd cc
  comparison-once a b (first_at_limit p) (second_at_limit q s) = refl
  comparison-once a b (second_wide {n} r s) (equal {h} p q d) = let e = ends-same u (NormalForm h) (TooWide n) q s in absurd cc
  comparison-once a b (second_wide {n} r s) (different {h} p q d) = let e = ends-same u (NormalForm h) (TooWide n) q s in absurd cc
  comparison-once a b (second_wide {g} q s) (first_wide {n} p) = let e = ends-same t (TooWide n) (NormalForm g) p q in absurd cc
  comparison-once a b (second_wide {g} q s) (first_at_limit p) = let e = ends-same t AtLimit (NormalForm g) p q in absurd cc
  comparison-once a b (second_wide {n} p q) (second_wide {n = m} r s) = let e = ends-same u (TooWide n) (TooWide m) q s in cc
  comparison-once a b (second_wide {n} p q) (second_at_limit r s) = let e = ends-same u (TooWide n) AtLimit q s in absurd cc
  comparison-once a b (second_at_limit r s) (equal {h} p q d) = let e = ends-same u (NormalForm h) AtLimit q s in absurd cc
  comparison-once a b (second_at_limit r s) (different {h} p q d) = let e = ends-same u (NormalForm h) AtLimit q s in absurd cc
  comparison-once a b (second_at_limit {g} q s) (first_wide {n} p) = let e = ends-same t (TooWide n) (NormalForm g) p q in absurd cc
  comparison-once a b (second_at_limit q s) (first_at_limit p) = refl
  comparison-once a b (second_at_limit r s) (second_wide {n} p q) = let e = ends-same u (TooWide n) AtLimit q s in absurd cc
  comparison-once a b (second_at_limit p q) (second_at_limit r s) = refl

  -- there is one
  some-comparison : AreUsable equations → IsEquation t u → (c : Comparison) × IsComparison equations t u c
  some-comparison usable is = first (some-end (rules_of equations) (have-placements equations usable) (graph_of t))
    where
      are : AreEquations equations
      are = usable-equations equations usable

      decided : (g h : PlainGraph) → From t (NormalForm g) → From u (NormalForm h) → (c : Comparison) × IsComparison equations t u c
      decided g h p q = go (laws-decided (extracted g) (extracted h)
          (extracted_typed g (normal-derived equations (graph_of t) g are (valid t is.left) p).valid)
          (extracted_typed h (normal-derived equations (graph_of u) h are (valid u is.right) q).valid))
        where
          go : (Derives [] (extracted g) (extracted h)) ⊎ (¬ Derives [] (extracted g) (extracted h)) → (c : Comparison) × IsComparison equations t u c
          go (inl d) = (Equal, equal p q d)
          go (inr n) = (Different, different p q n)

      second : (g : PlainGraph) → From t (NormalForm g) → (ending : Ending) → From u ending → (c : Comparison) × IsComparison equations t u c
      second g p (NormalForm h) q = decided g h p q
      second g p (TooWide n) q = (compared.TooWide n, second_wide p q)
      second g p AtLimit q = (compared.AtLimit, second_at_limit p q)

      begun : (ending : Ending) → From t ending → (c : Comparison) × IsComparison equations t u c
      begun (NormalForm g) p = let e = some-end (rules_of equations) (have-placements equations usable) (graph_of u) in second g p e.0 e.1
      begun (TooWide n) p = (compared.TooWide n, first_wide p)
      begun AtLimit p = (compared.AtLimit, first_at_limit p)

      first : (ending : Ending) × From t ending → (c : Comparison) × IsComparison equations t u c
      first (ending, p) = begun ending p

  pub one-comparison : AreUsable equations → IsEquation t u → HaveOneComparison equations t u
  one-comparison usable is =
      let some = some-comparison usable is in
      record { comparison = some.0; is = some.1; only = λ other p. comparison-once other some.0 p some.1 }

  -- equal terms have a derivation
  pub equal-derived : AreEquations equations → IsEquation t u → IsComparison equations t u Equal → Derives equations t u
  equal-derived are is c = go Equal refl c
    where
      go : (e : Comparison) → e ≡ Equal → IsComparison equations t u e → Derives equations t u
      go e s (equal {g} {h} p q d) =
          chain (normal-form-derived equations t g are is.left p) (chain (with-equations equations d) (back (normal-form-derived equations u h are is.right q)))
      go e s (different p q d) = absurd cc
      go e s (first_wide p) = absurd cc
      go e s (first_at_limit p) = absurd cc
      go e s (second_wide p q) = absurd cc
      go e s (second_at_limit p q) = absurd cc
