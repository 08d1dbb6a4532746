-- Each graph has exactly one number of placements in another.
use Rattle.std.proofs.Common.{[], ℕ, ◌<◌, ◌≡◌, ◌-◌, ◌^◌, min, List, ◌∷◌, length, Option, Some, None, slice_get, refl, sym, ◌∙◌, ap, ap₂, subst, arith, inr}
use Rattle.chyp_base.specs.declared.sort.Sort.{Sort}
use Rattle.chyp_term.proofs.Deciding.{Decided, decide-numbers, decide-option, decide-sort, decided-by}
use Rattle.chyp_term.proofs.Positions.{slice_get-length}
use Rattle.chyp_term.specs.Limits.{IsWithinLimits}
use Rattle.chyp_term.specs.Morphism.{Morphism, IsTyped}
use Rattle.chyp_graph.specs.GraphOf.{graph_of}
use Rattle.chyp_graph.specs.PlainGraph.{Edge, PlainGraph}
use Rattle.chyp_graph.proofs.Leaves.{edges-size, wires-size}
use Rattle.chyp_pattern.specs.Component.{AreAnchors}
use Rattle.chyp_pattern.specs.Pattern.{IsPattern, Parts}
use Rattle.chyp_pattern.specs.Placements.{ArePlacements, AreCounts, IsCount, IsNamed, IsOfSort, MayBegin, product}
use Rattle.chyp_pattern.specs.declared.anchor.Anchor.{Anchor}
use Rattle.chyp_pattern.specs.declared.anchor.Anchor.TheVariants.{Edge as AtEdge, Wire as AtWire}
use Rattle.chyp_pattern.proofs.Anchoring.{anchors-few}
use Rattle.chyp_simp.specs.Run.{HavePlacements}
use Rattle.chyp_simp.proofs.Anchors.{anchors-once, some-anchors, some-those, those-once}

-- ---- counts

count-once : (P : ℕ → Type 0) (m n : ℕ) → IsCount P m → IsCount P n → m ≡ n
count-once P m n a b = sym a.2 ∙ ap length (those-once P a.0 b.0 a.1 b.1) ∙ b.2

some-count : (P : ℕ → Type 0) → ((k : ℕ) → Decided (P k)) → (n : ℕ) → ((k : ℕ) → P k → k < n) → (m : ℕ) × IsCount P m
some-count P decide n few = let those = some-those P decide n few in (length those.0, (those.0, those.1, refl))

decide-named : (g : PlainGraph) (name : List ℕ) (k : ℕ) → Decided (IsNamed g name k)
decide-named g name k = go (slice_get g.edges k) refl
  where
    go : (o : Option Edge) → slice_get g.edges k ≡ o → Decided (IsNamed g name k)
    go None e = inr (λ p. let both : ◌≡◌ {A = Option Edge} None (Some p.edge) = sym e ∙ p.is in absurd cc)
    go (Some edge) e = decided-by (λ h. record { edge = edge; is = e; named = h })
        (λ p.
        let both : ◌≡◌ {A = Option Edge} (Some p.edge) (Some edge) = sym p.is ∙ e in
        let one : p.edge ≡ edge = cc in
        ap (λ (x : Edge). x.name) (sym one) ∙ p.named) (decide-numbers edge.name name)

decide-begin : (l g : PlainGraph) (a : Anchor) (j : ℕ) → Decided (MayBegin l g a j)
decide-begin l g (AtEdge k) j = go (slice_get l.edges k) refl
  where
    go : (o : Option Edge) → slice_get l.edges k ≡ o → Decided (MayBegin l g (AtEdge k) j)
    go None e = inr (λ p. let both : ◌≡◌ {A = Option Edge} None (Some p.0) = sym e ∙ p.1 in absurd cc)
    go (Some edge) e = decided-by (λ h. (edge, e, h))
        (λ p.
        let both : ◌≡◌ {A = Option Edge} (Some p.0) (Some edge) = sym p.1 ∙ e in
        let one : p.0 ≡ edge = cc in
        subst (λ (x : Edge). IsNamed g x.name j) one p.2) (decide-named g edge.name j)
decide-begin l g (AtWire w) j = go (slice_get l.wires w) refl
  where
    go : (o : Option Sort) → slice_get l.wires w ≡ o → Decided (MayBegin l g (AtWire w) j)
    go None e = inr (λ p. let both : ◌≡◌ {A = Option Sort} None (Some p.0) = sym e ∙ p.1 in absurd cc)
    go (Some sort) e = decided-by (λ h. (sort, e, h))
        (λ p.
        let both : ◌≡◌ {A = Option Sort} (Some p.0) (Some sort) = sym p.1 ∙ e in
        let one : p.0 ≡ sort = cc in
        subst (λ s. IsOfSort g s j) one p.2) (decide-option decide-sort (slice_get g.wires j) (Some sort))

begin-count : (l g : PlainGraph) (a : Anchor) → (m : ℕ) × IsCount (MayBegin l g a) m
begin-count l g (AtEdge k) = some-count (MayBegin l g (AtEdge k)) (decide-begin l g (AtEdge k)) (length g.edges) (λ j p. slice_get-length g.edges j p.2.edge p.2.is)
begin-count l g (AtWire w) = some-count (MayBegin l g (AtWire w)) (decide-begin l g (AtWire w)) (length g.wires) (λ j p. slice_get-length g.wires j p.0 p.2)

some-counts : (l g : PlainGraph) (anchors : List Anchor) → (counts : List ℕ) × AreCounts l g anchors counts
some-counts l g [] = ([], tt)
some-counts l g (a ∷ anchors) = let first = begin-count l g a in let rest = some-counts l g anchors in (first.0 ∷ rest.0, (first.1, rest.1))

counts-once : (l g : PlainGraph) (anchors : List Anchor) (ms ns : List ℕ) → AreCounts l g anchors ms → AreCounts l g anchors ns → ms ≡ ns
counts-once l g [] [] [] a b = refl
counts-once l g [] [] (n ∷ ns) a b = absurd b
counts-once l g [] (m ∷ ms) ns a b = absurd a
counts-once l g (x ∷ anchors) [] ns a b = absurd a
counts-once l g (x ∷ anchors) (m ∷ ms) [] a b = absurd b
counts-once l g (x ∷ anchors) (m ∷ ms) (n ∷ ns) a b = ap₂ (λ y z. y ∷ z) (count-once (MayBegin l g x) m n a.0 b.0) (counts-once l g anchors ms ns a.1 b.1)

-- ---- placements

pub placements-once : (l g : PlainGraph) (m n : ℕ) → HavePlacements l g m → HavePlacements l g n → m ≡ n
placements-once l g m n a b = go a.pattern b.pattern a.is_pattern b.is_pattern (a.of_left ∙ sym b.of_left) a.are b.are
  where
    go : (p q : Parts) → IsPattern p → IsPattern q → p.graph ≡ q.graph → ArePlacements p g m → ArePlacements q g n → m ≡ n
    go p q is also e x y =
        let anchors : p.anchors ≡ q.anchors = anchors-once q.graph p.anchors q.anchors (subst (λ g. AreAnchors g p.anchors) e is.anchors) also.anchors in
        let counts : AreCounts q.graph g q.anchors x.counts =
        subst (λ h. AreCounts h g q.anchors x.counts) e (subst (λ a. AreCounts p.graph g a x.counts) anchors x.are) in
        x.is ∙ ap (λ c. min (product c) (2 ^ 64 - 1)) (counts-once q.graph g q.anchors x.counts y.counts counts y.are) ∙ sym y.is

-- so has the graph of a term within the limits
pub some-placements : (l : Morphism) → IsTyped l → IsWithinLimits l → (g : PlainGraph) → (n : ℕ) × HavePlacements (graph_of l) g n
some-placements l typed small g =
    let anchors = some-anchors (graph_of l) in
    let counts = some-counts (graph_of l) g anchors.0 in
    let size = small.size in
    let edges = edges-size l in
    let wires = wires-size l typed in
    let few = anchors-few (graph_of l) anchors.0 (omega arith) (omega arith) anchors.1 in (
      min (product counts.0) (2 ^ 64 - 1),
      record {
        pattern = record { graph = graph_of l; anchors = anchors.0 };
        is_pattern = record { anchors = anchors.1; few = few };
        of_left = refl;
        are = record { counts = counts.0; are = counts.1; is = refl };
      },
    )
