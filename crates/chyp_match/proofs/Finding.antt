-- The images of all components, and the occurrences that have them.
use Rattle.std.proofs.Common.{ℕ, ◌+◌, ◌<◌, ◌≡◌, List, [], length, slice_index, ◌⊎◌, inl, inr, sym, subst}
use Rattle.chyp_graph.specs.PlainGraph.{PlainGraph}
use Rattle.chyp_pattern.specs.Pattern.{Parts}
use Rattle.chyp_pattern.specs.Occurrence.{IsOccurrence}
use Rattle.chyp_pattern.specs.Occurrences.{IsLess}
use Rattle.chyp_pattern.specs.declared.occurrence.Occurrence.{Occurrence}
use Rattle.chyp_pairs.specs.declared.pair.Pair.{Pair}
use Rattle.chyp_pairs.specs.declared.pair.Pair.TheVariants.{Wires, Edges}
use Rattle.chyp_pairs.specs.Pairs.{Has, IsMatching}
use Rattle.chyp_match.specs.Convex.{IsUnbroken}
use Rattle.chyp_match.specs.Following.{Maps}
use Rattle.chyp_match.specs.Search.{BeginsWith, HoldAlike, IsEarlier, IsMoved, IsOver, IsPast, IsSearch, chosen, images_of}
use Rattle.chyp_match.specs.declared.search.Search.{Search}
use Rattle.chyp_match.proofs.Convexity.{convex-unbroken, unbroken-convex}
use Rattle.chyp_match.proofs.Found.{found-edges_apart, found-ports, found-sorts, found-wires_apart}
use Rattle.chyp_match.proofs.Leaving.{alike-trans, fill-smaller}
use Rattle.chyp_match.proofs.Lexicographic.{left, less-trans}
use Rattle.chyp_match.proofs.Placing.{embedding_of, placed-complete, placed-fits, placed-maps}
use Rattle.chyp_match.proofs.Whole.{IsWhole, whole}

module _ (l : Parts) (g : PlainGraph) (t : Search) (q : IsSearch l g t) (m : IsMatching t.pairing.pairs) (full : length t.levels.levels ≡ length l.anchors) where
  all : IsWhole l g t.pairing
  all = whole l g t.pairing t.levels.levels q.pattern q.placed m (placed-complete l g t.pairing t.levels.levels q.placed) full

  makes-edge : (o : Occurrence) (p : IsOccurrence l.graph g o.edges o.wires) → Maps (embedding_of o p) t.pairing.pairs → (k f : ℕ) → Has t.pairing.pairs (Edges k f) → slice_index o.edges k ≡ f
  makes-edge o p h k f x = h (Edges k f) x

  makes-wire : (o : Occurrence) (p : IsOccurrence l.graph g o.edges o.wires) → Maps (embedding_of o p) t.pairing.pairs → (w x : ℕ) → Has t.pairing.pairs (Wires w x) → slice_index o.wires w ≡ x
  makes-wire o p h w x y = h (Wires w x) y

  -- an occurrence that has the images is unbroken
  pub begun-unbroken : (o : Occurrence) → IsOccurrence l.graph g o.edges o.wires → BeginsWith (chosen t.levels.levels) (images_of l o) → IsUnbroken l.graph g t.pairing.pairs
  begun-unbroken o p b =
      let h = placed-maps l g t.pairing t.levels.levels q.placed o p b in
      convex-unbroken l.graph g t.pairing (placed-fits l g t.pairing t.levels.levels q.placed) m (placed-complete l g t.pairing t.levels.levels q.placed) o.edges o.wires p.edge_count p.wire_count
      (λ k f x y. makes-edge o p h k f y) (λ w x z y. makes-wire o p h w x y) all.edges all.wires p.convex

  -- the lists of the images are an occurrence, where they are unbroken
  pub found-occurrence : (es ws : List ℕ) → length es ≡ length l.graph.edges → length ws ≡ length l.graph.wires
      → ((k f : ℕ) → k < length l.graph.edges → Has t.pairing.pairs (Edges k f) → slice_index es k ≡ f)
      → ((w x : ℕ) → w < length l.graph.wires → Has t.pairing.pairs (Wires w x) → slice_index ws w ≡ x)
      → IsUnbroken l.graph g t.pairing.pairs → IsOccurrence l.graph g es ws
  found-occurrence es ws n o e w u =
      let fits = placed-fits l g t.pairing t.levels.levels q.placed in
      let c = placed-complete l g t.pairing t.levels.levels q.placed in
      record {
        edge_count = n;
        wire_count = o;
        edges_apart = λ i j a b. found-edges_apart l.graph g t.pairing fits m c es ws e w all.edges all.wires i j (subst (λ z. i < z) n a) (subst (λ z. j < z) n b);
        wires_apart = λ i j a b. found-wires_apart l.graph g t.pairing fits m c es ws e w all.edges all.wires i j (subst (λ z. i < z) o a) (subst (λ z. j < z) o b);
        sorts = found-sorts l.graph g t.pairing fits m c es ws e w all.edges all.wires;
        ports = found-ports l.graph g t.pairing fits m c es ws e w all.edges all.wires;
        convex = unbroken-convex l.graph g t.pairing fits m c es ws n o e w all.edges all.wires u;
      }

  -- where they are not, no occurrence has them
  pub broken-none : (IsUnbroken l.graph g t.pairing.pairs → ⊥) → HoldAlike l g (IsEarlier l (chosen t.levels.levels)) (IsPast l (chosen t.levels.levels))
  broken-none n o p = (λ b. inl b, λ b. back b)
    where
      back : IsPast l (chosen t.levels.levels) o → IsEarlier l (chosen t.levels.levels) o
      back (inl b) = b
      back (inr b) = absurd (n (begun-unbroken o p b))

module _ (l : Parts) (g : PlainGraph) where
  pub find-smaller : (s t u : Search) → IsSearch l g u → (chosen s.levels.levels ≡ chosen t.levels.levels) ⊎ IsLess (chosen s.levels.levels) (chosen t.levels.levels)
      → IsLess (chosen t.levels.levels) (chosen u.levels.levels)
      → left (length g.edges + length g.wires) (length l.anchors) (chosen u.levels.levels) < left (length g.edges + length g.wires) (length l.anchors) (chosen s.levels.levels)
  find-smaller s t u q a b = fill-smaller l g s u q (go a)
    where
      go : (chosen s.levels.levels ≡ chosen t.levels.levels) ⊎ IsLess (chosen s.levels.levels) (chosen t.levels.levels) → IsLess (chosen s.levels.levels) (chosen u.levels.levels)
      go (inl e) = subst (λ n. IsLess n (chosen u.levels.levels)) (sym e) b
      go (inr c) = less-trans (chosen s.levels.levels) (chosen t.levels.levels) (chosen u.levels.levels) c b

  -- past images that no occurrence has
  pub moved-past-broken : (P : Occurrence → Type 0) (s t : Search) → IsMoved l g P s → HoldAlike l g (IsEarlier l (chosen s.levels.levels)) (IsPast l (chosen s.levels.levels))
      → IsMoved l g (IsPast l (chosen s.levels.levels)) t → IsMoved l g P t
  moved-past-broken P s t a n b = record {
    search = b.search;
    alike = alike-trans l g P (IsPast l (chosen s.levels.levels)) (IsEarlier l (chosen t.levels.levels))
        (alike-trans l g P (IsEarlier l (chosen s.levels.levels)) (IsPast l (chosen s.levels.levels)) a.alike n) b.alike;
  }

  pub over-past-broken : (P : Occurrence → Type 0) (s t : Search) → IsMoved l g P s → HoldAlike l g (IsEarlier l (chosen s.levels.levels)) (IsPast l (chosen s.levels.levels))
      → IsOver l g (IsPast l (chosen s.levels.levels)) t → IsOver l g P t
  over-past-broken P s t a n b = record {
    search = b.search;
    none = b.none;
    alike = alike-trans l g P (IsPast l (chosen s.levels.levels)) (IsPast l []) (alike-trans l g P (IsEarlier l (chosen s.levels.levels)) (IsPast l (chosen s.levels.levels)) a.alike n) b.alike;
  }

pub unbroken-along : (a b l g : PlainGraph) (ps : List Pair) → a ≡ l → b ≡ g → IsUnbroken a b ps → IsUnbroken l g ps
unbroken-along a b l g ps p q u = subst (λ x. IsUnbroken x g ps) p (subst (λ x. IsUnbroken a x ps) q u)

pub unbroken-back : (a b l g : PlainGraph) (ps : List Pair) → a ≡ l → b ≡ g → (IsUnbroken a b ps → ⊥) → IsUnbroken l g ps → ⊥
unbroken-back a b l g ps p q n u = n (subst (λ x. IsUnbroken x b ps) (sym p) (subst (λ x. IsUnbroken l x ps) (sym q) u))
