-- One step of a search for occurrences.
use Rattle.std.proofs.Common.{ℕ, ◌+◌, ◌<◌, ◌≡◌, Bool, true, false, List, [], ◌∷◌, length, Some, option_map, slice_get, slice_index, sym, ◌∙◌, ap, subst}
use Rattle.std.specs.Bool.{MatchBool}
use Rattle.std.proofs.lemmas.List.{length-map}
use Rattle.chyp_term.proofs.Permuted.{get-map}
use Rattle.chyp_term.proofs.Positions.{slice_get-length}
use Rattle.chyp_graph.specs.PlainGraph.{PlainGraph}
use Rattle.chyp_graph.specs.Validity.{IsValid}
use Rattle.chyp_pattern.specs.Pattern.{Parts}
use Rattle.chyp_pattern.specs.Occurrence.{IsOccurrence}
use Rattle.chyp_pattern.specs.declared.anchor.Anchor.{Anchor}
use Rattle.chyp_pattern.specs.declared.anchor.Anchor.TheVariants.{Edge as AtEdge, Wire as AtWire}
use Rattle.chyp_pattern.specs.declared.occurrence.Occurrence.{Occurrence}
use Rattle.chyp_pattern.proofs.Listed.{listed}
use Rattle.chyp_pairs.specs.declared.pair.Pair.{Pair}
use Rattle.chyp_pairs.specs.declared.pair.Pair.TheVariants.{Wires, Edges}
use Rattle.chyp_pairs.specs.Pairs.{Has, IsMatching, Pairs}
use Rattle.chyp_iso.specs.Pair.{EdgesFit, WiresFit}
use Rattle.chyp_iso.proofs.Followed.{Leads-has}
use Rattle.chyp_iso.proofs.Steps.{edges-there, wires-there}
use Rattle.chyp_match.specs.Matcher.{AreImages, IsDone, IsNext, IsPassedBy, IsPassedIn, given_of}
use Rattle.chyp_match.specs.Search.{BeginsWith, IsEarlier, IsFound, IsMoved, IsOver, IsPast, IsPlaced, IsSearch, chosen, image_of, images_of, seed_of, start, step}
use Rattle.chyp_match.specs.declared.finder.Finder.{Finder}
use Rattle.chyp_match.specs.declared.level.Level.{Level}
use Rattle.chyp_match.specs.declared.search.Search.{Search}
use Rattle.chyp_match.proofs.Finding.{found-occurrence}
use Rattle.chyp_match.proofs.Giving.{given-all, given-end, given-more, given-next}
use Rattle.chyp_match.proofs.Leaving.{moved-more, moved-over}
use Rattle.chyp_match.proofs.Lexicographic.{begins-all, begins-join}
use Rattle.chyp_match.proofs.Placing.{chosen-length, chosen-push, placed-fits}

module _ (l : Parts) (g : PlainGraph) where
  found-more : (P : Occurrence → Type 0) (s t : Search) → IsMoved l g P s → IsFound l g (IsEarlier l (chosen s.levels.levels)) t → IsFound l g P t
  found-more P s t a f = record { moved = moved-more l g P s t a f.moved; whole = f.whole; unbroken = f.unbroken }

  -- what is found from the present images on, and from behind them
  pub go-past : (f s t : Search) (b r : Bool) → b ≡ true → IsMoved l g (IsPast l (chosen f.levels.levels)) s
      → MatchBool r (IsFound l g (IsEarlier l (chosen s.levels.levels)) t) (IsOver l g (IsEarlier l (chosen s.levels.levels)) t)
      → MatchBool r (IsFound l g (IsPassedIn l b (chosen f.levels.levels)) t) (IsOver l g (IsPassedIn l b (chosen f.levels.levels)) t)
  go-past f s t true true e m r = found-more (IsPast l (chosen f.levels.levels)) s t m r
  go-past f s t true false e m r = moved-over l g (IsPast l (chosen f.levels.levels)) s t m r
  go-past f s t false r e m k = absurd (cc)

  pub go-first : (f t : Search) (b r : Bool) → b ≡ false
      → MatchBool r (IsFound l g (IsEarlier l (chosen f.levels.levels)) t) (IsOver l g (IsEarlier l (chosen f.levels.levels)) t)
      → MatchBool r (IsFound l g (IsPassedIn l b (chosen f.levels.levels)) t) (IsOver l g (IsPassedIn l b (chosen f.levels.levels)) t)
  go-first f t false r e k = k
  go-first f t true r e k = absurd (cc)

  -- ## the images of the anchors

  -- the occurrence takes the first item of the pair to the second
  Makes : Occurrence → Pair → Type 0
  Makes o (Edges e f) = slice_index o.edges e ≡ f
  Makes o (Wires v w) = slice_index o.wires v ≡ w

  makes-seed : (o : Occurrence) (a : Anchor) (x : ℕ) → Makes o (seed_of a x) → image_of o a ≡ x
  unfolding Makes
  makes-seed o (AtEdge k) x e = e
  makes-seed o (AtWire w) x e = e

  begins-chosen : (o : Occurrence) (s : Pairs) (levels : List Level) → IsPlaced l g s levels → ((p : Pair) → Has s.pairs p → Makes o p) → BeginsWith (chosen levels) (images_of l o)
  begins-chosen o s levels (start f e) h = tt
  begins-chosen o t all (step {s} {levels = ks} {level = k} p u e) h =
      let r = begins-chosen o s ks p (λ x y. h x (Leads-has l.graph g (seed_of u.anchor k.image ∷ []) s t u.leads x y)) in
      let i = makes-seed o u.anchor k.image (h (seed_of u.anchor k.image) u.has) in
      let at = ap (slice_get (images_of l o)) (chosen-length l g ks) ∙ get-map (image_of o) l.anchors (length ks) ∙ ap (option_map (image_of o)) u.next ∙ ap (λ z. Some z) i in
      subst (λ ns. BeginsWith ns (images_of l o)) (sym (ap chosen e ∙ chosen-push l g ks k)) (begins-join (images_of l o) (chosen ks) k.image r at)

  module _ (t : Search) (q : IsSearch l g t) (m : IsMatching t.pairing.pairs) (full : length t.levels.levels ≡ length l.anchors) (o : Occurrence)
      (edges : (k x : ℕ) → k < length l.graph.edges → Has t.pairing.pairs (Edges k x) → slice_index o.edges k ≡ x)
      (wires : (w x : ℕ) → w < length l.graph.wires → Has t.pairing.pairs (Wires w x) → slice_index o.wires w ≡ x) where
    makes : (p : Pair) → Has t.pairing.pairs p → Makes o p
    unfolding Makes
    makes (Edges k x) h = let fit : EdgesFit l.graph g k x = (placed-fits l g t.pairing t.levels.levels q.placed).pairs (Edges k x) h in
        edges k x (slice_get-length l.graph.edges k fit.first fit.first_is) h
    makes (Wires w x) h = let fit : WiresFit l.graph g w x = (placed-fits l g t.pairing t.levels.levels q.placed).pairs (Wires w x) h in wires w x fit.there h

    pub images-chosen : images_of l o ≡ chosen t.levels.levels
    images-chosen =
        begins-all (chosen t.levels.levels) (images_of l o) (chosen-length l g t.levels.levels ∙ full ∙ sym (length-map l.anchors (image_of o)))
        (begins-chosen o t.pairing t.levels.levels q.placed makes)

-- ## what a step answers

-- the search of f, of l in g, has come to the images of t, of which o has the lists
module _ (l : Parts) (g : PlainGraph) (b : Bool) (at : List ℕ) (t : Search) (r : IsFound l g (IsPassedIn l b at) t) (m : IsMatching t.pairing.pairs) (o : Occurrence)
    (edge_count : length o.edges ≡ length l.graph.edges) (wire_count : length o.wires ≡ length l.graph.wires)
    (edges : (k x : ℕ) → k < length l.graph.edges → Has t.pairing.pairs (Edges k x) → slice_index o.edges k ≡ x)
    (wires : (w x : ℕ) → w < length l.graph.wires → Has t.pairing.pairs (Wires w x) → slice_index o.wires w ≡ x) where
  is : IsOccurrence l.graph g o.edges o.wires
  is = found-occurrence l g t r.moved.search m r.whole o.edges o.wires edge_count wire_count edges wires r.unbroken

  images : images_of l o ≡ chosen t.levels.levels
  images = images-chosen l g t r.moved.search m r.whole o edges wires

  valid : IsValid g
  valid = (placed-fits l g t.pairing t.levels.levels r.moved.search.placed).second_valid

  pub next-is : slice_get (listed l.graph g) (length (given_of l g b at)) ≡ Some o
  next-is = given-next l g valid r.moved.search.pattern b at (chosen t.levels.levels) o is images r.moved.alike

  pub next-given : length (given_of l g true (chosen t.levels.levels)) ≡ length (given_of l g b at) + 1
  next-given = given-more l g valid r.moved.search.pattern b at (chosen t.levels.levels) o is images r.moved.alike

pub step-next : (f k : Finder) → IsFound f.pattern.now f.graph.now (IsPassedBy f) k.search → k.pattern.now ≡ f.pattern.now → k.graph.now ≡ f.graph.now → k.begun ≡ true → AreImages k → IsNext f k
step-next f k r p q b a =
    let n = ap (λ (l : Parts). length l.graph.edges) p in
    let m = ap (λ (l : Parts). length l.graph.wires) p in
    record {
      is = next-is f.pattern.now f.graph.now f.begun (chosen f.search.levels.levels) k.search r a.matching k.found (a.edge_count ∙ n) (a.wire_count ∙ m)
          (λ j x h y. a.edges j x (subst (λ z. j < z) (sym n) h) (edges-there k.search.pairing.pairs a.matching j x y))
          (λ j x h y. a.wires j x (subst (λ z. j < z) (sym m) h) (wires-there k.search.pairing.pairs a.matching j x y));
      given = ap (λ l. length (given_of l k.graph.now k.begun (chosen k.search.levels.levels))) p ∙ ap (λ g. length (given_of f.pattern.now g k.begun (chosen k.search.levels.levels))) q
          ∙ ap (λ z. length (given_of f.pattern.now f.graph.now z (chosen k.search.levels.levels))) b
          ∙ next-given f.pattern.now f.graph.now f.begun (chosen f.search.levels.levels) k.search r a.matching k.found (a.edge_count ∙ n) (a.wire_count ∙ m)
          (λ j x h y. a.edges j x (subst (λ z. j < z) (sym n) h) (edges-there k.search.pairing.pairs a.matching j x y))
          (λ j x h y. a.wires j x (subst (λ z. j < z) (sym m) h) (wires-there k.search.pairing.pairs a.matching j x y));
    }

pub step-done : (f k : Finder) → IsOver f.pattern.now f.graph.now (IsPassedBy f) k.search → k.pattern.now ≡ f.pattern.now → k.graph.now ≡ f.graph.now → k.begun ≡ true → IsDone f k
step-done f k r p q b =
    let l = f.pattern.now in
    let g = f.graph.now in
    let v = (placed-fits l g k.search.pairing k.search.levels.levels r.search.placed).second_valid in
    let whole = given-all l g v r.search.pattern f.begun (chosen f.search.levels.levels) r.alike in
    record {
      before = whole;
      after = ap (λ l. length (given_of l k.graph.now k.begun (chosen k.search.levels.levels))) p ∙ ap (λ g. length (given_of f.pattern.now g k.begun (chosen k.search.levels.levels))) q
          ∙ ap (λ z. length (given_of l g z (chosen k.search.levels.levels))) b ∙ ap (λ ns. length (given_of l g true (chosen ns))) r.none ∙ given-end l g v r.search.pattern ∙ sym whole;
    }
