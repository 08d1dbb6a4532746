-- The occurrences of a plain graph in another: whether two lists of images are one is decided, and there is one list of all of them.
use Rattle.std.proofs.Common.{[], ℕ, zero, suc, ◌<◌, ◌≡◌, true, List, ◌∷◌, ◌++◌, map, length, take, drop, Option, Some, None, option_map, slice_get, slice_index, inl, refl, sym, ◌∙◌, ap}
use Rattle.std.proofs.Common.{ap₂, subst, arith, take-append-drop}
use Rattle.std.specs.Prelude.{Contains}
use Rattle.std.specs.List.{AllByRecursion}
use Rattle.std.proofs.lemmas.Bool.{cases_eq}
use Rattle.chyp_term.specs.Positions.{is_apart}
use Rattle.chyp_term.proofs.Closure.{Under-from}
use Rattle.chyp_term.proofs.Permuted.{Under, drop-left, found, take-left}
use Rattle.chyp_term.proofs.Positions.{slice_get-length}
use Rattle.chyp_term.proofs.Deciding.{Decided, decide-below, decide-both, decide-sort, decide-then, decided-by, decide-true, decide-option, decide-all}
use Rattle.chyp_term.proofs.Members.{Member, map-member, member-map, Contains-member, member-Contains}
use Rattle.chyp_term.proofs.SameMembers.{member-all, all-member}
use Rattle.chyp_term.proofs.Ordered.{Sorted, Sorted-map, get-sorted, keep, keep-member, keep-sorted, member-keep, sorted-get, sorted-same}
use Rattle.chyp_graph.specs.PlainGraph.{Edge, PlainGraph, renamed}
use Rattle.chyp_pattern.specs.declared.occurrence.Occurrence.{Occurrence}
use Rattle.chyp_pattern.specs.Occurrence.{IsReached, IsOccurrence}
use Rattle.chyp_pattern.specs.Occurrences.{AreOccurrences, IsBefore, IsLess}
use Rattle.chyp_pattern.proofs.Lexicographic.{Within, less-anti, tuples, tuples-member, tuples-sorted}
use Rattle.chyp_pattern.proofs.Reached.{decide-reached, reached-below}
use Rattle.chyp_graph.proofs.Deciding.{decide-edge}

decide-apart : (xs : List ℕ) (n : ℕ) → Decided ((i j : ℕ) → i < n → j < n → slice_index xs i ≡ slice_index xs j → i ≡ j)
decide-apart xs n = decided-by (λ f i j h l e. f i h j l e) (λ f i h j l e. f i j h l e)
    (decide-below (λ i. (j : ℕ) → j < n → slice_index xs i ≡ slice_index xs j → i ≡ j)
    (λ i. decide-below (λ j. slice_index xs i ≡ slice_index xs j → i ≡ j)
    (λ j. decide-then (cases_eq (slice_index xs i) (slice_index xs j)) (cases_eq i j)) n) n)

module _ (g : PlainGraph) (es ws : List ℕ) where
  -- the targets of the edge are no images
  Clear : Option Edge → Type 0
  Clear None = Unit {0}
  Clear (Some e) = AllByRecursion (λ w. is_apart ws w ≡ true) e.targets

  decide-clear : (o : Option Edge) → Decided (Clear o)
  unfolding Clear
  decide-clear None = inl tt
  decide-clear (Some e) = decide-all (λ w. is_apart ws w ≡ true) (λ w. decide-true (is_apart ws w)) e.targets

  abbrev pub IsConvex : Type 0
  IsConvex = (k : ℕ) (e : Edge) (w : ℕ) → IsReached g es ws k → slice_get g.edges k ≡ Some e → Contains e.targets w → is_apart ws w ≡ true

  decide-convex : Decided IsConvex
  unfolding Clear
  decide-convex = decided-by
      (λ f k e w r s c. member-all (λ w. is_apart ws w ≡ true) e.targets w (subst Clear s (f k (reached-below r) r)) (Contains-member e.targets w c))
      (λ f k h r. clear k r f (slice_get g.edges k) refl)
      (decide-below (λ k. IsReached g es ws k → Clear (slice_get g.edges k)) (λ k. decide-then (decide-reached g es ws k) (decide-clear (slice_get g.edges k)))
      (length g.edges))
    where
      clear : (k : ℕ) → IsReached g es ws k → IsConvex → (o : Option Edge) → slice_get g.edges k ≡ o → Clear o
      clear k r f None q = tt
      clear k r f (Some e) q = all-member (λ w. is_apart ws w ≡ true) e.targets (λ w m. f k e w r q (member-Contains e.targets w m))

  -- whether the lists are an occurrence
  pub decide-occurrence : (l : PlainGraph) → Decided (IsOccurrence l g es ws)
  decide-occurrence l = decided-by
      (λ r. record {
        edge_count = r.0;
        wire_count = r.1.0;
        edges_apart = r.1.1.0;
        wires_apart = r.1.1.1.0;
        sorts = r.1.1.1.1.0;
        ports = r.1.1.1.1.1.0;
        convex = r.1.1.1.1.1.1;
      })
      (λ o. (o.edge_count, (o.wire_count, (o.edges_apart, (o.wires_apart, (o.sorts, (o.ports, o.convex)))))))
      (decide-both (cases_eq (length es) (length l.edges))
      (decide-both (cases_eq (length ws) (length l.wires))
      (decide-both (decide-apart es (length es))
      (decide-both (decide-apart ws (length ws))
      (decide-both (decide-below (λ v. slice_get g.wires (slice_index ws v) ≡ slice_get l.wires v)
      (λ v. decide-option decide-sort (slice_get g.wires (slice_index ws v)) (slice_get l.wires v)) (length l.wires))
      (decide-both (decide-below (λ k. slice_get g.edges (slice_index es k) ≡ option_map (renamed (slice_index ws)) (slice_get l.edges k))
      (λ k. decide-option decide-edge (slice_get g.edges (slice_index es k)) (option_map (renamed (slice_index ws)) (slice_get l.edges k))) (length l.edges))
      decide-convex))))))

-- ## the images are numbers of g

-- they are below the numbers of its edges and of its wires
pub images-under : (l g : PlainGraph) (es ws : List ℕ) → IsOccurrence l g es ws → Under (length g.edges) es × Under (length g.wires) ws
images-under l g es ws o = (
  Under-from (length g.edges) es (λ i h.
      let e = found l.edges i (subst (λ n. i < n) o.edge_count h) in
      slice_get-length g.edges (slice_index es i) _ (o.ports i (subst (λ n. i < n) o.edge_count h) ∙ ap (option_map (renamed (slice_index ws))) e.1)),
  Under-from (length g.wires) ws (λ i h.
      let s = found l.wires i (subst (λ n. i < n) o.wire_count h) in
      slice_get-length g.wires (slice_index ws i) _ (o.sorts i (subst (λ n. i < n) o.wire_count h) ∙ s.1)),
)

-- n times m
abbrev pub copies : ℕ → ℕ → List ℕ
copies zero m = []
copies (suc n) m = m ∷ copies n m

within-copies : (n m : ℕ) (xs : List ℕ) → length xs ≡ n → Under m xs → Within (copies n m) xs
within-copies zero m [] q u = tt
within-copies zero m (x ∷ xs) q u = absurd (omega arith)
within-copies (suc n) m [] q u = absurd (omega arith)
within-copies (suc n) m (x ∷ xs) q u = (u.0, within-copies n m xs (omega arith) u.1)

within-append : (ms ns xs ys : List ℕ) → Within ms xs → Within ns ys → Within (ms ++ ns) (xs ++ ys)
within-append [] ns [] ys a b = b
within-append [] ns (x ∷ xs) ys a b = absurd a
within-append (m ∷ ms) ns [] ys a b = absurd a
within-append (m ∷ ms) ns (x ∷ xs) ys a b = (a.0, within-append ms ns xs ys a.1 b)

-- ## the list

module _ (l g : PlainGraph) where
  bounds : List ℕ
  bounds = copies (length l.edges) (length g.edges) ++ copies (length l.wires) (length g.wires)

  -- the two lists of images in one
  abbrev pub at : List ℕ → Occurrence
  at c = record { edges = take (length l.edges) c; wires = drop (length l.edges) c }

  abbrev pub Is : List ℕ → Type 0
  Is c = IsOccurrence l g (at c).edges (at c).wires

  is_one : (c : List ℕ) → Decided (Is c)
  is_one c = decide-occurrence g (at c).edges (at c).wires l

  -- all occurrences, in order
  pub listed : List Occurrence
  listed = map at (keep Is is_one (tuples bounds))

  listed-sorted : Sorted IsBefore listed
  unfolding listed
  listed-sorted = Sorted-map IsLess IsBefore at
      (λ a b r. subst (λ z. IsLess z (take (length l.edges) b ++ drop (length l.edges) b)) (sym (take-append-drop (length l.edges) a))
      (subst (IsLess a) (sym (take-append-drop (length l.edges) b)) r))
      (keep Is is_one (tuples bounds)) (keep-sorted IsLess Is is_one (tuples bounds) (tuples-sorted bounds))

  images-at : (o : Occurrence) → length o.edges ≡ length l.edges → at (o.edges ++ o.wires) ≡ o
  images-at o q = ap₂ (λ a b. record { edges = a; wires = b }) (take-left o.edges o.wires (length l.edges) q) (drop-left o.edges o.wires (length l.edges) q)

  member-listed : (o : Occurrence) → IsOccurrence l g o.edges o.wires → Member o listed
  unfolding listed bounds
  member-listed o q =
      let u = images-under l g o.edges o.wires q in
      let e = images-at o q.edge_count in
      subst (λ z. Member z (map at (keep Is is_one (tuples bounds)))) e
      (member-map at (keep Is is_one (tuples bounds)) (o.edges ++ o.wires)
      (member-keep Is is_one (tuples bounds) (o.edges ++ o.wires)
      (tuples-member bounds (o.edges ++ o.wires)
      (within-append (copies (length l.edges) (length g.edges)) (copies (length l.wires) (length g.wires)) o.edges o.wires
      (within-copies (length l.edges) (length g.edges) o.edges q.edge_count u.0) (within-copies (length l.wires) (length g.wires) o.wires q.wire_count u.1)))
      (subst (λ z. IsOccurrence l g z.edges z.wires) (sym e) q)))

  listed-member : (o : Occurrence) → Member o listed → IsOccurrence l g o.edges o.wires
  unfolding listed
  listed-member o h =
      let c = map-member at (keep Is is_one (tuples bounds)) o h in
      subst (λ z. IsOccurrence l g z.edges z.wires) c.2 (keep-member Is is_one (tuples bounds) c.0 c.1)

  pub are-listed : AreOccurrences l g listed
  are-listed = record {
    ordered = sorted-get IsBefore listed listed-sorted;
    members = λ o. ((λ c. listed-member o (Contains-member listed o c)), (λ q. member-Contains listed o (member-listed o q)));
  }

  -- no other list has them all in order
  pub only-listed : (ps : List Occurrence) → AreOccurrences l g ps → ps ≡ listed
  only-listed ps a =
      sorted-same IsBefore (λ x y. less-anti (x.edges ++ x.wires) (y.edges ++ y.wires)) ps listed (get-sorted IsBefore ps a.ordered) listed-sorted
      (λ o h. let m = a.members o in member-listed o (m.0 (member-Contains ps o h)))
      (λ o h. let m = a.members o in Contains-member ps o (m.1 (listed-member o h)))

pub occurrences_listed : (l g : PlainGraph) → (os : List Occurrence) × (AreOccurrences l g os) × ((ps : List Occurrence) → AreOccurrences l g ps → ps ≡ os)
occurrences_listed l g = (listed l g, are-listed l g, only-listed l g)
