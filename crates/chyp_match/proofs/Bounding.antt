-- An occurrence is known by the images of the anchors of the components, and so there are no more occurrences than placements.
use Rattle.std.proofs.Common.{[], ℕ, zero, suc, ◌+◌, ◌*◌, ◌<◌, ◌≤◌, ◌≡◌, true, false, List, ◌∷◌, ◌++◌, map, flat_map, length, Some, option_map, slice_get, slice_index, length-append, ◌⊎◌}
use Rattle.std.proofs.Common.{inl, inr, refl, sym, ◌∙◌, ap, ap₂, subst, arith}
use Rattle.std.specs.Prelude.{Contains}
use Rattle.std.specs.List.{AllByRecursion}
use Rattle.std.proofs.lemmas.Bool.{cases_Bool, cases_eq, cases_lt}
use Rattle.std.proofs.lemmas.List.{length-map, map-append}
use Rattle.chyp_term.specs.Perm.{IsPermutation}
use Rattle.chyp_term.specs.Positions.{is_apart}
use Rattle.chyp_term.proofs.Permuted.{found}
use Rattle.chyp_term.proofs.Positions.{slice_get-length, map-id, some-same}
use Rattle.chyp_term.proofs.Members.{Member, flat-member, get-member, member-flat, member-get, member-left, member-map, member-right, member-split, Contains-member, member-Contains}
use Rattle.chyp_term.proofs.Rearrangement.{permutation-Rearr}
use Rattle.chyp_term.proofs.Apart.{Apart, Apart-split, Rearr-Apart, map-by_index, numbers_apart}
use Rattle.chyp_term.proofs.Ordered.{Sorted-with, pigeonhole, all-get, get-sorted}
use Rattle.chyp_term.proofs.SameMembers.{all-member, image-contains, member-all}
use Rattle.chyp_pattern.specs.Component.{AreAnchors, AreJoined, AreThose, IsBare, IsFirstEdge, IsPortOf, same, next}
use Rattle.chyp_pattern.specs.Pattern.{IsPattern, Parts}
use Rattle.chyp_graph.specs.PlainGraph.{Edge, PlainGraph, renamed, sources_of, targets_of}
use Rattle.chyp_graph.specs.Validity.{IsValid}
use Rattle.chyp_pattern.specs.declared.anchor.Anchor.{Anchor}
use Rattle.chyp_pattern.specs.declared.anchor.Anchor.TheVariants.{Edge as AtEdge, Wire as AtWire}
use Rattle.chyp_pattern.specs.Occurrence.{IsOccurrence}
use Rattle.chyp_pattern.specs.Occurrences.{AreOccurrences, IsBefore}
use Rattle.chyp_pattern.specs.declared.occurrence.Occurrence.{Occurrence}
use Rattle.chyp_pattern.proofs.Lexicographic.{less-anti}
use Rattle.chyp_pattern.specs.Placements.{AreCounts, IsThere, MayBegin, product}
use Rattle.chyp_match.specs.Search.{image_of}
use Rattle.chyp_match.proofs.Counting.{anchor-there}

-- maps that give the same list give the same of each item
same-on : {A B : Type 0} (f g : A → B) (xs : List A) (x : A) → map f xs ≡ map g xs → Member x xs → f x ≡ g x
same-on f g [] x e h = absurd h
same-on f g (y ∷ xs) x e (inl q) = let one : f y ≡ g y = cc in subst (λ z. f z ≡ g z) q one
same-on f g (y ∷ xs) x e (inr h) = let rest : map f xs ≡ map g xs = cc in same-on f g xs x rest h

same-places : (xs ys : List ℕ) → length xs ≡ length ys → ((i : ℕ) → i < length xs → slice_index xs i ≡ slice_index ys i) → xs ≡ ys
same-places xs ys q f = sym (map-id xs) ∙ map-by_index (λ x. x) xs ys q f

-- a number stands in one of the parts of a list of numbers that are apart
one-part : (f : Edge → List ℕ) (es : List Edge) → Apart (flat_map f es) → (i j : ℕ) (a b : Edge) → slice_get es i ≡ Some a → slice_get es j ≡ Some b → (w : ℕ)
    → Member w (f a) → Member w (f b) → i ≡ j
one-part f [] t i j a b p q w h k = cc
one-part f (e ∷ es) t zero zero a b p q w h k = refl
one-part f (e ∷ es) t zero (suc j) a b p q w h k =
    let c = (Apart-split (f e) (flat_map f es) t).2 in
    let z : e ≡ a = cc in
    absurd (member-all (λ y. ¬ (w ≡ y)) (flat_map f es) w
    (member-all (λ x. AllByRecursion (λ y. ¬ (x ≡ y)) (flat_map f es)) (f e) w c (subst (λ v. Member w (f v)) (sym z) h))
    (member-flat f es b w (get-member es j b q) k) refl)
one-part f (e ∷ es) t (suc i) zero a b p q w h k =
    let c = (Apart-split (f e) (flat_map f es) t).2 in
    let z : e ≡ b = cc in
    absurd (member-all (λ y. ¬ (w ≡ y)) (flat_map f es) w
    (member-all (λ x. AllByRecursion (λ y. ¬ (x ≡ y)) (flat_map f es)) (f e) w c (subst (λ v. Member w (f v)) (sym z) k))
    (member-flat f es a w (get-member es i a p) h) refl)
one-part f (e ∷ es) t (suc i) (suc j) a b p q w h k = ap suc (one-part f es (Apart-split (f e) (flat_map f es) t).1 i j a b p q w h k)

second-apart : (n : ℕ) (xs ys : List ℕ) → IsPermutation n (xs ++ ys) → Apart ys
second-apart n xs ys t = (Apart-split xs ys (Rearr-Apart (permutation-Rearr n (xs ++ ys) t) (numbers_apart n))).1

-- ## two occurrences that have the same images of the anchors

joined-below : (l : PlainGraph) (j k : ℕ) → AreJoined l j k → j < length l.edges → k < length l.edges
joined-below l j k same h = h
joined-below l j k (next r s t) h = slice_get-length l.edges k t.edge t.is

module _ (l g : PlainGraph) (v : IsValid g) (o p : Occurrence) (a : IsOccurrence l g o.edges o.wires) (b : IsOccurrence l g p.edges p.wires) where
  abbrev pub SameEdge : ℕ → Type 0
  SameEdge k = slice_index o.edges k ≡ slice_index p.edges k

  abbrev pub SameWire : ℕ → Type 0
  SameWire w = slice_index o.wires w ≡ slice_index p.wires w

  -- the ports of an edge go with it
  edge_wire : (k w : ℕ) → IsPortOf l k w → SameEdge k → SameWire w
  edge_wire k w t q =
      same-on (slice_index o.wires) (slice_index p.wires) (t.edge.sources ++ t.edge.targets) w
      (map-append (slice_index o.wires) t.edge.sources t.edge.targets
      ∙ ap₂ (λ x y. x ++ y) (ap (λ (e : Edge). e.sources) one) (ap (λ (e : Edge). e.targets) one)
      ∙ sym (map-append (slice_index p.wires) t.edge.sources t.edge.targets))
      (Contains-member (t.edge.sources ++ t.edge.targets) w t.has)
    where
      below : k < length l.edges
      below = slice_get-length l.edges k t.edge t.is

      one : renamed (slice_index o.wires) t.edge ≡ renamed (slice_index p.wires) t.edge
      one = some-same (renamed (slice_index o.wires) t.edge) (renamed (slice_index p.wires) t.edge)
          (sym (ap (option_map (renamed (slice_index o.wires))) t.is) ∙ sym (a.ports k below) ∙ ap (slice_get g.edges) q ∙ b.ports k below
          ∙ ap (option_map (renamed (slice_index p.wires))) t.is)

  -- and the edge with any of its ports, since no other edge of g has the wire there
  wire_edge : (k w : ℕ) → IsPortOf l k w → SameWire w → SameEdge k
  wire_edge k w t q = go (member-split t.edge.sources t.edge.targets w (Contains-member (t.edge.sources ++ t.edge.targets) w t.has))
    where
      below : k < length l.edges
      below = slice_get-length l.edges k t.edge t.is

      left : slice_get g.edges (slice_index o.edges k) ≡ Some (renamed (slice_index o.wires) t.edge)
      left = a.ports k below ∙ ap (option_map (renamed (slice_index o.wires))) t.is

      right : slice_get g.edges (slice_index p.edges k) ≡ Some (renamed (slice_index p.wires) t.edge)
      right = b.ports k below ∙ ap (option_map (renamed (slice_index p.wires))) t.is

      there : (xs : List ℕ) → Member w xs → Member (slice_index o.wires w) (map (slice_index p.wires) xs)
      there xs m = subst (λ z. Member z (map (slice_index p.wires) xs)) (sym q) (member-map (slice_index p.wires) xs w m)

      go : (Member w t.edge.sources) ⊎ (Member w t.edge.targets) → SameEdge k
      go (inl m) =
          one-part (λ e. e.sources) g.edges (second-apart (length g.wires) g.outputs (sources_of g.edges) v.consumers) (slice_index o.edges k)
          (slice_index p.edges k) (renamed (slice_index o.wires) t.edge) (renamed (slice_index p.wires) t.edge) left right
          (slice_index o.wires w) (member-map (slice_index o.wires) t.edge.sources w m) (there t.edge.sources m)
      go (inr m) =
          one-part (λ e. e.targets) g.edges (second-apart (length g.wires) g.inputs (targets_of g.edges) v.producers) (slice_index o.edges k)
          (slice_index p.edges k) (renamed (slice_index o.wires) t.edge) (renamed (slice_index p.wires) t.edge) left right
          (slice_index o.wires w) (member-map (slice_index o.wires) t.edge.targets w m) (there t.edge.targets m)

  joined_back : (j k : ℕ) → AreJoined l j k → SameEdge k → SameEdge j
  joined_back j k same q = q
  joined_back j k (next {k = m} r {w = w} s t) q = joined_back j m r (wire_edge m w s (edge_wire k w t q))

  -- the edges below a number have the same images where the first edges below it have
  pub edges_same_below : (edges : List ℕ) → AreThose (IsFirstEdge l) edges → (upto : ℕ) → ((k : ℕ) → Member k edges → k < upto → SameEdge k)
      → (bound k : ℕ) → k < bound → k < upto → k < length l.edges → SameEdge k
  edges_same_below edges firsts upto agree zero k h u c = absurd (omega arith)
  edges_same_below edges firsts upto agree (suc bound) k h u c =
      go (cases_eq (slice_index o.edges k) (slice_index p.edges k)) (λ m x y z. edges_same_below edges firsts upto agree bound m x y z)
    where
      go : (SameEdge k) ⊎ (SameEdge k → ⊥) → ((m : ℕ) → m < bound → m < upto → m < length l.edges → SameEdge m) → SameEdge k
      go (inl q) ih = q
      go (inr n) ih =
          absurd (n (agree k (Contains-member edges k
          (let f = firsts.members k in f.1 (record { there = c; first = λ m r. least m r (cases_lt m k) }))) u))
        where
          -- the first edge of its component, which is joined to it, would have the same image
          least : (m : ℕ) → AreJoined l k m → (m < k) ⊎ (k ≤ m) → k ≤ m
          least m r (inl lt) = absurd (n (joined_back k m r (ih m (omega arith) (omega arith) (joined-below l k m r c))))
          least m r (inr le) = le

  module _ (edges_all : (k : ℕ) → k < length l.edges → SameEdge k) where
    port_same : (w : ℕ) (e : Edge) → Member e l.edges → Contains (e.sources ++ e.targets) w → SameWire w
    port_same w e m c =
        let k = member-get l.edges e m in
        edge_wire k.0 w (record { edge = e; is = k.1; has = c }) (edges_all k.0 (slice_get-length l.edges k.0 e k.1))

    -- the wires below a number have the same images where the bare ones below it have
    pub wires_same_below : (wires : List ℕ) → AreThose (IsBare l) wires → (upto : ℕ) → ((w : ℕ) → Member w wires → w < upto → SameWire w)
        → (w : ℕ) → w < upto → w < length l.wires → SameWire w
    wires_same_below wires bares upto agree w u h = go (cases_Bool (is_apart (targets_of l.edges) w)) (cases_Bool (is_apart (sources_of l.edges) w))
      where
        go : (is_apart (targets_of l.edges) w ≡ true) ⊎ (is_apart (targets_of l.edges) w ≡ false)
            → (is_apart (sources_of l.edges) w ≡ true) ⊎ (is_apart (sources_of l.edges) w ≡ false) → SameWire w
        go (inl x) (inl y) = agree w (Contains-member wires w (let f = bares.members w in f.1 (record { there = h; unmade = x; unused = y }))) u
        go (inr x) y =
            let e = flat-member (λ e. e.targets) l.edges w (Contains-member (targets_of l.edges) w (image-contains (targets_of l.edges) w x)) in
            port_same w e.0 e.1 (member-Contains (e.0.sources ++ e.0.targets) w (member-right e.0.sources e.0.targets w e.2))
        go (inl x) (inr y) =
            let e = flat-member (λ e. e.sources) l.edges w (Contains-member (sources_of l.edges) w (image-contains (sources_of l.edges) w y)) in
            port_same w e.0 e.1 (member-Contains (e.0.sources ++ e.0.targets) w (member-left e.0.sources e.0.targets w e.2))

  module _ (edges wires : List ℕ) (firsts : AreThose (IsFirstEdge l) edges) (bares : AreThose (IsBare l) wires)
      (edges_agree : (k : ℕ) → Member k edges → SameEdge k) (wires_agree : (w : ℕ) → Member w wires → SameWire w) where
    edge_same : (k : ℕ) → k < length l.edges → SameEdge k
    edge_same k h = edges_same_below edges firsts (length l.edges) (λ j m u. edges_agree j m) (suc k) k (omega arith) h h

    wire_same : (w : ℕ) → w < length l.wires → SameWire w
    wire_same w h = wires_same_below edge_same wires bares (length l.wires) (λ v m u. wires_agree v m) w h h

    images_same : o ≡ p
    images_same = ap₂ (λ x y. record { edges = x; wires = y })
        (same-places o.edges p.edges (a.edge_count ∙ sym b.edge_count) (λ i h. edge_same i (subst (λ n. i < n) a.edge_count h)))
        (same-places o.wires p.wires (a.wire_count ∙ sym b.wire_count) (λ i h. wire_same i (subst (λ n. i < n) a.wire_count h)))

  -- occurrences with the same images of the anchors are the same
  pub anchors_tell : (anchors : List Anchor) → AreAnchors l anchors → map (image_of o) anchors ≡ map (image_of p) anchors → o ≡ p
  anchors_tell anchors t q = images_same t.edges t.wires t.first_edges t.bare_wires
      (λ k m. same-on (image_of o) (image_of p) anchors (AtEdge k) q
      (subst (Member (AtEdge k)) (sym t.is) (member-left (map AtEdge t.edges) (map AtWire t.wires) (AtEdge k) (member-map AtEdge t.edges k m))))
      (λ w m. same-on (image_of o) (image_of p) anchors (AtWire w) q
      (subst (Member (AtWire w)) (sym t.is) (member-right (map AtEdge t.edges) (map AtWire t.wires) (AtWire w) (member-map AtWire t.wires w m))))

-- ## the choices of images for the anchors

-- all ways to begin the components
choices : (l g : PlainGraph) (anchors : List Anchor) (counts : List ℕ) → AreCounts l g anchors counts → List (List ℕ)
choices l g [] [] t = [] ∷ []
choices l g [] (n ∷ counts) t = absurd t
choices l g (a ∷ anchors) [] t = absurd t
choices l g (a ∷ anchors) (n ∷ counts) t = flat_map (λ x. map (λ c. x ∷ c) (choices l g anchors counts t.1)) t.0.0

length-choices : (l g : PlainGraph) (anchors : List Anchor) (counts : List ℕ) (t : AreCounts l g anchors counts)
    → length (choices l g anchors counts t) ≡ product counts
unfolding choices
length-choices l g [] [] t = refl
length-choices l g [] (n ∷ counts) t = absurd t
length-choices l g (a ∷ anchors) [] t = absurd t
length-choices l g (a ∷ anchors) (n ∷ counts) t = go (choices l g anchors counts t.1) t.0.0 ∙ ap₂ (λ x y. x * y) t.0.2 (length-choices l g anchors counts t.1)
  where
    go : (cs : List (List ℕ)) (xs : List ℕ) → length (flat_map (λ x. map (λ c. x ∷ c) cs) xs) ≡ length xs * length cs
    go cs [] = omega arith
    go cs (x ∷ xs) =
        let e = length-append (map (λ c. x ∷ c) cs) (flat_map (λ x. map (λ c. x ∷ c) cs) xs) in
        let f = length-map cs (λ c. x ∷ c) in
        let g = go cs xs in
        let s : suc (length xs) * length cs ≡ length cs + length xs * length cs = omega arith in
        e ∙ ap₂ (λ u v. u + v) f g ∙ sym s

choices-member : (l g : PlainGraph) (anchors : List Anchor) (counts : List ℕ) (t : AreCounts l g anchors counts) (f : Anchor → ℕ)
    → AllByRecursion (λ a. MayBegin l g a (f a)) anchors → Member (map f anchors) (choices l g anchors counts t)
unfolding choices
choices-member l g [] [] t f h = inl refl
choices-member l g [] (n ∷ counts) t f h = absurd t
choices-member l g (a ∷ anchors) [] t f h = absurd t
choices-member l g (a ∷ anchors) (n ∷ counts) t f h =
    let m = t.0.1.members (f a) in
    member-flat (λ x. map (λ c. x ∷ c) (choices l g anchors counts t.1)) t.0.0 (f a) (f a ∷ map f anchors) (Contains-member t.0.0 (f a) (m.1 h.0))
    (member-map (λ c. f a ∷ c) (choices l g anchors counts t.1) (map f anchors) (choices-member l g anchors counts t.1 f h.1))

-- an anchor begins where the occurrence takes it
pub begins : (l g : PlainGraph) (o : Occurrence) → IsOccurrence l g o.edges o.wires → (a : Anchor) → IsThere l a → MayBegin l g a (image_of o a)
begins l g o q (AtEdge k) h =
    let e = found l.edges k h in (
      e.0,
      e.1,
      record {
        edge = renamed (slice_index o.wires) e.0;
        is = q.ports k h
            ∙ ap (option_map (renamed (slice_index o.wires))) e.1;
        named = refl;
      },
    )
begins l g o q (AtWire w) h = let s = found l.wires w h in (s.0, s.1, q.sorts w h ∙ s.1)

-- there are at most as many as ways to begin the components
pub occurrences_bounded : (l : Parts) (g : PlainGraph) (counts : List ℕ) (os : List Occurrence) → IsPattern l → IsValid g → AreCounts l.graph g l.anchors counts
    → AreOccurrences l.graph g os → length os ≤ product counts
occurrences_bounded l g counts os pattern v t are =
    subst (λ n. length os ≤ n) (length-choices l.graph g l.anchors counts t)
    (pigeonhole (λ o. map (image_of o) l.anchors) os (choices l.graph g l.anchors counts t)
    (Sorted-with IsBefore (λ a b. ¬ (map (image_of a) l.anchors ≡ map (image_of b) l.anchors)) (λ o. IsOccurrence l.graph g o.edges o.wires) differ os
    (all-member (λ o. IsOccurrence l.graph g o.edges o.wires) os occurs) (get-sorted IsBefore os are.ordered))
    (λ o m. choices-member l.graph g l.anchors counts t (image_of o)
    (all-get (λ a. MayBegin l.graph g a (image_of o a)) l.anchors
    (λ i a e. begins l.graph g o (occurs o m) a (anchor-there l.graph l.anchors pattern.anchors i a e)))))
  where
    occurs : (o : Occurrence) → Member o os → IsOccurrence l.graph g o.edges o.wires
    occurs o m = let f = are.members o in f.0 (member-Contains os o m)

    differ : (a b : Occurrence) → IsOccurrence l.graph g a.edges a.wires → IsOccurrence l.graph g b.edges b.wires → IsBefore a b
        → ¬ (map (image_of a) l.anchors ≡ map (image_of b) l.anchors)
    differ a b p q r e =
        let s : IsBefore b b = subst (λ z. IsBefore z b) (anchors_tell l.graph g v a b p q l.anchors pattern.anchors e) r in
        less-anti (b.edges ++ b.wires) (b.edges ++ b.wires) s s
