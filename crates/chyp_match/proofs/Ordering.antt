-- Occurrences in the order of the images of the anchors are in lexicographic order.
use Rattle.std.proofs.Common.{ℕ, zero, suc, ◌+◌, ◌-◌, ◌<◌, ◌≤◌, ◌≡◌, List, [], ◌∷◌, ◌++◌, map, length, Option, Some, option_map, slice_get, slice_index, ◌⊎◌, inl, inr}
use Rattle.std.proofs.Common.{refl, sym, ◌∙◌, ap, subst, arith, length-append}
use Rattle.std.proofs.lemmas.Bool.{cases_lt}
use Rattle.std.proofs.lemmas.List.{length-map}
use Rattle.chyp_term.proofs.Closure.{index-get}
use Rattle.chyp_term.proofs.Members.{Member, get-member, member-Contains, member-get}
use Rattle.chyp_term.proofs.Permuted.{found, get-append_left, get-append_right, get-map}
use Rattle.chyp_term.proofs.Positions.{slice_get-length}
use Rattle.chyp_graph.specs.PlainGraph.{PlainGraph}
use Rattle.chyp_graph.specs.Validity.{IsValid}
use Rattle.chyp_pattern.specs.Component.{AreAnchors}
use Rattle.chyp_pattern.specs.Occurrence.{IsOccurrence}
use Rattle.chyp_pattern.specs.Occurrences.{IsLess}
use Rattle.chyp_pattern.specs.declared.anchor.Anchor.{Anchor}
use Rattle.chyp_pattern.specs.declared.anchor.Anchor.TheVariants.{Edge as AtEdge, Wire as AtWire}
use Rattle.chyp_pattern.specs.declared.occurrence.Occurrence.{Occurrence}
use Rattle.chyp_match.specs.Search.{image_of}
use Rattle.chyp_match.proofs.Bounding.{edges_same_below, wires_same_below}

-- ## the first place at which two lists differ

-- the lists are the same before a place, and the first has less there
record DifferAt (xs ys : List ℕ) : Type 0 where
  pub place : ℕ
  pub first : ℕ
  pub second : ℕ
  pub first_is : slice_get xs place ≡ Some first
  pub second_is : slice_get ys place ≡ Some second
  pub less : first < second
  pub before : (j : ℕ) → j < place → slice_get xs j ≡ slice_get ys j

differ : (xs ys : List ℕ) → length xs ≡ length ys → IsLess xs ys → DifferAt xs ys
differ [] [] n a = absurd a
differ [] (y ∷ ys) n a = absurd (omega arith)
differ (x ∷ xs) [] n a = absurd a
differ (x ∷ xs) (y ∷ ys) n (inl a) = record { place = 0; first = x; second = y; first_is = refl; second_is = refl; less = a; before = λ j h. absurd (omega arith) }
differ (x ∷ xs) (y ∷ ys) n (inr a) = go (differ xs ys (omega arith) a.1)
  where
    same : (n : ℕ) → ((j : ℕ) → j < n → slice_get xs j ≡ slice_get ys j) → (j : ℕ) → j < suc n → slice_get (x ∷ xs) j ≡ slice_get (y ∷ ys) j
    same n f zero h = ap (λ z. Some z) a.0
    same n f (suc j) h = f j (omega arith)

    go : DifferAt xs ys → DifferAt (x ∷ xs) (y ∷ ys)
    go r = record { place = suc r.place; first = r.first; second = r.second; first_is = r.first_is; second_is = r.second_is; less = r.less; before = same r.place r.before }

less-place : (i : ℕ) (xs ys : List ℕ) (x y : ℕ) → slice_get xs i ≡ Some x → slice_get ys i ≡ Some y → x < y → ((j : ℕ) → j < i → slice_get xs j ≡ slice_get ys j) → IsLess xs ys
less-place i [] ys x y p q a f = cc
less-place i (u ∷ us) [] x y p q a f = cc
less-place zero (u ∷ us) (v ∷ vs) x y p q a f = let e : u ≡ x = cc in let g : v ≡ y = cc in inl (omega arith)
less-place (suc i) (u ∷ us) (v ∷ vs) x y p q a f =
    let e = f 0 (omega arith) in
    let same : u ≡ v = cc in
    inr (same, less-place i us vs x y p q a (λ j h. f (suc j) (omega arith)))

same-get : (xs ys : List ℕ) → length xs ≡ length ys → (i : ℕ) → slice_index xs i ≡ slice_index ys i → slice_get xs i ≡ slice_get ys i
same-get [] [] n i e = refl
same-get [] (y ∷ ys) n i e = absurd (omega arith)
same-get (x ∷ xs) [] n i e = absurd (omega arith)
same-get (x ∷ xs) (y ∷ ys) n zero e = ap (λ z. Some z) e
same-get (x ∷ xs) (y ∷ ys) n (suc i) e = same-get xs ys (omega arith) i e

index-found : (xs : List ℕ) (i x : ℕ) → i < length xs → slice_index xs i ≡ x → slice_get xs i ≡ Some x
index-found xs i x h e = let f = found xs i h in f.1 ∙ ap (λ z. Some z) (sym (index-get xs i f.0 f.1) ∙ e)

map-found : (f : Anchor → ℕ) (anchors : List Anchor) (i x : ℕ) → slice_get (map f anchors) i ≡ Some x → (a : Anchor) × (slice_get anchors i ≡ Some a) × (f a ≡ x)
map-found f anchors i x e =
    let b = slice_get-length (map f anchors) i x e in
    let n = length-map anchors f in
    let a = found anchors i (omega arith) in
    let both : ◌≡◌ {A = Option ℕ} (Some (f a.0)) (Some x) = sym (get-map f anchors i ∙ ap (option_map f) a.1) ∙ e in
    (a.0, a.1, cc)

some-number : (x y : ℕ) → ◌≡◌ {A = Option ℕ} (Some x) (Some y) → x ≡ y
some-number x y e = cc

module _ (l g : PlainGraph) (v : IsValid g) (o p : Occurrence) (a : IsOccurrence l g o.edges o.wires) (b : IsOccurrence l g p.edges p.wires) (anchors : List Anchor) (t : AreAnchors l anchors)
  where
    edge_at : (i k : ℕ) → slice_get t.edges i ≡ Some k → slice_get anchors i ≡ Some (AtEdge k)
    edge_at i k e =
        let h = slice_get-length t.edges i k e in
        let n = length-map t.edges AtEdge in
        ap (λ xs. slice_get xs i) t.is ∙ get-append_left (map AtEdge t.edges) (map AtWire t.wires) i (omega arith) ∙ get-map AtEdge t.edges i ∙ ap (option_map AtEdge) e

    wire_at : (i w : ℕ) → slice_get t.wires i ≡ Some w → slice_get anchors (length t.edges + i) ≡ Some (AtWire w)
    wire_at i w e =
        let n = length-map t.edges AtEdge in
        let q : length t.edges + i ≡ length (map AtEdge t.edges) + i = omega arith in
        ap (λ xs. slice_get xs (length t.edges + i)) t.is ∙ ap (slice_get (map AtEdge t.edges ++ map AtWire t.wires)) q ∙ get-append_right (map AtEdge t.edges) (map AtWire t.wires) i
        ∙ get-map AtWire t.wires i ∙ ap (option_map AtWire) e

    -- where the images of the anchors agree before a place, those of an anchor there do
    agree : (n : ℕ) → ((j : ℕ) → j < n → slice_get (map (image_of o) anchors) j ≡ slice_get (map (image_of p) anchors) j) → (j : ℕ) (x : Anchor) → j < n → slice_get anchors j ≡ Some x
        → image_of o x ≡ image_of p x
    agree n f j x h e =
        some-number (image_of o x) (image_of p x)
        (sym (get-map (image_of o) anchors j ∙ ap (option_map (image_of o)) e) ∙ f j h ∙ get-map (image_of p) anchors j ∙ ap (option_map (image_of p)) e)

    -- where they differ first at an edge, the lists of images do
    at_edge : (i k : ℕ) → slice_get t.edges i ≡ Some k → image_of o (AtEdge k) < image_of p (AtEdge k)
        → ((j : ℕ) → j < i → slice_get (map (image_of o) anchors) j ≡ slice_get (map (image_of p) anchors) j) → IsLess (o.edges ++ o.wires) (p.edges ++ p.wires)
    at_edge i k e less f =
        less-place k (o.edges ++ o.wires) (p.edges ++ p.wires) (slice_index o.edges k) (slice_index p.edges k)
        (get-append_left o.edges o.wires k inside ∙ index-found o.edges k (slice_index o.edges k) inside refl)
        (get-append_left p.edges p.wires k within ∙ index-found p.edges k (slice_index p.edges k) within refl) less
        (λ j h. let one = same j h in let u = inside in let w = within in
        get-append_left o.edges o.wires j (omega arith) ∙ same-get o.edges p.edges (a.edge_count ∙ sym b.edge_count) j one ∙ sym (get-append_left p.edges p.wires j (omega arith)))
      where
        there : k < length l.edges
        there = let m = t.first_edges.members k in (m.0 (member-Contains t.edges k (get-member t.edges i k e))).there

        inside : k < length o.edges
        inside = subst (λ n. k < n) (sym a.edge_count) there

        within : k < length p.edges
        within = subst (λ n. k < n) (sym b.edge_count) there

        first : (m : ℕ) → Member m t.edges → m < k → slice_index o.edges m ≡ slice_index p.edges m
        first m h u = let j = member-get t.edges m h in go j.0 j.1 (cases_lt j.0 i)
          where
            go : (j : ℕ) → slice_get t.edges j ≡ Some m → (j < i) ⊎ (i ≤ j) → slice_index o.edges m ≡ slice_index p.edges m
            go j q (inl c) = agree i f j (AtEdge m) c (edge_at j m q)
            go j q (inr c) = later (cases_lt i j)
              where
                later : (i < j) ⊎ (j ≤ i) → slice_index o.edges m ≡ slice_index p.edges m
                later (inl d) = let w = t.first_edges.increasing i j k m d e q in absurd (omega arith)
                later (inr d) = let z : j ≡ i = omega arith in let one = some-number m k (sym q ∙ ap (slice_get t.edges) z ∙ e) in absurd (omega arith)

        same : (m : ℕ) → m < k → slice_index o.edges m ≡ slice_index p.edges m
        same m h = let n = there in edges_same_below l g v o p a b t.edges t.first_edges k first (suc m) m (omega arith) h (omega arith)

    -- where they differ first at a bare wire, too
    at_wire : (i w : ℕ) → slice_get t.wires i ≡ Some w → image_of o (AtWire w) < image_of p (AtWire w)
        → ((j : ℕ) → j < length t.edges + i → slice_get (map (image_of o) anchors) j ≡ slice_get (map (image_of p) anchors) j) → IsLess (o.edges ++ o.wires) (p.edges ++ p.wires)
    at_wire i w e less f =
        less-place (length o.edges + w) (o.edges ++ o.wires) (p.edges ++ p.wires) (slice_index o.wires w) (slice_index p.wires w)
        (get-append_right o.edges o.wires w ∙ index-found o.wires w (slice_index o.wires w) inside refl)
        (ap (slice_get (p.edges ++ p.wires)) counts ∙ get-append_right p.edges p.wires w ∙ index-found p.wires w (slice_index p.wires w) within refl) less
        (λ j h. before j h (cases_lt j (length o.edges)))
      where
        there : w < length l.wires
        there = let m = t.bare_wires.members w in (m.0 (member-Contains t.wires w (get-member t.wires i w e))).there

        inside : w < length o.wires
        inside = subst (λ n. w < n) (sym a.wire_count) there

        within : w < length p.wires
        within = subst (λ n. w < n) (sym b.wire_count) there

        counts : length o.edges + w ≡ length p.edges + w
        counts = ap (λ n. n + w) (a.edge_count ∙ sym b.edge_count)

        first : (m : ℕ) → Member m t.edges → slice_index o.edges m ≡ slice_index p.edges m
        first m h =
            let j = member-get t.edges m h in
            let c = slice_get-length t.edges j.0 m j.1 in
            agree (length t.edges + i) f j.0 (AtEdge m) (omega arith) (edge_at j.0 m j.1)

        edges : (m : ℕ) → m < length l.edges → slice_index o.edges m ≡ slice_index p.edges m
        edges m h = edges_same_below l g v o p a b t.edges t.first_edges (length l.edges) (λ x y z. first x y) (suc m) m (omega arith) h h

        bare : (u : ℕ) → Member u t.wires → u < w → slice_index o.wires u ≡ slice_index p.wires u
        bare u h c = let j = member-get t.wires u h in go j.0 j.1 (cases_lt j.0 i)
          where
            go : (j : ℕ) → slice_get t.wires j ≡ Some u → (j < i) ⊎ (i ≤ j) → slice_index o.wires u ≡ slice_index p.wires u
            go j q (inl d) = agree (length t.edges + i) f (length t.edges + j) (AtWire u) (omega arith) (wire_at j u q)
            go j q (inr d) = later (cases_lt i j)
              where
                later : (i < j) ⊎ (j ≤ i) → slice_index o.wires u ≡ slice_index p.wires u
                later (inl x) = let y = t.bare_wires.increasing i j w u x e q in absurd (omega arith)
                later (inr x) = let z : j ≡ i = omega arith in let one = some-number u w (sym q ∙ ap (slice_get t.wires) z ∙ e) in absurd (omega arith)

        wires : (u : ℕ) → u < w → slice_index o.wires u ≡ slice_index p.wires u
        wires u h = let n = there in wires_same_below l g v o p a b edges t.wires t.bare_wires w bare u h (omega arith)

        before : (j : ℕ) → j < length o.edges + w → (j < length o.edges) ⊎ (length o.edges ≤ j) → slice_get (o.edges ++ o.wires) j ≡ slice_get (p.edges ++ p.wires) j
        before j h (inl c) =
            let n = a.edge_count in
            let m = b.edge_count in
            get-append_left o.edges o.wires j c ∙ same-get o.edges p.edges (n ∙ sym m) j (edges j (omega arith)) ∙ sym (get-append_left p.edges p.wires j (omega arith))
        before j h (inr c) =
            let n = a.edge_count in
            let m = b.edge_count in
            let q : j ≡ length o.edges + (j - length o.edges) = omega arith in
            let r : length p.edges + (j - length o.edges) ≡ j = omega arith in
            ap (slice_get (o.edges ++ o.wires)) q ∙ get-append_right o.edges o.wires (j - length o.edges)
            ∙ same-get o.wires p.wires (a.wire_count ∙ sym b.wire_count) (j - length o.edges) (wires (j - length o.edges) (omega arith))
            ∙ sym (get-append_right p.edges p.wires (j - length o.edges)) ∙ ap (slice_get (p.edges ++ p.wires)) r

    pub images_less : IsLess (map (image_of o) anchors) (map (image_of p) anchors) → IsLess (o.edges ++ o.wires) (p.edges ++ p.wires)
    images_less h =
        let d = differ (map (image_of o) anchors) (map (image_of p) anchors) (length-map anchors (image_of o) ∙ sym (length-map anchors (image_of p))) h in
        let x = map-found (image_of o) anchors d.place d.first d.first_is in
        let other : image_of p x.0 ≡ d.second = some-number (image_of p x.0) d.second (sym (get-map (image_of p) anchors d.place ∙ ap (option_map (image_of p)) x.1) ∙ d.second_is) in
        let less : image_of o x.0 < image_of p x.0 = let u = x.2 in let w = d.less in omega arith in
        go d.place d.before x.0 x.1 less (cases_lt d.place (length t.edges))
      where
        some-anchor : (x y : Anchor) → ◌≡◌ {A = Option Anchor} (Some x) (Some y) → x ≡ y
        some-anchor x y e = cc

        go : (n : ℕ) → ((j : ℕ) → j < n → slice_get (map (image_of o) anchors) j ≡ slice_get (map (image_of p) anchors) j) → (x : Anchor) → slice_get anchors n ≡ Some x
            → image_of o x < image_of p x
            → (n < length t.edges) ⊎ (length t.edges ≤ n) → IsLess (o.edges ++ o.wires) (p.edges ++ p.wires)
        go n f x e less (inl c) =
            let k = found t.edges n c in
            let one = some-anchor x (AtEdge k.0) (sym e ∙ edge_at n k.0 k.1) in
            at_edge n k.0 k.1 (subst (λ z. image_of o z < image_of p z) one less) f
        go n f x e less (inr c) =
            let b = slice_get-length anchors n x e in
            let m = ap length t.is ∙ length-append (map AtEdge t.edges) (map AtWire t.wires) in
            let u = length-map t.edges AtEdge in
            let w = length-map t.wires AtWire in
            let k = found t.wires (n - length t.edges) (omega arith) in
            let q : length t.edges + (n - length t.edges) ≡ n = omega arith in
            let one = some-anchor x (AtWire k.0) (sym e ∙ ap (slice_get anchors) (sym q) ∙ wire_at (n - length t.edges) k.0 k.1) in
            at_wire (n - length t.edges) k.0 k.1 (subst (λ z. image_of o z < image_of p z) one less) (λ j h. f j (omega arith))
