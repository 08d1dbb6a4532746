-- Occurrences in graphs by numbers.
use Rattle.std.proofs.Common.{ℕ, ◌<◌, ◌≡◌, true, All, List, [], ◌∷◌, ◌++◌, length, map, flat_map, Option, Some, slice_get, slice_index, ◌⊎◌, inl, inr, refl, sym, ◌∙◌, ap, subst, arith}
use Rattle.std.specs.Option.{unwrap_or}
use Rattle.std.specs.Prelude.{option_map}
use Rattle.std.proofs.lemmas.List.{map-append}
use Rattle.chyp_term.specs.Perm.{IsPermutation}
use Rattle.chyp_term.specs.Positions.{is_apart, place_of}
use Rattle.chyp_term.proofs.Blocks.{permutation-has, permutation-member}
use Rattle.chyp_term.proofs.Closure.{index-get}
use Rattle.chyp_term.proofs.Deciding.{Decided}
use Rattle.chyp_term.proofs.Members.{Member, decide-member, flat-member, get-member, map-member, map-same_on, member-flat, member-get, member-left, member-map, member-not_apart, member-right}
use Rattle.chyp_term.proofs.Members.{member-split, not_member-apart, parts-apart}
use Rattle.chyp_term.proofs.Permuted.{found}
use Rattle.chyp_term.proofs.Positions.{map-map, slice_get-length, some-same}
use Rattle.chyp_graph.specs.PlainGraph.{Edge, PlainGraph, renamed}
use Rattle.chyp_graph.specs.Validity.{IsValid}
use Rattle.chyp_match.specs.View.{IsIn, Net}
use Rattle.chyp_pattern.specs.Occurrence.{IsOccurrence}
use Rattle.chyp_store.specs.Items.{AreDistinct, ids, item_at}
use Rattle.chyp_work.specs.Net.{AreMadeOnce, AreUsedOnce, IsSound, place_in, plain}
use Rattle.chyp_work.specs.Replacement.{IsCovered}
use Rattle.chyp_work.proofs.Boards.{item-once}
use Rattle.chyp_work.proofs.Bridge.{all-items, length-mapped}
use Rattle.chyp_work.proofs.Distinct.{apart-distinct, distinct-map, distinct-unmap, flat-once, index-same, member-place, permutation-distinct}
use Rattle.chyp_work.proofs.Nets.{index-place, item-member, map-back}
use Rattle.chyp_work.proofs.Opening.{source-below, target-below}
use Rattle.chyp_work.proofs.Places.{index-map, index-member, place-distinct}
use Rattle.chyp_work.proofs.Putting.{get-map}
use Rattle.chyp_work.proofs.Rerouting.{distinct-apart, distinct-left, distinct-right}

-- ## ports of edges

flat-renamed : (port : Edge → List ℕ) (f : ℕ → ℕ) → ((e : Edge) → port (renamed f e) ≡ map f (port e)) → (edges : List (ℕ × Edge))
    → flat_map port (map (λ e. renamed f e.1) edges) ≡ map f (flat_map (λ e. port e.1) edges)
flat-renamed port f h [] = refl
flat-renamed port f h (e ∷ es) = (λ i. h e.1 i ++ flat-renamed port f h es i) ∙ sym (map-append f (port e.1) (flat_map (λ e. port e.1) es))

-- what a valid graph by places lists once is listed once by numbers
listed-once : (place : ℕ → ℕ) (port : Edge → List ℕ) (outer : List ℕ) (edges : List (ℕ × Edge)) (n : ℕ) → ((e : Edge) → port (renamed place e) ≡ map place (port e))
    → IsPermutation n (map place outer ++ flat_map port (map (λ (e : ℕ × Edge). renamed place e.1) edges)) → AreDistinct (outer ++ flat_map (λ e. port e.1) edges)
listed-once place port outer edges n h t =
    let a = flat-renamed port place h edges in
    let b = map-append place outer (flat_map (λ (e : ℕ × Edge). port e.1) edges) in
    distinct-unmap place (outer ++ flat_map (λ (e : ℕ × Edge). port e.1) edges) (rw (b, ← a) (permutation-distinct n _ t))

pub made-once : (n : Net) → IsSound n → AreMadeOnce n
made-once n s = listed-once (place_in (ids n.wires)) (λ e. e.targets) n.inputs n.edges (length (plain n).wires) (λ e. refl) s.valid.producers

pub used-once : (n : Net) → IsSound n → AreUsedOnce n
used-once n s = listed-once (place_in (ids n.wires)) (λ e. e.sources) n.outputs n.edges (length (plain n).wires) (λ e. refl) s.valid.consumers

-- ## the images of an occurrence

module _ (n : Net) (l : PlainGraph) (es ws : List ℕ) (sound : IsSound n) (valid : IsValid l)
    (o : IsOccurrence l (plain n) (map (place_in (ids n.edges)) es) (map (place_in (ids n.wires)) ws))
    (edge_images : (k : ℕ) → Member k es → Member k (ids n.edges)) (wire_images : (w : ℕ) → Member w ws → Member w (ids n.wires))
  where
    pub edge-count : length es ≡ length l.edges
    edge-count = sym (length-mapped (place_in (ids n.edges)) es) ∙ o.edge_count

    pub wire-count : length ws ≡ length l.wires
    wire-count = sym (length-mapped (place_in (ids n.wires)) ws) ∙ o.wire_count

    pub edges-distinct : AreDistinct es
    edges-distinct = distinct-unmap (place_in (ids n.edges)) es (apart-distinct (map (place_in (ids n.edges)) es) o.edges_apart)

    pub wires-distinct : AreDistinct ws
    wires-distinct = distinct-unmap (place_in (ids n.wires)) ws (apart-distinct (map (place_in (ids n.wires)) ws) o.wires_apart)

    -- the number of a wire, from its place
    number : (v : ℕ) → v < length l.wires → slice_index (ids n.wires) (slice_index (map (place_in (ids n.wires)) ws) v) ≡ slice_index ws v
    number v h =
        let c = wire-count in
        let b : v < length ws = omega arith in
        ap (slice_index (ids n.wires)) (index-map (place_in (ids n.wires)) ws v b) ∙ index-place (ids n.wires) (slice_index ws v) (wire_images (slice_index ws v) (index-member ws v b))

    numbers : (vs : List ℕ) → ((v : ℕ) → Member v vs → v < length l.wires)
        → map (slice_index (ids n.wires)) (map (slice_index (map (place_in (ids n.wires)) ws)) vs) ≡ map (slice_index ws) vs
    numbers vs h = map-map (slice_index (ids n.wires)) (slice_index (map (place_in (ids n.wires)) ws)) vs
        ∙ map-same_on (λ v. slice_index (ids n.wires) (slice_index (map (place_in (ids n.wires)) ws) v)) (slice_index ws) vs (λ v m. number v (h v m))

    -- an edge by numbers, from what it is by places
    edge-numbers : (x : ℕ × Edge) (e : Edge) → Member x n.edges → Member e l.edges → renamed (place_in (ids n.wires)) x.1 ≡ renamed (slice_index (map (place_in (ids n.wires)) ws)) e
        → x.1 ≡ renamed (slice_index ws) e
    edge-numbers x e m k q =
        let c = all-items (λ (e : ℕ × Edge). All (λ w. IsIn w n.wires) e.1.sources × All (λ w. IsIn w n.wires) e.1.targets) n.edges sound.closed.ports x m in
        let s = sym (map-back n.wires x.1.sources c.0) ∙ ap (λ (e : Edge). map (slice_index (ids n.wires)) e.sources) q ∙ numbers e.sources (source-below l valid e k) in
        let t = sym (map-back n.wires x.1.targets c.1) ∙ ap (λ (e : Edge). map (slice_index (ids n.wires)) e.targets) q ∙ numbers e.targets (target-below l valid e k) in
        let a = ap (λ (e : Edge). e.name) q in
        λ i. record { name = a i; sources = s i; targets = t i }

    -- the image of an edge is under its number
    pub image-edge : (j : ℕ) (e : Edge) → slice_get l.edges j ≡ Some e → item_at (slice_index es j) n.edges ≡ Some (renamed (slice_index ws) e)
    image-edge j e g =
        let t = slice_get-length l.edges j e g in
        let c = edge-count in
        let b : j < length es = omega arith in
        let f = map-member (λ (e : ℕ × Edge). e.0) n.edges (slice_index es j) (edge_images (slice_index es j) (index-member es j b)) in
        let i = member-get n.edges f.0 f.1 in
        let p = subst (λ k. place_in (ids n.edges) k ≡ i.0) f.2 (ap (λ (o : Option ℕ). unwrap_or o 0) (place-distinct n.edges i.0 f.0 sound.edges_apart i.1)) in
        let q : slice_index (map (place_in (ids n.edges)) es) j ≡ i.0 = index-map (place_in (ids n.edges)) es j b ∙ p in
        let u = get-map (λ (e : ℕ × Edge). renamed (place_in (ids n.wires)) e.1) n.edges i.0 f.0 i.1 in
        let r = sym u ∙ ap (slice_get (plain n).edges) (sym q) ∙ o.ports j t ∙ ap (option_map (renamed (slice_index (map (place_in (ids n.wires)) ws)))) g in
        let s = edge-numbers f.0 e f.1 (get-member l.edges j e g) (some-same (renamed (place_in (ids n.wires)) f.0.1) (renamed (slice_index (map (place_in (ids n.wires)) ws)) e) r) in
        ap (λ k. item_at k n.edges) (sym f.2) ∙ item-once f.0 n.edges sound.edges_apart f.1 ∙ ap (λ (e : Edge). Some e) s

    -- ## one side of the ports: the sources with the outputs, or the targets with the inputs

    module _ (port : Edge → List ℕ) (port_renamed : (f : ℕ → ℕ) (e : Edge) → port (renamed f e) ≡ map f (port e)) (outer inner : List ℕ)
        (once : AreDistinct (outer ++ flat_map (λ (e : ℕ × Edge). port e.1) n.edges)) (all : IsPermutation (length l.wires) (inner ++ flat_map port l.edges))
      where
        pub inner-below : (v : ℕ) → Member v inner → v < length ws
        inner-below v m = let c = wire-count in let b = permutation-member (length l.wires) (inner ++ flat_map port l.edges) all v (member-left inner (flat_map port l.edges) v m) in omega arith

        port-below : (v : ℕ) → Member v (flat_map port l.edges) → v < length ws
        port-below v m = let c = wire-count in let b = permutation-member (length l.wires) (inner ++ flat_map port l.edges) all v (member-right inner (flat_map port l.edges) v m) in omega arith

        image-port : (v : ℕ) → Member v (flat_map port l.edges) → (x : ℕ × Edge) × (Member x n.edges) × (Member x.0 es) × (Member (slice_index ws v) (port x.1))
        image-port v m =
            let e = flat-member port l.edges v m in
            let j = member-get l.edges e.0 e.1 in
            let t = slice_get-length l.edges j.0 e.0 j.1 in
            let c = edge-count in
            let h = image-edge j.0 e.0 j.1 in
            let b : j.0 < length es = omega arith in (
              (slice_index es j.0, renamed (slice_index ws) e.0),
              item-member (slice_index es j.0) (renamed (slice_index ws) e.0) n.edges h,
              index-member es j.0 b,
              rw (port_renamed (slice_index ws) e.0) (member-map (slice_index ws) (port e.0) v e.2),
            )

        -- a wire of the image is the image of an end, or is at a port of an edge of the image
        image-wire : (w : ℕ) → Member w ws
            → ((i : ℕ) × (place_of w (map (slice_index ws) inner) ≡ Some i)) ⊎ ((x : ℕ × Edge) × (Member x n.edges) × (Member x.0 es) × (Member w (port x.1)))
        image-wire w m = by (member-split inner (flat_map port l.edges) v.0 (permutation-has (length l.wires) (inner ++ flat_map port l.edges) all v.0 below))
          where
            v : (i : ℕ) × (slice_get ws i ≡ Some w)
            v = member-get ws w m

            below : v.0 < length l.wires
            below = let a = slice_get-length ws v.0 w v.1 in let c = wire-count in omega arith

            same : slice_index ws v.0 ≡ w
            same = index-get ws v.0 w v.1

            by : (Member v.0 inner) ⊎ (Member v.0 (flat_map port l.edges))
                → ((i : ℕ) × (place_of w (map (slice_index ws) inner) ≡ Some i)) ⊎ ((x : ℕ × Edge) × (Member x n.edges) × (Member x.0 es) × (Member w (port x.1)))
            by (inl a) = inl (member-place (map (slice_index ws) inner) w (subst (λ w. Member w (map (slice_index ws) inner)) same (member-map (slice_index ws) inner v.0 a)))
            by (inr a) = let x = image-port v.0 a in inr (x.0, x.1, x.2, subst (λ w. Member w (port x.0.1)) same x.3)

        pub outer-covered : (w : ℕ) → Member w outer → IsCovered ws inner w
        outer-covered w m = by (decide-member w ws)
          where
            on : ((i : ℕ) × (place_of w (map (slice_index ws) inner) ≡ Some i)) ⊎ ((x : ℕ × Edge) × (Member x n.edges) × (Member x.0 es) × (Member w (port x.1))) → IsCovered ws inner w
            on (inl a) = inr a
            on (inr x) = absurd (distinct-apart outer (flat_map (λ (e : ℕ × Edge). port e.1) n.edges) once w m (member-flat (λ (e : ℕ × Edge). port e.1) n.edges x.0 w x.1 x.3))

            by : Decided (Member w ws) → IsCovered ws inner w
            by (inl k) = on (image-wire w k)
            by (inr k) = inl (not_member-apart ws w k)

        pub edge-covered : (e : ℕ × Edge) (w : ℕ) → Member e n.edges → is_apart es e.0 ≡ true → Member w (port e.1) → IsCovered ws inner w
        edge-covered e w m a p = by (decide-member w ws)
          where
            on : ((i : ℕ) × (place_of w (map (slice_index ws) inner) ≡ Some i)) ⊎ ((x : ℕ × Edge) × (Member x n.edges) × (Member x.0 es) × (Member w (port x.1))) → IsCovered ws inner w
            on (inl i) = inr i
            on (inr x) =
                let d = distinct-right outer (flat_map (λ (e : ℕ × Edge). port e.1) n.edges) once in
                let q = flat-once (λ (e : ℕ × Edge). port e.1) n.edges d e x.0 w m x.1 p x.3 in
                let b = member-not_apart es e.0 (subst (λ (y : ℕ × Edge). Member y.0 es) (sym q) x.2) in absurd (cc)

            by : Decided (Member w ws) → IsCovered ws inner w
            by (inl k) = on (image-wire w k)
            by (inr k) = inl (not_member-apart ws w k)

        -- what an edge of the image has at its ports is of the image, and the image of no end
        pub image-inner : (k : ℕ) (e : Edge) (w : ℕ) → Member k es → item_at k n.edges ≡ Some e → Member w (port e) → (Member w ws) × (is_apart (map (slice_index ws) inner) w ≡ true)
        image-inner k e w m h p =
            let j = member-get es k m in
            let a = slice_get-length es j.0 k j.1 in
            let c = edge-count in
            let x = found l.edges j.0 (omega arith) in
            let i = ap (λ k. item_at k n.edges) (sym (index-get es j.0 k j.1)) ∙ image-edge j.0 x.0 x.1 in
            let b = some-same e (renamed (slice_index ws) x.0) (sym h ∙ i) in
            let u = map-member (slice_index ws) (port x.0) w (subst (Member w) (ap port b ∙ port_renamed (slice_index ws) x.0) p) in
            let f = member-flat port l.edges x.0 u.0 (get-member l.edges j.0 x.0 x.1) u.1 in (
              subst (λ w. Member w ws) u.2 (index-member ws u.0 (port-below u.0 f)),
              not_member-apart (map (slice_index ws) inner) w (λ y.
                  let t = map-member (slice_index ws) inner w y in
                  let q = index-same ws t.0 u.0 wires-distinct (inner-below t.0 t.1) (port-below u.0 f) (t.2 ∙ sym u.2) in
                  parts-apart (length l.wires) inner (flat_map port l.edges) all u.0 (subst (λ v. Member v inner) q t.1) f),
            )

        pub images-distinct : AreDistinct (map (slice_index ws) inner)
        images-distinct = distinct-map (slice_index ws) inner (λ x y m k e. index-same ws x y wires-distinct (inner-below x m) (inner-below y k) e)
            (distinct-left inner (flat_map port l.edges) (permutation-distinct (length l.wires) (inner ++ flat_map port l.edges) all))

        pub images-there : (w : ℕ) → Member w (map (slice_index ws) inner) → Member w ws
        images-there w m = let v = map-member (slice_index ws) inner w m in subst (λ w. Member w ws) v.2 (index-member ws v.0 (inner-below v.0 v.1))
