-- Where a search stands: the pairs that follow from the images of the first components.
use Rattle.std.proofs.Common.{ℕ, suc, ◌+◌, ◌<◌, ◌≤◌, ◌≡◌, List, [], ◌∷◌, ◌++◌, length, Option, Some, slice_get, slice_index, option_map}
use Rattle.std.proofs.Common.{refl, sym, ◌∙◌, ap, subst, arith, length-append}
use Rattle.std.proofs.lemmas.List.{length-map, map-append}
use Rattle.std.specs.List.{AllByRecursion}
use Rattle.chyp_term.proofs.Distinct.{all-append}
use Rattle.chyp_term.proofs.Permuted.{get-map}
use Rattle.chyp_term.proofs.Positions.{slice_get-length}
use Rattle.chyp_graph.specs.PlainGraph.{PlainGraph}
use Rattle.chyp_pattern.specs.Pattern.{Parts}
use Rattle.chyp_pattern.specs.Occurrence.{IsOccurrence}
use Rattle.chyp_pattern.specs.declared.anchor.Anchor.{Anchor}
use Rattle.chyp_pattern.specs.declared.anchor.Anchor.TheVariants.{Edge as AtEdge, Wire as AtWire}
use Rattle.chyp_pattern.specs.declared.occurrence.Occurrence.{Occurrence}
use Rattle.chyp_pairs.specs.declared.pair.Pair.TheVariants.{Wires, Edges}
use Rattle.chyp_pairs.specs.Pairs.{Has, Pairs}
use Rattle.chyp_iso.specs.Pair.{EdgesFit, WiresFit}
use Rattle.chyp_iso.specs.Following.{Fits}
use Rattle.chyp_match.specs.Embedding.{Embedding}
use Rattle.chyp_match.specs.Following.{IsComplete, Maps, MapsPair}
use Rattle.chyp_match.specs.Search.{BeginsWith, IsPlaced, IsStep, chosen, image_of, images_of, seed_of, start, step}
use Rattle.chyp_match.specs.declared.level.Level.{Level}
use Rattle.chyp_match.proofs.Embedded.{Leads-maps, maps-one}
use Rattle.chyp_match.proofs.Lexicographic.{begins-split}

-- ## lists that end alike

none-push : {A : Type 0} (xs : List A) (x : A) → [] ≡ xs ++ x ∷ [] → ⊥
none-push [] x e = cc
none-push (y ∷ ys) x e = cc

pub push-same : {A : Type 0} (xs ys : List A) (x y : A) → xs ++ x ∷ [] ≡ ys ++ y ∷ [] → (xs ≡ ys) × (x ≡ y)
push-same [] [] x y e = (refl, cc)
push-same [] (z ∷ zs) x y e = let q : [] ≡ zs ++ y ∷ [] = cc in absurd (none-push zs y q)
push-same (z ∷ zs) [] x y e = let q : zs ++ x ∷ [] ≡ [] = cc in absurd (none-push zs x (sym q))
push-same (z ∷ zs) (u ∷ us) x y e = let q : zs ++ x ∷ [] ≡ us ++ y ∷ [] = cc in let r = push-same zs us x y q in let w : z ≡ u = cc in let v = r.0 in (cc, r.1)

pub length-push : {A : Type 0} (xs : List A) (x : A) → length (xs ++ x ∷ []) ≡ suc (length xs)
length-push xs x = let l = length-append xs (x ∷ []) in omega arith

-- ## an occurrence as an embedding

abbrev pub embedding_of : {l g : PlainGraph} (o : Occurrence) → IsOccurrence l g o.edges o.wires → Embedding l g
embedding_of o q = record {
  edge = slice_index o.edges;
  wire = slice_index o.wires;
  edges_apart = λ j k a b e. q.edges_apart j k (subst (λ n. j < n) (sym q.edge_count) a) (subst (λ n. k < n) (sym q.edge_count) b) e;
  wires_apart = λ v w a b e. q.wires_apart v w (subst (λ n. v < n) (sym q.wire_count) a) (subst (λ n. w < n) (sym q.wire_count) b) e;
  sorts = q.sorts;
  ports = q.ports;
}

pub seed-maps : {l g : PlainGraph} (o : Occurrence) (q : IsOccurrence l g o.edges o.wires) (a : Anchor) (x : ℕ) → image_of o a ≡ x → MapsPair (embedding_of o q) (seed_of a x)
seed-maps o q (AtEdge k) x e = e
seed-maps o q (AtWire w) x e = e

pub maps-seed : {l g : PlainGraph} (o : Occurrence) (q : IsOccurrence l g o.edges o.wires) (a : Anchor) (x : ℕ) → MapsPair (embedding_of o q) (seed_of a x) → image_of o a ≡ x
maps-seed o q (AtEdge k) x e = e
maps-seed o q (AtWire w) x e = e

module _ (l : Parts) (g : PlainGraph) where
  pub placed-fits : (s : Pairs) (levels : List Level) → IsPlaced l g s levels → Fits l.graph g s
  placed-fits s levels (start f e) = f
  placed-fits s levels (step p t e) = t.leads.fits

  pub placed-complete : (s : Pairs) (levels : List Level) → IsPlaced l g s levels → IsComplete l.graph g s.pairs
  placed-complete s levels (start f e) = λ p k. absurd (subst (λ ps. Has ps p) e k)
  placed-complete s levels (step p t e) = t.complete

  -- what the last level rests on
  pub record IsLast (t : Pairs) (levels : List Level) (level : Level) : Type 0 where
    pub below : Pairs
    pub placed : IsPlaced l g below levels
    pub step : IsStep l g below t levels level

  pub placed-last : (t : Pairs) (all levels : List Level) (level : Level) → IsPlaced l g t all → all ≡ levels ++ level ∷ [] → IsLast t levels level
  placed-last t all levels level (start f e) q = absurd (none-push levels level q)
  placed-last t all levels level (step {s} {levels = ks} {level = k} p u e) q =
      let r = push-same ks levels k level (sym e ∙ q) in
      record {
        below = s;
        placed = subst (IsPlaced l g s) r.0 p;
        step = subst (λ v. IsStep l g s t levels v) r.1 (subst (λ vs. IsStep l g s t vs k) r.0 u);
      }

  pub chosen-push : (levels : List Level) (level : Level) → chosen (levels ++ level ∷ []) ≡ chosen levels ++ level.image ∷ []
  chosen-push levels level = map-append (λ (v : Level). v.image) levels (level ∷ [])

  pub chosen-length : (levels : List Level) → length (chosen levels) ≡ length levels
  chosen-length levels = length-map levels (λ (v : Level). v.image)

  -- an occurrence that begins with the images makes all pairs
  pub placed-maps : (s : Pairs) (levels : List Level) → IsPlaced l g s levels → (o : Occurrence) (q : IsOccurrence l.graph g o.edges o.wires) → BeginsWith (chosen levels) (images_of l o)
      → Maps (embedding_of o q) s.pairs
  placed-maps s levels (start f e) o q b = λ p k. absurd (subst (λ ps. Has ps p) e k)
  placed-maps t all (step {s} {levels = ks} {level = k} p u e) o q b =
      let c = begins-split (images_of l o) (chosen ks) k.image (subst (λ ns. BeginsWith ns (images_of l o)) (ap chosen e ∙ chosen-push ks k) b) in
      let m : ◌≡◌ {A = Option ℕ} (Some (image_of o u.anchor)) (Some k.image) =
      sym (get-map (image_of o) l.anchors (length ks) ∙ ap (option_map (image_of o)) u.next) ∙ ap (slice_get (images_of l o)) (sym (chosen-length ks)) ∙ c.1 in
      let n : image_of o u.anchor ≡ k.image = cc in
      Leads-maps l.graph g (seed_of u.anchor k.image ∷ []) s t u.leads.fits.second_valid u.leads (embedding_of o q) (placed-maps s ks p o q c.0)
      (maps-one (embedding_of o q) (seed_of u.anchor k.image) (seed-maps o q u.anchor k.image n))

  -- the image of an anchor is there
  fit-below : (s : Pairs) (a : Anchor) (x : ℕ) → Fits l.graph g s → Has s.pairs (seed_of a x) → x < length g.edges + length g.wires
  fit-below s (AtEdge k) x f h = let p : EdgesFit l.graph g k x = f.pairs (Edges k x) h in let b = slice_get-length g.edges x p.second p.second_is in omega arith
  fit-below s (AtWire w) x f h = let p : WiresFit l.graph g w x = f.pairs (Wires w x) h in let b = p.within in omega arith

  pub chosen-below : (s : Pairs) (levels : List Level) → IsPlaced l g s levels → AllByRecursion (λ x. x < length g.edges + length g.wires) (chosen levels)
  chosen-below s levels (start f e) = tt
  chosen-below t all (step {s} {levels = ks} {level = k} p u e) =
      subst (AllByRecursion (λ x. x < length g.edges + length g.wires)) (sym (ap chosen e ∙ chosen-push ks k))
      (all-append (λ x. x < length g.edges + length g.wires) (chosen ks) (k.image ∷ []) (chosen-below s ks p) (fit-below t u.anchor k.image u.leads.fits u.has, tt))

  pub placed-few : (s : Pairs) (levels : List Level) → IsPlaced l g s levels → length levels ≤ length l.anchors
  placed-few s levels (start f e) = omega arith
  placed-few t all (step {s} {levels = ks} {level = k} p u e) = let n = slice_get-length l.anchors (length ks) u.anchor u.next in let m = ap length e ∙ length-push ks k in omega arith
