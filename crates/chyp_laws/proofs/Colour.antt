-- The two closed sets of edges of a graph with an occurrence: those that are not reached, and those of them outside the image.
use Rattle.std.proofs.Common.{ℕ, ◌<◌, ◌≡◌, Bool, true, false, List, [], ◌∷◌, map, length, option_map, slice_get, slice_index, ◌⊎◌, inl, inr, refl, sym, ◌∙◌, ap, subst, arith}
use Rattle.std.specs.Prelude.{Contains}
use Rattle.std.specs.List.{AllByRecursion}
use Rattle.std.proofs.lemmas.Bool.{cases_Bool, both_ways}
use Rattle.chyp_term.specs.Morphism.{Morphism, dom, IsTyped}
use Rattle.chyp_term.specs.Perm.{count_from}
use Rattle.chyp_term.specs.Positions.{is_apart}
use Rattle.chyp_theory.proofs.Peeling.{ins, length-ins_of}
use Rattle.chyp_theory.proofs.Renaming.{Producer, In, Target, map-src}
use Rattle.chyp_theory.proofs.Running.{EdgeOf, label_of, src}
use Rattle.chyp_graph.specs.PlainGraph.{PlainGraph, renamed}
use Rattle.chyp_term.proofs.Rearrangement.{all-count}
use Rattle.chyp_laws.proofs.Drawing.{IsWire, drawn}
use Rattle.chyp_laws.proofs.Draws.{Draws, edge-below}
use Rattle.chyp_term.proofs.Positions.{some-same, map-map}
use Rattle.chyp_pattern.specs.Occurrence.{IsReached, IsOccurrence, first, next}
use Rattle.chyp_term.proofs.Apart.{all-mapped}
use Rattle.chyp_theory.proofs.Forward.{forward}
use Rattle.chyp_laws.proofs.Front.{low_run}
use Rattle.chyp_term.proofs.SameMembers.{contains-all, contains-at, contains-cons, count-contains, image-contains, index-image}
use Rattle.chyp_theory.proofs.Closed.{IsMadeIn, IsClosed}
use Rattle.chyp_pattern.proofs.Reached.{decide-reached}

module _ {t l : Morphism} (ty : IsTyped t) (tl : IsTyped l) {g lG : PlainGraph} (d : Draws t g) (dl : Draws l lG) {es ws : List ℕ}
    (o : IsOccurrence lG g es ws) where
  -- the edge is reached
  abbrev pub Reached : EdgeOf t → Type 0
  Reached e = IsReached g es ws (d.edge e)

  -- what makes the wires that the edge takes
  abbrev pub into : EdgeOf t → List (Producer (EdgeOf t))
  into e = src t (λ e i. Target e i) (ins t) e

  abbrev Hot : Producer (EdgeOf t) → Type 0
  Hot (In j) = is_apart ws (d.wire (In j)) ≡ false
  Hot (Target e i) = (is_apart ws (d.wire (Target e i)) ≡ false) ⊎ (Reached e)

  sources_are : (e : EdgeOf t) → map d.wire (into e) ≡ src t (λ e i. d.wire (Target e i)) g.inputs e
  sources_are e =
      map-src d.wire t ty (λ e i. Target e i) (ins t) (length-ins_of t) e
      ∙ ap (λ z. src t (λ e i. d.wire (Target e i)) z e) (map-map d.wire (λ j. In j) (count_from 0 (length (dom t))) ∙ sym d.inputs)

  -- a hot wire that goes into an outside edge reaches it
  reach : (e : EdgeOf t) → is_apart es (d.edge e) ≡ true → (x : Producer (EdgeOf t)) → IsWire t x → Contains (map d.wire (into e)) (d.wire x) → Hot x
      → Reached e
  reach e q (In j) v c h = first (d.ports e) q (image-contains ws _ h) (subst (λ z. Contains z (d.wire (In j))) (sources_are e) c)
  reach e q (Target f i) v c (inl h) = first (d.ports e) q (image-contains ws _ h) (subst (λ z. Contains z (d.wire (Target f i))) (sources_are e) c)
  reach e q (Target f i) v c (inr r) =
      next r (d.ports f) (d.ports e) q (count-contains (λ i. d.wire (Target f i)) (length (label_of t f).cod) i v)
      (subst (λ z. Contains z (d.wire (Target f i))) (sources_are e) c)

  valid_into : (e : EdgeOf t) → AllByRecursion (IsWire t) (into e)
  valid_into =
      forward t (IsWire t) (λ e. AllByRecursion (IsWire t) (into e)) (λ e i. Target e i) (ins t)
      (all-count (IsWire t) (λ j. In j) 0 (length (dom t)) (λ j _ h. omega arith)) (λ e a. a) (λ e p i h. h)

  each : (Q : Producer (EdgeOf t) → Type 0) (xs : List (Producer (EdgeOf t))) → AllByRecursion (IsWire t) xs
      → ((x : Producer (EdgeOf t)) → IsWire t x → Contains (map d.wire xs) (d.wire x) → Q x) → AllByRecursion Q xs
  each Q [] a f = tt
  each Q (x ∷ xs) a f = (f x a.0 (0, omega arith, refl), each Q xs a.1 (λ y v c. f y v (contains-cons (d.wire x) (map d.wire xs) (d.wire y) c)))

  -- an edge inside the image is the image of one of l
  pub matched : (f : EdgeOf t) → is_apart es (d.edge f) ≡ false → (e : EdgeOf l) × (slice_index es (dl.edge e) ≡ d.edge f)
  matched f q =
      let c = contains-at es (d.edge f) (image-contains es (d.edge f) q) in
      let x = dl.edge_onto c.0 (subst (λ n. c.0 < n) o.edge_count c.1) in
      (x.0, ap (slice_index es) x.2 ∙ c.2)

  -- with the ports of that one, renamed
  pub same_ports : (e : EdgeOf l) (f : EdgeOf t) → slice_index es (dl.edge e) ≡ d.edge f
      → drawn t (λ e i. d.wire (Target e i)) g.inputs f ≡ renamed (slice_index ws) (drawn l (λ e i. dl.wire (Target e i)) lG.inputs e)
  same_ports e f q =
      some-same _ _ (sym (d.ports f) ∙ ap (slice_get g.edges) (sym q) ∙ o.ports (dl.edge e) (edge-below dl e)
      ∙ ap (option_map (renamed (slice_index ws))) (dl.ports e))

  low_image : (v : ℕ) → v < length lG.wires → is_apart ws (slice_index ws v) ≡ false
  low_image v h = index-image ws v (subst (λ n. v < n) (sym o.wire_count) h)

  image_target : (e : EdgeOf l) (f : EdgeOf t) → slice_index es (dl.edge e) ≡ d.edge f
      → AllByRecursion (λ w. is_apart ws w ≡ false) (map (λ i. d.wire (Target f i)) (count_from 0 (length (label_of t f).cod)))
  image_target e f q = subst (AllByRecursion (λ w. is_apart ws w ≡ false)) (sym (ap (λ z. z.targets) (same_ports e f q)))
      (all-mapped (λ v. v < length lG.wires) (λ w. is_apart ws w ≡ false) (slice_index ws) low_image _
      (all-count (λ v. v < length lG.wires) (λ i. dl.wire (Target e i)) 0 (length (label_of l e).cod) (λ i _ h. dl.wire_below (Target e i) (omega arith))))

  image_source : (e : EdgeOf l) (f : EdgeOf t) → slice_index es (dl.edge e) ≡ d.edge f
      → AllByRecursion (λ w. is_apart ws w ≡ false) (src t (λ e i. d.wire (Target e i)) g.inputs f)
  image_source e f q = subst (AllByRecursion (λ w. is_apart ws w ≡ false)) (sym (ap (λ z. z.sources) (same_ports e f q)))
      (all-mapped (λ v. v < length lG.wires) (λ w. is_apart ws w ≡ false) (slice_index ws) low_image _ ((low_run tl dl).1 e))

  abbrev pub pick : {A B : Type 0} → A ⊎ B → Bool → Bool
  pick (inl a) c = false
  pick (inr b) c = c

  -- not reached
  abbrev pub Calm : EdgeOf t → Bool
  Calm e = pick (decide-reached g es ws (d.edge e)) true

  -- not reached, and outside
  abbrev pub Before : EdgeOf t → Bool
  Before e = pick (decide-reached g es ws (d.edge e)) (is_apart es (d.edge e))

  pub calm_not : (e : EdgeOf t) → Calm e ≡ true → ¬ (Reached e)
  calm_not e q = go (decide-reached g es ws (d.edge e)) q
    where
      go : (x : (Reached e) ⊎ (¬ (Reached e))) → pick x true ≡ true → ¬ (Reached e)
      go (inl r) q = cc
      go (inr n) q = n

  pub not_calm : (e : EdgeOf t) → Calm e ≡ false → Reached e
  not_calm e q = go (decide-reached g es ws (d.edge e)) q
    where
      go : (x : (Reached e) ⊎ (¬ (Reached e))) → pick x true ≡ false → Reached e
      go (inl r) q = r
      go (inr n) q = cc

  is_calm : (e : EdgeOf t) → ¬ (Reached e) → Calm e ≡ true
  is_calm e n = go (decide-reached g es ws (d.edge e))
    where
      go : (x : (Reached e) ⊎ (¬ (Reached e))) → pick x true ≡ true
      go (inl r) = absurd (n r)
      go (inr m) = refl

  pub before_not : (e : EdgeOf t) → Before e ≡ true → (¬ (Reached e)) × (is_apart es (d.edge e) ≡ true)
  before_not e q = go (decide-reached g es ws (d.edge e)) q
    where
      go : (x : (Reached e) ⊎ (¬ (Reached e))) → pick x (is_apart es (d.edge e)) ≡ true → (¬ (Reached e)) × (is_apart es (d.edge e) ≡ true)
      go (inl r) q = cc
      go (inr n) q = (n, q)

  is_before : (e : EdgeOf t) → ¬ (Reached e) → is_apart es (d.edge e) ≡ true → Before e ≡ true
  is_before e n q = go (decide-reached g es ws (d.edge e))
    where
      go : (x : (Reached e) ⊎ (¬ (Reached e))) → pick x (is_apart es (d.edge e)) ≡ true
      go (inl r) = absurd (n r)
      go (inr m) = q

  pub calm_image : (e : EdgeOf t) → Calm e ≡ true → Before e ≡ false → is_apart es (d.edge e) ≡ false
  calm_image e q z = go (decide-reached g es ws (d.edge e)) q z
    where
      go : (x : (Reached e) ⊎ (¬ (Reached e))) → pick x true ≡ true → pick x (is_apart es (d.edge e)) ≡ false → is_apart es (d.edge e) ≡ false
      go (inl r) q z = cc
      go (inr n) q z = z

  -- what makes a source of an outside edge that is not reached is such an edge
  pub before_closed : IsClosed t Before
  before_closed e q = each (IsMadeIn Before) (into e) (valid_into e) (λ x v c. go x v c)
    where
      go : (x : Producer (EdgeOf t)) → IsWire t x → Contains (map d.wire (into e)) (d.wire x) → IsMadeIn Before x
      go (In j) v c = tt
      go (Target f i) v c = is_before f (λ r. b.0 (reach e b.1 (Target f i) v c (inr r))) (apart (cases_Bool (is_apart es (d.edge f))))
        where
          b : (¬ (Reached e)) × (is_apart es (d.edge e) ≡ true)
          b = before_not e q

          apart : (is_apart es (d.edge f) ≡ true) ⊎ (is_apart es (d.edge f) ≡ false) → is_apart es (d.edge f) ≡ true
          apart (inl z) = z
          apart (inr z) = let m = matched f z in
              absurd (b.0 (reach e b.1 (Target f i) v c
              (inl (contains-all (λ w. is_apart ws w ≡ false) _ (d.wire (Target f i)) (image_target m.0 f m.1)
              (count-contains (λ i. d.wire (Target f i)) (length (label_of t f).cod) i v)))))

  -- what makes a source of an edge that is not reached is not reached, by convexity
  pub calm_closed : IsClosed t Calm
  calm_closed e q = each (IsMadeIn Calm) (into e) (valid_into e) (λ x v c. go x v c)
    where
      go : (x : Producer (EdgeOf t)) → IsWire t x → Contains (map d.wire (into e)) (d.wire x) → IsMadeIn Calm x
      go (In j) v c = tt
      go (Target f i) v c = is_calm f (λ r. by (cases_Bool (is_apart es (d.edge e))) r)
        where
          by : (is_apart es (d.edge e) ≡ true) ⊎ (is_apart es (d.edge e) ≡ false) → Reached f → ⊥
          by (inl z) r = calm_not e q (reach e z (Target f i) v c (inr r))
          by (inr z) r =
              let m = matched e z in
              both_ways (is_apart ws (d.wire (Target f i)))
              (contains-all (λ w. is_apart ws w ≡ false) _ (d.wire (Target f i)) (image_source m.0 e m.1)
              (subst (λ z. Contains z (d.wire (Target f i))) (sources_are e) c))
              (o.convex (d.edge f) _ (d.wire (Target f i)) r (d.ports f) (count-contains (λ i. d.wire (Target f i)) (length (label_of t f).cod) i v))
