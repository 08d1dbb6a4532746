-- Boards that have taken one side of a rule, where its ends take the places of images.
use Rattle.std.proofs.Common.{ℕ, ◌<◌, ◌≡◌, true, All, List, [], ◌∷◌, ◌++◌, length, map, flat_map, Some, slice_index, ◌⊎◌, inl, inr, refl, sym, ◌∙◌, ap, subst, arith, append_assoc}
use Rattle.std.specs.List.{zip}
use Rattle.std.proofs.lemmas.List.{map-append}
use Rattle.chyp_base.specs.declared.sort.Sort.{Sort}
use Rattle.chyp_term.specs.Perm.{IsPermutation}
use Rattle.chyp_term.specs.Positions.{is_apart}
use Rattle.chyp_term.proofs.Blocks.{permutation-has, permutation-member}
use Rattle.chyp_term.proofs.Closure.{index-get}
use Rattle.chyp_term.proofs.Members.{Member, flat-member, map-member, member-get, member-left, member-map, member-not_apart, member-right, member-split, not_member-apart, parts-apart}
use Rattle.chyp_term.proofs.Positions.{slice_get-length}
use Rattle.chyp_term.proofs.Rearrangement.{flat-append}
use Rattle.chyp_graph.specs.PlainGraph.{Edge, PlainGraph, renamed}
use Rattle.chyp_match.specs.View.{IsIn, Net}
use Rattle.chyp_store.specs.Items.{AreDistinct, ids, item_at}
use Rattle.chyp_work.specs.Board.{IsFiled, IsWork, edge_of, net}
use Rattle.chyp_work.specs.Filling.{IsPut, KnowsMaker, KnowsUser, with_graph}
use Rattle.chyp_work.specs.Net.{IsSound}
use Rattle.chyp_work.specs.Rerouting.{MayReroute, made_by, made_in, moved_by, used_by, used_in}
use Rattle.chyp_work.specs.Step.{IsJoined, MayStep}
use Rattle.chyp_work.specs.declared.board.Board.{Board}
use Rattle.chyp_work.specs.declared.board.WireItem.{WireItem}
use Rattle.chyp_work.proofs.Boards.{ids-map}
use Rattle.chyp_work.proofs.Bridge.{all-items, all-member, length-mapped}
use Rattle.chyp_work.proofs.Distinct.{distinct-append, distinct-map, index-same, permutation-distinct}
use Rattle.chyp_work.proofs.Nets.{item-member, there-member}
use Rattle.chyp_work.proofs.Occurring.{images-distinct, made-once, used-once}
use Rattle.chyp_work.proofs.Opening.{member-there}
use Rattle.chyp_work.proofs.Places.{ids-zip, index-member}
use Rattle.chyp_work.proofs.Rerouting.{distinct-apart, distinct-left, distinct-right}
use Rattle.chyp_work.proofs.Stepping.{edge-images, input-image, output-image, same-inputs, same-outputs, wire-images}

-- ## what a sound graph lists is there

made-within : (n : Net) → IsSound n → (w : ℕ) → Member w (made_in n) → Member w (ids n.wires)
made-within n s w m = by (member-split n.inputs (flat_map (λ (e : ℕ × Edge). e.1.targets) n.edges) w m)
  where
    by : (Member w n.inputs) ⊎ (Member w (flat_map (λ (e : ℕ × Edge). e.1.targets) n.edges)) → Member w (ids n.wires)
    by (inl k) = there-member w n.wires (all-member (λ w. IsIn w n.wires) n.inputs s.closed.inputs w k)
    by (inr k) =
        let e = flat-member (λ (e : ℕ × Edge). e.1.targets) n.edges w k in
        let c = all-items (λ (e : ℕ × Edge). All (λ w. IsIn w n.wires) e.1.sources × All (λ w. IsIn w n.wires) e.1.targets) n.edges s.closed.ports e.0 e.1 in
        there-member w n.wires (all-member (λ w. IsIn w n.wires) e.0.1.targets c.1 w e.2)

used-within : (n : Net) → IsSound n → (w : ℕ) → Member w (used_in n) → Member w (ids n.wires)
used-within n s w m = by (member-split n.outputs (flat_map (λ (e : ℕ × Edge). e.1.sources) n.edges) w m)
  where
    by : (Member w n.outputs) ⊎ (Member w (flat_map (λ (e : ℕ × Edge). e.1.sources) n.edges)) → Member w (ids n.wires)
    by (inl k) = there-member w n.wires (all-member (λ w. IsIn w n.wires) n.outputs s.closed.outputs w k)
    by (inr k) =
        let e = flat-member (λ (e : ℕ × Edge). e.1.sources) n.edges w k in
        let c = all-items (λ (e : ℕ × Edge). All (λ w. IsIn w n.wires) e.1.sources × All (λ w. IsIn w n.wires) e.1.targets) n.edges s.closed.ports e.0 e.1 in
        there-member w n.wires (all-member (λ w. IsIn w n.wires) e.0.1.sources c.0 w e.2)

used-made : (images ends : List ℕ) (n : Net) → used_in (made_by images ends n) ≡ used_in n
used-made images ends n = ap (λ l. n.outputs ++ l) (same n.edges)
  where
    same : (es : List (ℕ × Edge)) → flat_map (λ (e : ℕ × Edge). e.1.sources) (map (λ (e : ℕ × Edge). (e.0, record e.1 { targets = map (moved_by images ends) e.1.targets })) es)
        ≡ flat_map (λ (e : ℕ × Edge). e.1.sources) es
    same [] = refl
    same (e ∷ es) = ap (λ l. e.1.sources ++ l) (same es)

-- ## one side of the ports, where the wires of r have come

module _ (n : Net) (r : PlainGraph) (ds vs : List ℕ) (edge_count : length ds ≡ length r.edges) (wire_count : length vs ≡ length r.wires) (wires_apart : AreDistinct (ids n.wires ++ vs))
    (port : Edge → List ℕ) (port_renamed : (f : ℕ → ℕ) (e : Edge) → port (renamed f e) ≡ map f (port e)) (outer inner : List ℕ)
    (once : AreDistinct (outer ++ flat_map (λ (e : ℕ × Edge). port e.1) n.edges))
    (within : (w : ℕ) → Member w (outer ++ flat_map (λ (e : ℕ × Edge). port e.1) n.edges) → Member w (ids n.wires)) (all : IsPermutation (length r.wires) (inner ++ flat_map port r.edges))
  where
    flat-new : (ds : List ℕ) (es : List Edge) → length ds ≡ length es
        → flat_map (λ (e : ℕ × Edge). port e.1) (zip ds (map (renamed (slice_index vs)) es)) ≡ map (slice_index vs) (flat_map port es)
    flat-new [] [] l = refl
    flat-new [] (e ∷ es) l = absurd (omega arith)
    flat-new (d ∷ ds) [] l = absurd (omega arith)
    flat-new (d ∷ ds) (e ∷ es) l =
        let a = port_renamed (slice_index vs) e in
        let b = flat-new ds es (omega arith) in
        (λ i. a i ++ b i) ∙ sym (map-append (slice_index vs) (port e) (flat_map port es))

    listed : outer ++ flat_map (λ (e : ℕ × Edge). port e.1) (n.edges ++ zip ds (map (renamed (slice_index vs)) r.edges))
        ≡ (outer ++ flat_map (λ (e : ℕ × Edge). port e.1) n.edges) ++ map (slice_index vs) (flat_map port r.edges)
    listed =
        ap (λ l. outer ++ l) (flat-append (λ (e : ℕ × Edge). port e.1) n.edges (zip ds (map (renamed (slice_index vs)) r.edges)))
        ∙ ap (λ l. outer ++ (flat_map (λ (e : ℕ × Edge). port e.1) n.edges ++ l)) (flat-new ds r.edges edge_count)
        ∙ sym (append_assoc outer (flat_map (λ (e : ℕ × Edge). port e.1) n.edges) (map (slice_index vs) (flat_map port r.edges)))

    inner-within : (v : ℕ) → Member v inner → v < length vs
    inner-within v m = let b = permutation-member (length r.wires) (inner ++ flat_map port r.edges) all v (member-left inner (flat_map port r.edges) v m) in omega arith

    port-within : (v : ℕ) → Member v (flat_map port r.edges) → v < length vs
    port-within v m = let b = permutation-member (length r.wires) (inner ++ flat_map port r.edges) all v (member-right inner (flat_map port r.edges) v m) in omega arith

    new-there : (xs : List ℕ) → ((v : ℕ) → Member v xs → v < length vs) → (w : ℕ) → Member w (map (slice_index vs) xs) → Member w vs
    new-there xs h w m = let v = map-member (slice_index vs) xs w m in subst (λ w. Member w vs) v.2 (index-member vs v.0 (h v.0 v.1))

    new-distinct : (xs : List ℕ) → AreDistinct xs → ((v : ℕ) → Member v xs → v < length vs) → AreDistinct (map (slice_index vs) xs)
    new-distinct xs d h = distinct-map (slice_index vs) xs (λ x y m k e. index-same vs x y (distinct-right (ids n.wires) vs wires_apart) (h x m) (h y k) e) d

    distinct-all : AreDistinct (inner ++ flat_map port r.edges)
    distinct-all = permutation-distinct (length r.wires) (inner ++ flat_map port r.edges) all

    pub listed-once : AreDistinct (outer ++ flat_map (λ (e : ℕ × Edge). port e.1) (n.edges ++ zip ds (map (renamed (slice_index vs)) r.edges)))
    listed-once = rw listed (distinct-append (outer ++ flat_map (λ (e : ℕ × Edge). port e.1) n.edges) (map (slice_index vs) (flat_map port r.edges)) once
        (new-distinct (flat_map port r.edges) (distinct-right inner (flat_map port r.edges) distinct-all) port-within)
        (λ w m k. distinct-apart (ids n.wires) vs wires_apart w (within w m) (new-there (flat_map port r.edges) port-within w k)))

    pub ends-distinct : AreDistinct (map (slice_index vs) inner)
    ends-distinct = new-distinct inner (distinct-left inner (flat_map port r.edges) distinct-all) inner-within

    pub ends-new : (v : ℕ) → Member v (map (slice_index vs) inner) → Member v vs
    ends-new = new-there inner inner-within

    pub ends-fresh : (v : ℕ) → Member v (map (slice_index vs) inner)
        → is_apart (outer ++ flat_map (λ (e : ℕ × Edge). port e.1) (n.edges ++ zip ds (map (renamed (slice_index vs)) r.edges))) v ≡ true
    ends-fresh v m = rw listed (not_member-apart ((outer ++ flat_map (λ (e : ℕ × Edge). port e.1) n.edges) ++ map (slice_index vs) (flat_map port r.edges)) v (λ k.
        by (member-split (outer ++ flat_map (λ (e : ℕ × Edge). port e.1) n.edges) (map (slice_index vs) (flat_map port r.edges)) v k)))
      where
        by : (Member v (outer ++ flat_map (λ (e : ℕ × Edge). port e.1) n.edges)) ⊎ (Member v (map (slice_index vs) (flat_map port r.edges))) → ⊥
        by (inl k) = distinct-apart (ids n.wires) vs wires_apart v (within v k) (ends-new v m)
        by (inr k) =
            let a = map-member (slice_index vs) inner v m in
            let b = map-member (slice_index vs) (flat_map port r.edges) v k in
            let q = index-same vs a.0 b.0 (distinct-right (ids n.wires) vs wires_apart) (inner-within a.0 a.1) (port-within b.0 b.1) (a.2 ∙ sym b.2) in
            parts-apart (length r.wires) inner (flat_map port r.edges) all b.0 (subst (λ x. Member x inner) q a.1) b.1

    -- each wire that is no image is known on this side, once the ends have taken the places of the images
    pub each-known : (Was Is : ℕ → Type 0) (ws images ends : List ℕ) → ((w : ℕ) → Member w images → Member w ws) → ((w : ℕ) → Member w ws → Member w (ids n.wires))
        → ends ≡ map (slice_index vs) inner → ((w : ℕ) → is_apart images w ≡ true → Was w → Is w) → ((v : ℕ) → Member v ends → Is v) → ((w : ℕ) → Member w (ids n.wires) → Was w)
        → ((v : ℕ) → Member v (flat_map port r.edges) → Was (slice_index vs v)) → (w : ℕ) → is_apart ws w ≡ true → Member w (ids n.wires ++ vs) → Is w
    each-known Was Is ws images ends sub images_there e kept made old new w a m = by (member-split (ids n.wires) vs w m)
      where
        other : (u : ℕ) → is_apart ws u ≡ true → is_apart images u ≡ true
        other u a = not_member-apart images u (λ k. let b = member-not_apart ws u (sub u k) in absurd (cc))

        new-other : (u : ℕ) → Member u vs → is_apart ws u ≡ true
        new-other u k = not_member-apart ws u (λ i. distinct-apart (ids n.wires) vs wires_apart u (images_there u i) k)

        at : (v : ℕ) → v < length vs → (Member v inner) ⊎ (Member v (flat_map port r.edges)) → Is (slice_index vs v)
        at v h (inl i) = made (slice_index vs v) (rw e (member-map (slice_index vs) inner v i))
        at v h (inr i) = kept (slice_index vs v) (other (slice_index vs v) (new-other (slice_index vs v) (index-member vs v h))) (new v i)

        by : (Member w (ids n.wires)) ⊎ (Member w vs) → Is w
        by (inl k) = kept w (other w a) (old w k)
        by (inr k) =
            let v = member-get vs w k in
            let h = slice_get-length vs v.0 w v.1 in
            let b : v.0 < length r.wires = omega arith in
            subst Is (index-get vs v.0 w v.1) (at v.0 h (member-split inner (flat_map port r.edges) v.0 (permutation-has (length r.wires) (inner ++ flat_map port r.edges) all v.0 b)))

-- ## boards

-- c is b, where what made the images makes the ends
pub record MakesEnds (b c : Board) (images ends : List ℕ) : Type 0 where
  pub graph : net c ≡ made_by images ends (net b)
  pub kept : (w : ℕ) → is_apart images w ≡ true → KnowsMaker b w → KnowsMaker c w
  pub makers : (v : ℕ) → Member v ends → KnowsMaker c v
  pub users : (w : ℕ) → KnowsUser b w → KnowsUser c w
  pub filed : IsFiled b → IsFiled c

-- c is b, where what used the images uses the ends
pub record UsesEnds (b c : Board) (images ends : List ℕ) : Type 0 where
  pub graph : net c ≡ used_by images ends (net b)
  pub kept : (w : ℕ) → is_apart images w ≡ true → KnowsUser b w → KnowsUser c w
  pub users : (v : ℕ) → Member v ends → KnowsUser c v
  pub makers : (w : ℕ) → KnowsMaker b w → KnowsMaker c w
  pub filed : IsFiled b → IsFiled c

pub net-ids : (b : Board) → ids (net b).wires ≡ ids b.wires.items
net-ids b = ids-map (λ (item : WireItem). item.sort) b.wires.items

module _ (a b : Board) (l r : PlainGraph) (es ws ds vs : List ℕ) (work : IsWork a) (s : MayStep (net a) l r es ws) (p : IsPut a b r ds vs) where
  wire-ids : ids (net b).wires ≡ ids (net a).wires ++ vs
  wire-ids = ap (λ (n : Net). ids n.wires) p.graph ∙ map-append (λ (e : ℕ × Sort). e.0) (net a).wires (zip vs r.wires) ∙ ap (λ l. ids (net a).wires ++ l) (ids-zip vs r.wires p.wire_count)

  edge-ids : ids (net b).edges ≡ ids (net a).edges ++ ds
  edge-ids = ap (λ (n : Net). ids n.edges) p.graph ∙ map-append (λ (e : ℕ × Edge). e.0) (net a).edges (zip ds (map (renamed (slice_index vs)) r.edges))
      ∙ ap (λ l. ids (net a).edges ++ l) (ids-zip ds (map (renamed (slice_index vs)) r.edges) (p.edge_count ∙ sym (length-mapped (renamed (slice_index vs)) r.edges)))

  pub wires-apart : AreDistinct (ids (net a).wires ++ vs)
  wires-apart = subst AreDistinct (sym (net-ids b) ∙ wire-ids) p.wires_apart

  pub edges-apart : AreDistinct (ids (net a).edges ++ ds)
  edges-apart = subst AreDistinct (sym (ids-map edge_of b.edges.items) ∙ edge-ids) p.edges_apart

  -- it is in b, or in a board with the same wires
  in-same : (c : Board) → (net c).wires ≡ (net b).wires → (w : ℕ) → Member w (ids (net a).wires ++ vs) → IsIn w c.wires.items
  in-same c e w m = member-there w c.wires.items (rw (← net-ids c, e, wire-ids) m)

  old-in : (w : ℕ) → Member w (ids (net a).wires) → IsIn w a.wires.items
  old-in w m = member-there w a.wires.items (rw (← net-ids a) m)

  old-maker : (w : ℕ) → Member w (ids (net a).wires) → KnowsMaker b w
  old-maker w m = p.old_makers w (old-in w m) (λ item h. (work.ends w item h).0)

  old-user : (w : ℕ) → Member w (ids (net a).wires) → KnowsUser b w
  old-user w m = p.old_users w (old-in w m) (λ item h. (work.ends w item h).1)

  pub may-make : (images ends : List ℕ) → images ≡ map (slice_index ws) l.inputs → ends ≡ map (slice_index vs) r.inputs → MayReroute (KnowsMaker b) (made_in (net b)) b.wires.items images ends
  may-make images ends e f = rw (e, f) (record {
    once = subst (λ (n : Net). AreDistinct (made_in n)) (sym p.graph) (listed-once (net a) r ds vs p.edge_count p.wire_count wires-apart (λ e. e.targets) (λ f e. refl) (net a).inputs r.inputs
        (made-once (net a) work.sound) (made-within (net a) work.sound) s.rule.right.producers);
    same = length-mapped (slice_index ws) l.inputs ∙ same-inputs (net a) l r es ws work.sound s ∙ sym (length-mapped (slice_index vs) r.inputs);
    images_there = λ w m. in-same b refl w (member-left (ids (net a).wires) vs w (there w m));
    known = λ w m. old-maker w (there w m);
    ends_there = λ v m. in-same b refl v (member-right (ids (net a).wires) vs v (new v m));
    apart = images-distinct (net a) l es ws work.sound s.rule.left s.occurrence (edge-images (net a) l r es ws work.sound s) (wire-images (net a) l r es ws work.sound s) (λ e. e.targets)
        (λ f e. refl) (net a).inputs l.inputs (made-once (net a) work.sound) s.rule.left.producers;
    ends_apart = ends-distinct (net a) r ds vs p.edge_count p.wire_count wires-apart (λ e. e.targets) (λ f e. refl) (net a).inputs r.inputs
        (made-once (net a) work.sound) (made-within (net a) work.sound) s.rule.right.producers;
    fresh = λ v m. subst (λ (n : Net). is_apart (made_in n) v ≡ true) (sym p.graph) (ends-fresh (net a) r ds vs p.edge_count p.wire_count wires-apart (λ e. e.targets) (λ f e. refl)
        (net a).inputs r.inputs (made-once (net a) work.sound) (made-within (net a) work.sound) s.rule.right.producers v m);
    other = λ v m. not_member-apart (map (slice_index ws) l.inputs) v (λ k. distinct-apart (ids (net a).wires) vs wires-apart v (there v k) (new v m));
  })
    where
      there : (w : ℕ) → Member w (map (slice_index ws) l.inputs) → Member w (ids (net a).wires)
      there w m = wire-images (net a) l r es ws work.sound s w (input-image (net a) l r es ws work.sound s w m)

      new : (v : ℕ) → Member v (map (slice_index vs) r.inputs) → Member v vs
      new = ends-new (net a) r ds vs p.edge_count p.wire_count wires-apart (λ e. e.targets) (λ f e. refl) (net a).inputs r.inputs
          (made-once (net a) work.sound) (made-within (net a) work.sound) s.rule.right.producers

  module _ (c : Board) (mi me : List ℕ) (mi_is : mi ≡ map (slice_index ws) l.inputs) (me_is : me ≡ map (slice_index vs) r.inputs) (q : MakesEnds b c mi me) where
    used-same : used_in (net c) ≡ used_in (with_graph (net a) r ds vs)
    used-same = ap used_in q.graph ∙ used-made mi me (net b) ∙ ap used_in p.graph

    pub may-use : (images ends : List ℕ) → images ≡ map (slice_index ws) l.outputs → ends ≡ map (slice_index vs) r.outputs → MayReroute (KnowsUser c) (used_in (net c)) c.wires.items images ends
    may-use images ends e f = rw (e, f) (record {
      once = subst AreDistinct (sym used-same) (listed-once (net a) r ds vs p.edge_count p.wire_count wires-apart (λ e. e.sources) (λ f e. refl) (net a).outputs r.outputs
          (used-once (net a) work.sound) (used-within (net a) work.sound) s.rule.right.consumers);
      same = length-mapped (slice_index ws) l.outputs ∙ same-outputs (net a) l r es ws work.sound s ∙ sym (length-mapped (slice_index vs) r.outputs);
      images_there = λ w m. in-same c (ap (λ (n : Net). n.wires) q.graph) w (member-left (ids (net a).wires) vs w (there w m));
      known = λ w m. q.users w (old-user w (there w m));
      ends_there = λ v m. in-same c (ap (λ (n : Net). n.wires) q.graph) v (member-right (ids (net a).wires) vs v (new v m));
      apart = images-distinct (net a) l es ws work.sound s.rule.left s.occurrence (edge-images (net a) l r es ws work.sound s) (wire-images (net a) l r es ws work.sound s) (λ e. e.sources)
          (λ f e. refl) (net a).outputs l.outputs (used-once (net a) work.sound) s.rule.left.consumers;
      ends_apart = ends-distinct (net a) r ds vs p.edge_count p.wire_count wires-apart (λ e. e.sources) (λ f e. refl) (net a).outputs r.outputs
          (used-once (net a) work.sound) (used-within (net a) work.sound) s.rule.right.consumers;
      fresh = λ v m. subst (λ l. is_apart l v ≡ true) (sym used-same) (ends-fresh (net a) r ds vs p.edge_count p.wire_count wires-apart (λ e. e.sources) (λ f e. refl)
          (net a).outputs r.outputs (used-once (net a) work.sound) (used-within (net a) work.sound) s.rule.right.consumers v m);
      other = λ v m. not_member-apart (map (slice_index ws) l.outputs) v (λ k. distinct-apart (ids (net a).wires) vs wires-apart v (there v k) (new v m));
    })
      where
        there : (w : ℕ) → Member w (map (slice_index ws) l.outputs) → Member w (ids (net a).wires)
        there w m = wire-images (net a) l r es ws work.sound s w (output-image (net a) l r es ws work.sound s w m)

        new : (v : ℕ) → Member v (map (slice_index vs) r.outputs) → Member v vs
        new = ends-new (net a) r ds vs p.edge_count p.wire_count wires-apart (λ e. e.sources) (λ f e. refl) (net a).outputs r.outputs
            (used-once (net a) work.sound) (used-within (net a) work.sound) s.rule.right.consumers

    module _ (d : Board) (ui ue : List ℕ) (ui_is : ui ≡ map (slice_index ws) l.outputs) (ue_is : ue ≡ map (slice_index vs) r.outputs) (t : UsesEnds c d ui ue) where
      -- a wire of d is of a, or new
      wire-in : (w : ℕ) (item : WireItem) → item_at w d.wires.items ≡ Some item → Member w (ids (net a).wires ++ vs)
      wire-in w item h =
          let m = member-map (λ (e : ℕ × WireItem). e.0) d.wires.items (w, item) (item-member w item d.wires.items h) in
          let e = sym (net-ids d) ∙ ap (λ (n : Net). ids n.wires) t.graph ∙ ap (λ (n : Net). ids n.wires) q.graph ∙ wire-ids in
          subst (Member w) e m

      pub joined-board : IsJoined a d l r ws
      joined-board = record {
        ds = ds;
        vs = vs;
        edge_count = p.edge_count;
        wire_count = p.wire_count;
        edges_apart = edges-apart;
        wires_apart = wires-apart;
        graph = t.graph ∙ ap (used_by ui ue) (q.graph ∙ ap (made_by mi me) p.graph)
            ∙ (λ i. used_by (ui_is i) (ue_is i) (made_by (mi_is i) (me_is i) (with_graph (net a) r ds vs)));
        makers = λ w a item h. makers w a (wire-in w item h) item h;
        users = λ w a item h. users w a (wire-in w item h) item h;
        filed = t.filed (q.filed p.filed);
      }
        where
          makers : (w : ℕ) → is_apart ws w ≡ true → Member w (ids (net a).wires ++ vs) → KnowsMaker d w
          makers = each-known (net a) r ds vs p.edge_count p.wire_count wires-apart (λ e. e.targets) (λ f e. refl) (net a).inputs r.inputs
              (made-once (net a) work.sound) (made-within (net a) work.sound) s.rule.right.producers (KnowsMaker b) (KnowsMaker d) ws mi me
              (λ w m. input-image (net a) l r es ws work.sound s w (rw (← mi_is) m)) (wire-images (net a) l r es ws work.sound s) me_is
              (λ w h k. t.makers w (q.kept w h k)) (λ v m. t.makers v (q.makers v m)) old-maker p.makers

          users : (w : ℕ) → is_apart ws w ≡ true → Member w (ids (net a).wires ++ vs) → KnowsUser d w
          users = each-known (net a) r ds vs p.edge_count p.wire_count wires-apart (λ e. e.sources) (λ f e. refl) (net a).outputs r.outputs
              (used-once (net a) work.sound) (used-within (net a) work.sound) s.rule.right.consumers (KnowsUser c) (KnowsUser d) ws ui ue
              (λ w m. output-image (net a) l r es ws work.sound s w (rw (← ui_is) m)) (wire-images (net a) l r es ws work.sound s) ue_is
              t.kept t.users (λ w m. q.users w (old-user w m)) (λ v m. q.users (slice_index vs v) (p.users v m))
