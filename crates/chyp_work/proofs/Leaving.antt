-- Boards that the image of an occurrence is taken out of.
use Rattle.std.proofs.Common.{ℕ, ◌≤◌, ◌≡◌, Bool, true, false, not, eqb, List, [], ◌∷◌, ◌++◌, length, map, flat_map, Option, Some, None, slice_get, slice_index, ◌⊎◌, inl, inr, refl, sym}
use Rattle.std.proofs.Common.{◌∙◌, ap, subst, arith, length-append, ne_eqb, eq-eqb, eqb-true, ◌≢◌}
use Rattle.std.specs.List.{zip}
use Rattle.std.specs.Prelude.{option_map}
use Rattle.std.proofs.lemmas.Bool.{cases_eq}
use Rattle.std.proofs.lemmas.List.{map-append}
use Rattle.std.proofs.lemmas.List.Filters.{length-filter_both}
use Rattle.chyp_base.specs.declared.sort.Sort.{Sort}
use Rattle.chyp_term.specs.Perm.{IsPermutation}
use Rattle.chyp_term.specs.Positions.{is_apart}
use Rattle.chyp_term.proofs.Members.{Member, filter-member, get-member, map-member, member-left, member-not_apart, not_member-apart}
use Rattle.chyp_term.proofs.Positions.{some-same}
use Rattle.chyp_graph.specs.PlainGraph.{Edge, PlainGraph, renamed}
use Rattle.chyp_match.specs.View.{IsIn, Net}
use Rattle.chyp_store.specs.Items.{AreDistinct, ids, item_at, without_all}
use Rattle.chyp_work.specs.Board.{IsConsumer, IsFiled, IsProducer, IsWork, edge_of, edges_of, net, wires_of}
use Rattle.chyp_work.specs.Net.{IsSound}
use Rattle.chyp_work.specs.Replacement.{moved_edge, replaced_in}
use Rattle.chyp_work.specs.Rerouting.{moved_by}
use Rattle.chyp_work.specs.Step.{IsJoined, IsStep, MayStep}
use Rattle.chyp_work.specs.declared.board.Board.{Board}
use Rattle.chyp_work.specs.declared.board.EdgeItem.{EdgeItem}
use Rattle.chyp_work.specs.declared.board.WireItem.{WireItem}
use Rattle.chyp_work.specs.declared.end.End.{End}
use Rattle.chyp_work.specs.declared.end.End.TheVariants.{Outside, Port}
use Rattle.chyp_work.proofs.Boards.{ids-map}
use Rattle.chyp_work.proofs.Bridge.{all-member, length-mapped}
use Rattle.chyp_work.proofs.Joining.{net-ids}
use Rattle.chyp_work.proofs.Nets.{item-map, item-member}
use Rattle.chyp_work.proofs.Noting.{item-left}
use Rattle.chyp_work.proofs.Occurring.{image-inner, made-once, used-once}
use Rattle.chyp_work.proofs.Opening.{member-there}
use Rattle.chyp_work.proofs.Places.{ids-zip}
use Rattle.chyp_work.proofs.Stepping.{edge-images, is-step, kept-map, moved-other, replaced-net, step-sound, taken_from, wire-images}

-- ## lists that items are taken out of

module _ {X : Type 0} (ks : List ℕ) where
  -- what is still there was there
  pub item-before : (k : ℕ) (x : X) (items : List (ℕ × X)) → item_at k (without_all ks items) ≡ Some x → item_at k items ≡ Some x
  item-before k x [] h = h
  item-before k x (e ∷ es) h = by (eqb k e.0) refl (is_apart ks e.0) refl (item-before k x es)
    where
      by : (b : Bool) → eqb k e.0 ≡ b → (a : Bool) → is_apart ks e.0 ≡ a → (item_at k (without_all ks es) ≡ Some x → item_at k es ≡ Some x) → item_at k (e ∷ es) ≡ Some x
      by true q true a r = let y = rw (a, q) at h in rw q y
      by false q true a r = let y = rw (a, q) at h in rw q (r y)
      by false q false a r = let y = rw a at h in rw q (r y)
      by true q false a r =
          let y = rw a at h in
          let m = item-member k x (without_all ks es) y in
          let f = filter-member (λ (e : ℕ × X). is_apart ks e.0) es (k, x) m in
          let z : k ≡ e.0 = eqb-true k e.0 q in
          let w : is_apart ks e.0 ≡ true = subst (λ j. is_apart ks j ≡ true) z f.1 in absurd (cc)

  -- what is none of those that are taken out is still there
  pub item-still : (k : ℕ) (items : List (ℕ × X)) → is_apart ks k ≡ true → item_at k (without_all ks items) ≡ item_at k items
  item-still k [] h = refl
  item-still k (e ∷ es) h = by (cases_eq k e.0) (is_apart ks e.0) refl (item-still k es h)
    where
      by : (k ≡ e.0) ⊎ (k ≢ e.0) → (a : Bool) → is_apart ks e.0 ≡ a → item_at k (without_all ks es) ≡ item_at k es → item_at k (without_all ks (e ∷ es)) ≡ item_at k (e ∷ es)
      by (inl q) true a r = rw (a, eq-eqb k e.0 q) refl
      by (inl q) false a r = let w : is_apart ks e.0 ≡ true = subst (λ j. is_apart ks j ≡ true) q h in absurd (cc)
      by (inr n) true a r = rw (a, ne_eqb k e.0 n) r
      by (inr n) false a r = rw (a, ne_eqb k e.0 n) r

  pub item-apart : (k : ℕ) (x : X) (items : List (ℕ × X)) → item_at k (without_all ks items) ≡ Some x → is_apart ks k ≡ true
  item-apart k x items h = (filter-member (λ (e : ℕ × X). is_apart ks e.0) items (k, x) (item-member k x (without_all ks items) h)).1

  pub few-left : (items : List (ℕ × X)) → length (without_all ks items) ≤ length items
  few-left items = let a = length-filter_both (λ (e : ℕ × X). is_apart ks e.0) (λ (e : ℕ × X). not (is_apart ks e.0)) (λ e. refl) items in omega arith

length-zip : {X : Type 0} (ds : List ℕ) (xs : List X) → length ds ≡ length xs → length (zip ds xs) ≡ length xs
length-zip {X} ds xs e = sym (length-mapped (λ (e : ℕ × X). e.0) (zip ds xs)) ∙ ap length (ids-zip ds xs e) ∙ e

-- ## edges of the image, where the ends have taken the places of the images

module _ (n : Net) (l r : PlainGraph) (es ws : List ℕ) (sound : IsSound n) (s : MayStep n l r es ws) where
  -- what they have at their ports is of the image
  inside : (port : Edge → List ℕ) → ((f : ℕ → ℕ) (e : Edge) → port (renamed f e) ≡ map f (port e)) → (outer inner ends : List ℕ)
      → AreDistinct (outer ++ flat_map (λ (e : ℕ × Edge). port e.1) n.edges) → IsPermutation (length l.wires) (inner ++ flat_map port l.edges)
      → (k : ℕ) (e : Edge) (w : ℕ) → Member k es → item_at k n.edges ≡ Some e → Member w (map (moved_by (map (slice_index ws) inner) ends) (port e)) → Member w ws
  inside port port_renamed outer inner ends once all k e w m h p =
      let u = map-member (moved_by (map (slice_index ws) inner) ends) (port e) w p in
      let i = image-inner n l es ws sound s.rule.left s.occurrence (edge-images n l r es ws sound s) (wire-images n l r es ws sound s) port port_renamed outer inner once all k e u.0 m h u.1 in
      subst (λ w. Member w ws) (sym (moved-other (map (slice_index ws) inner) ends u.0 i.1) ∙ u.2) i.0

module _ (a d : Board) (l r : PlainGraph) (es ws : List ℕ) (work : IsWork a) (s : MayStep (net a) l r es ws) (j : IsJoined a d l r ws) where
  -- an edge of the image, before and after
  old-edge : (k : ℕ) (e : Edge) → Member k es → item_at k (net d).edges ≡ Some e
      → (x : Edge) × (item_at k (net a).edges ≡ Some x)
      × (e ≡ record {
        name = x.name;
        sources = map (moved_by (map (slice_index ws) l.outputs) (map (slice_index j.vs) r.outputs)) x.sources;
        targets = map
            (moved_by (map (slice_index ws) l.inputs) (map (slice_index j.vs) r.inputs)) x.targets;
      })
  old-edge k e m h = by (item_at k (net a).edges) refl
    where
      there : IsIn k (net a).edges
      there = all-member (λ k. IsIn k (net a).edges) es s.edges k m

      by : (o : Option Edge) → item_at k (net a).edges ≡ o
          → (x : Edge) × (item_at k (net a).edges ≡ Some x)
          × (e ≡ record {
            name = x.name;
            sources = map (moved_by (map (slice_index ws) l.outputs) (map (slice_index j.vs) r.outputs)) x.sources;
            targets = map
                (moved_by (map (slice_index ws) l.inputs) (map (slice_index j.vs) r.inputs)) x.targets;
          })
      by None f = let x = rw f at there in absurd (cc)
      by (Some x) f =
          let p = sym h ∙ ap (λ (n : Net). item_at k n.edges) j.graph
          ∙ item-map (λ (e : Edge). record e { sources = map (moved_by (map (slice_index ws) l.outputs) (map (slice_index j.vs) r.outputs)) e.sources }) k
          (map (λ (e : ℕ × Edge). (e.0, record e.1 { targets = map (moved_by (map (slice_index ws) l.inputs) (map (slice_index j.vs) r.inputs)) e.1.targets }))
          ((net a).edges ++ zip j.ds (map (renamed (slice_index j.vs)) r.edges)))
          ∙ ap (option_map (λ (e : Edge). record e { sources = map (moved_by (map (slice_index ws) l.outputs) (map (slice_index j.vs) r.outputs)) e.sources }))
          (item-map (λ (e : Edge). record e { targets = map (moved_by (map (slice_index ws) l.inputs) (map (slice_index j.vs) r.inputs)) e.targets }) k
          ((net a).edges ++ zip j.ds (map (renamed (slice_index j.vs)) r.edges))
          ∙ ap (option_map (λ (e : Edge). record e { targets = map (moved_by (map (slice_index ws) l.inputs) (map (slice_index j.vs) r.inputs)) e.targets }))
          (item-left k x (net a).edges (zip j.ds (map (renamed (slice_index j.vs)) r.edges)) f)) in (
            x,
            f,
            some-same e (record {
              name = x.name;
              sources = map (moved_by (map (slice_index ws) l.outputs) (map (slice_index j.vs) r.outputs)) x.sources;
              targets = map
                  (moved_by (map (slice_index ws) l.inputs) (map (slice_index j.vs) r.inputs)) x.targets;
            }) p,
          )

  target-inside : (k : ℕ) (e : Edge) (w : ℕ) → Member k es → item_at k (net d).edges ≡ Some e → Member w e.targets → Member w ws
  target-inside k e w m h p =
      let x = old-edge k e m h in
      inside (net a) l r es ws work.sound s (λ e. e.targets) (λ f e. refl) (net a).inputs l.inputs (map (slice_index j.vs) r.inputs) (made-once (net a) work.sound) s.rule.left.producers
      k x.0 w m x.1 (subst (λ (e : Edge). Member w e.targets) x.2 p)

  source-inside : (k : ℕ) (e : Edge) (w : ℕ) → Member k es → item_at k (net d).edges ≡ Some e → Member w e.sources → Member w ws
  source-inside k e w m h p =
      let x = old-edge k e m h in
      inside (net a) l r es ws work.sound s (λ e. e.sources) (λ f e. refl) (net a).outputs l.outputs (map (slice_index j.vs) r.outputs) (used-once (net a) work.sound) s.rule.left.consumers
      k x.0 w m x.1 (subst (λ (e : Edge). Member w e.sources) x.2 p)

  -- what is to be taken out is there
  pub edge-there : (k : ℕ) → Member k es → IsIn k d.edges.items
  edge-there k m = member-there k d.edges.items (subst (Member k) same (member-left (ids (net a).edges) j.ds k (edge-images (net a) l r es ws work.sound s k m)))
    where
      same : ids (net a).edges ++ j.ds ≡ ids d.edges.items
      same = sym (sym (ids-map edge_of d.edges.items) ∙ ap (λ (n : Net). ids n.edges) j.graph
          ∙ ids-map (λ (e : Edge). record e { sources = map (moved_by (map (slice_index ws) l.outputs) (map (slice_index j.vs) r.outputs)) e.sources })
          (map (λ (e : ℕ × Edge). (e.0, record e.1 { targets = map (moved_by (map (slice_index ws) l.inputs) (map (slice_index j.vs) r.inputs)) e.1.targets }))
          ((net a).edges ++ zip j.ds (map (renamed (slice_index j.vs)) r.edges)))
          ∙ ids-map (λ (e : Edge). record e { targets = map (moved_by (map (slice_index ws) l.inputs) (map (slice_index j.vs) r.inputs)) e.targets })
          ((net a).edges ++ zip j.ds (map (renamed (slice_index j.vs)) r.edges))
          ∙ map-append (λ (e : ℕ × Edge). e.0) (net a).edges (zip j.ds (map (renamed (slice_index j.vs)) r.edges))
          ∙ ap (λ l. ids (net a).edges ++ l) (ids-zip j.ds (map (renamed (slice_index j.vs)) r.edges) (j.edge_count ∙ sym (length-mapped (renamed (slice_index j.vs)) r.edges))))

  pub wire-there : (w : ℕ) → Member w ws → IsIn w d.wires.items
  wire-there w m = member-there w d.wires.items (subst (Member w) same (member-left (ids (net a).wires) j.vs w (wire-images (net a) l r es ws work.sound s w m)))
    where
      same : ids (net a).wires ++ j.vs ≡ ids d.wires.items
      same = sym (sym (net-ids d) ∙ ap (λ (n : Net). ids n.wires) j.graph ∙ map-append (λ (e : ℕ × Sort). e.0) (net a).wires (zip j.vs r.wires)
          ∙ ap (λ l. ids (net a).wires ++ l) (ids-zip j.vs r.wires j.wire_count))

  -- ## the image is taken out

  module _ (f : Board) (edges : f.edges.items ≡ without_all es d.edges.items) (wires : f.wires.items ≡ without_all ws d.wires.items) (inputs : f.inputs.items ≡ d.inputs.items)
      (outputs : f.outputs.items ≡ d.outputs.items)
    where
      edges-left : (net f).edges ≡ without_all es (net d).edges
      edges-left = ap edges_of edges ∙ sym (kept-map es (λ (e : ℕ × EdgeItem). edge_of e.1) d.edges.items)

      wires-left : (net f).wires ≡ without_all ws (net d).wires
      wires-left = ap wires_of wires ∙ sym (kept-map ws (λ (e : ℕ × WireItem). e.1.sort) d.wires.items)

      is : net f ≡ replaced_in (net a) l r es ws j.ds j.vs
      is = (λ i. record { edges = edges-left i; wires = wires-left i; inputs = inputs i; outputs = outputs i })
          ∙ ap (taken_from es ws) j.graph
          ∙ replaced-net (net a) l r es ws work.sound s j.ds j.vs j.edge_count j.wire_count j.edges_apart j.wires_apart

      producer-left : (w : ℕ) (x : End) → is_apart ws w ≡ true → IsProducer (net d) w x → IsProducer (net f) w x
      producer-left w (Outside i) t h = rw inputs h
      producer-left w (Port k i) t h = by (item_at k (net d).edges) refl
        where
          by : (o : Option Edge) → item_at k (net d).edges ≡ o → IsProducer (net f) w (Port k i)
          by None e = let x = rw e at h in absurd (cc)
          by (Some e) g =
              let m : slice_get e.targets i ≡ Some w = rw g at h in
              let b = not_member-apart es k (λ z. let y = member-not_apart ws w (target-inside k e w z g (get-member e.targets i w m)) in absurd (cc)) in
              rw (edges-left, item-still es k (net d).edges b, g) m

      consumer-left : (w : ℕ) (x : End) → is_apart ws w ≡ true → IsConsumer (net d) w x → IsConsumer (net f) w x
      consumer-left w (Outside i) t h = rw outputs h
      consumer-left w (Port k i) t h = by (item_at k (net d).edges) refl
        where
          by : (o : Option Edge) → item_at k (net d).edges ≡ o → IsConsumer (net f) w (Port k i)
          by None e = let x = rw e at h in absurd (cc)
          by (Some e) g =
              let m : slice_get e.sources i ≡ Some w = rw g at h in
              let b = not_member-apart es k (λ z. let y = member-not_apart ws w (source-inside k e w z g (get-member e.sources i w m)) in absurd (cc)) in
              rw (edges-left, item-still es k (net d).edges b, g) m

      pub work-left : IsFiled f → AreDistinct (ids f.edges.items) → AreDistinct (ids f.wires.items) → IsWork f
      work-left filed edges_apart wires_apart = record {
        sound = subst IsSound (sym is) (step-sound (net a) l r es ws work.sound s j.ds j.vs j.edge_count j.wire_count j.edges_apart j.wires_apart
            (subst AreDistinct (sym (ids-map edge_of f.edges.items) ∙ ap (λ (n : Net). ids n.edges) is) edges_apart)
            (subst AreDistinct (sym (net-ids f) ∙ ap (λ (n : Net). ids n.wires) is) wires_apart));
        filed = filed;
        ends = λ w item h.
            let g = rw wires at h in
            let t = item-apart ws w item d.wires.items g in
            let b = item-before ws w item d.wires.items g in
            (producer-left w item.producer t (j.makers w t item b), consumer-left w item.consumer t (j.users w t item b));
        few_edges =
            let x = sym (length-mapped (λ (e : ℕ × EdgeItem). (e.0, edge_of e.1)) f.edges.items) ∙ ap (λ (n : Net). length n.edges) is in
            let y = length-append (map (moved_edge l r ws j.vs) (without_all es (net a).edges)) (zip j.ds (map (renamed (slice_index j.vs)) r.edges)) in
            let z = length-mapped (moved_edge l r ws j.vs) (without_all es (net a).edges) in
            let u = length-mapped (renamed (slice_index j.vs)) r.edges in
            let v = length-zip j.ds (map (renamed (slice_index j.vs)) r.edges) (j.edge_count ∙ sym u) in
            let q = few-left es (net a).edges in
            let c = s.few_edges in omega arith;
        few_wires =
            let x = sym (length-mapped (λ (e : ℕ × WireItem). (e.0, e.1.sort)) f.wires.items) ∙ ap (λ (n : Net). length n.wires) is in
            let y = length-append (without_all ws (net a).wires) (zip j.vs r.wires) in
            let v = length-zip j.vs r.wires j.wire_count in
            let q = few-left ws (net a).wires in
            let c = s.few_wires in omega arith;
      }

      pub step-left : IsStep (net a) l r es ws (net f)
      step-left = subst (IsStep (net a) l r es ws) (sym is) (is-step (net a) l r es ws work.sound s j.ds j.vs j.edge_count j.wire_count j.edges_apart j.wires_apart)
