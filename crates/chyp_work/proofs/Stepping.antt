-- A step by numbers.
use Rattle.std.proofs.Common.{ℕ, ◌<◌, ◌≡◌, Bool, true, false, All, List, [], ◌∷◌, ◌++◌, length, map, Option, Some, None, slice_index, ◌⊎◌, inl, inr, refl, sym, ◌∙◌, ap, subst, arith}
use Rattle.std.specs.List.{zip}
use Rattle.std.proofs.lemmas.List.{map-append}
use Rattle.std.proofs.lemmas.List.Elements.{filter-append}
use Rattle.chyp_base.specs.declared.sort.Sort.{Sort}
use Rattle.chyp_term.specs.Perm.{permuted}
use Rattle.chyp_term.specs.Positions.{is_apart, place_of}
use Rattle.chyp_term.proofs.Blocks.{under-members}
use Rattle.chyp_term.proofs.Inverses.{place-found}
use Rattle.chyp_term.proofs.Members.{All-from_get_members, All-members, Member, filter-all, filter-member, map-member, map-same_on, member-filter, member-left, member-map, member-not_apart, member-right}
use Rattle.chyp_term.proofs.Members.{member-split, not_member-apart}
use Rattle.chyp_term.proofs.Permuted.{length-permuted}
use Rattle.chyp_term.proofs.Positions.{map-map, slice_get-length}
use Rattle.chyp_graph.specs.PlainGraph.{Edge, PlainGraph, renamed}
use Rattle.chyp_graph.specs.Validity.{IsValid}
use Rattle.chyp_graph.proofs.Numbering.{input-below, output-below}
use Rattle.chyp_extract.proofs.ReplacedValid.{replaced_valid}
use Rattle.chyp_match.specs.View.{IsIn, Net}
use Rattle.chyp_store.specs.Items.{AreDistinct, ids, without_all}
use Rattle.chyp_work.specs.Filling.{with_graph}
use Rattle.chyp_work.specs.Net.{IsClosed, IsSound, plain}
use Rattle.chyp_work.specs.Replacement.{Fits, IsCovered, moved, moved_edge, replaced_in}
use Rattle.chyp_work.specs.Rerouting.{made_by, moved_by, used_by}
use Rattle.chyp_work.specs.Step.{IsStep, MayStep, edge_places, wire_places}
use Rattle.chyp_work.proofs.Bridge.{all-items, all-member, bridge, length-mapped, new-ids}
use Rattle.chyp_work.proofs.Nets.{there-member}
use Rattle.chyp_work.proofs.Occurring.{edge-covered, images-there, inner-below, made-once, outer-covered, used-once}
use Rattle.chyp_work.proofs.Opening.{map-fixed, member-there, source-below, target-below, zip-member}
use Rattle.chyp_work.proofs.Places.{index-map, index-member}
use Rattle.chyp_work.proofs.Rerouting.{distinct-apart, distinct-right}

-- ## lists

-- graphs with the same sorts at their ends have as many ends
same-ends : (l r : PlainGraph) (xs ys : List ℕ) → ((v : ℕ) → Member v xs → v < length l.wires) → ((v : ℕ) → Member v ys → v < length r.wires) → permuted l.wires xs ≡ permuted r.wires ys
    → length xs ≡ length ys
same-ends l r xs ys a b e = sym (length-permuted l.wires xs (under-members (length l.wires) xs a)) ∙ ap length e ∙ length-permuted r.wires ys (under-members (length r.wires) ys b)

pub moved-other : (images ends : List ℕ) (w : ℕ) → is_apart images w ≡ true → moved_by images ends w ≡ w
moved-other images ends w h = by (place_of w images) refl
  where
    by : (o : Option ℕ) → place_of w images ≡ o → moved_by images ends w ≡ w
    by None e = rw e refl
    by (Some i) e = let a = rw e at h in absurd (cc)

-- to put the i-th end for the i-th image is to move the images
moved-same : (ws vs inner ends : List ℕ) → length inner ≡ length ends → (w : ℕ) → moved_by (map (slice_index ws) inner) (map (slice_index vs) ends) w ≡ moved ws vs inner ends w
moved-same ws vs inner ends same w = by (place_of w (map (slice_index ws) inner)) refl
  where
    by : (o : Option ℕ) → place_of w (map (slice_index ws) inner) ≡ o → moved_by (map (slice_index ws) inner) (map (slice_index vs) ends) w ≡ moved ws vs inner ends w
    by None e = rw e refl
    by (Some i) e =
        let a = slice_get-length (map (slice_index ws) inner) i w (place-found w (map (slice_index ws) inner) i e) in
        let b = length-mapped (slice_index ws) inner in
        rw e (index-map (slice_index vs) ends i (omega arith))

pub kept-map : {X Y : Type 0} (ks : List ℕ) (g : ℕ × X → Y) (xs : List (ℕ × X)) → without_all ks (map {B = ℕ × Y} (λ e. (e.0, g e)) xs) ≡ map {B = ℕ × Y} (λ e. (e.0, g e)) (without_all ks xs)
kept-map ks g [] = refl
kept-map {X} {Y} ks g (e ∷ es) = by (is_apart ks e.0) refl (kept-map ks g es)
  where
    by : (b : Bool) → is_apart ks e.0 ≡ b → without_all ks (map {B = ℕ × Y} (λ e. (e.0, g e)) es) ≡ map {B = ℕ × Y} (λ e. (e.0, g e)) (without_all ks es)
        → without_all ks (map {B = ℕ × Y} (λ e. (e.0, g e)) (e ∷ es)) ≡ map {B = ℕ × Y} (λ e. (e.0, g e)) (without_all ks (e ∷ es))
    by true q r = rw q (ap (λ l. (e.0, g e) ∷ l) r)
    by false q r = rw q r

zip-number : {X : Type 0} (ds : List ℕ) (xs : List X) (e : ℕ × X) → Member e (zip ds xs) → Member e.0 ds
zip-number [] xs e m = absurd m
zip-number (d ∷ ds) [] e m = absurd m
zip-number {X} (d ∷ ds) (x ∷ xs) e (inl q) = inl (ap (λ (e : ℕ × X). e.0) q)
zip-number (d ∷ ds) (x ∷ xs) e (inr m) = inr (zip-number ds xs e m)

-- what comes under other numbers stays
kept-new : {X : Type 0} (ks ds : List ℕ) (xs : List (ℕ × X)) (ys : List X) → ((d : ℕ) → Member d ds → is_apart ks d ≡ true) → without_all ks (xs ++ zip ds ys) ≡ without_all ks xs ++ zip ds ys
kept-new {X} ks ds xs ys h =
    filter-append (λ (e : ℕ × X). is_apart ks e.0) xs (zip ds ys)
    ∙ ap (λ l. without_all ks xs ++ l) (filter-all (λ (e : ℕ × X). is_apart ks e.0) (zip ds ys) (λ e m. h e.0 (zip-number ds ys e m)))

kept-number : {X : Type 0} (ws : List ℕ) (items : List (ℕ × X)) (w : ℕ) → Member w (ids items) → is_apart ws w ≡ true → Member w (ids (without_all ws items))
kept-number {X} ws items w m a =
    let e = map-member (λ (e : ℕ × X). e.0) items w m in
    let f = member-filter (λ (e : ℕ × X). is_apart ws e.0) items e.0 e.1 (rw e.2 a) in
    subst (λ w. Member w (ids (without_all ws items))) e.2 (member-map (λ (e : ℕ × X). e.0) (without_all ws items) e.0 f)

-- an end of what stays is there
moved-there : (ws vs inner ends : List ℕ) (items : List (ℕ × Sort)) → length inner ≡ length ends → ((v : ℕ) → Member v ends → v < length vs) → (w : ℕ) → Member w (ids items)
    → IsCovered ws inner w → Member (moved ws vs inner ends w) (ids (without_all ws items) ++ vs)
moved-there ws vs inner ends items same below w m covered = by (place_of w (map (slice_index ws) inner)) refl covered
  where
    by : (o : Option ℕ) → place_of w (map (slice_index ws) inner) ≡ o → IsCovered ws inner w → Member (moved ws vs inner ends w) (ids (without_all ws items) ++ vs)
    by None e (inl a) = rw e (member-left (ids (without_all ws items)) vs w (kept-number ws items w m a))
    by None e (inr c) = let x = c.1 in absurd (cc)
    by (Some i) e c =
        let a = slice_get-length (map (slice_index ws) inner) i w (place-found w (map (slice_index ws) inner) i e) in
        let b = length-mapped (slice_index ws) inner in
        let d : i < length ends = omega arith in
        rw e (member-right (ids (without_all ws items)) vs (slice_index vs (slice_index ends i)) (index-member vs (slice_index ends i) (below (slice_index ends i) (index-member ends i d))))

-- n without these edges and these wires
abbrev pub taken_from : List ℕ → List ℕ → Net → Net
taken_from es ws n = record n { edges = without_all es n.edges; wires = without_all ws n.wires }

-- ## a step

module _ (n : Net) (l r : PlainGraph) (es ws : List ℕ) (sound : IsSound n) (s : MayStep n l r es ws) where
  pub edge-images : (k : ℕ) → Member k es → Member k (ids n.edges)
  edge-images k m = there-member k n.edges (all-member (λ k. IsIn k n.edges) es s.edges k m)

  pub wire-images : (w : ℕ) → Member w ws → Member w (ids n.wires)
  wire-images w m = there-member w n.wires (all-member (λ w. IsIn w n.wires) ws s.wires w m)

  pub input-image : (w : ℕ) → Member w (map (slice_index ws) l.inputs) → Member w ws
  input-image = images-there n l es ws sound s.rule.left s.occurrence edge-images wire-images (λ e. e.targets) (λ f e. refl) n.inputs l.inputs (made-once n sound) s.rule.left.producers

  pub output-image : (w : ℕ) → Member w (map (slice_index ws) l.outputs) → Member w ws
  output-image = images-there n l es ws sound s.rule.left s.occurrence edge-images wire-images (λ e. e.sources) (λ f e. refl) n.outputs l.outputs (used-once n sound) s.rule.left.consumers

  pub same-inputs : length l.inputs ≡ length r.inputs
  same-inputs = same-ends l r l.inputs r.inputs (input-below l s.rule.left) (input-below r s.rule.right) s.rule.inputs

  pub same-outputs : length l.outputs ≡ length r.outputs
  same-outputs = same-ends l r l.outputs r.outputs (output-below l s.rule.left) (output-below r s.rule.right) s.rule.outputs

  module _ (ds vs : List ℕ) (new_edges : length ds ≡ length r.edges) (new_wires : length vs ≡ length r.wires) (edges_apart : AreDistinct (ids n.edges ++ ds))
      (wires_apart : AreDistinct (ids n.wires ++ vs))
    where
      pub fresh-wire : (v : ℕ) → Member v vs → is_apart (ids n.wires) v ≡ true
      fresh-wire v m = not_member-apart (ids n.wires) v (λ k. distinct-apart (ids n.wires) vs wires_apart v k m)

      pub wire-other : (v : ℕ) → Member v vs → is_apart ws v ≡ true
      wire-other v m = not_member-apart ws v (λ k. distinct-apart (ids n.wires) vs wires_apart v (wire-images v k) m)

      pub edge-other : (d : ℕ) → Member d ds → is_apart es d ≡ true
      edge-other d m = not_member-apart es d (λ k. distinct-apart (ids n.edges) ds edges_apart d (edge-images d k) m)

      pub fits : Fits n l r es ws ds vs
      fits = record {
        edge_images = edge-images;
        wire_images = wire-images;
        new_edges = new_edges;
        new_wires = new_wires;
        vs_apart = distinct-right (ids n.wires) vs wires_apart;
        fresh = fresh-wire;
        inputs = same-inputs;
        outputs = same-outputs;
        left_inputs = inner-below n l es ws sound s.rule.left s.occurrence edge-images wire-images (λ e. e.targets) (λ f e. refl) n.inputs l.inputs (made-once n sound) s.rule.left.producers;
        left_outputs = inner-below n l es ws sound s.rule.left s.occurrence edge-images wire-images (λ e. e.sources) (λ f e. refl) n.outputs l.outputs (used-once n sound) s.rule.left.consumers;
        right_inputs = input-below r s.rule.right;
        right_outputs = output-below r s.rule.right;
        right_sources = λ e v m k. source-below r s.rule.right e m v k;
        right_targets = λ e v m k. target-below r s.rule.right e m v k;
        sources = λ e w m a k. edge-covered n l es ws sound s.rule.left s.occurrence edge-images wire-images (λ e. e.sources) (λ f e. refl) n.outputs l.outputs
            (used-once n sound) s.rule.left.consumers e w m a k;
        targets = λ e w m a k. edge-covered n l es ws sound s.rule.left s.occurrence edge-images wire-images (λ e. e.targets) (λ f e. refl) n.inputs l.inputs
            (made-once n sound) s.rule.left.producers e w m a k;
        ins = outer-covered n l es ws sound s.rule.left s.occurrence edge-images wire-images (λ e. e.targets) (λ f e. refl) n.inputs l.inputs (made-once n sound) s.rule.left.producers;
        outs = outer-covered n l es ws sound s.rule.left s.occurrence edge-images wire-images (λ e. e.sources) (λ f e. refl) n.outputs l.outputs (used-once n sound) s.rule.left.consumers;
      }

      -- ## the graph that comes of it

      abbrev joined : ℕ × Edge → ℕ × Edge
      joined e = (
        e.0,
        record {
          name = e.1.name;
          sources = map (moved_by (map (slice_index ws) l.outputs) (map (slice_index vs) r.outputs)) e.1.sources;
          targets = map (moved_by (map (slice_index ws) l.inputs) (map (slice_index vs) r.inputs)) e.1.targets;
        },
      )

      joined-old : (e : ℕ × Edge) → joined e ≡ moved_edge l r ws vs e
      joined-old e =
          let a = map-same_on (moved_by (map (slice_index ws) l.outputs) (map (slice_index vs) r.outputs)) (moved ws vs l.outputs r.outputs) e.1.sources
          (λ w m. moved-same ws vs l.outputs r.outputs same-outputs w) in
          let b = map-same_on (moved_by (map (slice_index ws) l.inputs) (map (slice_index vs) r.inputs)) (moved ws vs l.inputs r.inputs) e.1.targets
          (λ w m. moved-same ws vs l.inputs r.inputs same-inputs w) in
          λ i. (e.0, record { name = e.1.name; sources = a i; targets = b i })

      stays : (images ends : List ℕ) → ((w : ℕ) → Member w images → Member w ws) → (xs : List ℕ) → ((v : ℕ) → Member v xs → v < length r.wires)
          → map (moved_by images ends) (map (slice_index vs) xs) ≡ map (slice_index vs) xs
      stays images ends h xs below = map-fixed (moved_by images ends) (map (slice_index vs) xs) (λ w m. moved-other images ends w
          (not_member-apart images w (λ k. let v = map-member (slice_index vs) xs w m in
          let b = below v.0 v.1 in
          let c : v.0 < length vs = omega arith in
          let a = member-not_apart ws w (h w k) in
          let d = wire-other w (subst (λ w. Member w vs) v.2 (index-member vs v.0 c)) in absurd (cc))))

      joined-new : (e : ℕ × Edge) → Member e (zip ds (map (renamed (slice_index vs)) r.edges)) → joined e ≡ e
      joined-new e m =
          let x = map-member (renamed (slice_index vs)) r.edges e.1 (zip-member ds (map (renamed (slice_index vs)) r.edges) e m) in
          let a = stays (map (slice_index ws) l.outputs) (map (slice_index vs) r.outputs) output-image x.0.sources (source-below r s.rule.right x.0 x.1) in
          let b = stays (map (slice_index ws) l.inputs) (map (slice_index vs) r.inputs) input-image x.0.targets (target-below r s.rule.right x.0 x.1) in
          subst (λ (y : Edge). joined (e.0, y) ≡ (e.0, y)) x.2 (λ i. (e.0, record { name = x.0.name; sources = a i; targets = b i }))

      pub replaced-net : taken_from es ws (used_by (map (slice_index ws) l.outputs) (map (slice_index vs) r.outputs)
          (made_by (map (slice_index ws) l.inputs) (map (slice_index vs) r.inputs) (with_graph n r ds vs)))
          ≡ replaced_in n l r es ws ds vs
      replaced-net = λ i. record { edges = edges i; wires = wires i; inputs = inputs i; outputs = outputs i }
        where
          new : List (ℕ × Edge)
          new = zip ds (map (renamed (slice_index vs)) r.edges)

          edges : without_all es (map (λ (e : ℕ × Edge). (e.0, record e.1 { sources = map (moved_by (map (slice_index ws) l.outputs) (map (slice_index vs) r.outputs)) e.1.sources }))
              (map (λ (e : ℕ × Edge). (e.0, record e.1 { targets = map (moved_by (map (slice_index ws) l.inputs) (map (slice_index vs) r.inputs)) e.1.targets }))
              (n.edges ++ zip ds (map (renamed (slice_index vs)) r.edges))))
              ≡ map (moved_edge l r ws vs) (without_all es n.edges) ++ zip ds (map (renamed (slice_index vs)) r.edges)
          edges =
              ap (without_all es) (map-map (λ (e : ℕ × Edge). (e.0, record e.1 { sources = map (moved_by (map (slice_index ws) l.outputs) (map (slice_index vs) r.outputs)) e.1.sources }))
              (λ (e : ℕ × Edge). (e.0, record e.1 { targets = map (moved_by (map (slice_index ws) l.inputs) (map (slice_index vs) r.inputs)) e.1.targets })) (n.edges ++ new))
              ∙ kept-map es (λ e. (joined e).1) (n.edges ++ new)
              ∙ ap (map joined) (kept-new es ds n.edges (map (renamed (slice_index vs)) r.edges) edge-other)
              ∙ map-append joined (without_all es n.edges) new
              ∙ (λ i. map-same_on joined (moved_edge l r ws vs) (without_all es n.edges) (λ e m. joined-old e) i ++ map-fixed joined new joined-new i)

          wires : without_all ws (n.wires ++ zip vs r.wires) ≡ without_all ws n.wires ++ zip vs r.wires
          wires = kept-new ws vs n.wires r.wires wire-other

          inputs : map (moved_by (map (slice_index ws) l.inputs) (map (slice_index vs) r.inputs)) n.inputs ≡ map (moved ws vs l.inputs r.inputs) n.inputs
          inputs = map-same_on (moved_by (map (slice_index ws) l.inputs) (map (slice_index vs) r.inputs)) (moved ws vs l.inputs r.inputs) n.inputs
              (λ w m. moved-same ws vs l.inputs r.inputs same-inputs w)

          outputs : map (moved_by (map (slice_index ws) l.outputs) (map (slice_index vs) r.outputs)) n.outputs ≡ map (moved ws vs l.outputs r.outputs) n.outputs
          outputs = map-same_on (moved_by (map (slice_index ws) l.outputs) (map (slice_index vs) r.outputs)) (moved ws vs l.outputs r.outputs) n.outputs
              (λ w m. moved-same ws vs l.outputs r.outputs same-outputs w)

      -- ## it is sound

      there : (w : ℕ) → Member w (ids (without_all ws n.wires) ++ vs) → IsIn w (replaced_in n l r es ws ds vs).wires
      there w m = member-there w (replaced_in n l r es ws ds vs).wires (rw (new-ids n l r es ws ds vs sound fits) m)

      all-moved : (inner ends : List ℕ) → length inner ≡ length ends → ((v : ℕ) → Member v ends → v < length r.wires) → (xs : List ℕ) → All (λ w. IsIn w n.wires) xs
          → ((w : ℕ) → Member w xs → IsCovered ws inner w) → All (λ w. IsIn w (replaced_in n l r es ws ds vs).wires) (map (moved ws vs inner ends) xs)
      all-moved inner ends same below xs a covered = All-members (map (moved ws vs inner ends) xs) (λ w m.
          let u = map-member (moved ws vs inner ends) xs w m in
          subst (λ w. IsIn w (replaced_in n l r es ws ds vs).wires) u.2
          (there (moved ws vs inner ends u.0) (moved-there ws vs inner ends n.wires same (λ v k. let b = below v k in omega arith) u.0
          (there-member u.0 n.wires (all-member (λ w. IsIn w n.wires) xs a u.0 u.1)) (covered u.0 u.1))))

      all-new : (xs : List ℕ) → ((v : ℕ) → Member v xs → v < length r.wires) → All (λ w. IsIn w (replaced_in n l r es ws ds vs).wires) (map (slice_index vs) xs)
      all-new xs below = All-members (map (slice_index vs) xs) (λ w m.
          let u = map-member (slice_index vs) xs w m in
          let b = below u.0 u.1 in
          let c : u.0 < length vs = omega arith in
          there w (member-right (ids (without_all ws n.wires)) vs w (subst (λ w. Member w vs) u.2 (index-member vs u.0 c))))

      closed : IsClosed (replaced_in n l r es ws ds vs)
      closed = record {
        ports = All-from_get_members {P = λ (e : ℕ × Edge). All (λ w. IsIn w (replaced_in n l r es ws ds vs).wires) e.1.sources × All (λ w. IsIn w (replaced_in n l r es ws ds vs).wires) e.1.targets}
            (replaced_in n l r es ws ds vs).edges (λ e m. by e (member-split (map (moved_edge l r ws vs) (without_all es n.edges)) (zip ds (map (renamed (slice_index vs)) r.edges)) e m));
        inputs = all-moved l.inputs r.inputs same-inputs (input-below r s.rule.right) n.inputs sound.closed.inputs fits.ins;
        outputs = all-moved l.outputs r.outputs same-outputs (output-below r s.rule.right) n.outputs sound.closed.outputs fits.outs;
      }
        where
          by : (e : ℕ × Edge) → (Member e (map (moved_edge l r ws vs) (without_all es n.edges))) ⊎ (Member e (zip ds (map (renamed (slice_index vs)) r.edges)))
              → All (λ w. IsIn w (replaced_in n l r es ws ds vs).wires) e.1.sources × All (λ w. IsIn w (replaced_in n l r es ws ds vs).wires) e.1.targets
          by e (inl m) =
              let x = map-member (moved_edge l r ws vs) (without_all es n.edges) e m in
              let f = filter-member (λ (e : ℕ × Edge). is_apart es e.0) n.edges x.0 x.1 in
              let c = all-items (λ (e : ℕ × Edge). All (λ w. IsIn w n.wires) e.1.sources × All (λ w. IsIn w n.wires) e.1.targets) n.edges sound.closed.ports x.0 f.0 in
              subst (λ (e : ℕ × Edge). All (λ w. IsIn w (replaced_in n l r es ws ds vs).wires) e.1.sources × All (λ w. IsIn w (replaced_in n l r es ws ds vs).wires) e.1.targets) x.2 (
                all-moved l.outputs r.outputs same-outputs (output-below r s.rule.right) x.0.1.sources c.0 (λ w k. fits.sources x.0 w f.0 f.1 k),
                all-moved l.inputs r.inputs same-inputs (input-below r s.rule.right) x.0.1.targets c.1 (λ w k. fits.targets x.0 w f.0 f.1 k),
              )
          by e (inr m) =
              let x = map-member (renamed (slice_index vs)) r.edges e.1 (zip-member ds (map (renamed (slice_index vs)) r.edges) e m) in
              subst (λ (y : Edge). All (λ w. IsIn w (replaced_in n l r es ws ds vs).wires) y.sources × All (λ w. IsIn w (replaced_in n l r es ws ds vs).wires) y.targets) x.2
              (all-new x.0.sources (source-below r s.rule.right x.0 x.1), all-new x.0.targets (target-below r s.rule.right x.0 x.1))

      pub is-step : IsStep n l r es ws (replaced_in n l r es ws ds vs)
      is-step = bridge n l r es ws ds vs sound fits

      pub step-sound : AreDistinct (ids (replaced_in n l r es ws ds vs).edges) → AreDistinct (ids (replaced_in n l r es ws ds vs).wires) → IsSound (replaced_in n l r es ws ds vs)
      step-sound d e = record {
        closed = closed;
        valid = subst IsValid (sym is-step) (replaced_valid l r (plain n) (edge_places n es) (wire_places n ws) s.rule sound.valid s.occurrence);
        edges_apart = d;
        wires_apart = e;
      }
