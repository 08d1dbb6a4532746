-- Replacement by numbers is replacement by places.
use Rattle.std.proofs.Common.{ℕ, zero, suc, ◌+◌, ◌<◌, ◌≡◌, true, List, [], ◌∷◌, ◌++◌, length, map, filter, Option, Some, None, All, slice_get, slice_index, inl, inr, refl, sym, ◌∙◌, ap, subst, arith}
use Rattle.std.specs.List.{zip}
use Rattle.std.specs.Option.{unwrap_or}
use Rattle.std.proofs.lemmas.List.{map-append}
use Rattle.std.proofs.lemmas.List.Elements.{All-head, All-tail}
use Rattle.chyp_base.specs.declared.sort.Sort.{Sort}
use Rattle.chyp_term.specs.Perm.{count_from, permuted}
use Rattle.chyp_term.specs.Positions.{is_apart, place_of}
use Rattle.chyp_term.proofs.Inverses.{place-found}
use Rattle.chyp_term.proofs.Positions.{map-map, slice_get-length}
use Rattle.chyp_graph.specs.PlainGraph.{Edge, PlainGraph, renamed}
use Rattle.chyp_term.proofs.Members.{Member, filter-member, map-member, map-same_on, member-get, member-map, member-not_apart, not_member-apart}
use Rattle.chyp_match.specs.View.{IsIn, Net}
use Rattle.chyp_store.specs.Items.{ids}
use Rattle.chyp_work.specs.Net.{IsSound, place_in, plain}
use Rattle.chyp_pattern.specs.Replacement.{bound_at, kept_wires, rebound, replaced}
use Rattle.chyp_work.specs.Replacement.{Fits, IsCovered, ReplacedIsReplaced, moved, moved_edge, replaced_in}
use Rattle.chyp_work.proofs.Nets.{there-member}
use Rattle.chyp_work.proofs.Places.{apart-places, ids-zip, index-member, items-zip, kept-items, kept-length, place-behind, place-distinct, place-images, place-kept, place-of-index}

pub length-mapped : {A B : Type 0} (f : A → B) (xs : List A) → length (map f xs) ≡ length xs
length-mapped f [] = refl
length-mapped f (x ∷ xs) = ap suc (length-mapped f xs)

get-mapped : {A B : Type 0} (f : A → B) (xs : List A) (i : ℕ) (x : A) → slice_get xs i ≡ Some x → slice_get (map f xs) i ≡ Some (f x)
get-mapped f [] i x h = absurd (cc)
get-mapped f (y ∷ ys) zero x h = let q : y ≡ x = cc in ap (λ z. Some (f z)) q
get-mapped f (y ∷ ys) (suc i) x h = get-mapped f ys i x h

alike : {A B C D : Type 0} (f : B → D) (g : A → B) (p : C → D) (q : A → C) (xs : List A) → ((x : A) → Member x xs → f (g x) ≡ p (q x)) → map f (map g xs) ≡ map p (map q xs)
alike f g p q xs h = map-map f g xs ∙ map-same_on (λ x. f (g x)) (λ x. p (q x)) xs h ∙ sym (map-map p q xs)

pub all-member : (p : ℕ → Type 0) (xs : List ℕ) → All p xs → (x : ℕ) → Member x xs → p x
all-member p [] a x m = absurd m
all-member p (y ∷ ys) a x (inl e) = subst p e (All-head p y ys a)
all-member p (y ∷ ys) a x (inr m) = all-member p ys (All-tail p y ys a) x m

pub all-items : {X : Type 0} (p : X → Type 0) (xs : List X) → All p xs → (x : X) → Member x xs → p x
all-items p [] a x m = absurd m
all-items p (y ∷ ys) a x (inl e) = subst p e (All-head p y ys a)
all-items p (y ∷ ys) a x (inr m) = all-items p ys (All-tail p y ys a) x m

module _ (n : Net) (l r : PlainGraph) (es ws ds vs : List ℕ) (sound : IsSound n) (fits : Fits n l r es ws ds vs) where
  place : ℕ → ℕ
  place = place_in (ids n.wires)

  pws : List ℕ
  pws = map (place_in (ids n.wires)) ws

  pes : List ℕ
  pes = map (place_in (ids n.edges)) es

  -- the numbers of the new graph's wires
  pub new-ids : ids (replaced_in n l r es ws ds vs).wires ≡ ids (filter (λ e. is_apart ws e.0) n.wires) ++ vs
  new-ids = map-append (λ (e : ℕ × Sort). e.0) (filter (λ e. is_apart ws e.0) n.wires) (zip vs r.wires) ∙ ap (λ t. ids (filter (λ e. is_apart ws e.0) n.wires) ++ t) (ids-zip vs r.wires fits.new_wires)

  wire-test : (i : ℕ) (e : ℕ × Sort) → slice_get n.wires i ≡ Some e → is_apart (map (place_in (ids n.wires)) ws) (0 + i) ≡ is_apart ws e.0
  wire-test i e h = let z : 0 + i ≡ i = omega arith in rw z (apart-places n.wires ws sound.wires_apart fits.wire_images i e h)

  edge-test : (i : ℕ) (e : ℕ × Edge) → slice_get n.edges i ≡ Some e → is_apart (map (place_in (ids n.edges)) es) (0 + i) ≡ is_apart es e.0
  edge-test i e h = let z : 0 + i ≡ i = omega arith in rw z (apart-places n.edges es sound.edges_apart fits.edge_images i e h)

  kept-count : length (kept_wires (plain n) (map (place_in (ids n.wires)) ws)) ≡ length (ids (filter (λ e. is_apart ws e.0) n.wires))
  kept-count =
      rw (length-mapped (λ (e : ℕ × Sort). e.1) n.wires)
      (kept-length (is_apart (map (place_in (ids n.wires)) ws)) (λ (e : ℕ × Sort). is_apart ws e.0) n.wires 0 wire-test
      ∙ sym (length-mapped (λ (e : ℕ × Sort). e.0) (filter (λ e. is_apart ws e.0) n.wires)))

  -- the place of a new wire
  place-new : (v : ℕ) → v < length r.wires → place_in (ids (filter (λ e. is_apart ws e.0) n.wires) ++ vs) (slice_index vs v) ≡ length (kept_wires (plain n) (map (place_in (ids n.wires)) ws)) + v
  place-new v h =
      let b : v < length vs = let q = fits.new_wires in omega arith in
      let a = place-behind (slice_index vs v) (ids (filter (λ e. is_apart ws e.0) n.wires)) vs v apart (place-of-index vs v fits.vs_apart b) in
      ap (λ (o : Option ℕ). unwrap_or o 0) a ∙ ap (λ k. k + v) (sym kept-count)
    where
      apart : is_apart (ids (filter (λ e. is_apart ws e.0) n.wires)) (slice_index vs v) ≡ true
      apart = not_member-apart (ids (filter (λ e. is_apart ws e.0) n.wires)) (slice_index vs v)
          (λ m. gone (map-member (λ (e : ℕ × Sort). e.0) (filter (λ e. is_apart ws e.0) n.wires) (slice_index vs v) m))
        where
          gone : (e : ℕ × Sort) × (Member e (filter (λ e. is_apart ws e.0) n.wires)) × (e.0 ≡ slice_index vs v) → ⊥
          gone e =
              let b : v < length vs = let q = fits.new_wires in omega arith in
              let c = filter-member (λ (e : ℕ × Sort). is_apart ws e.0) n.wires e.0 e.1 in
              let d = member-map (λ (e : ℕ × Sort). e.0) n.wires e.0 c.0 in
              let f = member-not_apart (ids n.wires) (slice_index vs v) (subst (λ j. Member j (ids n.wires)) e.2 d) in
              let g = fits.fresh (slice_index vs v) (index-member vs v b) in absurd (cc)

  -- an end of what stays
  moved-place : (inner ends : List ℕ) → length inner ≡ length ends → ((v : ℕ) → Member v inner → v < length ws) → ((v : ℕ) → Member v ends → v < length r.wires)
      → (w : ℕ) → Member w (ids n.wires) → IsCovered ws inner w
      → place_in (ids (filter (λ e. is_apart ws e.0) n.wires) ++ vs) (moved ws vs inner ends w) ≡ rebound (plain n) (map (place_in (ids n.wires)) ws) inner ends (place_in (ids n.wires) w)
  moved-place inner ends same below within w m covered = rw (place-images (ids n.wires) ws inner w fits.wire_images below m) (by (place_of w (map (slice_index ws) inner)) refl covered)
    where
      by : (o : Option ℕ) → place_of w (map (slice_index ws) inner) ≡ o → IsCovered ws inner w
          → place_in (ids (filter (λ e. is_apart ws e.0) n.wires) ++ vs) (moved ws vs inner ends w)
          ≡ bound_at (length (kept_wires (plain n) (map (place_in (ids n.wires)) ws))) ends
          (length (filter (is_apart (map (place_in (ids n.wires)) ws)) (count_from 0 (place_in (ids n.wires) w)))) (place_of w (map (slice_index ws) inner))
      by None o (inr c) = let x = c.1 in absurd (cc)
      by None o (inl k) = rw o (at (map-member (λ (e : ℕ × Sort). e.0) n.wires w m))
        where
          at : (e : ℕ × Sort) × (Member e n.wires) × (e.0 ≡ w)
              → place_in (ids (filter (λ e. is_apart ws e.0) n.wires) ++ vs) w ≡ length (filter (is_apart (map (place_in (ids n.wires)) ws)) (count_from 0 (place_in (ids n.wires) w)))
          at e =
              let g = member-get n.wires e.0 e.1 in
              let p : place_in (ids n.wires) w ≡ g.0 = rw (← e.2) (ap (λ (o : Option ℕ). unwrap_or o 0) (place-distinct n.wires g.0 e.0 sound.wires_apart g.1)) in
              let q = place-kept (is_apart (map (place_in (ids n.wires)) ws)) (λ (e : ℕ × Sort). is_apart ws e.0) vs n.wires 0 g.0 e.0 sound.wires_apart wire-test g.1 (rw e.2 k) in
              rw p (subst (λ j. place_in (ids (filter (λ e. is_apart ws e.0) n.wires) ++ vs) j ≡ length (filter (is_apart (map (place_in (ids n.wires)) ws)) (count_from 0 g.0))) e.2
              (ap (λ (o : Option ℕ). unwrap_or o 0) q))
      by (Some i) o c =
          let a = slice_get-length (map (slice_index ws) inner) i w (place-found w (map (slice_index ws) inner) i o) in
          let b = length-mapped (slice_index ws) inner in
          let d : i < length ends = omega arith in
          rw o (place-new (slice_index ends i) (within (slice_index ends i) (index-member ends i d)))

  there : (e : ℕ × Edge) → Member e n.edges → All (λ w. IsIn w n.wires) e.1.sources × All (λ w. IsIn w n.wires) e.1.targets
  there e m = all-items (λ (e : ℕ × Edge). All (λ w. IsIn w n.wires) e.1.sources × All (λ w. IsIn w n.wires) e.1.targets) n.edges sound.closed.ports e m

  bridge-wires : (plain (replaced_in n l r es ws ds vs)).wires ≡ (replaced (plain n) l r (map (place_in (ids n.edges)) es) (map (place_in (ids n.wires)) ws)).wires
  bridge-wires =
      map-append (λ (e : ℕ × Sort). e.1) (filter (λ e. is_apart ws e.0) n.wires) (zip vs r.wires)
      ∙ ap (λ t. map (λ (e : ℕ × Sort). e.1) (filter (λ e. is_apart ws e.0) n.wires) ++ t) (items-zip vs r.wires fits.new_wires)
      ∙ ap (λ t. t ++ r.wires) (rw (length-mapped (λ (e : ℕ × Sort). e.1) n.wires)
      (sym (kept-items (slice_get (map (λ (e : ℕ × Sort). e.1) n.wires)) (λ (e : ℕ × Sort). e.1) (is_apart (map (place_in (ids n.wires)) ws)) (λ (e : ℕ × Sort). is_apart ws e.0) n.wires 0
      (λ i e h. (let z : 0 + i ≡ i = omega arith in rw z (get-mapped (λ (e : ℕ × Sort). e.1) n.wires i e h), wire-test i e h)))))

  bridge-inputs : (plain (replaced_in n l r es ws ds vs)).inputs ≡ (replaced (plain n) l r (map (place_in (ids n.edges)) es) (map (place_in (ids n.wires)) ws)).inputs
  bridge-inputs =
      rw new-ids
      (alike (place_in (ids (filter (λ e. is_apart ws e.0) n.wires) ++ vs)) (moved ws vs l.inputs r.inputs) (rebound (plain n) (map (place_in (ids n.wires)) ws) l.inputs r.inputs)
      (place_in (ids n.wires)) n.inputs
      (λ w m. moved-place l.inputs r.inputs fits.inputs fits.left_inputs fits.right_inputs w (there-member w n.wires (all-member (λ w. IsIn w n.wires) n.inputs sound.closed.inputs w m))
      (fits.ins w m)))

  bridge-outputs : (plain (replaced_in n l r es ws ds vs)).outputs ≡ (replaced (plain n) l r (map (place_in (ids n.edges)) es) (map (place_in (ids n.wires)) ws)).outputs
  bridge-outputs =
      rw new-ids
      (alike (place_in (ids (filter (λ e. is_apart ws e.0) n.wires) ++ vs)) (moved ws vs l.outputs r.outputs) (rebound (plain n) (map (place_in (ids n.wires)) ws) l.outputs r.outputs)
      (place_in (ids n.wires)) n.outputs
      (λ w m. moved-place l.outputs r.outputs fits.outputs fits.left_outputs fits.right_outputs w (there-member w n.wires (all-member (λ w. IsIn w n.wires) n.outputs sound.closed.outputs w m))
      (fits.outs w m)))

  rebound_edge : Edge → Edge
  rebound_edge e = record {
    name = e.name;
    sources = map (rebound (plain n) (map (place_in (ids n.wires)) ws) l.outputs r.outputs) e.sources;
    targets = map
        (rebound (plain n) (map (place_in (ids n.wires)) ws) l.inputs r.inputs) e.targets;
  }

  kept-edge : (e : ℕ × Edge) → Member e (filter (λ e. is_apart es e.0) n.edges)
      → renamed (place_in (ids (filter (λ e. is_apart ws e.0) n.wires) ++ vs)) (moved_edge l r ws vs e).1
      ≡ record {
        name = e.1.name;
        sources = map (rebound (plain n) (map (place_in (ids n.wires)) ws) l.outputs r.outputs) (map (place_in (ids n.wires)) e.1.sources);
        targets = map
            (rebound (plain n) (map (place_in (ids n.wires)) ws) l.inputs r.inputs) (map (place_in (ids n.wires)) e.1.targets);
      }
  kept-edge e m =
      let f = filter-member (λ (e : ℕ × Edge). is_apart es e.0) n.edges e m in
      let t = there e f.0 in
      let s = alike (place_in (ids (filter (λ e. is_apart ws e.0) n.wires) ++ vs)) (moved ws vs l.outputs r.outputs) (rebound (plain n) (map (place_in (ids n.wires)) ws) l.outputs r.outputs)
      (place_in (ids n.wires)) e.1.sources
      (λ w k. moved-place l.outputs r.outputs fits.outputs fits.left_outputs fits.right_outputs w (there-member w n.wires (all-member (λ w. IsIn w n.wires) e.1.sources t.0 w k))
      (fits.sources e w f.0 f.1 k)) in
      let u = alike (place_in (ids (filter (λ e. is_apart ws e.0) n.wires) ++ vs)) (moved ws vs l.inputs r.inputs) (rebound (plain n) (map (place_in (ids n.wires)) ws) l.inputs r.inputs)
      (place_in (ids n.wires)) e.1.targets
      (λ w k. moved-place l.inputs r.inputs fits.inputs fits.left_inputs fits.right_inputs w (there-member w n.wires (all-member (λ w. IsIn w n.wires) e.1.targets t.1 w k))
      (fits.targets e w f.0 f.1 k)) in
      λ i. record { name = e.1.name; sources = s i; targets = u i }

  new-edge : (e : Edge) → Member e r.edges
      → renamed (place_in (ids (filter (λ e. is_apart ws e.0) n.wires) ++ vs)) (renamed (slice_index vs) e) ≡ renamed (λ v. length (kept_wires (plain n) (map (place_in (ids n.wires)) ws)) + v) e
  new-edge e m =
      let s = map-map (place_in (ids (filter (λ e. is_apart ws e.0) n.wires) ++ vs)) (slice_index vs) e.sources
      ∙ map-same_on (λ v. place_in (ids (filter (λ e. is_apart ws e.0) n.wires) ++ vs) (slice_index vs v)) (λ v. length (kept_wires (plain n) (map (place_in (ids n.wires)) ws)) + v) e.sources
      (λ v k. place-new v (fits.right_sources e v m k)) in
      let t = map-map (place_in (ids (filter (λ e. is_apart ws e.0) n.wires) ++ vs)) (slice_index vs) e.targets
      ∙ map-same_on (λ v. place_in (ids (filter (λ e. is_apart ws e.0) n.wires) ++ vs) (slice_index vs v)) (λ v. length (kept_wires (plain n) (map (place_in (ids n.wires)) ws)) + v) e.targets
      (λ v k. place-new v (fits.right_targets e v m k)) in
      λ i. record { name = e.name; sources = s i; targets = t i }

  kept-edges : permuted (plain n).edges (filter (is_apart (map (place_in (ids n.edges)) es)) (count_from 0 (length (plain n).edges)))
      ≡ map (λ e. renamed (place_in (ids n.wires)) e.1) (filter (λ e. is_apart es e.0) n.edges)
  kept-edges =
      rw (length-mapped (λ (e : ℕ × Edge). renamed (place_in (ids n.wires)) e.1) n.edges)
      (kept-items (slice_get (plain n).edges) (λ (e : ℕ × Edge). renamed (place_in (ids n.wires)) e.1) (is_apart (map (place_in (ids n.edges)) es)) (λ (e : ℕ × Edge). is_apart es e.0) n.edges 0
      (λ i e h. (let z : 0 + i ≡ i = omega arith in rw z (get-mapped (λ (e : ℕ × Edge). renamed (place_in (ids n.wires)) e.1) n.edges i e h), edge-test i e h)))

  bridge-edges : (plain (replaced_in n l r es ws ds vs)).edges ≡ (replaced (plain n) l r (map (place_in (ids n.edges)) es) (map (place_in (ids n.wires)) ws)).edges
  bridge-edges = rw (new-ids, kept-edges) (map-append new (map (moved_edge l r ws vs) (filter (λ e. is_apart es e.0) n.edges)) (zip ds (map (renamed (slice_index vs)) r.edges))
      ∙ (λ i. stays i ++ comes i))
    where
      new : ℕ × Edge → Edge
      new e = renamed (place_in (ids (filter (λ e. is_apart ws e.0) n.wires) ++ vs)) e.1

      stays : map (λ (e : ℕ × Edge). renamed (place_in (ids (filter (λ e. is_apart ws e.0) n.wires) ++ vs)) e.1) (map (moved_edge l r ws vs) (filter (λ e. is_apart es e.0) n.edges))
          ≡ map (λ (e : Edge). record {
            name = e.name;
            sources = map (rebound (plain n) (map (place_in (ids n.wires)) ws) l.outputs r.outputs) e.sources;
            targets = map
                (rebound (plain n) (map (place_in (ids n.wires)) ws) l.inputs r.inputs) e.targets;
          })
          (map (λ (e : ℕ × Edge). renamed (place_in (ids n.wires)) e.1) (filter (λ e. is_apart es e.0) n.edges))
      stays = alike (λ (e : ℕ × Edge). renamed (place_in (ids (filter (λ e. is_apart ws e.0) n.wires) ++ vs)) e.1) (moved_edge l r ws vs)
          (λ (e : Edge). record {
            name = e.name;
            sources = map (rebound (plain n) (map (place_in (ids n.wires)) ws) l.outputs r.outputs) e.sources;
            targets = map
                (rebound (plain n) (map (place_in (ids n.wires)) ws) l.inputs r.inputs) e.targets;
          }) (λ (e : ℕ × Edge). renamed (place_in (ids n.wires)) e.1)
          (filter (λ e. is_apart es e.0) n.edges) kept-edge

      comes : map (λ (e : ℕ × Edge). renamed (place_in (ids (filter (λ e. is_apart ws e.0) n.wires) ++ vs)) e.1) (zip ds (map (renamed (slice_index vs)) r.edges))
          ≡ map (renamed (λ v. length (kept_wires (plain n) (map (place_in (ids n.wires)) ws)) + v)) r.edges
      comes =
          sym (map-map (renamed (place_in (ids (filter (λ e. is_apart ws e.0) n.wires) ++ vs))) (λ (e : ℕ × Edge). e.1) (zip ds (map (renamed (slice_index vs)) r.edges)))
          ∙ ap (map (renamed (place_in (ids (filter (λ e. is_apart ws e.0) n.wires) ++ vs))))
          (items-zip ds (map (renamed (slice_index vs)) r.edges) (fits.new_edges ∙ sym (length-mapped (renamed (slice_index vs)) r.edges)))
          ∙ map-map (renamed (place_in (ids (filter (λ e. is_apart ws e.0) n.wires) ++ vs))) (renamed (slice_index vs)) r.edges
          ∙ map-same_on (λ e. renamed (place_in (ids (filter (λ e. is_apart ws e.0) n.wires) ++ vs)) (renamed (slice_index vs) e))
          (renamed (λ v. length (kept_wires (plain n) (map (place_in (ids n.wires)) ws)) + v)) r.edges new-edge

pub bridge : ReplacedIsReplaced
bridge n l r es ws ds vs sound fits =
    let a = bridge-wires n l r es ws ds vs sound fits in
    let b = bridge-edges n l r es ws ds vs sound fits in
    let c = bridge-inputs n l r es ws ds vs sound fits in
    let d = bridge-outputs n l r es ws ds vs sound fits in
    λ i. record { wires = a i; edges = b i; inputs = c i; outputs = d i }
