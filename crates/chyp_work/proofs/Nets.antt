-- Graphs by numbers.
use Rattle.std.proofs.Common.{ℕ, suc, ◌<◌, ◌≡◌, Bool, true, false, eqb, List, [], ◌∷◌, length, map, Option, Some, None, All, Bor, Contains, slice_get, ◌⊎◌, inl, inr, refl, sym, ap, subst, eqb-true}
use Rattle.std.specs.Prelude.{IsSome, option_copied, option_map}
use Rattle.std.proofs.lemmas.List.Elements.{All-cons, All-head, All-nil, All-tail}
use Rattle.std.proofs.lemmas.Map.Made.{lookup-map_values}
use Rattle.chyp_graph.specs.PlainGraph.{Edge, renamed, sources_of, targets_of}
use Rattle.std.specs.List.{zip}
use Rattle.std.specs.Prelude.{slice_index}
use Rattle.std.specs.Option.{unwrap_or}
use Rattle.std.proofs.Common.{eq-eqb}
use Rattle.chyp_term.specs.Positions.{is_there, place_of}
use Rattle.chyp_match.specs.View.{IsIn, IsSeen, Net, net_of, source_in, target_in}
use Rattle.chyp_work.specs.Net.{IsSound, place_in, plain, seen_of}
use Rattle.chyp_term.proofs.Members.{member-among, Member, get-member, member-flat, member-map, member-right, parts-apart}
use Rattle.chyp_term.proofs.Members.{Contains-member}
use Rattle.chyp_store.specs.Items.{ids, item_at}

-- what is found through a reference
pub there-result : {X Y : Type 0} (f : X → Y) (r : Option (Bor X)) (o : Option X) → option_copied r ≡ o → IsSome (option_map f o) → IsSome r
there-result f None o e h = let x = rw (← e) at h in absurd (cc)
there-result f (Some x) o e h = refl

-- the items under a map of items
pub item-map : {X Y : Type 0} (f : X → Y) (k : ℕ) (items : List (ℕ × X)) → item_at k (map (λ e. (e.0, f e.1)) items) ≡ option_map f (item_at k items)
item-map f k items = lookup-map_values f (eqb k) items

pub below-map : {X Y : Type 0} (f : X → Y) (b : ℕ) (items : List (ℕ × X)) → All {X = ℕ × X} (λ e. e.0 < b) items → All {X = ℕ × Y} (λ e. e.0 < b) (map (λ e. (e.0, f e.1)) items)
below-map {X} {Y} f b [] h = All-nil (λ (e : ℕ × Y). e.0 < b)
below-map {X} {Y} f b (e ∷ es) h = All-cons (λ (e : ℕ × Y). e.0 < b) (e.0, f e.1) (map (λ e. (e.0, f e.1)) es) (All-head (λ (e : ℕ × X). e.0 < b) e es h)
    (below-map f b es (All-tail (λ (e : ℕ × X). e.0 < b) e es h))

-- what is found stands in the list
pub item-member : {X : Type 0} (k : ℕ) (x : X) (items : List (ℕ × X)) → item_at k items ≡ Some x → Member (k, x) items
item-member k x [] h = absurd (cc)
item-member {X} k x (e ∷ es) h = by (eqb k e.0) refl (item-member k x es)
  where
    by : (b : Bool) → eqb k e.0 ≡ b → (item_at k es ≡ Some x → Member (k, x) es) → Member (k, x) (e ∷ es)
    by true q r =
        let a = rw q at h in
        let b : e.1 ≡ x = cc in
        let c : k ≡ e.0 = eqb-true k e.0 q in
        let d : e ≡ (k, x) = λ i. (sym c i, b i) in
        subst (λ (y : ℕ × X). Member y (e ∷ es)) d (get-member (e ∷ es) 0 e refl)
    by false q r = let a = rw q at h in member-right (e ∷ []) es (k, x) (r a)

module _ (n : Net) (sound : IsSound n) where
  -- what an edge makes is no input
  pub target-no-input : (k i w : ℕ) → target_in n k i ≡ Some w → Contains n.inputs w → ⊥
  target-no-input k i w h c = by (item_at k n.edges) refl
    where
      by : (o : Option Edge) → item_at k n.edges ≡ o → ⊥
      by None e = let x = rw e at h in absurd (cc)
      by (Some edge) e =
          let x : slice_get edge.targets i ≡ Some w = rw e at h in
          let f = place_in (ids n.wires) in
          let edges = (plain n).edges in
          let a = member-map f edge.targets w (get-member edge.targets i w x) in
          let b = member-map (λ (e : ℕ × Edge). renamed f e.1) n.edges (k, edge) (item-member k edge n.edges e) in
          let d = member-flat (λ (e : Edge). e.targets) edges (renamed f edge) (f w) b a in
          parts-apart (length (plain n).wires) (plain n).inputs (targets_of edges) sound.valid.producers (f w) (member-map f n.inputs w (Contains-member n.inputs w c)) d

  -- what an edge uses is no output
  pub source-no-output : (k i w : ℕ) → source_in n k i ≡ Some w → Contains n.outputs w → ⊥
  source-no-output k i w h c = by (item_at k n.edges) refl
    where
      by : (o : Option Edge) → item_at k n.edges ≡ o → ⊥
      by None e = let x = rw e at h in absurd (cc)
      by (Some edge) e =
          let x : slice_get edge.sources i ≡ Some w = rw e at h in
          let f = place_in (ids n.wires) in
          let edges = (plain n).edges in
          let a = member-map f edge.sources w (get-member edge.sources i w x) in
          let b = member-map (λ (e : ℕ × Edge). renamed f e.1) n.edges (k, edge) (item-member k edge n.edges e) in
          let d = member-flat (λ (e : Edge). e.sources) edges (renamed f edge) (f w) b a in
          parts-apart (length (plain n).wires) (plain n).outputs (sources_of edges) sound.valid.consumers (f w) (member-map f n.outputs w (Contains-member n.outputs w c)) d

pub none-absent : (xs : List ℕ) (w : ℕ) → place_of w xs ≡ None → Member w xs → ⊥
none-absent xs w e m = let a = member-among xs w m in let b : is_there (place_of w xs) ≡ false = rw e refl in absurd (cc)

-- the place of a number that stands in a list leads back to it
pub index-place : (ks : List ℕ) (w : ℕ) → Member w ks → slice_index ks (place_in ks w) ≡ w
index-place ks w m = by (place_of w ks) refl
  where
    at : (xs : List ℕ) (o : Option ℕ) → place_of w xs ≡ o → Member w xs → slice_index xs (unwrap_or o 0) ≡ w
    at [] o e m = absurd m
    at (x ∷ xs) o e m = go (eqb x w) refl (at xs)
      where
        go : (b : Bool) → eqb x w ≡ b → ((p : Option ℕ) → place_of w xs ≡ p → Member w xs → slice_index xs (unwrap_or p 0) ≡ w) → slice_index (x ∷ xs) (unwrap_or o 0) ≡ w
        go true q r =
            let a = rw q at e in
            let c : x ≡ w = eqb-true x w q in
            rw (← a) c
        go false q r = step (place_of w xs) refl (tail m) (rw q at e)
          where
            tail : ((x ≡ w) ⊎ Member w xs) → Member w xs
            tail (inl d) = let y = eq-eqb x w d in absurd (cc)
            tail (inr d) = d

            step : (p : Option ℕ) → place_of w xs ≡ p → Member w xs → option_map suc (place_of w xs) ≡ o → slice_index (x ∷ xs) (unwrap_or o 0) ≡ w
            step None d k f = absurd (none-absent xs w d k)
            step (Some j) d k f = let y : Some (suc j) ≡ o = rw d at f in rw (← y) (r (Some j) d k)

    by : (o : Option ℕ) → place_of w ks ≡ o → slice_index ks (unwrap_or (place_of w ks) 0) ≡ w
    by o e = rw e (at ks o e m)

pub there-member : {X : Type 0} (w : ℕ) (items : List (ℕ × X)) → IsIn w items → Member w (ids items)
there-member {X} w items h = by (item_at w items) refl
  where
    by : (o : Option X) → item_at w items ≡ o → Member w (ids items)
    by None e = let x = rw e at h in absurd (cc)
    by (Some x) e = member-map (λ (e : ℕ × X). e.0) items (w, x) (item-member w x items e)

pub map-back : {X : Type 0} (items : List (ℕ × X)) (ws : List ℕ) → All (λ w. IsIn w items) ws → map (slice_index (ids items)) (map (place_in (ids items)) ws) ≡ ws
map-back items [] h = refl
map-back items (w ∷ ws) h =
    let a = index-place (ids items) w (there-member w items (All-head (λ w. IsIn w items) w ws h)) in
    let b = map-back items ws (All-tail (λ w. IsIn w items) w ws h) in
    λ i. a i ∷ b i

pub zip-ids : {X : Type 0} (items : List (ℕ × X)) → zip (ids items) (map (λ e. e.1) items) ≡ items
zip-ids [] = refl
zip-ids (e ∷ es) = ap (λ l. e ∷ l) (zip-ids es)

pub zip-back : {X : Type 0} (wires : List (ℕ × X)) (edges : List (ℕ × Edge)) → All (λ e. All (λ w. IsIn w wires) e.1.sources × All (λ w. IsIn w wires) e.1.targets) edges
    → zip (ids edges) (map (renamed (slice_index (ids wires))) (map (λ e. renamed (place_in (ids wires)) e.1) edges)) ≡ edges
zip-back wires [] h = refl
zip-back {X} wires (e ∷ es) h =
    let p = λ (e : ℕ × Edge). All (λ w. IsIn w wires) e.1.sources × All (λ w. IsIn w wires) e.1.targets in
    let a = All-head p e es h in
    let b = zip-back wires es (All-tail p e es h) in
    let s = map-back wires e.1.sources a.0 in
    let t = map-back wires e.1.targets a.1 in
    λ i. (e.0, record { name = e.1.name; sources = s i; targets = t i }) ∷ b i

-- what a sound graph by numbers shows is that graph
pub shown : (n : Net) → IsSound n → net_of (seen_of n) ≡ n
shown n s =
    let a = zip-back n.wires n.edges s.closed.ports in
    let b = zip-ids n.wires in
    let c = map-back n.wires n.inputs s.closed.inputs in
    let d = map-back n.wires n.outputs s.closed.outputs in
    λ i. record { edges = a i; wires = b i; inputs = c i; outputs = d i }

pub length-ids : {X Y : Type 0} (f : ℕ × X → Y) (items : List (ℕ × X)) → length (ids items) ≡ length (map f items)
length-ids f [] = refl
length-ids f (e ∷ es) = ap suc (length-ids f es)

pub sound-seen : (n : Net) → IsSound n → IsSeen (seen_of n)
sound-seen n s = record {
  valid = s.valid;
  edges = length-ids (λ e. renamed (place_in (ids n.wires)) e.1) n.edges;
  wires = length-ids (λ e. e.1) n.wires;
  edges_apart = s.edges_apart;
  wires_apart = s.wires_apart;
}
