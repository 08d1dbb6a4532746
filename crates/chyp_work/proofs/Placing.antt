-- Boards whose plain graph is made.
use Rattle.std.proofs.Common.{ℕ, zero, suc, ◌+◌, ◌<◌, ◌≡◌, ◌≢◌, List, [], ◌∷◌, ◌++◌, length, map, take, Option, Some, None, All, Bor, slice_get}
use Rattle.std.proofs.Common.{slice_index, slice_set, ◌⊎◌, inl, inr, refl, sym, ◌∙◌, ap, arith}
use Rattle.std.specs.Prelude.{IsSome, option_copied}
use Rattle.std.specs.Option.{unwrap_or}
use Rattle.std.proofs.lemmas.Bool.{cases_eq}
use Rattle.std.proofs.lemmas.List.{map-append}
use Rattle.chyp_base.specs.declared.sort.Sort.{Sort}
use Rattle.chyp_term.specs.Positions.{place_of}
use Rattle.chyp_term.proofs.Members.{All-from_get_members, Member, get-member, map-same_on, member-get}
use Rattle.chyp_term.proofs.Positions.{map-map, slice_get-length, some-same}
use Rattle.chyp_term.proofs.Slices.{take-suc}
use Rattle.chyp_graph.specs.PlainGraph.{Edge, PlainGraph, renamed}
use Rattle.chyp_match.specs.View.{IsIn}
use Rattle.chyp_store.specs.Items.{AreDistinct, ids, item_at}
use Rattle.chyp_work.specs.Board.{HasPortsBelow, IsWork, edge_of, net, wires_of}
use Rattle.chyp_work.specs.Net.{place_in, plain}
use Rattle.chyp_work.specs.declared.board.Board.{Board}
use Rattle.chyp_work.specs.declared.board.EdgeItem.{EdgeItem}
use Rattle.chyp_work.specs.declared.board.WireItem.{WireItem}
use Rattle.chyp_work.proofs.Boards.{ids-map, item-once}
use Rattle.chyp_work.proofs.Fillings.{all-get}
use Rattle.chyp_work.proofs.Items.{shown-item, some-result}
use Rattle.chyp_work.proofs.Nets.{item-map, there-member}
use Rattle.chyp_work.proofs.Places.{place-distinct}
use Rattle.chyp_work.proofs.Putting.{all-unmap}

-- ## items in order

-- the item that stands where its number does
pub numbered : {X : Type 0} (items : List (ℕ × X)) (i k : ℕ) → slice_get (ids items) i ≡ Some k → (x : X) × (slice_get items i ≡ Some (k, x))
numbered [] i k h = absurd (cc)
numbered {X} (e ∷ es) zero k h = let q : e.0 ≡ k = cc in (e.1, ap (λ (j : ℕ). Some (j, e.1)) q)
numbered (e ∷ es) (suc i) k h = numbered es i k h

module _ {X : Type 0} (items : List (ℕ × X)) (numbers : List ℕ) (d : AreDistinct (ids items)) (e : numbers ≡ ids items) (i k : ℕ) (h : slice_get numbers i ≡ Some k) where
  at : (x : X) × (slice_get items i ≡ Some (k, x))
  at = numbered items i k (rw (← e) h)

  found : item_at k items ≡ Some at.0
  found = item-once (k, at.0) items d (get-member items i (k, at.0) at.1)

  pub walk-in : IsIn k items
  walk-in = rw found refl

  -- it is there
  pub walk-there : (r : Option (Bor X)) → option_copied r ≡ item_at k items → IsSome r
  walk-there r o = some-result r at.0 (o ∙ found)

  -- and the item at that place
  pub walk-item : (r : Option (Bor X)) (b : Bor X) → option_copied r ≡ item_at k items → r ≡ Some b → slice_get items i ≡ Some (k, b.now)
  walk-item r b o q = at.1 ∙ ap (λ (x : X). Some (k, x)) (sym (shown-item r b at.0 q (o ∙ found)))

pub walk-more : {X Y : Type 0} (f : X → Y) (items : List X) (made more : List Y) (i : ℕ) (x : X) (y : Y) → slice_get items i ≡ Some x → y ≡ f x → made ≡ map f (take i items) → more ≡ made ++ y ∷ []
    → more ≡ map f (take (i + 1) items)
walk-more f items made more i x y g e m h = rw (take-suc items i x g, map-append f (take i items) (x ∷ []), h, m, e) refl

-- ## the places of wires

index-set_same : (xs : List ℕ) (k v : ℕ) → k < length xs → slice_index (slice_set xs k v) k ≡ v
index-set_same [] k v h = absurd (omega arith)
index-set_same (x ∷ xs) zero v h = refl
index-set_same (x ∷ xs) (suc k) v h = index-set_same xs k v (omega arith)

index-set_other : (xs : List ℕ) (j k v : ℕ) → j ≢ k → slice_index (slice_set xs k v) j ≡ slice_index xs j
index-set_other [] j k v n = refl
index-set_other (x ∷ xs) zero zero v n = absurd (n refl)
index-set_other (x ∷ xs) zero (suc k) v n = refl
index-set_other (x ∷ xs) (suc j) zero v n = refl
index-set_other (x ∷ xs) (suc j) (suc k) v n = index-set_other xs j k v (λ q. n (ap suc q))

-- one more place is noted
pub place-more : {X : Type 0} (items : List (ℕ × X)) (numbers places : List ℕ) (i k : ℕ) → AreDistinct (ids items) → numbers ≡ ids items → slice_get numbers i ≡ Some k → k < length places
    → ((j w : ℕ) → j < i → slice_get numbers j ≡ Some w → slice_index places w ≡ j) → (j w : ℕ) → j < i + 1 → slice_get numbers j ≡ Some w → slice_index (slice_set places k i) w ≡ j
place-more {X} items numbers places i k d e g l noted j w h m = by (cases_eq w k)
  where
    place : (j w : ℕ) → slice_get numbers j ≡ Some w → place_of w (ids items) ≡ Some j
    place j w m = let n = numbered items j w (rw (← e) m) in place-distinct items j (w, n.0) d n.1

    by : (w ≡ k) ⊎ (w ≢ k) → slice_index (slice_set places k i) w ≡ j
    by (inl q) =
        let a = place j w m in
        let b = place i k g in
        let c : i ≡ j = some-same i j (sym b ∙ ap (λ x. place_of x (ids items)) (sym q) ∙ a) in
        rw q (index-set_same places k i l) ∙ c
    by (inr n) = index-set_other places w k i n ∙ noted j w (on (cases_eq j i)) m
      where
        on : (j ≡ i) ⊎ (j ≢ i) → j < i
        on (inl q) = absurd (n (some-same w k (sym m ∙ ap (slice_get numbers) q ∙ g)))
        on (inr p) = omega arith

-- all places are noted
pub places-noted : {X : Type 0} (items : List (ℕ × X)) (numbers places : List ℕ) (n : ℕ) → AreDistinct (ids items) → numbers ≡ ids items → n ≡ length numbers
    → ((j w : ℕ) → j < n → slice_get numbers j ≡ Some w → slice_index places w ≡ j) → (w : ℕ) → IsIn w items → slice_index places w ≡ place_in (ids items) w
places-noted items numbers places n d e l noted w t =
    let m = there-member w items t in
    let i = member-get (ids items) w m in
    let x = numbered items i.0 w i.1 in
    let p = place-distinct items i.0 (w, x.0) d x.1 in
    let h = slice_get-length (ids items) i.0 w i.1 in
    let q : i.0 < n = rw (l, e) h in
    noted i.0 w q (rw e i.1) ∙ sym (ap (λ o. unwrap_or o 0) p)

-- a number that is there is below what is above all
pub below-all : {X : Type 0} (items : List (ℕ × X)) (b w : ℕ) → All {X = ℕ × X} (λ e. e.0 < b) items → IsIn w items → w < b
below-all {X} items b w a t =
    let i = member-get (ids items) w (there-member w items t) in
    let x = numbered items i.0 w i.1 in
    all-get (λ (e : ℕ × X). e.0 < b) items i.0 (w, x.0) a x.1

-- ## the plain graph

module _ (b : Board) (work : IsWork b) (places : List ℕ) (bound : (w : ℕ) → IsIn w b.wires.items → w < length places)
    (noted : (w : ℕ) → IsIn w b.wires.items → slice_index places w ≡ place_in (ids b.wires.items) w)
  where
    kept : (w : ℕ) → IsIn w (wires_of b.wires.items) → IsIn w b.wires.items
    kept w t = by (item_at w b.wires.items) refl
      where
        by : (o : Option WireItem) → item_at w b.wires.items ≡ o → IsIn w b.wires.items
        by None e = let a = rw (item-map (λ (item : WireItem). item.sort) w b.wires.items, e) at t in absurd (cc)
        by (Some x) e = rw e refl

    all-below : (ws : List ℕ) → All (λ w. IsIn w (wires_of b.wires.items)) ws → All (λ w. w < length places) ws
    all-below ws a = All-from_get_members {P = λ w. w < length places} ws (λ w m. let i = member-get ws w m in bound w (kept w (all-get (λ w. IsIn w (wires_of b.wires.items)) ws i.0 w a i.1)))

    same-place : (w : ℕ) → IsIn w (wires_of b.wires.items) → slice_index places w ≡ place_in (ids (wires_of b.wires.items)) w
    same-place w t = noted w (kept w t) ∙ ap (λ ks. place_in ks w) (sym (ids-map (λ (item : WireItem). item.sort) b.wires.items))

    same-places : (ws : List ℕ) → All (λ w. IsIn w (wires_of b.wires.items)) ws → map (slice_index places) ws ≡ map (place_in (ids (wires_of b.wires.items))) ws
    same-places ws a = map-same_on (slice_index places) (place_in (ids (wires_of b.wires.items))) ws (λ w m. let i = member-get ws w m in same-place w (all-get (λ w. IsIn w
        (wires_of b.wires.items)) ws i.0 w a i.1))

    pub inputs-below : All (λ w. w < length places) b.inputs.items
    inputs-below = all-below b.inputs.items work.sound.closed.inputs

    pub outputs-below : All (λ w. w < length places) b.outputs.items
    outputs-below = all-below b.outputs.items work.sound.closed.outputs

    abbrev Closed : ℕ × EdgeItem → Type 0
    Closed e = All (λ w. IsIn w (wires_of b.wires.items)) e.1.sources.items × All (λ w. IsIn w (wires_of b.wires.items)) e.1.targets.items

    closed : All Closed b.edges.items
    closed = all-unmap (λ (e : ℕ × Edge). All (λ w. IsIn w (wires_of b.wires.items)) e.1.sources × All (λ w. IsIn w (wires_of b.wires.items)) e.1.targets)
        (λ (e : ℕ × EdgeItem). (e.0, edge_of e.1)) b.edges.items work.sound.closed.ports

    pub ports-below : All (λ (e : ℕ × EdgeItem). HasPortsBelow (length places) e.1) b.edges.items
    ports-below = All-from_get_members {P = λ (e : ℕ × EdgeItem). HasPortsBelow (length places) e.1} b.edges.items (λ e m.
        let i = member-get b.edges.items e m in
        let a = all-get Closed b.edges.items i.0 e closed i.1 in
        (all-below e.1.sources.items a.0, all-below e.1.targets.items a.1))

    same-edge : (e : ℕ × EdgeItem) → Member e b.edges.items → renamed (slice_index places) (edge_of e.1) ≡ renamed (place_in (ids (wires_of b.wires.items))) (edge_of e.1)
    same-edge e m =
        let i = member-get b.edges.items e m in
        let a = all-get Closed b.edges.items i.0 e closed i.1 in
        let s = same-places e.1.sources.items a.0 in
        let t = same-places e.1.targets.items a.1 in
        λ j. record { name = e.1.name; sources = s j; targets = t j }

    pub plain-made : (wires : List Sort) (edges : List Edge) (inputs outputs : List ℕ) → wires ≡ map (λ (e : ℕ × WireItem). e.1.sort) b.wires.items
        → edges ≡ map (λ (e : ℕ × EdgeItem). renamed (slice_index places) (edge_of e.1)) b.edges.items
        → inputs ≡ map (slice_index places) b.inputs.items → outputs ≡ map (slice_index places) b.outputs.items
        → ◌≡◌ {A = PlainGraph} (record { wires = wires; edges = edges; inputs = inputs; outputs = outputs }) (plain (net b))
    plain-made wires edges inputs outputs w e i o =
        let ww = w ∙ sym (map-map (λ (e : ℕ × Sort). e.1) (λ (e : ℕ × WireItem). (e.0, e.1.sort)) b.wires.items) in
        let ee = e ∙ map-same_on (λ (e : ℕ × EdgeItem). renamed (slice_index places) (edge_of e.1)) (λ (e : ℕ × EdgeItem). renamed (place_in (ids (wires_of b.wires.items)))
        (edge_of e.1)) b.edges.items same-edge
        ∙ sym (map-map (λ (e : ℕ × Edge). renamed (place_in (ids (wires_of b.wires.items))) e.1) (λ (e : ℕ × EdgeItem). (e.0, edge_of e.1)) b.edges.items) in
        let ii = i ∙ same-places b.inputs.items work.sound.closed.inputs in
        let oo = o ∙ same-places b.outputs.items work.sound.closed.outputs in
        λ j. record { wires = ww j; edges = ee j; inputs = ii j; outputs = oo j }
