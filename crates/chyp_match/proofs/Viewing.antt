-- A graph by places is itself by numbers.
use Rattle.std.proofs.Common.{ℕ, zero, suc, ◌+◌, ◌<◌, ◌≡◌, Bool, true, false, eqb, All, List, [], ◌∷◌, length, map, slice_get, slice_index, ◌++◌, inl}
use Rattle.std.proofs.Common.{inr, refl, sym, ◌∙◌, ap, ap₂, arith, eq-eqb, eqb-true}
use Rattle.std.specs.List.{zip}
use Rattle.std.proofs.lemmas.List.Elements.{All-cons, All-nil}
use Rattle.chyp_term.specs.Perm.{count_from}
use Rattle.chyp_term.proofs.Members.{Member, map-same_on, member-below, member-flat, not_member-apart, Rearr-member, member-left, member-right}
use Rattle.chyp_term.proofs.Positions.{map-id}
use Rattle.chyp_term.proofs.Rearrangement.{Rearr-sym, permutation-Rearr}
use Rattle.chyp_graph.specs.PlainGraph.{Edge, PlainGraph, renamed, sources_of, targets_of}
use Rattle.chyp_graph.specs.Validity.{IsValid}
use Rattle.chyp_match.specs.Listed.{numbered_from}
use Rattle.chyp_match.specs.View.{AreDistinct, AreNumbered, IsSeen, by_places, item_at, net_of}

-- ## numbers from 0 on

index-count : (n k w : ℕ) → w < n → slice_index (count_from k n) w ≡ k + w
index-count zero k w h = absurd (omega arith)
index-count (suc n) k zero h = omega arith
index-count (suc n) k (suc w) h = index-count n (suc k) w (omega arith) ∙ omega arith

length-count : (n k : ℕ) → length (count_from k n) ≡ n
length-count zero k = refl
length-count (suc n) k = ap suc (length-count n (suc k))

count-above : (n k m j : ℕ) → Member j (count_from k n) → m < k → m < j
count-above zero k m j h l = absurd h
count-above (suc n) k m j (inl e) l = omega arith
count-above (suc n) k m j (inr h) l = count-above n (suc k) m j h (omega arith)

count-distinct : (n k : ℕ) → AreDistinct (count_from k n)
count-distinct zero k = tt
count-distinct (suc n) k = (not_member-apart (count_from (suc k) n) k (λ h. let a = count-above n (suc k) k k h (omega arith) in omega arith), count-distinct n (suc k))

module _ {T : Type 0} where
  item-from : (items : List T) (n k : ℕ) → item_at (n + k) (numbered_from n items) ≡ slice_get items k
  item-from [] n k = refl
  item-from (x ∷ xs) n zero = let e = eq-eqb (n + 0) n (omega arith) in rw e refl
  item-from (x ∷ xs) n (suc k) = by (eqb (n + suc k) n) refl (item-from xs (suc n) k)
    where
      by : (b : Bool) → eqb (n + suc k) n ≡ b → item_at (suc n + k) (numbered_from (suc n) xs) ≡ slice_get xs k → item_at (n + suc k) (numbered_from n (x ∷ xs)) ≡ slice_get xs k
      by true e r = let q = eqb-true (n + suc k) n e in absurd (omega arith)
      by false e r = let q : n + suc k ≡ suc n + k = omega arith in rw e (ap (λ m. item_at m (numbered_from (suc n) xs)) q ∙ r)

  bound-from : (items : List T) (n m : ℕ) → n + length items ≡ m → All (λ (e : ℕ × T). e.0 < m) (numbered_from n items)
  bound-from [] n m q = All-nil (λ (e : ℕ × T). e.0 < m)
  bound-from (x ∷ xs) n m q = All-cons (λ (e : ℕ × T). e.0 < m) (n, x) (numbered_from (suc n) xs) (omega arith) (bound-from xs (suc n) m (omega arith))

  pub are-numbered : (items : List T) → AreNumbered items
  are-numbered items = record {
    each = λ k. let z : 0 + k ≡ k = omega arith in ap (λ m. item_at m (numbered_from 0 items)) (sym z) ∙ item-from items 0 k;
    bound = bound-from items 0 (length items) (omega arith);
  }

-- ## a valid graph

module _ (g : PlainGraph) (v : IsValid g) where
  made-below : (w : ℕ) → Member w (g.inputs) → w < length g.wires
  made-below w h = member-below (length g.wires) w (Rearr-member w (Rearr-sym (permutation-Rearr (length g.wires) (g.inputs ++ targets_of g.edges) v.producers))
      (member-left g.inputs (targets_of g.edges) w h))

  target-below : (w : ℕ) → Member w (targets_of g.edges) → w < length g.wires
  target-below w h = member-below (length g.wires) w (Rearr-member w (Rearr-sym (permutation-Rearr (length g.wires) (g.inputs ++ targets_of g.edges) v.producers))
      (member-right g.inputs (targets_of g.edges) w h))

  used-below : (w : ℕ) → Member w (g.outputs) → w < length g.wires
  used-below w h = member-below (length g.wires) w (Rearr-member w (Rearr-sym (permutation-Rearr (length g.wires) (g.outputs ++ sources_of g.edges) v.consumers))
      (member-left g.outputs (sources_of g.edges) w h))

  source-below : (w : ℕ) → Member w (sources_of g.edges) → w < length g.wires
  source-below w h = member-below (length g.wires) w (Rearr-member w (Rearr-sym (permutation-Rearr (length g.wires) (g.outputs ++ sources_of g.edges) v.consumers))
      (member-right g.outputs (sources_of g.edges) w h))

  same-wires : (ws : List ℕ) → ((w : ℕ) → Member w ws → w < length g.wires) → map (slice_index (count_from 0 (length g.wires))) ws ≡ ws
  same-wires ws f =
      map-same_on (slice_index (count_from 0 (length g.wires))) (λ w. w) ws (λ w h. index-count (length g.wires) 0 w (f w h) ∙ omega arith) ∙ map-id ws

  same-edges : (es : List Edge) → ((e : Edge) → Member e es → Member e g.edges) → map (renamed (slice_index (count_from 0 (length g.wires)))) es ≡ es
  same-edges [] f = refl
  same-edges (e ∷ es) f =
      let m = f e (inl refl) in
      let s = same-wires e.sources (λ w h. source-below w (member-flat (λ (x : Edge). x.sources) g.edges e w m h)) in
      let t = same-wires e.targets (λ w h. target-below w (member-flat (λ (x : Edge). x.targets) g.edges e w m h)) in
      ap₂ (λ x xs. x ∷ xs) (λ i. record { name = e.name; sources = s i; targets = t i }) (same-edges es (λ x h. f x (inr h)))

  pub net-same : net_of (by_places g) ≡ record { edges = numbered_from 0 g.edges; wires = numbered_from 0 g.wires; inputs = g.inputs; outputs = g.outputs }
  net-same =
      let e = same-edges g.edges (λ x h. h) in
      let i = same-wires g.inputs made-below in
      let o = same-wires g.outputs used-below in
      λ j. record { edges = zip (count_from 0 (length g.edges)) (e j); wires = zip (count_from 0 (length g.wires)) g.wires; inputs = i j; outputs = o j }

  pub places-seen : IsSeen (by_places g)
  places-seen = record {
    valid = v;
    edges = length-count (length g.edges) 0;
    wires = length-count (length g.wires) 0;
    edges_apart = count-distinct (length g.edges) 0;
    wires_apart = count-distinct (length g.wires) 0;
  }
