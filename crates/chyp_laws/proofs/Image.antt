-- The middle of a term that an occurrence divides: its edges are those of l.
use Rattle.std.proofs.Common.{ℕ, ◌<◌, ◌≡◌, true, false, List, [], ◌∷◌, ◌++◌, map, length, Some, option_map, slice_get, slice_index, inl, inr, refl, sym, ◌∙◌, ap, ap₂, subst, arith, zero-add}
use Rattle.std.specs.List.{AllByRecursion}
use Rattle.std.proofs.lemmas.Bool.{both_ways}
use Rattle.chyp_term.specs.Morphism.{Morphism, then, dom, IsTyped}
use Rattle.chyp_term.specs.Perm.{count_from}
use Rattle.chyp_term.specs.Positions.{is_apart}
use Rattle.chyp_term.proofs.Closure.{get-index}
use Rattle.chyp_term.proofs.Permuted.{found}
use Rattle.chyp_term.proofs.Positions.{slice_get-length, map-map}
use Rattle.chyp_theory.proofs.Cancelling.{map-Some}
use Rattle.chyp_theory.proofs.Renaming.{Producer, In, Target}
use Rattle.chyp_theory.proofs.Running.{EdgeOf, Label, label_of, run, src}
use Rattle.chyp_graph.specs.PlainGraph.{PlainGraph, renamed}
use Rattle.chyp_term.proofs.Members.{Member, member-left, member-right, member-Contains}
use Rattle.chyp_term.proofs.Rearrangement.{all-count}
use Rattle.chyp_laws.proofs.Drawing.{IsWire, drawn}
use Rattle.chyp_laws.proofs.Draws.{Draws, ins-size, edge-below, edge-apart, wire-apart}
use Rattle.chyp_laws.proofs.IsomorphicAlike.{input-sorts, source-sorts, target-sorts, map-count-at}
use Rattle.chyp_pattern.specs.Occurrence.{IsReached, first, IsOccurrence}
use Rattle.chyp_term.proofs.Apart.{Apart, Apart-count}
use Rattle.chyp_laws.proofs.Colour.{matched, same_ports}
use Rattle.chyp_pattern.proofs.Reached.{reached-outside}
use Rattle.chyp_laws.proofs.Front.{low_inputs, low_run}
use Rattle.chyp_theory.proofs.Linear.{made, member-made, comes_out}
use Rattle.chyp_term.proofs.SameMembers.{index-image, count-contains, get-contains, member-count}

-- a term in three parts that g draws, with an occurrence of the graph of l in g: the edges of the first part are neither
-- image nor reached, those of the middle are the image, and those of the last part are reached
pub record Parted (l : Morphism) (lG g : PlainGraph) (dl : Draws l lG) (es ws : List ℕ) : Type 0 where
  pub first : Morphism
  pub middle : Morphism
  pub last : Morphism
  pub typed : IsTyped (then first (then middle last))
  pub pattern_typed : IsTyped l
  pub draws : Draws (then first (then middle last)) g
  pub occurs : IsOccurrence lG g es ws
  pub is_first : (e : EdgeOf first) → (¬ (IsReached g es ws (draws.edge (inl e)))) × (is_apart es (draws.edge (inl e)) ≡ true)
  pub is_middle : (e : EdgeOf middle) → is_apart es (draws.edge (inr (inl e))) ≡ false
  pub is_last : (e : EdgeOf last) → IsReached g es ws (draws.edge (inr (inr e)))

module _ {l : Morphism} {lG g : PlainGraph} {dl : Draws l lG} {es ws : List ℕ} (parts : Parted l lG g dl es ws) where
  open parts use {first as A, middle as M, last as L, typed as ty, pattern_typed as tl, draws as d, occurs as o, is_first as hA, is_middle as hM, is_last as hL}

  -- what comes out of the first part
  abbrev pub live : List ℕ
  live = run A (λ e i. d.wire (Target (inl e) i)) g.inputs

  -- what the edges of the middle make
  abbrev pub mk : EdgeOf M → ℕ → ℕ
  mk e i = d.wire (Target (inr (inl e)) i)

  image_edge : (e : EdgeOf l) → is_apart es (slice_index es (dl.edge e)) ≡ false
  image_edge e = index-image es (dl.edge e) (subst (λ n. dl.edge e < n) (sym o.edge_count) (edge-below dl e))

  in_middle : (e : EdgeOf l) → (m : EdgeOf M) × (d.edge (inr (inl m)) ≡ slice_index es (dl.edge e))
  in_middle e =
      go (d.edge_onto (slice_index es (dl.edge e))
      (slice_get-length g.edges _ _ (o.ports (dl.edge e) (edge-below dl e) ∙ ap (option_map (renamed (slice_index ws))) (dl.ports e))))
    where
      by : (x : EdgeOf (then A (then M L))) → d.edge x ≡ slice_index es (dl.edge e) → (m : EdgeOf M) × (d.edge (inr (inl m)) ≡ slice_index es (dl.edge e))
      by (inl x) q = absurd (both_ways (is_apart es (slice_index es (dl.edge e))) (image_edge e) (ap (is_apart es) (sym q) ∙ (hA x).1))
      by (inr (inl m)) q = (m, q)
      by (inr (inr x)) q = absurd (both_ways (is_apart es (slice_index es (dl.edge e))) (image_edge e) (ap (is_apart es) (sym q) ∙ reached-outside (hL x)))

      go : (x : EdgeOf (then A (then M L))) × (d.edge_from (slice_index es (dl.edge e)) ≡ Some x) × (d.edge x ≡ slice_index es (dl.edge e))
          → (m : EdgeOf M) × (d.edge (inr (inl m)) ≡ slice_index es (dl.edge e))
      go (x, _, q) = by x q

  -- the edges of l are those of the middle
  pub to : EdgeOf l → EdgeOf M
  to e = (in_middle e).0

  pub to_at : (e : EdgeOf l) → d.edge (inr (inl (to e))) ≡ slice_index es (dl.edge e)
  unfolding to
  to_at e = (in_middle e).1

  pub from : EdgeOf M → EdgeOf l
  from m = (matched ty tl d dl o (inr (inl m)) (hM m)).0

  from_at : (m : EdgeOf M) → slice_index es (dl.edge (from m)) ≡ d.edge (inr (inl m))
  unfolding from
  from_at m = (matched ty tl d dl o (inr (inl m)) (hM m)).1

  pub to_from : (m : EdgeOf M) → to (from m) ≡ m
  to_from m = inner (to (from m)) m (edge-apart d (inr (inl (to (from m)))) (inr (inl m)) (to_at (from m) ∙ from_at m))
    where
      inner : (x y : EdgeOf M) → ◌≡◌ {A = EdgeOf (then A (then M L))} (inr (inl x)) (inr (inl y)) → x ≡ y
      inner x y q = cc

  pub from_to : (e : EdgeOf l) → from (to e) ≡ e
  from_to e =
      edge-apart dl (from (to e)) e (o.edges_apart (dl.edge (from (to e))) (dl.edge e)
      (subst (λ n. dl.edge (from (to e)) < n) (sym o.edge_count) (edge-below dl (from (to e))))
      (subst (λ n. dl.edge e < n) (sym o.edge_count) (edge-below dl e)) (from_at (to e) ∙ to_at e))

  ports : (e : EdgeOf l)
      → drawn (then A (then M L)) (λ e i. d.wire (Target e i)) g.inputs (inr (inl (to e))) ≡ renamed (slice_index ws)
      (drawn l (λ e i. dl.wire (Target e i)) lG.inputs e)
  ports e = same_ports ty tl d dl o e (inr (inl (to e))) (sym (to_at e))

  -- edges take the images of what edges of l take
  pub sources : (e : EdgeOf l) → src M mk live (to e) ≡ map (slice_index ws) (src l (λ e i. dl.wire (Target e i)) lG.inputs e)
  sources e = ap (λ z. z.sources) (ports e)

  pub sorts_along : (xs : List ℕ) → AllByRecursion (λ v. v < length lG.wires) xs
      → map (slice_get g.wires) (map (slice_index ws) xs) ≡ map (slice_get lG.wires) xs
  sorts_along [] a = refl
  sorts_along (x ∷ xs) a = ap₂ (λ y r. y ∷ r) (o.sorts x a.0) (sorts_along xs a.1)

  pub labels : (e : EdgeOf l) → label_of M (to e) ≡ label_of l e
  labels e = label (label_of M (to e)) (label_of l e) (ap (λ z. z.name) (ports e))
      (map-Some _ _ (sym (source-sorts (then A (then M L)) ty g d (inr (inl (to e)))) ∙ ap (map (slice_get g.wires)) (sources e)
      ∙ sorts_along _ ((low_run tl dl).1 e) ∙ source-sorts l tl lG dl e))
      (map-Some _ _ (sym (target-sorts (then A (then M L)) ty g d (inr (inl (to e)))) ∙ ap (λ z. map (slice_get g.wires) z.targets) (ports e)
      ∙ sorts_along _ (all-count (λ v. v < length lG.wires) (λ i. dl.wire (Target e i)) 0 (length (label_of l e).cod)
      (λ i _ h. dl.wire_below (Target e i) (omega arith))) ∙ target-sorts l tl lG dl e))
    where
      label : (x y : Label) → x.name ≡ y.name → x.dom ≡ y.dom → x.cod ≡ y.cod → x ≡ y
      label x y a b c = λ i. record { name = a i; dom = b i; cod = c i }

  -- and make the images of what edges of l make
  pub target : (e : EdgeOf l) (i : ℕ) → i < length (label_of l e).cod → mk (to e) i ≡ slice_index ws (dl.wire (Target e i))
  target e i h =
      ap (mk (to e)) (sym (zero-add i)) ∙ map-count-at (mk (to e)) (λ i. slice_index ws (dl.wire (Target e i))) 0 (length (label_of l e).cod) i same h
      ∙ ap (λ i. slice_index ws (dl.wire (Target e i))) (zero-add i)
    where
      same : map (mk (to e)) (count_from 0 (length (label_of l e).cod)) ≡ map (λ i. slice_index ws (dl.wire (Target e i)))
          (count_from 0 (length (label_of l e).cod))
      same =
          ap (λ z. map (mk (to e)) (count_from 0 (length z.cod))) (sym (labels e)) ∙ ap (λ z. z.targets) (ports e)
          ∙ map-map (slice_index ws) (λ i. dl.wire (Target e i)) (count_from 0 (length (label_of l e).cod))

  -- ## the images of the inputs of l come into the middle

  low : (x : Producer (EdgeOf l)) → IsWire l x → dl.wire x < length ws
  low x v = subst (λ n. dl.wire x < n) (sym o.wire_count) (dl.wire_below x v)

  input_not_target : (j : ℕ) → j < length (dom l) → (m : EdgeOf M) (i : ℕ) → i < length (label_of M m).cod → mk m i ≡ slice_index ws (dl.wire (In j)) → ⊥
  input_not_target j h m i r q =
      let k : i < length (label_of l (from m)).cod = subst (λ z. i < length z.cod) (ap (label_of M) (sym (to_from m)) ∙ labels (from m)) r in
      no (from m) (wire-apart dl (Target (from m) i) (In j) k h
      (o.wires_apart (dl.wire (Target (from m) i)) (dl.wire (In j)) (low (Target (from m) i) k) (low (In j) h)
      (sym (target (from m) i k) ∙ ap (λ z. mk z i) (to_from m) ∙ q)))
    where
      no : (e : EdgeOf l) → Target e i ≡ In j → ⊥
      no e q = cc

  -- each of them comes out of the first part
  pub mouth_in : (j : ℕ) → j < length (dom l) → Member (slice_index ws (dl.wire (In j))) live
  mouth_in j h =
      comes_out A ty.0 (λ e i. d.wire (Target (inl e) i)) g.inputs (ins-size d) w (made_at (d.from w) (d.from_valid w below) (d.wire_from w below)) unused
    where
      w : ℕ
      w = slice_index ws (dl.wire (In j))

      below : w < length g.wires
      below =
          let f = found lG.wires (dl.wire (In j)) (dl.wire_below (In j) h) in
          slice_get-length g.wires w f.0 (o.sorts (dl.wire (In j)) (dl.wire_below (In j) h) ∙ f.1)

      image : is_apart ws w ≡ false
      image = index-image ws (dl.wire (In j)) (low (In j) h)

      made_at : (x : Producer (EdgeOf (then A (then M L)))) → IsWire (then A (then M L)) x → d.wire x ≡ w
          → Member w (g.inputs ++ made A (λ e i. d.wire (Target (inl e) i)))
      made_at (In k) v q =
          member-left g.inputs _ w (subst (λ z. Member w z) (sym d.inputs)
          (subst (λ w. Member w (map (λ j. d.wire (In j)) (count_from 0 (length (dom A))))) (ap (λ k. d.wire (In k)) (zero-add k) ∙ q)
          (member-count (λ j. d.wire (In j)) 0 (length (dom A)) k v)))
      made_at (Target (inl e) i) v q =
          member-right g.inputs _ w (subst (λ w. Member w (made A (λ e i. d.wire (Target (inl e) i)))) q
          (member-made A (λ e i. d.wire (Target (inl e) i)) e i v))
      made_at (Target (inr (inl m)) i) v q = absurd (input_not_target j h m i v q)
      made_at (Target (inr (inr f)) i) v q =
          absurd (both_ways (is_apart ws w) image
          (ap (is_apart ws) (sym q) ∙ o.convex (d.edge (inr (inr f))) _ (d.wire (Target (inr (inr f)) i)) (hL f) (d.ports (inr (inr f)))
          (count-contains (λ i. d.wire (Target (inr (inr f)) i)) (length (label_of L f).cod) i v)))

      unused : (e : EdgeOf A) → Member w (src A (λ e i. d.wire (Target (inl e) i)) g.inputs e) → ⊥
      unused e q =
          (hA e).0 (first (d.ports (inl e)) (hA e).1 (get-contains ws (dl.wire (In j)) w (get-index ws (dl.wire (In j)) (low (In j) h)))
          (member-Contains _ w q))

  -- the images of the inputs of l
  abbrev pub mouth : List ℕ
  mouth = map (λ j. slice_index ws (dl.wire (In j))) (count_from 0 (length (dom l)))

  pub mouth_apart : Apart mouth
  mouth_apart =
      Apart-count (λ j. slice_index ws (dl.wire (In j))) 0 (length (dom l))
      (λ i j _ h _ k q. at i j (wire-apart dl (In i) (In j) (omega arith) (omega arith)
      (o.wires_apart (dl.wire (In i)) (dl.wire (In j)) (low (In i) (omega arith)) (low (In j) (omega arith)) q)))
    where
      at : (i j : ℕ) → ◌≡◌ {A = Producer (EdgeOf l)} (In i) (In j) → i ≡ j
      at i j q = cc

  pub mouth_is : map (slice_index ws) lG.inputs ≡ mouth
  mouth_is = ap (map (slice_index ws)) dl.inputs ∙ map-map (slice_index ws) (λ j. dl.wire (In j)) (count_from 0 (length (dom l)))

  pub mouth_sorts : map (slice_get g.wires) mouth ≡ map (λ z. Some z) (dom l)
  mouth_sorts = ap (map (slice_get g.wires)) (sym mouth_is) ∙ sorts_along lG.inputs (low_inputs dl) ∙ input-sorts l tl lG dl

  pub mouth_has : AllByRecursion (λ w. Member w live) mouth
  mouth_has = all-count (λ w. Member w live) (λ j. slice_index ws (dl.wire (In j))) 0 (length (dom l)) (λ j _ h. mouth_in j (omega arith))
