-- The wires of a context where another term is put in.
use Rattle.std.proofs.Common.{ℕ, suc, ◌+◌, ◌<◌, ◌≡◌, true, List, [], ◌∷◌, ◌++◌, map, length, take, drop, filter, min, slice_index, inl, inr, refl, sym, ◌∙◌, ap, ap₂, subst, arith, length-append}
use Rattle.std.proofs.Common.{length-take}
use Rattle.std.specs.List.{AllByRecursion}
use Rattle.std.proofs.lemmas.List.{length-map, map-append, take-map, drop-map, get_or-map}
use Rattle.chyp_base.specs.declared.sort.Sort.{Sort}
use Rattle.chyp_term.specs.Morphism.{Morphism, dom, cod, IsTyped}
use Rattle.chyp_term.specs.Perm.{permuted, count_from}
use Rattle.chyp_term.specs.Positions.{place_of, is_apart}
use Rattle.chyp_term.proofs.Distinct.{all-map}
use Rattle.chyp_term.proofs.Inverses.{permuted-count}
use Rattle.chyp_theory.proofs.Congruence.{length-run}
use Rattle.chyp_theory.proofs.Renaming.{Producer, In, Target, map-run, map-src, same-run, same-src}
use Rattle.chyp_theory.proofs.Running.{EdgeOf, label_of, run, src}
use Rattle.chyp_graph.specs.PlainGraph.{PlainGraph}
use Rattle.chyp_term.proofs.Rearrangement.{map-all}
use Rattle.chyp_laws.proofs.Draws.{Draws, ins-size, wire-apart}
use Rattle.chyp_pattern.specs.Replacement.{kept_wires, bound_at, rebound}
use Rattle.chyp_term.proofs.Apart.{Apart, place-of_index, place-of_none, map-by_index, all-mapped}
use Rattle.chyp_laws.proofs.Front.{IsEarly, low_run}
use Rattle.chyp_theory.proofs.Linear.{on_left, on_right, is_linear}
use Rattle.chyp_laws.proofs.Placed.{context, Placed, outs, ends, outs_size, ends_size, rest_ends, source_early, source_apart, split_early, early_outside, late_outside, inside, end_inside}

pub all-from_index : (P : ℕ → Type 0) (xs : List ℕ) → ((i : ℕ) → i < length xs → P (slice_index xs i)) → AllByRecursion P xs
all-from_index P [] f = tt
all-from_index P (x ∷ xs) f = (f 0 (omega arith), all-from_index P xs (λ i h. f (suc i) (omega arith)))

module _ {K : List Sort} {b a l r : Morphism} {lG rG g : PlainGraph} (ty : IsTyped (context K b a l)) (tr : IsTyped r) (doms : dom l ≡ dom r)
    (cods : cod l ≡ cod r) {dl : Draws l lG} (dr : Draws r rG) {es ws : List ℕ} (p : Placed K b a l lG g dl es ws) where
  -- the number of kept wires
  abbrev pub size : ℕ
  size = length (kept_wires g ws)

  -- the number of kept wires before a wire
  abbrev pub kept : ℕ → ℕ
  kept w = length (filter (is_apart ws) (count_from 0 w))

  -- a wire anew, where something makes it
  abbrev pub to_in : ℕ → ℕ
  to_in = rebound g ws lG.inputs rG.inputs

  -- and where something uses it
  abbrev pub to_out : ℕ → ℕ
  to_out = rebound g ws lG.outputs rG.outputs

  -- what comes out of b and passes beside l
  abbrev pub rest : List ℕ
  rest = take (length K) (outs ty p)

  -- what goes into l
  abbrev pub mouth : List ℕ
  mouth = ends ty p

  -- what comes out of l
  abbrev pub exits : List ℕ
  exits = run l (λ e i. p.d.wire (Target (inr (inl (inr e))) i)) mouth

  tl : IsTyped l
  tl = ty.1.0.1

  -- ## at the inputs

  pub in_kept : (w : ℕ) → is_apart ws w ≡ true → to_in w ≡ kept w
  in_kept w q =
      ap (bound_at size rG.inputs (kept w)) (ap (place_of w) p.ws_in ∙ place-of_none w mouth (all-from_index (λ x. ¬ (w ≡ x)) mouth
      (λ j h e. end_inside ty p j (subst (λ n. j < n) (ends_size ty p) h) (ap (is_apart ws) (sym e) ∙ q))))

  pub in_end : (j : ℕ) → j < length (dom l) → to_in (slice_index mouth j) ≡ size + slice_index rG.inputs j
  in_end j h = ap (bound_at size rG.inputs (kept (slice_index mouth j))) (ap (place_of (slice_index mouth j)) p.ws_in
      ∙ place-of_index mouth (rest_ends ty p).1 j (subst (λ n. j < n) (sym (ends_size ty p)) h))

  pub mouth_in : map to_in mouth ≡ map (λ v. size + v) rG.inputs
  mouth_in =
      map-by_index to_in mouth (map (λ v. size + v) rG.inputs)
      (ends_size ty p ∙ ap length doms ∙ sym (length-map rG.inputs (λ v. size + v) ∙ ins-size dr))
      (λ j h. let k : j < length (dom l) = subst (λ n. j < n) (ends_size ty p) h in
      in_end j k ∙ sym (get_or-map (λ v. size + v) rG.inputs j 0 0 (subst (λ n. j < n) (ap length doms ∙ sym (ins-size dr)) k)))

  -- ## at the outputs

  image_exits : map (slice_index ws) lG.outputs ≡ exits
  image_exits =
      ap (map (slice_index ws)) dl.outputs ∙ map-run (slice_index ws) l tl (λ e i. dl.wire (Target e i)) lG.inputs (ins-size dl)
      ∙ same-run l _ (λ e i. p.d.wire (Target (inr (inl (inr e))) i)) p.ws_target (map (slice_index ws) lG.inputs)
      ∙ ap (run l (λ e i. p.d.wire (Target (inr (inl (inr e))) i))) p.ws_in

  exits_size : length exits ≡ length (cod l)
  exits_size = length-run l tl (λ e i. p.d.wire (Target (inr (inl (inr e))) i)) mouth (ends_size ty p)

  outputs_below : AllByRecursion (λ v. v < length lG.wires) lG.outputs
  outputs_below = subst (AllByRecursion (λ v. v < length lG.wires)) (sym dl.outputs) (low_run tl dl).0

  pub out_kept : (w : ℕ) → is_apart ws w ≡ true → to_out w ≡ kept w
  out_kept w q = ap (bound_at size rG.outputs (kept w)) (place-of_none w (map (slice_index ws) lG.outputs)
      (all-mapped (λ v. v < length lG.wires) (λ x. ¬ (w ≡ x)) (slice_index ws)
      (λ v h e. inside ty p v (subst (λ n. v < n) (sym p.ws_size) h) (ap (is_apart ws) (sym e) ∙ q)) lG.outputs outputs_below))

  exits_apart : Apart exits
  exits_apart =
      (is_linear l tl (λ e i. p.d.wire (Target (inr (inl (inr e))) i)) mouth (ends_size ty p) (rest_ends ty p).1
      (λ d e i j h k q. on_right d e i j
      (on_left (inr d) (inr e) i j (on_right (inl (inr d)) (inl (inr e)) i j
      (wire-apart p.d (Target (inr (inl (inr d))) i) (Target (inr (inl (inr e))) j) h k q))))
      (λ e i h. all-map (λ w. IsEarly (p.d.from w)) (λ x. ¬ (p.d.wire (Target (inr (inl (inr e))) i) ≡ x))
      (λ x y q. subst IsEarly (ap p.d.from (sym q) ∙ p.d.from_wire (Target (inr (inl (inr e))) i) h) y) mouth (split_early ty p).1)).outs

  exits_out : map to_out exits ≡ map (λ v. size + v) rG.outputs
  exits_out = map-by_index to_out exits (map (λ v. size + v) rG.outputs) (exits_size ∙ ap length cods ∙ sym outs_r)
      (λ j h. ap (bound_at size rG.outputs (kept (slice_index exits j)))
      (ap (place_of (slice_index exits j)) image_exits ∙ place-of_index exits exits_apart j h)
      ∙ sym (get_or-map (λ v. size + v) rG.outputs j 0 0
      (subst (λ n. j < n) (exits_size ∙ ap length cods ∙ sym outs_r ∙ length-map rG.outputs (λ v. size + v)) h)))
    where
      outs_r : length (map (λ v. size + v) rG.outputs) ≡ length (cod r)
      outs_r = length-map rG.outputs (λ v. size + v) ∙ ap length dr.outputs ∙ length-run r tr (λ e i. dr.wire (Target e i)) rG.inputs (ins-size dr)

  -- ## both ways agree outside

  agree : (w : ℕ) → is_apart ws w ≡ true → to_out w ≡ to_in w
  agree w q = out_kept w q ∙ sym (in_kept w q)

  rest_agree : map to_out rest ≡ map to_in rest
  rest_agree = map-all to_out to_in rest (go rest (split_early ty p).0 (rest_ends ty p).2)
    where
      go : (xs : List ℕ) → AllByRecursion (λ w. IsEarly (p.d.from w)) xs → AllByRecursion (λ x. AllByRecursion (λ y. ¬ (x ≡ y)) mouth) xs
          → AllByRecursion (λ w. to_out w ≡ to_in w) xs
      go [] x y = tt
      go (w ∷ xs) x y = (agree w (early_outside ty p w x.0 y.0), go xs x.1 y.1)

  front_agree : (e : EdgeOf b)
      → map to_out (src b (λ e i. p.d.wire (Target (inl e) i)) g.inputs e) ≡ map to_in (src b (λ e i. p.d.wire (Target (inl e) i)) g.inputs e)
  front_agree e = map-all to_out to_in _ (go _ (source_early ty p e) (source_apart ty p e))
    where
      go : (xs : List ℕ) → AllByRecursion (λ w. IsEarly (p.d.from w)) xs → AllByRecursion (λ x. AllByRecursion (λ y. ¬ (x ≡ y)) mouth) xs
          → AllByRecursion (λ w. to_out w ≡ to_in w) xs
      go [] x y = tt
      go (w ∷ xs) x y = (agree w (early_outside ty p w x.0 y.0), go xs x.1 y.1)

  -- ## what the new context does

  -- the wires of the context of r, in the replaced graph
  abbrev pub new_wire : Producer (EdgeOf (context K b a r)) → ℕ
  new_wire (In j) = to_in (p.d.wire (In j))
  new_wire (Target (inl e) i) = to_in (p.d.wire (Target (inl e) i))
  new_wire (Target (inr (inl (inl e))) i) = absurd e
  new_wire (Target (inr (inl (inr e))) i) = size + dr.wire (Target e i)
  new_wire (Target (inr (inr e)) i) = to_in (p.d.wire (Target (inr (inr e)) i))

  -- what comes out of b, anew
  abbrev pub new_outs : List ℕ
  new_outs = run b (λ e i. to_in (p.d.wire (Target (inl e) i))) (map to_in g.inputs)

  outs_new : map to_in (outs ty p) ≡ new_outs
  outs_new = map-run to_in b ty.0 (λ e i. p.d.wire (Target (inl e) i)) g.inputs (ins-size p.d)

  pub mouth_new : drop (length K) new_outs ≡ map (λ v. size + v) rG.inputs
  mouth_new = ap (drop (length K)) (sym outs_new) ∙ drop-map to_in (length K) (outs ty p) ∙ mouth_in

  rest_new : permuted (take (length K) new_outs) (count_from 0 (length K)) ≡ map to_in rest
  rest_new =
      let q = outs_size ty p in
      ap (λ z. permuted (take (length K) z) (count_from 0 (length K))) (sym outs_new)
      ∙ ap (λ z. permuted z (count_from 0 (length K))) (take-map to_in (length K) (outs ty p))
      ∙ permuted-count (map to_in rest) (length K) (length-map rest to_in ∙ length-take (length K) (outs ty p) ∙ omega arith)

  rest_old : permuted rest (count_from 0 (length K)) ≡ rest
  rest_old =
      let q = outs_size ty p in permuted-count rest (length K) (length-take (length K) (outs ty p) ∙ omega arith)

  exits_new : run r (λ e i. size + dr.wire (Target e i)) (drop (length K) new_outs) ≡ map (λ v. size + v) rG.outputs
  exits_new =
      ap (run r (λ e i. size + dr.wire (Target e i))) mouth_new ∙ sym (map-run (λ v. size + v) r tr (λ e i. dr.wire (Target e i)) rG.inputs (ins-size dr))
      ∙ ap (map (λ v. size + v)) (sym dr.outputs)

  abbrev pub passing : List ℕ
  passing = permuted rest (count_from 0 (length K)) ++ exits

  abbrev pub new_passing : List ℕ
  new_passing = permuted (take (length K) new_outs) (count_from 0 (length K)) ++ run r (λ e i. size + dr.wire (Target e i)) (drop (length K) new_outs)

  passing_new : map to_out passing ≡ new_passing
  passing_new =
      map-append to_out (permuted rest (count_from 0 (length K))) exits
      ∙ ap₂ (λ x y. x ++ y) (ap (map to_out) rest_old ∙ rest_agree ∙ sym rest_new) (exits_out ∙ sym exits_new)

  passing_size : length passing ≡ length (dom a)
  passing_size = length-append (permuted rest (count_from 0 (length K))) exits
      ∙ ap₂ (λ m n. m + n) (ap length rest_old ∙ length-take (length K) (outs ty p)) exits_size ∙ close
    where
      close : min (length K) (length (outs ty p)) + length (cod l) ≡ length (dom a)
      close =
          let q = outs_size ty p in let x = ap length ty.1.2 in let y = length-append (permuted K (count_from 0 (length K))) (cod l) in
          let z = ap length (permuted-count K (length K) refl) in omega arith

  late_agree : (e : EdgeOf a) (i : ℕ) → i < length (label_of a e).cod → to_out (p.d.wire (Target (inr (inr e)) i)) ≡ to_in (p.d.wire (Target (inr (inr e)) i))
  late_agree e i h = agree _ (late_outside ty p e i h)

  -- the outputs of the replaced graph are what comes out of the context of r
  pub new_outputs : map to_out g.outputs ≡ run (context K b a r) (λ e i. new_wire (Target e i)) (map to_in g.inputs)
  new_outputs =
      ap (map to_out) p.d.outputs ∙ map-run to_out a ty.1.1 (λ e i. p.d.wire (Target (inr (inr e)) i)) passing passing_size
      ∙ same-run a _ (λ e i. to_in (p.d.wire (Target (inr (inr e)) i))) late_agree (map to_out passing)
      ∙ ap (run a (λ e i. to_in (p.d.wire (Target (inr (inr e)) i)))) passing_new

  -- what an edge of b takes stays the same but for its number
  pub front_sources : (e : EdgeOf b)
      → map to_out (src b (λ e i. p.d.wire (Target (inl e) i)) g.inputs e) ≡ src b (λ e i. to_in (p.d.wire (Target (inl e) i))) (map to_in g.inputs) e
  front_sources e = front_agree e ∙ map-src to_in b ty.0 (λ e i. p.d.wire (Target (inl e) i)) g.inputs (ins-size p.d) e

  -- so does what an edge of a takes, where what came from l comes from r
  pub late_sources : (e : EdgeOf a)
      → map to_out (src a (λ e i. p.d.wire (Target (inr (inr e)) i)) passing e) ≡ src a (λ e i. to_in (p.d.wire (Target (inr (inr e)) i))) new_passing e
  late_sources e =
      map-src to_out a ty.1.1 (λ e i. p.d.wire (Target (inr (inr e)) i)) passing passing_size e
      ∙ same-src a _ (λ e i. to_in (p.d.wire (Target (inr (inr e)) i))) late_agree (map to_out passing) e
      ∙ ap (λ z. src a (λ e i. to_in (p.d.wire (Target (inr (inr e)) i))) z e) passing_new

  -- and an edge of r takes what it takes in its graph
  pub new_sources : (e : EdgeOf r)
      → map (λ v. size + v) (src r (λ e i. dr.wire (Target e i)) rG.inputs e) ≡ src r (λ e i. size + dr.wire (Target e i)) (drop (length K) new_outs) e
  new_sources e =
      map-src (λ v. size + v) r tr (λ e i. dr.wire (Target e i)) rG.inputs (ins-size dr) e
      ∙ ap (λ z. src r (λ e i. size + dr.wire (Target e i)) z e) (sym mouth_new)
