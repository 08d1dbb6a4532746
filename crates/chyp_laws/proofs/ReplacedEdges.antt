-- The replaced graph is that of the context with the other term in it: its edges.
use Rattle.std.proofs.Common.{ℕ, ◌+◌, ◌-◌, ◌<◌, ◌≤◌, ◌≡◌, true, cond, ltb, List, ◌++◌, map, length, filter, Option, Some, None, option_map, slice_get}
use Rattle.std.proofs.Common.{slice_index, ◌⊎◌, inl, inr, refl, sym, ◌∙◌, ap, ap₂, subst, arith, length-append, lt-ltb, le-ltb}
use Rattle.std.proofs.lemmas.List.{length-map}
use Rattle.std.proofs.lemmas.Bool.{cases_lt}
use Rattle.chyp_base.specs.declared.sort.Sort.{Sort}
use Rattle.chyp_term.specs.Morphism.{Morphism, dom, cod, IsTyped}
use Rattle.chyp_term.specs.Perm.{permuted, count_from}
use Rattle.chyp_term.specs.Positions.{is_apart}
use Rattle.chyp_term.proofs.Closure.{index-get}
use Rattle.chyp_term.proofs.Permuted.{found, get_option, get-permuted, get-append_left, get-append_right, length-permuted}
use Rattle.chyp_term.proofs.Positions.{kept-get, slice_get-length, map-map, Under-filter}
use Rattle.chyp_theory.proofs.Renaming.{Producer, In, Target}
use Rattle.chyp_theory.proofs.Running.{EdgeOf, label_of}
use Rattle.chyp_graph.specs.PlainGraph.{Edge, PlainGraph, renamed}
use Rattle.chyp_graph.proofs.Inner.{kept-back}
use Rattle.chyp_laws.proofs.Drawing.{drawn}
use Rattle.chyp_laws.proofs.Draws.{Draws, edge-below}
use Rattle.chyp_term.proofs.Permuted.{get-map}
use Rattle.chyp_pattern.specs.Replacement.{replaced}
use Rattle.chyp_laws.proofs.Placed.{context, Placed, edge_inside, edge_outside}
use Rattle.chyp_laws.proofs.Rebound.{size, to_in, to_out, new_wire, front_sources, late_sources, new_sources, new_outputs}
use Rattle.chyp_laws.proofs.Replaced.{wires}

abbrev pub outer_edge : {A B C D : Type 0} → A ⊎ (B ⊎ C) → Option (A ⊎ (D ⊎ C))
outer_edge (inl e) = Some (inl e)
outer_edge (inr (inl e)) = None
outer_edge (inr (inr e)) = Some (inr (inr e))

abbrev pub outer_edges : {A B C D : Type 0} → Option (A ⊎ (B ⊎ C)) → Option (A ⊎ (D ⊎ C))
outer_edges None = None
outer_edges (Some e) = outer_edge e

module _ {K : List Sort} {b a l r : Morphism} {lG rG g : PlainGraph} (ty : IsTyped (context K b a l)) (tr : IsTyped r) (doms : dom l ≡ dom r)
    (cods : cod l ≡ cod r) {dl : Draws l lG} (dr : Draws r rG) {es ws : List ℕ} (p : Placed K b a l lG g dl es ws) where
  kept_edges : List ℕ
  kept_edges = filter (is_apart es) (count_from 0 (length g.edges))

  count : ℕ
  count = length kept_edges

  number : ℕ → ℕ
  number k = length (filter (is_apart es) (count_from 0 k))

  abbrev pub to : ℕ → ℕ
  to = to_in ty tr doms cods dr p

  abbrev pub out : ℕ → ℕ
  out = to_out ty tr doms cods dr p

  abbrev pub hole : ℕ
  hole = size ty tr doms cods dr p

  abbrev pub wire : Producer (EdgeOf (context K b a r)) → ℕ
  wire = new_wire ty tr doms cods dr p

  edge : EdgeOf (context K b a r) → ℕ
  edge (inl e) = number (p.d.edge (inl e))
  edge (inr (inl (inl e))) = absurd e
  edge (inr (inl (inr e))) = count + dr.edge e
  edge (inr (inr e)) = number (p.d.edge (inr (inr e)))

  from : ℕ → Option (EdgeOf (context K b a r))
  from n = cond (ltb n count) (outer_edges (p.d.edge_from (slice_index kept_edges n))) (option_map (λ e. inr (inl (inr e))) (dr.edge_from (n - count)))

  from-left : (n v : ℕ) (x : EdgeOf (context K b a l)) → n < count → slice_get kept_edges n ≡ Some v → p.d.edge_from v ≡ Some x → from n ≡ outer_edge x
  unfolding from
  from-left n v x h e f = rw (lt-ltb n count h) (ap (λ z. outer_edges (p.d.edge_from z)) (index-get kept_edges n v e) ∙ ap outer_edges f)

  from-right : (n v : ℕ) (x : EdgeOf r) → n ≡ count + v → dr.edge_from v ≡ Some x → from n ≡ Some (inr (inl (inr x)))
  unfolding from
  from-right n v x e f =
      rw (le-ltb n count (omega arith))
      (ap (λ z. option_map (λ e. inr (inl (inr e))) (dr.edge_from z)) (omega arith) ∙ ap (option_map (λ e. inr (inl (inr e)))) f)

  kept_at : (x : EdgeOf (context K b a l)) → is_apart es (p.d.edge x) ≡ true → slice_get kept_edges (number (p.d.edge x)) ≡ Some (p.d.edge x)
  unfolding kept_edges number
  kept_at x q = kept-get (is_apart es) (length g.edges) (p.d.edge x) (edge-below p.d x) q

  kept_below : (x : EdgeOf (context K b a l)) → is_apart es (p.d.edge x) ≡ true → number (p.d.edge x) < count
  unfolding count
  kept_below x q = slice_get-length kept_edges _ _ (kept_at x q)

  apart_front : (e : EdgeOf b) → is_apart es (p.d.edge (inl e)) ≡ true
  apart_front e = edge_outside ty p (inl e) (λ d q. no d q)
    where
      no : (d : EdgeOf l) → ◌≡◌ {A = EdgeOf (context K b a l)} (inl e) (inr (inl (inr d))) → ⊥
      no d q = cc

  apart_late : (e : EdgeOf a) → is_apart es (p.d.edge (inr (inr e))) ≡ true
  apart_late e = edge_outside ty p (inr (inr e)) (λ d q. no d q)
    where
      no : (d : EdgeOf l) → ◌≡◌ {A = EdgeOf (context K b a l)} (inr (inr e)) (inr (inl (inr d))) → ⊥
      no d q = cc

  back : (e : EdgeOf (context K b a r)) → from (edge e) ≡ Some e
  unfolding edge
  back (inl e) = from-left _ _ (inl e) (kept_below (inl e) (apart_front e)) (kept_at (inl e) (apart_front e)) (p.d.edge_back (inl e))
  back (inr (inl (inl e))) = absurd e
  back (inr (inl (inr e))) = from-right _ (dr.edge e) e refl (dr.edge_back e)
  back (inr (inr e)) =
      from-left _ _ (inr (inr e)) (kept_below (inr (inr e)) (apart_late e)) (kept_at (inr (inr e)) (apart_late e)) (p.d.edge_back (inr (inr e)))

  change : Edge → Edge
  change e = record { name = e.name; sources = map out e.sources; targets = map to e.targets }

  kept_part : List Edge
  kept_part = map change (permuted g.edges kept_edges)

  all_edges : List Edge
  all_edges = kept_part ++ map (renamed (λ v. hole + v)) rG.edges

  part_size : length kept_part ≡ count
  unfolding kept_part count kept_edges
  part_size =
      length-map (permuted g.edges kept_edges) change
      ∙ length-permuted g.edges kept_edges (Under-filter (is_apart es) (length g.edges) 0 (length g.edges) (omega arith))

  total : length all_edges ≡ count + length rG.edges
  unfolding all_edges
  total = length-append kept_part (map (renamed (λ v. hole + v)) rG.edges) ∙ ap₂ (λ m n. m + n) part_size (length-map rG.edges (renamed (λ v. hole + v)))

  onto : (n : ℕ) → n < count + length rG.edges → (n < count) ⊎ (count ≤ n) → (e : EdgeOf (context K b a r)) × (from n ≡ Some e) × (edge e ≡ n)
  unfolding edge count kept_edges number
  onto n h (inl q) =
      let f = found kept_edges n q in
      let k = kept-back (is_apart es) (length g.edges) f.0 n f.1 in
      let y = p.d.edge_onto f.0 k.below in
      go f.0 f.1 k.passes k.place y.0 y.1 y.2
    where
      go : (v : ℕ) → slice_get kept_edges n ≡ Some v → is_apart es v ≡ true → number v ≡ n → (x : EdgeOf (context K b a l)) → p.d.edge_from v ≡ Some x
          → p.d.edge x ≡ v → (e : EdgeOf (context K b a r)) × (from n ≡ Some e) × (edge e ≡ n)
      go v s o m (inl e) f i = (inl e, from-left n v (inl e) q s f, ap number i ∙ m)
      go v s o m (inr (inl (inl e))) f i = absurd e
      go v s o m (inr (inl (inr e))) f i = absurd (edge_inside ty p e (ap (is_apart es) i ∙ o))
      go v s o m (inr (inr e)) f i = (inr (inr e), from-left n v (inr (inr e)) q s f, ap number i ∙ m)
  onto n h (inr q) =
      let y = dr.edge_onto (n - count) (omega arith) in
      (inr (inl (inr y.0)), from-right n (n - count) y.0 (omega arith) y.1, ap (λ z. count + z) y.2 ∙ omega arith)

  at_left : (x : EdgeOf (context K b a l)) → is_apart es (p.d.edge x) ≡ true
      → slice_get all_edges (number (p.d.edge x)) ≡ Some (change (drawn (context K b a l) (λ e i. p.d.wire (Target e i)) g.inputs x))
  unfolding all_edges kept_part kept_edges
  at_left x q =
      get-append_left kept_part (map (renamed (λ v. hole + v)) rG.edges) _ (subst (λ n. number (p.d.edge x) < n) (sym part_size) (kept_below x q))
      ∙ get-map change (permuted g.edges kept_edges) (number (p.d.edge x))
      ∙ ap (option_map change) (get-permuted g.edges kept_edges (Under-filter (is_apart es) (length g.edges) 0 (length g.edges) (omega arith))
      (number (p.d.edge x)) ∙ ap (get_option g.edges) (kept_at x q) ∙ p.d.ports x)

  at_right : (e : EdgeOf r) → slice_get all_edges (count + dr.edge e) ≡ Some (renamed (λ v. hole + v) (drawn r (λ e i. dr.wire (Target e i)) rG.inputs e))
  unfolding all_edges
  at_right e =
      ap (λ n. slice_get (kept_part ++ map (renamed (λ v. hole + v)) rG.edges) (n + dr.edge e)) (sym part_size)
      ∙ get-append_right kept_part (map (renamed (λ v. hole + v)) rG.edges) (dr.edge e)
      ∙ get-map (renamed (λ v. hole + v)) rG.edges (dr.edge e) ∙ ap (option_map (renamed (λ v. hole + v))) (dr.ports e)

  ports : (e : EdgeOf (context K b a r)) → slice_get all_edges (edge e) ≡ Some (drawn (context K b a r) (λ e i. wire (Target e i)) (map to g.inputs) e)
  unfolding edge change
  ports (inl e) = at_left (inl e) (apart_front e)
      ∙ ap Some (ap₂ (λ x y. record { name = (label_of b e).name; sources = x; targets = y }) (front_sources ty tr doms cods dr p e)
      (map-map to (λ i. p.d.wire (Target (inl e) i)) (count_from 0 (length (label_of b e).cod))))
  ports (inr (inl (inl e))) = absurd e
  ports (inr (inl (inr e))) = at_right e
      ∙ ap Some (ap₂ (λ x y. record { name = (label_of r e).name; sources = x; targets = y }) (new_sources ty tr doms cods dr p e)
      (map-map (λ v. hole + v) (λ i. dr.wire (Target e i)) (count_from 0 (length (label_of r e).cod))))
  ports (inr (inr e)) = at_left (inr (inr e)) (apart_late e)
      ∙ ap Some (ap₂ (λ x y. record { name = (label_of a e).name; sources = x; targets = y }) (late_sources ty tr doms cods dr p e)
      (map-map to (λ i. p.d.wire (Target (inr (inr e)) i)) (count_from 0 (length (label_of a e).cod))))

  -- the replaced graph is drawn by the context of r
  pub replaced_draws : Draws (context K b a r) (replaced g lG rG es ws)
  unfolding all_edges kept_part kept_edges change
  replaced_draws =
      let k = wires ty tr doms cods dr p in
      record {
        wire = wire;
        from = k.back;
        edge = edge;
        edge_from = from;
        wire_below = k.below;
        from_valid = k.back_valid;
        wire_from = k.wire_back;
        from_wire = k.back_wire;
        sorts = k.sort;
        inputs = ap (map to) p.d.inputs ∙ map-map to (λ j. p.d.wire (In j)) (count_from 0 (length (dom b)));
        outputs = new_outputs ty tr doms cods dr p;
        edge_onto = λ n h. onto n (subst (λ m. n < m) total h) (cases_lt n count);
        edge_back = back;
        ports = ports;
      }
