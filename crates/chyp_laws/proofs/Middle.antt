-- The middle of a term that an occurrence divides is l beside an identity, between two permutations.
use Rattle.std.proofs.Common.{ℕ, ◌<◌, ◌≡◌, List, ◌++◌, map, length, take, drop, Option, Some, None, slice_get, slice_index, ◌⊎◌, inl, inr, refl, sym, ◌∙◌, ap, ap₂, subst, take-append-drop}
use Rattle.std.specs.List.{AllByRecursion}
use Rattle.std.proofs.lemmas.List.{length-map, map-append, take-map, drop-map}
use Rattle.chyp_base.specs.declared.sort.Sort.{Sort}
use Rattle.chyp_term.specs.Derivation.{identity}
use Rattle.chyp_term.specs.Morphism.{Morphism, permutation, then, beside, dom, cod, IsTyped}
use Rattle.chyp_term.specs.Perm.{IsPermutation, permuted, count_from}
use Rattle.chyp_term.specs.Positions.{place_of}
use Rattle.chyp_term.proofs.Closure.{Under-perm}
use Rattle.chyp_term.proofs.Distinct.{all-map}
use Rattle.chyp_term.proofs.Inverses.{permuted-count}
use Rattle.chyp_term.proofs.Permuted.{Under, permuted-map, take-left, drop-left, length-count_from}
use Rattle.chyp_theory.proofs.Arrows.{Arrow, then_arrow, beside_arrow, id_arrow, perm_arrow}
use Rattle.chyp_theory.proofs.Cancelling.{map-Some}
use Rattle.chyp_theory.proofs.Completeness.{completeness}
use Rattle.chyp_theory.proofs.Congruence.{Alike-sym}
use Rattle.chyp_theory.proofs.Factoring.{re_to}
use Rattle.chyp_theory.proofs.Layers.{arrow_of}
use Rattle.chyp_theory.proofs.Renaming.{Producer, In, Target, map-run, map-src, same-run, same-src}
use Rattle.chyp_theory.proofs.Running.{EdgeOf, label_of, run, src, Alike}
use Rattle.chyp_theory.proofs.Separation.{alike_by}
use Rattle.chyp_graph.specs.PlainGraph.{PlainGraph}
use Rattle.chyp_term.proofs.Rearrangement.{Rearr}
use Rattle.chyp_laws.proofs.Draws.{Draws, ins-size, wire-apart}
use Rattle.chyp_theory.proofs.Sources.{rename}
use Rattle.chyp_laws.proofs.IsomorphicAlike.{run-sorts}
use Rattle.chyp_term.proofs.Apart.{Apart, place-of_index, place-of_none}
use Rattle.chyp_laws.proofs.Front.{IsEarly, outs_size, front_linear, front_early, outs_sorts}
use Rattle.chyp_laws.proofs.Image.{Parted, live, mk, to, from, to_from, from_to, sources, labels, target, mouth, mouth_apart, mouth_is, mouth_sorts, mouth_has}
use Rattle.chyp_theory.proofs.Linear.{on_left, on_right, IsLinear, is_linear}
use Rattle.chyp_term.proofs.Blocks.{Permutes, rearr_perm}
use Rattle.chyp_term.proofs.SameMembers.{take_out}
use Rattle.chyp_theory.proofs.Naming.{Named}
use Rattle.chyp_theory.proofs.SameOuts.{same_outs}

-- the edges of l between permutations
abbrev pub to_mid : {A B : Type 0} → (A → B) → ⊥ ⊎ ((⊥ ⊎ A) ⊎ ⊥) → B
to_mid f (inl e) = absurd e
to_mid f (inr (inl (inl e))) = absurd e
to_mid f (inr (inl (inr e))) = f e
to_mid f (inr (inr e)) = absurd e

abbrev pub to_inner : {A B : Type 0} → (A → B) → ⊥ ⊎ (⊥ ⊎ A) → B
to_inner f (inl e) = absurd e
to_inner f (inr (inl e)) = absurd e
to_inner f (inr (inr e)) = f e

module _ {l : Morphism} {lG g : PlainGraph} {dl : Draws l lG} {es ws : List ℕ} (parts : Parted l lG g dl es ws) where
  open parts use {first as A, middle as M, last as L, typed as ty, pattern_typed as tl, draws as d, occurs as o, is_first as hA, is_middle as hM, is_last as hL}

  abbrev pub lv : List ℕ
  lv = live parts

  abbrev pub nm : EdgeOf M → ℕ → ℕ
  nm = mk parts

  abbrev pub im : EdgeOf l → EdgeOf M
  im = to parts

  abbrev pub mo : List ℕ
  mo = mouth parts

  tM : IsTyped M
  tM = ty.1.0

  taken : (rest : List ℕ) × Rearr lv (rest ++ mo)
  taken = take_out mo lv (mouth_apart parts) (mouth_has parts)

  rest : List ℕ
  rest = taken.0

  chosen : Permutes lv (rest ++ mo)
  unfolding rest
  chosen = rearr_perm taken.1

  -- the permutation that brings the images of the inputs of l behind the others
  pub p : List ℕ
  p = chosen.places

  p_is : permuted lv p ≡ rest ++ mo
  unfolding p
  p_is = chosen.gives

  live_size : length lv ≡ length (dom M)
  live_size = outs_size ty d

  pub p_perm : IsPermutation (length (dom M)) p
  unfolding p
  p_perm = subst (λ n. IsPermutation n chosen.places) live_size chosen.perm

  p_under : Under (length lv) p
  p_under = subst (λ n. Under n p) (sym live_size) (Under-perm _ p p_perm)

  -- the wires that pass beside l
  pub K : List Sort
  K = take (length rest) (permuted (dom M) p)

  live_sorts : map (slice_get g.wires) lv ≡ map (λ z. Some z) (dom M)
  live_sorts = outs_sorts ty d ∙ ap (map (λ z. Some z)) ty.2

  perm_sorts : map (λ z. Some z) (permuted (dom M) p) ≡ map (slice_get g.wires) rest ++ map (slice_get g.wires) mo
  perm_sorts =
      sym (permuted-map (λ z. Some z) (dom M) p (Under-perm _ p p_perm)) ∙ ap (λ z. permuted z p) (sym live_sorts)
      ∙ permuted-map (slice_get g.wires) lv p p_under
      ∙ ap (map (slice_get g.wires)) p_is ∙ map-append (slice_get g.wires) rest mo

  tail_is : drop (length rest) (permuted (dom M) p) ≡ dom l
  tail_is = map-Some _ _ (sym (drop-map (λ z. Some z) (length rest) (permuted (dom M) p)) ∙ ap (drop (length rest)) perm_sorts
      ∙ drop-left (map (slice_get g.wires) rest) (map (slice_get g.wires) mo) (length rest) (length-map rest (slice_get g.wires))
      ∙ mouth_sorts parts)

  D_is : permuted (dom M) p ≡ K ++ dom l
  unfolding K
  D_is = sym (take-append-drop (length rest) (permuted (dom M) p)) ∙ ap (λ z. take (length rest) (permuted (dom M) p) ++ z) tail_is

  rest_sorts : map (slice_get g.wires) rest ≡ map (λ z. Some z) K
  unfolding K
  rest_sorts = sym (take-left (map (slice_get g.wires) rest) (map (slice_get g.wires) mo) (length rest) (length-map rest (slice_get g.wires)))
      ∙ ap (take (length rest)) (sym perm_sorts) ∙ take-map (λ z. Some z) (length rest) (permuted (dom M) p)

  K_size : length rest ≡ length K
  K_size = sym (length-map rest (slice_get g.wires)) ∙ ap length rest_sorts ∙ length-map K (λ z. Some z)

  pub PA : Arrow (permutation (dom M) p) (dom M) (K ++ dom l)
  PA = re_to D_is (perm_arrow (dom M) p p_perm)

  pub XA : Arrow (beside (identity K) l) (K ++ dom l) (K ++ cod l)
  XA = beside_arrow (id_arrow K) (arrow_of tl)

  -- without the second permutation
  abbrev pub inner : Morphism
  inner = then (permutation (dom M) p) (beside (identity K) l)

  pub mouth_drop : drop (length K) (permuted lv p) ≡ mo
  mouth_drop = ap (drop (length K)) p_is ∙ drop-left rest mo (length K) K_size

  exits : List ℕ
  exits = run l (λ e. nm (im e)) mo

  abbrev pub inner_out : List ℕ
  inner_out = run inner (λ e. nm (to_inner im e)) lv

  inner_is : inner_out ≡ rest ++ exits
  unfolding exits
  inner_is = ap₂ (λ x y. x ++ y)
      (ap (λ z. permuted (take (length K) z) (count_from 0 (length K))) p_is
      ∙ ap (λ z. permuted z (count_from 0 (length K))) (take-left rest mo (length K) K_size) ∙ permuted-count rest (length K) K_size)
      (ap (run l (λ e. nm (im e))) mouth_drop)

  source : (e : EdgeOf l) → src M nm lv (im e) ≡ src l (λ e. nm (im e)) (drop (length K) (permuted lv p)) e
  source e =
      sources parts e ∙ map-src (slice_index ws) l tl (λ e i. dl.wire (Target e i)) lG.inputs (ins-size dl) e
      ∙ same-src l _ (λ e. nm (im e)) (λ e i h. sym (target parts e i h)) (map (slice_index ws) lG.inputs) e
      ∙ ap (λ z. src l (λ e. nm (im e)) z e) (mouth_is parts ∙ sym mouth_drop)

  -- ## the same comes out, in some order

  live_apart : Apart lv
  live_apart = (front_linear ty d).outs

  mark_apart : (x y : EdgeOf M) (i j : ℕ) → i < length (label_of M x).cod → j < length (label_of M y).cod → nm x i ≡ nm y j
      → ◌≡◌ {A = Producer (EdgeOf M)} (Target x i) (Target y j)
  mark_apart x y i j h k q = on_left x y i j (on_right (inl x) (inl y) i j (wire-apart d (Target (inr (inl x)) i) (Target (inr (inl y)) j) h k q))

  mark_new : (e : EdgeOf M) (i : ℕ) → i < length (label_of M e).cod → AllByRecursion (λ z. ¬ (nm e i ≡ z)) lv
  mark_new e i h =
      all-map (λ w. IsEarly (d.from w)) (λ z. ¬ (nm e i ≡ z)) (λ z y q. subst IsEarly (ap d.from (sym q) ∙ d.from_wire (Target (inr (inl e)) i) h) y) lv
      (front_early ty d).0

  middle_linear : IsLinear M nm lv
  middle_linear = is_linear M tM nm lv live_size live_apart mark_apart mark_new

  size_at : (e : EdgeOf l) (i : ℕ) → i < length (label_of l e).cod → i < length (label_of M (im e)).cod
  size_at e i h = subst (λ z. i < length z.cod) (sym (labels parts e)) h

  inner_apart : (x y : EdgeOf inner) (i j : ℕ) → i < length (label_of inner x).cod → j < length (label_of inner y).cod
      → nm (to_inner im x) i ≡ nm (to_inner im y) j → ◌≡◌ {A = Producer (EdgeOf inner)} (Target x i) (Target y j)
  inner_apart (inl x) y i j h k q = absurd x
  inner_apart (inr (inl x)) y i j h k q = absurd x
  inner_apart (inr (inr x)) (inl y) i j h k q = absurd y
  inner_apart (inr (inr x)) (inr (inl y)) i j h k q = absurd y
  inner_apart (inr (inr x)) (inr (inr y)) i j h k q =
      sym (ap (λ z. Target (inr (inr z)) i) (from_to parts x))
      ∙ ap (rename (λ m. inr (inr (from parts m)))) (mark_apart (im x) (im y) i j (size_at x i h) (size_at y j k) q)
      ∙ ap (λ z. Target (inr (inr z)) j) (from_to parts y)

  inner_new : (x : EdgeOf inner) (i : ℕ) → i < length (label_of inner x).cod → AllByRecursion (λ z. ¬ (nm (to_inner im x) i ≡ z)) lv
  inner_new (inl x) i h = absurd x
  inner_new (inr (inl x)) i h = absurd x
  inner_new (inr (inr x)) i h = mark_new (im x) i (size_at x i h)

  inner_arrow : Arrow inner (dom M) (K ++ cod l)
  inner_arrow = then_arrow PA XA

  inner_linear : IsLinear inner (λ e. nm (to_inner im e)) lv
  inner_linear = is_linear inner inner_arrow.typed (λ e. nm (to_inner im e)) lv live_size live_apart inner_apart inner_new

  abbrev pub middle_out : List ℕ
  middle_out = run M nm lv

  order : Rearr inner_out middle_out
  order =
      same_outs inner M inner_arrow.typed tM nm (λ e. nm (to_inner im e)) lv live_size live_size (to_inner im)
      (λ m. inr (inr (from parts m))) (to_from parts)
      (elim [ inl e ↦ absurd e | inr (inl e) ↦ absurd e | inr (inr e) ↦ labels parts e ])
      (elim [ inl e ↦ absurd e | inr (inl e) ↦ absurd e | inr (inr e) ↦ source e ])
      (λ e i. refl) inner_linear middle_linear

  back_chosen : Permutes inner_out middle_out
  back_chosen = rearr_perm order

  -- the permutation back
  pub q : List ℕ
  q = back_chosen.places

  q_is : permuted inner_out q ≡ middle_out
  unfolding q
  q_is = back_chosen.gives

  exit_sorts : map (slice_get g.wires) exits ≡ map (λ z. Some z) (cod l)
  unfolding exits
  exit_sorts =
      map-run (slice_get g.wires) l tl (λ e. nm (im e)) mo
      (length-map (count_from 0 (length (dom l))) (λ j. slice_index ws (dl.wire (In j))) ∙ length-count_from 0 (length (dom l)))
      ∙ ap (run l (λ e i. slice_get g.wires (nm (im e) i))) (mouth_sorts parts)
      ∙ same-run l _ (λ e i. slice_get (label_of l e).cod i)
      (λ e i h. d.sorts (Target (inr (inl (im e))) i) (size_at e i h) ∙ ap (λ z. slice_get z.cod i) (labels parts e))
      (map (λ z. Some z) (dom l))
      ∙ run-sorts l tl

  inner_sorts : map (slice_get g.wires) inner_out ≡ map (λ z. Some z) (K ++ cod l)
  inner_sorts =
      ap (map (slice_get g.wires)) inner_is ∙ map-append (slice_get g.wires) rest exits ∙ ap₂ (λ x y. x ++ y) rest_sorts exit_sorts
      ∙ sym (map-append (λ z. Some z) K (cod l))

  middle_sorts : map (slice_get g.wires) middle_out ≡ map (λ z. Some z) (cod M)
  middle_sorts =
      map-run (slice_get g.wires) M tM nm lv live_size ∙ ap (run M (λ e i. slice_get g.wires (nm e i))) live_sorts
      ∙ same-run M _ (λ e i. slice_get (label_of M e).cod i) (λ e i h. d.sorts (Target (inr (inl e)) i) h) (map (λ z. Some z) (dom M)) ∙ run-sorts M tM

  inner_size : length inner_out ≡ length (K ++ cod l)
  inner_size = sym (length-map inner_out (slice_get g.wires)) ∙ ap length inner_sorts ∙ length-map (K ++ cod l) (λ z. Some z)

  q_perm : IsPermutation (length (K ++ cod l)) q
  unfolding q
  q_perm = subst (λ n. IsPermutation n back_chosen.places) inner_size back_chosen.perm

  cod_is : permuted (K ++ cod l) q ≡ cod M
  cod_is = map-Some _ _ (
      sym (permuted-map (λ z. Some z) (K ++ cod l) q (Under-perm _ q q_perm)) ∙ ap (λ z. permuted z q) (sym inner_sorts)
      ∙ permuted-map (slice_get g.wires) inner_out q (subst (λ n. Under n q) (sym inner_size) (Under-perm _ q q_perm)) ∙ ap (map (slice_get g.wires)) q_is
      ∙ middle_sorts)

  pub QA : Arrow (permutation (K ++ cod l) q) (K ++ cod l) (cod M)
  QA = re_to cod_is (perm_arrow (K ++ cod l) q q_perm)

  -- l beside these wires, between the permutations
  abbrev pub form : Morphism
  form = then (permutation (dom M) p) (then (beside (identity K) l) (permutation (K ++ cod l) q))

  pub form_arrow : Arrow form (dom M) (cod M)
  form_arrow = then_arrow PA (then_arrow XA QA)

  back_at : Option ℕ → Producer (EdgeOf (then A (then M L))) → Producer (EdgeOf M)
  back_at (Some j) x = In j
  back_at None (In j) = In 0
  back_at None (Target (inl e) i) = In 0
  back_at None (Target (inr (inl e)) i) = Target e i
  back_at None (Target (inr (inr e)) i) = In 0

  back : ℕ → Producer (EdgeOf M)
  back w = back_at (place_of w lv) (d.from w)

  back_in : (j : ℕ) → j < length lv → back (slice_index lv j) ≡ In j
  unfolding back back_at
  back_in j h = ap (λ z. back_at z (d.from (slice_index lv j))) (place-of_index lv live_apart j h)

  back_target : (e : EdgeOf M) (i : ℕ) → i < length (label_of M e).cod → back (nm e i) ≡ Target e i
  unfolding back back_at
  back_target e i h = ap₂ back_at (place-of_none (nm e i) lv (mark_new e i h)) (d.from_wire (Target (inr (inl e)) i) h)

  form_alike : Alike form M
  unfolding alike_by
  form_alike =
      alike_by form M form_arrow.typed tM refl form_arrow.to (to_mid im) (λ m. inr (inl (inr (from parts m))))
      (to_from parts)
      (elim [
        | inl e ↦ absurd e
        | inr (inl (inl e)) ↦ absurd e
        | inr (inl (inr e)) ↦ ap (λ z. inr (inl (inr z))) (from_to parts e)
        | inr (inr e) ↦ absurd e
      ])
      (elim [
        | inl e ↦ absurd e
        | inr (inl (inl e)) ↦ absurd e
        | inr (inl (inr e)) ↦ labels parts e
        | inr (inr e) ↦ absurd e
      ])
      nm lv live_size back back_in back_target (sym q_is)
      (elim [ inl e ↦ absurd e | inr (inl (inl e)) ↦ absurd e | inr (inl (inr e)) ↦ source e | inr (inr e) ↦ absurd e ])

  -- each edge by its name
  pub form_named : Named M form (λ m. m) (to_mid im)
  unfolding form_alike alike_by Alike-sym
  form_named = record {
    equal = completeness M form tM form_arrow.typed (Alike-sym form_alike);
    alike = Alike-sym form_alike;
    same = λ m. to_from parts m;
  }
