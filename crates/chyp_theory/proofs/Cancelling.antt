-- An equal first layer can be taken off two terms that are alike.
use Rattle.std.proofs.Common.{ℕ, zero, suc, ◌+◌, ◌<◌, ◌≤◌, ◌≡◌, List, [], ◌∷◌, ◌++◌, map, length, take, drop, replicate, Option, Some, None, slice_get, inl, inr}
use Rattle.std.proofs.Common.{refl, sym, ◌∙◌, ap, ap₂, subst, arith, length-append, zero-add, add-zero, length-drop, take-append-drop}
use Rattle.std.proofs.lemmas.List.{length-map, map-append, length-replicate}
use mathlib.Core.Path.{fun_ext}
use Rattle.chyp_base.specs.declared.sort.Sort.{Sort}
use Rattle.chyp_term.specs.Perm.{IsPermutation, permuted, count_from}
use Rattle.chyp_term.specs.Morphism.{Morphism, generator, beside, dom, IsTyped}
use Rattle.chyp_term.specs.Derivation.{identity}
use Rattle.chyp_theory.proofs.Running.{EdgeOf, label_of, run, src, Alike}
use Rattle.chyp_term.proofs.Permuted.{Under, permuted-all, permuted-permuted, length-permuted, drop-left}
use Rattle.chyp_term.proofs.Inverses.{Undoes, from_perm, permuted-count}
use Rattle.chyp_theory.proofs.Renaming.{map-run, map-src}
use Rattle.chyp_theory.proofs.Peeling.{fronted}

pub map-Some : {V : Type 0} (xs ys : List V) → map (λ x. Some x) xs ≡ map (λ x. Some x) ys → xs ≡ ys
map-Some [] [] e = refl
map-Some [] (y ∷ ys) e = cc
map-Some (x ∷ xs) [] e = cc
map-Some (x ∷ xs) (y ∷ ys) e = let h = parts x y (map (λ x. Some x) xs) (map (λ x. Some x) ys) e in ap₂ (λ a b. a ∷ b) h.0 (map-Some xs ys h.1)
  where
    parts : {V : Type 0} (x y : V) (us vs : List (Option V)) → ◌≡◌ {A = List (Option V)} (Some x ∷ us) (Some y ∷ vs) → (x ≡ y) × (us ≡ vs)
    parts x y us vs e = (cc, cc)

-- reading a list at the first n numbers
pub read-take : {V : Type 0} (xs : List V) (k n : ℕ) (f : ℕ → Option V) → n ≤ length xs → ((i : ℕ) → i < n → f (k + i) ≡ slice_get xs i) → map f (count_from k n) ≡ map (λ x. Some x) (take n xs)
read-take xs k zero f h e = refl
read-take [] k (suc n) f h e = absurd (omega arith)
read-take (x ∷ xs) k (suc n) f h e = ap₂ (λ a b. a ∷ b) (ap f (sym (add-zero k)) ∙ e 0 (omega arith)) (read-take xs (suc k) n f (omega arith) (λ i l. ap f (omega arith) ∙ e (suc i) (omega arith)))

module _ {V : Type 0} (a : List Sort) (p n : List ℕ) (b c r : List Sort) (tp : IsPermutation (length a) p) (e : permuted a p ≡ b ++ r) (live : List V) (h : length live ≡ length c + length r) where
  wanted : List (Option V)
  wanted = replicate (length b) None ++ map (λ x. Some x) (drop (length c) live)

  back : List ℕ
  back = (from_perm (length a) p tp).0

  undoes : Undoes (length a) p back
  unfolding back
  undoes = (from_perm (length a) p tp).1

  -- what comes in from outside, where live is to stand behind the generator
  outside : List (Option V)
  outside = permuted wanted back

  wanted-size : length wanted ≡ length a
  unfolding wanted
  wanted-size =
      length-append (replicate (length b) None) (map (λ x. Some x) (drop (length c) live))
      ∙ ap₂ (λ x y. x + y) (length-replicate (length b) None) (length-map (drop (length c) live) (λ x. Some x) ∙ length-drop (length c) live)
      ∙ (let k = ap length e in let l = length-append b r in let m = length-permuted a p undoes.under in let s = tp.size in omega arith)

  outside-size : length outside ≡ length a
  unfolding outside
  outside-size = length-permuted wanted back (subst (λ m. Under m back) (sym wanted-size) undoes.back_under) ∙ undoes.back_size

  comes-in : permuted outside p ≡ wanted
  unfolding outside
  comes-in =
      permuted-permuted wanted back (subst (λ m. Under m back) (sym wanted-size) undoes.back_under) p
      ∙ ap (permuted wanted) undoes.here ∙ permuted-count wanted (length a) wanted-size

  enters : (mk : EdgeOf (beside (generator n b c) (identity r)) → ℕ → Option V) → ((i : ℕ) → i < length c → mk (inl tt) i ≡ slice_get live i)
      → run (beside (generator n b c) (identity r)) mk (permuted outside p) ≡ map (λ x. Some x) live
  unfolding wanted
  enters mk m =
      ap (run (beside (generator n b c) (identity r)) mk) comes-in
      ∙ ap₂ (λ x y. x ++ y)
      (read-take live 0 (length c) (mk (inl tt)) (omega arith) (λ i l. ap (mk (inl tt)) (zero-add i) ∙ m i l))
      (ap (λ l. permuted l (count_from 0 (length r))) (drop-left (replicate (length b) None) (map (λ x. Some x) (drop (length c) live)) (length b) (length-replicate (length b) None))
      ∙ permuted-count (map (λ x. Some x) (drop (length c) live)) (length r) (length-map (drop (length c) live) (λ x. Some x) ∙ length-drop (length c) live ∙ omega arith))
      ∙ sym (map-append (λ x. Some x) (take (length c) live) (drop (length c) live))
      ∙ ap (map (λ x. Some x)) (take-append-drop (length c) live)

module _ (a : List Sort) (p n : List ℕ) (b c r : List Sort) (s t : Morphism) (ts : IsTyped (fronted a p n b c r s)) (ty : IsTyped (fronted a p n b c r t))
    (k : Alike (fronted a p n b c r s) (fronted a p n b c r t)) (at : k.to (inr (inl (inl tt))) ≡ inr (inl (inl tt))) where
  into : (e : EdgeOf s) → (d : EdgeOf t) × (k.to (inr (inr e)) ≡ inr (inr d))
  into e = go (k.to (inr (inr e))) refl
    where
      go : (x : EdgeOf (fronted a p n b c r t)) → k.to (inr (inr e)) ≡ x → (d : EdgeOf t) × (k.to (inr (inr e)) ≡ inr (inr d))
      go (inl z) q = absurd z
      go (inr (inl (inl z))) q =
          let f : ◌≡◌ {A = EdgeOf (fronted a p n b c r s)} (inr (inr e)) (inr (inl (inl tt))) = sym (k.from_to (inr (inr e))) ∙ ap k.from (q ∙ sym at) ∙ k.from_to (inr (inl (inl tt))) in cc
      go (inr (inl (inr z))) q = absurd z
      go (inr (inr d)) q = (d, q)

  back_at : k.from (inr (inl (inl tt))) ≡ inr (inl (inl tt))
  back_at = ap k.from (sym at) ∙ k.from_to (inr (inl (inl tt)))

  outof : (d : EdgeOf t) → (e : EdgeOf s) × (k.from (inr (inr d)) ≡ inr (inr e))
  outof d = go (k.from (inr (inr d))) refl
    where
      go : (x : EdgeOf (fronted a p n b c r s)) → k.from (inr (inr d)) ≡ x → (e : EdgeOf s) × (k.from (inr (inr d)) ≡ inr (inr e))
      go (inl z) q = absurd z
      go (inr (inl (inl z))) q =
          let f : ◌≡◌ {A = EdgeOf (fronted a p n b c r t)} (inr (inr d)) (inr (inl (inl tt))) = sym (k.to_from (inr (inr d))) ∙ ap k.to (q ∙ sym back_at) ∙ k.to_from (inr (inl (inl tt))) in cc
      go (inr (inl (inr z))) q = absurd z
      go (inr (inr e)) q = (e, q)

  mark : {V : Type 0} → (EdgeOf t → ℕ → V) → List V → EdgeOf (fronted a p n b c r t) → ℕ → Option V
  mark mk live (inl z) i = absurd z
  mark mk live (inr (inl (inl z))) i = slice_get live i
  mark mk live (inr (inl (inr z))) i = absurd z
  mark mk live (inr (inr d)) i = Some (mk d i)

  live-size : {V : Type 0} (live : List V) → length live ≡ length (dom s) → length live ≡ length c + length r
  live-size live h = h ∙ ap length (sym ts.1.2) ∙ length-append c _ ∙ ap (λ m. length c + m) (ap length (permuted-all r))

  doms-same : dom s ≡ dom t
  doms-same = sym ts.1.2 ∙ ty.1.2

  -- the first layer of t gives live
  right-live : {V : Type 0} (mk : EdgeOf t → ℕ → V) (live : List V) (h : length live ≡ length (dom s))
      → run (beside (generator n b c) (identity r)) (λ e. mark mk live (inr (inl e))) (permuted (outside a p n b c r ts.0 ts.2 live (live-size live h)) p) ≡ map (λ x. Some x) live
  unfolding mark
  right-live mk live h = enters a p n b c r ts.0 ts.2 live (live-size live h) (λ e. mark mk live (inr (inl e))) (λ i l. refl)

  left-live : {V : Type 0} (mk : EdgeOf t → ℕ → V) (live : List V) (h : length live ≡ length (dom s))
      → run (beside (generator n b c) (identity r)) (λ e. mark mk live (k.to (inr (inl e)))) (permuted (outside a p n b c r ts.0 ts.2 live (live-size live h)) p) ≡ map (λ x. Some x) live
  unfolding mark
  left-live mk live h = enters a p n b c r ts.0 ts.2 live (live-size live h) (λ e. mark mk live (k.to (inr (inl e)))) (λ i l. ap (λ z. mark mk live z i) at)

  renamed-mark : {V : Type 0} (mk : EdgeOf t → ℕ → V) (live : List V) → ◌≡◌ {A = EdgeOf s → ℕ → Option V} (λ e. mark mk live (k.to (inr (inr e)))) (λ e i. Some (mk (into e).0 i))
  unfolding mark
  renamed-mark mk live = fun_ext (λ e. ap (mark mk live) (into e).1)

  runs : {V : Type 0} (mk : EdgeOf t → ℕ → V) (live : List V) → length live ≡ length (dom s) → run t mk live ≡ run s (λ e. mk (into e).0) live
  unfolding mark
  runs mk live h = map-Some _ _ (
      map-run (λ x. Some x) t ty.1.1 mk live (h ∙ ap length doms-same)
      ∙ sym (ap (run t (λ d i. Some (mk d i))) (right-live mk live h))
      ∙ k.runs (mark mk live) (outside a p n b c r ts.0 ts.2 live (live-size live h)) (outside-size a p n b c r ts.0 ts.2 live (live-size live h))
      ∙ ap (run s (λ e. mark mk live (k.to (inr (inr e))))) (left-live mk live h)
      ∙ ap (λ f. run s f (map (λ x. Some x) live)) (renamed-mark mk live)
      ∙ sym (map-run (λ x. Some x) s ts.1.1 (λ e. mk (into e).0) live h))

  srcs : {V : Type 0} (mk : EdgeOf t → ℕ → V) (live : List V) → length live ≡ length (dom s) → (e : EdgeOf s) → src t mk live (into e).0 ≡ src s (λ e. mk (into e).0) live e
  unfolding mark
  srcs mk live h e = map-Some _ _ (
      map-src (λ x. Some x) t ty.1.1 mk live (h ∙ ap length doms-same) (into e).0
      ∙ sym (ap (λ l. src t (λ d i. Some (mk d i)) l (into e).0) (right-live mk live h))
      ∙ sym (ap (src (fronted a p n b c r t) (mark mk live) (outside a p n b c r ts.0 ts.2 live (live-size live h))) (into e).1)
      ∙ k.srcs (mark mk live) (outside a p n b c r ts.0 ts.2 live (live-size live h)) (outside-size a p n b c r ts.0 ts.2 live (live-size live h)) (inr (inr e))
      ∙ ap (λ l. src s (λ e. mark mk live (k.to (inr (inr e)))) l e) (left-live mk live h)
      ∙ ap (λ f. src s f (map (λ x. Some x) live) e) (renamed-mark mk live)
      ∙ sym (map-src (λ x. Some x) s ts.1.1 (λ e. mk (into e).0) live h e))

  pub cancel : Alike s t
  cancel = record {
    doms = doms-same;
    cods = k.cods;
    to = λ e. (into e).0;
    from = λ d. (outof d).0;
    to_from = λ d. let q : ◌≡◌ {A = EdgeOf (fronted a p n b c r t)} (inr (inr (into (outof d).0).0)) (inr (inr d)) = sym (into (outof d).0).1
        ∙ ap k.to (sym (outof d).1) ∙ k.to_from (inr (inr d)) in inner t _ _ q;
    from_to = λ e. let q : ◌≡◌ {A = EdgeOf (fronted a p n b c r s)} (inr (inr (outof (into e).0).0)) (inr (inr e)) = sym (outof (into e).0).1
        ∙ ap k.from (sym (into e).1) ∙ k.from_to (inr (inr e)) in inner s _ _ q;
    labels = λ e. ap (label_of (fronted a p n b c r t)) (sym (into e).1) ∙ k.labels (inr (inr e));
    runs = runs;
    srcs = srcs;
  }
    where
      inner : (u : Morphism) (d e : EdgeOf u) → ◌≡◌ {A = EdgeOf (fronted a p n b c r u)} (inr (inr d)) (inr (inr e)) → d ≡ e
      inner u d e q = cc
