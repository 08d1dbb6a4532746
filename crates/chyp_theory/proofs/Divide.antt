-- A closed set of edges comes first.
use Rattle.std.proofs.Common.{ℕ, ◌+◌, ◌<◌, ◌≡◌, Bool, true, false, List, [], ◌∷◌, ◌++◌, map, length, get_or, ◌⊎◌, inl, inr, refl, sym, ◌∙◌, ap, subst}
use Rattle.std.proofs.lemmas.List.{length-map, get_or_append_left}
use Rattle.std.proofs.lemmas.Bool.{cases_Bool, both_ways}
use Rattle.std.specs.List.{AllByRecursion}
use Rattle.chyp_base.specs.declared.sort.Sort.{Sort}
use Rattle.chyp_term.specs.Derivation.{identity, back}
use Rattle.chyp_term.specs.Morphism.{Morphism, generator, permutation, then, beside, cod, IsTyped}
use Rattle.chyp_term.specs.Perm.{permuted, count_from}
use Rattle.chyp_term.proofs.Permuted.{length-count_from, permuted-all}
use Rattle.chyp_theory.proofs.Arrows.{Equal, Arrow, then_arrow, beside_arrow, id_arrow, perm_arrow, generator_arrow, equal-right}
use Rattle.chyp_theory.proofs.Factoring.{re_from, re_to}
use Rattle.chyp_theory.proofs.Layers.{Layered, done, step, arrow_along, first_of_then, second_of_then}
use Rattle.chyp_theory.proofs.Peeling.{ins, get_or-count, fronted}
use Rattle.chyp_theory.proofs.Renaming.{Producer, In, Target}
use Rattle.chyp_theory.proofs.Running.{EdgeOf, src, Alike}
use Rattle.chyp_theory.proofs.Soundness.{sound}
use Rattle.chyp_theory.proofs.Closed.{IsMadeIn, IsClosed, closed-later}
use Rattle.chyp_theory.proofs.Leaving.{IsPast, LeavesFirst, leaves-at, leaves-first}
use Rattle.chyp_theory.proofs.Naming.{Named, either, named-chain, named-then, named-assoc, named-rename, named-back, named-same, named-all, named-cross}
use Rattle.chyp_theory.proofs.Naming.{none}
use Rattle.chyp_theory.proofs.Sources.{before, lifted, later}
use Rattle.chyp_theory.proofs.Through.{Through, through}

-- a closed set of edges comes first
pub record Divided (t : Morphism) (S : EdgeOf t → Bool) : Type 1 where
  pub first : Morphism
  pub second : Morphism
  pub named : Named t (then first second) S (either (λ _. true) (λ _. false))

-- along terms that are alike
pub divided_along : {s t : Morphism} (k : Equal s t) (a : Alike s t) (S : EdgeOf s → Bool) → Divided t (λ e. S (a.from e)) → Divided s S
divided_along k a S d = record {
  first = d.first;
  second = d.second;
  named = named-chain
      (record { equal = k; alike = a; same = λ e. ap S (a.from_to e) }) d.named;
}

module _ {x y : List Sort} (a : List Sort) (p n : List ℕ) (b c r : List Sort) (t : Morphism) (f : Arrow (fronted a p n b c r t) x y)
    (S : EdgeOf (fronted a p n b c r t) → Bool) (h : IsClosed (fronted a p n b c r t) S)
    (ih : Divided t (λ e. S (inr (inr e)))) where
  P : Arrow (permutation a p) x (permuted a p)
  P = first_of_then f

  G : Arrow (beside (generator n b c) (identity r)) (permuted a p) (c ++ permuted r (count_from 0 (length r)))
  G = first_of_then (second_of_then f)

  T : Arrow t (c ++ permuted r (count_from 0 (length r))) y
  T = second_of_then (second_of_then f)

  D : Arrow (then ih.first ih.second) (c ++ permuted r (count_from 0 (length r))) y
  D = arrow_along ih.named.equal T

  D1 : Arrow ih.first (c ++ permuted r (count_from 0 (length r))) (cod ih.first)
  D1 = first_of_then D

  D2 : Arrow ih.second (cod ih.first) y
  D2 = second_of_then D

  pS : EdgeOf (permutation a p) → Bool
  pS e = S (inl e)

  gS : EdgeOf (beside (generator n b c) (identity r)) → Bool
  gS e = S (inr (inl e))

  start : Named (fronted a p n b c r t) (then (permutation a p) (then (then (beside (generator n b c) (identity r)) ih.first) ih.second)) S
      (either pS (either (either gS (λ _. true)) (λ _. false)))
  unfolding pS gS
  start = named-rename (named-chain (named-then (named-same P pS) (named-then (named-same G gS) ih.named G T) P (then_arrow G T))
      (named-then (named-same P pS) (named-back (named-assoc G D1 D2 gS (λ _. true) (λ _. false))) P (then_arrow G (then_arrow D1 D2))))
      (elim [ inl e ↦ refl | inr (inl e) ↦ refl | inr (inr e) ↦ refl ]) (λ e. refl)

  with_first : S (inr (inl (inl tt))) ≡ true → Divided (fronted a p n b c r t) S
  unfolding pS gS
  with_first q = record {
    first = then (permutation a p) (then (beside (generator n b c) (identity r)) ih.first);
    second = ih.second;
    named = named-rename (named-chain start (named-back (named-assoc P (then_arrow G D1) D2 pS (either gS (λ _. true)) (λ _. false)))) (λ e. refl)
        (elim [ inl (inl e) ↦ absurd e | inl (inr (inl (inl e))) ↦ q | inl (inr (inl (inr e))) ↦ absurd e | inl (inr (inr e)) ↦ refl | inr e ↦ refl ]);
  }

  leaves : S (inr (inl (inl tt))) ≡ false → LeavesFirst (length c) ih.first
  leaves q e =
      leaves-first (length c) ih.first ih.second D.typed.0 e
      (leaves-at (length c) f.typed.1.1 ih.named.alike (inl e) (all_past (src t (λ e i. Target e i) (ins t) inner) made))
    where
      inner : EdgeOf t
      inner = ih.named.alike.from (inl e)

      chosen : S (inr (inr inner)) ≡ true
      chosen = sym (ih.named.same inner) ∙ ap (either (λ _. true) (λ _. false)) (ih.named.alike.to_from (inl e))

      rest : Morphism
      rest = then (beside (generator n b c) (identity r)) t

      ty : IsTyped (then (beside (generator n b c) (identity r)) t)
      ty = f.typed.1

      made : AllByRecursion (IsMadeIn (λ e. S (inr e))) (map (lifted (beside (generator n b c) (identity r)) t ty) (src t (λ e i. Target e i) (ins t) inner))
      made = subst (AllByRecursion (IsMadeIn (λ e. S (inr e)))) (sym (later (beside (generator n b c) (identity r)) t ty inner))
          (closed-later (permutation a p) (then (beside (generator n b c) (identity r)) t) f.typed S h (inr inner) chosen)

      at : (j : ℕ) → j < length c → get_or (before (beside (generator n b c) (identity r)) t ty) j (In 0) ≡ Target (inl (inl tt)) (0 + j)
      at j l =
          get_or_append_left (map (λ i. Target (inl (inl tt)) i) (count_from 0 (length c))) _ (In 0) j
          (subst (λ m. j < m) (sym (length-map (count_from 0 (length c)) (λ i. Target (inl (inl tt)) i) ∙ length-count_from 0 (length c))) l)
          ∙ get_or-count (λ i. Target (inl (inl tt)) i) 0 (length c) j (In 0) l

      all_past : (ys : List (Producer (EdgeOf t))) → AllByRecursion (IsMadeIn (λ e. S (inr e))) (map (lifted (beside (generator n b c) (identity r)) t ty) ys)
          → AllByRecursion (IsPast (length c)) ys
      all_past [] m = tt
      all_past (In j ∷ ys) m = (
        (λ l. let z : S (inr (inl (inl tt))) ≡ true = subst (IsMadeIn (λ e. S (inr e))) (at j l) m.0 in
            both_ways (S (inr (inl (inl tt)))) q z),
        all_past ys m.1,
      )
      all_past (Target d i ∷ ys) m = (tt, all_past ys m.1)

  without_first : S (inr (inl (inl tt))) ≡ false → Divided (fronted a p n b c r t) S
  unfolding pS gS
  without_first q = record {
    first = then (permutation a p) (beside (identity b) th.rest);
    second = then (beside (generator n b c) (identity th.m)) (then (permutation (c ++ th.m) th.w) ih.second);
    named = named-rename
        (named-chain start'
        (named-chain (named-then (named-same P none) (named-then moved (named-same D2 (λ _. false)) GD D2) P (then_arrow GD D2))
        (named-chain (named-then (named-same P' none)
        (named-chain (named-assoc R' (then_arrow G' W) D2 RN GW (λ _. false))
        (named-then (named-same R' RN) (named-assoc G' W D2 GN none (λ _. false)) R' (then_arrow (then_arrow G' W) D2))) P'
        (then_arrow (then_arrow R' (then_arrow G' W)) D2))
        (named-back (named-assoc P' R' (then_arrow G' (then_arrow W D2)) none RN (either GN (either none (λ _. false))))))))
        (λ e. refl)
        (elim [
          | inl (inl e) ↦ absurd e
          | inl (inr (inl e)) ↦ absurd e
          | inl (inr (inr e)) ↦ refl
          | inr (inl (inl e)) ↦ refl
          | inr (inl (inr e)) ↦ absurd e
          | inr (inr (inl e)) ↦ absurd e
          | inr (inr (inr e)) ↦ refl
        ]);
  }
    where
      D1' : Arrow ih.first (c ++ r) (cod ih.first)
      D1' = re_from (ap (λ z. c ++ z) (permuted-all r)) D1

      th : Through c r ih.first
      th = through c r (cod ih.first) ih.first D1' (leaves q)

      g : Arrow (generator n b c) b c
      g = generator_arrow n b c

      GN : Unit {0} ⊎ ⊥ → Bool
      GN e = either (λ _. false) none e

      RN : ⊥ ⊎ EdgeOf th.rest → Bool
      RN e = either none (λ _. true) e

      GW : EdgeOf (then (beside (generator n b c) (identity th.m)) (permutation (c ++ th.m) th.w)) → Bool
      GW e = either GN none e

      G0 : Arrow (beside (generator n b c) (identity r)) (b ++ r) (c ++ r)
      G0 = beside_arrow g (id_arrow r)

      R : Arrow (beside (identity c) th.rest) (c ++ r) (c ++ th.m)
      R = beside_arrow (id_arrow c) th.arrow

      W0 : Arrow (permutation (c ++ th.m) th.w) (c ++ th.m) (permuted (c ++ th.m) th.w)
      W0 = perm_arrow (c ++ th.m) th.w th.perm

      W : Arrow (permutation (c ++ th.m) th.w) (c ++ th.m) (cod ih.first)
      W = re_to (sym (sound th.equal).alike.cods) W0

      R' : Arrow (beside (identity b) th.rest) (b ++ r) (b ++ th.m)
      R' = beside_arrow (id_arrow b) th.arrow

      G' : Arrow (beside (generator n b c) (identity th.m)) (b ++ th.m) (c ++ th.m)
      G' = beside_arrow g (id_arrow th.m)

      P' : Arrow (permutation a p) x (b ++ r)
      P' = re_to (sym G.from) P

      GD : Arrow (then (beside (generator n b c) (identity r)) ih.first) (permuted a p) (cod ih.first)
      GD = then_arrow G D1

      start' : Named (fronted a p n b c r t) (then (permutation a p) (then (then (beside (generator n b c) (identity r)) ih.first) ih.second)) S
          (either none (either (either GN (λ _. true)) (λ _. false)))
      start' =
          named-rename start (λ e. refl)
          (elim [ inl e ↦ absurd e | inr (inl (inl (inl e))) ↦ q | inr (inl (inl (inr e))) ↦ absurd e | inr (inl (inr e)) ↦ refl | inr (inr e) ↦ refl ])

      inside : Named ih.first (then (beside (identity c) th.rest) (permutation (c ++ th.m) th.w)) (λ _. true) (either RN none)
      inside = named-rename (named-all th.equal true) (λ e. refl) (elim [ inl (inl e) ↦ absurd e | inl (inr e) ↦ refl | inr e ↦ absurd e ])

      moved : Named (then (beside (generator n b c) (identity r)) ih.first)
          (then (beside (identity b) th.rest) (then (beside (generator n b c) (identity th.m)) (permutation (c ++ th.m) th.w))) (either GN (λ _. true))
          (either RN GW)
      moved =
          named-chain (named-then (named-same G0 GN) inside G0 D1')
          (named-chain (named-back (named-assoc G0 R W GN RN none))
          (named-chain (named-then (named-cross g th.arrow (λ _. false) (λ _. true)) (named-same W none) (then_arrow G0 R) W)
          (named-assoc R' G' W RN GN none)))

-- a chain of layers is divided
pub divide_layers : {t : Morphism} → Layered t → {x y : List Sort} → Arrow t x y → (S : EdgeOf t → Bool) → IsClosed t S → Divided t S
divide_layers (done a p) {y = y} f S h = record {
  first = permutation a p;
  second = identity y;
  named = record {
    equal = back (equal-right f);
    alike =
        (sound (back (equal-right f))).alike;
    same = λ e. absurd e;
  };
}
divide_layers (step a p n b c r {t = t} L) f S h =
    by_first a p n b c r t f S h (divide_layers L (second_of_then (second_of_then f)) (λ e. S (inr (inr e))) (closed-inside a p n b c r t f S h))
    (cases_Bool (S (inr (inl (inl tt)))))
  where
    closed-inside : {x y : List Sort} (a : List Sort) (p n : List ℕ) (b c r : List Sort) (t : Morphism) (f : Arrow (fronted a p n b c r t) x y)
        (S : EdgeOf (fronted a p n b c r t) → Bool) → IsClosed (fronted a p n b c r t) S → IsClosed t (λ e. S (inr (inr e)))
    closed-inside a p n b c r t f S h =
        closed-later (beside (generator n b c) (identity r)) t f.typed.1 (λ e. S (inr e))
        (closed-later (permutation a p) (then (beside (generator n b c) (identity r)) t) f.typed S h)

    by_first : {x y : List Sort} (a : List Sort) (p n : List ℕ) (b c r : List Sort) (t : Morphism) (f : Arrow (fronted a p n b c r t) x y)
        (S : EdgeOf (fronted a p n b c r t) → Bool) → IsClosed (fronted a p n b c r t) S → Divided t (λ e. S (inr (inr e)))
        → (S (inr (inl (inl tt))) ≡ true) ⊎ (S (inr (inl (inl tt))) ≡ false) → Divided (fronted a p n b c r t) S
    by_first a p n b c r t f S h d (inl q) = with_first a p n b c r t f S h d q
    by_first a p n b c r t f S h d (inr q) = without_first a p n b c r t f S h d q
