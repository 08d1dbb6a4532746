-- A generator whose sources all come from outside can be brought to the front of the layers.
use Rattle.std.proofs.Common.{ℕ, zero, suc, ◌+◌, ◌-◌, ◌<◌, ◌≤◌, ◌≡◌, eqb, List, [], ◌∷◌, ◌++◌, map, length, take, drop, slice_index, ◌⊎◌, inl, inr, refl, sym, ◌∙◌}
use Rattle.std.proofs.Common.{ap, ap₂, subst, arith, length-append, zero-add, add-zero, get_or-take, get_or, length-take}
use Rattle.std.specs.List.{IsDistinct}
use Rattle.std.proofs.lemmas.Bool.{cases_lt}
use Rattle.std.proofs.lemmas.List.{get_or_append_left, get_or_past, length-map, append_cancel_left, get_or-map}
use Rattle.chyp_base.specs.declared.sort.Sort.{Sort}
use Rattle.chyp_term.specs.Perm.{IsPermutation, permuted, count_from, shifted}
use Rattle.chyp_term.specs.Morphism.{Morphism, generator, permutation, then, beside, dom, IsTyped}
use Rattle.chyp_term.specs.Derivation.{identity}
use Rattle.chyp_theory.proofs.Running.{EdgeOf, run, src}
use Rattle.chyp_term.proofs.Permuted.{permuted-shifted, length-permuted, Under, permuted-all, length-count_from, take-left}
use Rattle.chyp_term.proofs.Closure.{Under-perm}
use Rattle.chyp_theory.proofs.Congruence.{length-run}
use Rattle.chyp_term.proofs.Inverses.{distinct, length-shifted, permuted-numbers, map-same}
use Rattle.chyp_theory.proofs.Fronts.{bring, take-permuted}
use Rattle.chyp_theory.proofs.Soundness.{sound}
use Rattle.chyp_theory.proofs.Arrows.{Arrow, then_arrow, beside_arrow, id_arrow, perm_arrow, generator_arrow, equal-same, equal-perms}
use Rattle.chyp_theory.proofs.Layers.{Layered, done, step, arrow_along, first_of_then, second_of_then}
use Rattle.chyp_theory.proofs.Renaming.{Producer, In, Target, map-src}
use Rattle.chyp_term.proofs.Positions.{map-map}
use Rattle.chyp_theory.proofs.Factoring.{Split, split_off, re_from, re_to}
use Rattle.chyp_theory.proofs.Tracking.{Tracked, tracked-same, tracked-chain, tracked-back, tracked-left, tracked-right, tracked-assoc_first, tracked-assoc_second, tracked-assoc_third, tracked-pass}

abbrev pub fronted : List Sort → List ℕ → List ℕ → List Sort → List Sort → List Sort → Morphism → Morphism
fronted a p n b c r t = then (permutation a p) (then (beside (generator n b c) (identity r)) t)

pub record Peeled (t : Morphism) (k : EdgeOf t) : Type 1 where
  pub a : List Sort
  pub p : List ℕ
  pub n : List ℕ
  pub b : List Sort
  pub c : List Sort
  pub r : List Sort
  pub rest : Morphism
  pub tracked : Tracked t (fronted a p n b c r rest) k (inr (inl (inl tt)))

pub front-distinct : (n : ℕ) (p s : List ℕ) (m : ℕ) → IsPermutation n p → length s ≤ n → take (length s) p ≡ shifted m s → IsDistinct eqb s
front-distinct n p s m t l e = distinct s (λ i j a b q. t.apart i j (omega arith) (omega arith) (at i a ∙ ap (λ x. m + x) q ∙ sym (at j b)))
  where
    at : (i : ℕ) → i < length s → slice_index p i ≡ m + slice_index s i
    at i a = sym (get_or-take (length s) p i 0 a) ∙ ap (λ l. slice_index l i) e ∙ get_or-map (λ k. m + k) s i 0 0 a

pub peel_past : {x y : List Sort} (a : List Sort) (p n : List ℕ) (b c r : List Sort) (t : Morphism) (k : EdgeOf t) → Arrow (fronted a p n b c r t) x y
    → (p3 s n3 : List ℕ) (c3 r3 : List Sort) (t3 : Morphism)
    → Tracked t (fronted (c ++ r) p3 n3 (permuted r s) c3 r3 t3) k (inr (inl (inl tt)))
    → take (length s) p3 ≡ shifted (length c) s → length s ≤ length (c ++ r) → Under (length r) s
    → Peeled (fronted a p n b c r t) (inr (inr k))
peel_past {x} {y} a p n b c r t k f p3 s n3 c3 r3 t3 tr front size us =
    record {
      a = a;
      p = permuted p sp.q;
      n = n3;
      b = permuted r s;
      c = c3;
      r = b ++ sp.u;
      rest = then (beside (identity c3) X) t3;
      tracked =
          tracked-chain (tracked-right (equal-same P) (tracked-right (equal-same G) tr G T) P (then_arrow G T))
          (tracked-chain (tracked-right (equal-same P) (tracked-back (tracked-assoc_third G P3 M (inl (inl tt)))) P (then_arrow G (then_arrow P3 M)))
          (tracked-chain (tracked-right (equal-same P) (tracked-right sp.equal (tracked-same M (inl (inl tt))) (then_arrow G P3) M) P (then_arrow (then_arrow G P3) M))
          (tracked-chain (tracked-right (equal-same P) (tracked-assoc_third Q Y M' (inl (inl tt))) P' (then_arrow (then_arrow Q Y) M'))
          (tracked-chain (tracked-right (equal-same P) (tracked-right (equal-same Q) (tracked-back (tracked-assoc_second Y G3 T3 (inl tt))) Q (then_arrow Y M')) P' (then_arrow Q (then_arrow Y M')))
          (tracked-chain (tracked-right (equal-same P)
          (tracked-right (equal-same Q) (tracked-left (tracked-pass g3 XA tt) (equal-same T3) (then_arrow Y G3) T3) Q (then_arrow (then_arrow Y G3) T3)) P'
          (then_arrow Q (then_arrow (then_arrow Y G3) T3)))
          (tracked-chain (tracked-right (equal-same P) (tracked-right (equal-same Q) (tracked-assoc_first G4 Y4 T4 (inl tt)) Q (then_arrow (then_arrow G4 Y4) T4)) P'
          (then_arrow Q (then_arrow (then_arrow G4 Y4) T4)))
          (tracked-chain (tracked-back (tracked-assoc_third P' Q (then_arrow G4 (then_arrow Y4 T4)) (inl (inl tt))))
          (tracked-right (equal-perms a (b ++ r) p sp.q f.typed.0 (sym G.from) sp.left_perm) (tracked-same (then_arrow G4 (then_arrow Y4 T4)) (inl (inl tt)))
          (then_arrow P' Q) (then_arrow G4 (then_arrow Y4 T4))))))))));
    }
  where
    P : Arrow (permutation a p) x (permuted a p)
    P = first_of_then f

    G : Arrow (beside (generator n b c) (identity r)) (permuted a p) (c ++ permuted r (count_from 0 (length r)))
    G = first_of_then (second_of_then f)

    T : Arrow t (c ++ permuted r (count_from 0 (length r))) y
    T = second_of_then (second_of_then f)

    F3 : Arrow (fronted (c ++ r) p3 n3 (permuted r s) c3 r3 t3) (c ++ permuted r (count_from 0 (length r))) y
    F3 = arrow_along tr.equal T

    P3 : Arrow (permutation (c ++ r) p3) (c ++ permuted r (count_from 0 (length r))) (permuted (c ++ r) p3)
    P3 = first_of_then F3

    M : Arrow (then (beside (generator n3 (permuted r s) c3) (identity r3)) t3) (permuted (c ++ r) p3) y
    M = second_of_then F3

    br : (q : List ℕ) × IsPermutation (length r) (s ++ q)
    br = bring (length r) s us (front-distinct (length (c ++ r)) p3 s (length c) F3.typed.0 size front)

    sp : Split (generator n b c) b c r p3 s
    sp = split_off b c r s br.0 br.1 us (generator_arrow n b c) p3 F3.typed.0 front

    X : Morphism
    X = then (beside (generator n b c) (identity sp.u)) (permutation (c ++ sp.u) sp.w)

    X0 : Arrow X (b ++ sp.u) (permuted (c ++ sp.u) sp.w)
    X0 = then_arrow (beside_arrow (generator_arrow n b c) (id_arrow sp.u)) (perm_arrow (c ++ sp.u) sp.w sp.right_perm)

    Q : Arrow (permutation (b ++ r) sp.q) (b ++ r) (permuted r s ++ (b ++ sp.u))
    Q = re_to sp.left_cod (perm_arrow (b ++ r) sp.q sp.left_perm)

    Y0 : Arrow (beside (identity (permuted r s)) X) (permuted r s ++ (b ++ sp.u)) (permuted r s ++ permuted (c ++ sp.u) sp.w)
    Y0 = beside_arrow (id_arrow (permuted r s)) X0

    meet : permuted (c ++ sp.u) sp.w ≡ r3
    meet = append_cancel_left (permuted r s) _ _ (sym Y0.to ∙ sym (sound sp.equal).alike.cods ∙ F3.typed.2)

    XA : Arrow X (b ++ sp.u) r3
    XA = re_to meet X0

    Y : Arrow (beside (identity (permuted r s)) X) (permuted r s ++ (b ++ sp.u)) (permuted r s ++ r3)
    Y = beside_arrow (id_arrow (permuted r s)) XA

    g3 : Arrow (generator n3 (permuted r s) c3) (permuted r s) c3
    g3 = generator_arrow n3 (permuted r s) c3

    G3 : Arrow (beside (generator n3 (permuted r s) c3) (identity r3)) (permuted r s ++ r3) (c3 ++ r3)
    G3 = beside_arrow g3 (id_arrow r3)

    T3 : Arrow t3 (c3 ++ r3) y
    T3 = re_from (ap (λ z. c3 ++ z) (permuted-all r3)) (second_of_then M)

    M' : Arrow (then (beside (generator n3 (permuted r s) c3) (identity r3)) t3) (permuted r s ++ r3) y
    M' = then_arrow G3 T3

    P' : Arrow (permutation a p) x (b ++ r)
    P' = re_to (sym G.from) P

    G4 : Arrow (beside (generator n3 (permuted r s) c3) (identity (b ++ sp.u))) (permuted r s ++ (b ++ sp.u)) (c3 ++ (b ++ sp.u))
    G4 = beside_arrow g3 (id_arrow (b ++ sp.u))

    Y4 : Arrow (beside (identity c3) X) (c3 ++ (b ++ sp.u)) (c3 ++ r3)
    Y4 = beside_arrow (id_arrow c3) XA

    T4 : Arrow t3 (c3 ++ r3) y
    T4 = T3

-- the inputs of t, by name
abbrev pub ins : (t : Morphism) → List (Producer (EdgeOf t))
ins t = map (λ j. In j) (count_from 0 (length (dom t)))

-- what goes into k comes from outside
pub record Ready (t : Morphism) (k : EdgeOf t) : Type 0 where
  pub places : List ℕ
  pub sources : src t (λ e i. Target e i) (ins t) k ≡ map (λ j. In j) places

pub length-ins_of : (t : Morphism) → length (ins t) ≡ length (dom t)
length-ins_of t = length-map (count_from 0 (length (dom t))) (λ j. In j) ∙ length-count_from 0 (length (dom t))

pub map-get_or : {A : Type 0} (xs : List A) (d : A) (k : ℕ) (f : ℕ → A) → ((j : ℕ) → f (k + j) ≡ get_or xs j d) → map f (count_from k (length xs)) ≡ xs
map-get_or [] d k f h = refl
map-get_or (x ∷ xs) d k f h = ap₂ (λ y r. y ∷ r) (ap f (sym (add-zero k)) ∙ h 0) (map-get_or xs d (suc k) f (λ j. ap f (omega arith) ∙ h (suc j)))

pub get_or-count : {A : Type 0} (f : ℕ → A) (k n j : ℕ) (d : A) → j < n → get_or (map f (count_from k n)) j d ≡ f (k + j)
get_or-count f k zero j d h = absurd (omega arith)
get_or-count f k (suc n) zero d h = ap f (sym (add-zero k))
get_or-count f k (suc n) (suc j) d h = get_or-count f (suc k) n j d (omega arith) ∙ ap f (omega arith)

module _ {x y : List Sort} (a : List Sort) (p n : List ℕ) (b c r : List Sort) (t : Morphism) (f : Arrow (fronted a p n b c r t) x y) where
  Outer : Type 0
  Outer = EdgeOf (fronted a p n b c r t)

  live : List (Producer (EdgeOf (fronted a p n b c r t)))
  live = run (beside (generator n b c) (identity r)) (λ e i. Target (inr (inl e)) i) (permuted (ins (fronted a p n b c r t)) p)

  blank : Producer (EdgeOf (fronted a p n b c r t))
  blank = Target (inr (inl (inl tt))) 0

  lift : Producer (EdgeOf t) → Producer (EdgeOf (fronted a p n b c r t))
  lift (In j) = get_or live j blank
  lift (Target e i) = Target (inr (inr e)) i

  live-size : length live ≡ length (dom t)
  unfolding live
  live-size =
      length-run (then (permutation a p) (beside (generator n b c) (identity r))) (f.typed.0, f.typed.1.0, f.typed.2)
      (λ e i. Target (elim e [ inl z ↦ inl z | inr z ↦ inr (inl z) ]) i) (ins (fronted a p n b c r t)) (length-ins_of (fronted a p n b c r t))
      ∙ ap length f.typed.1.2

  lift-ins : map lift (ins t) ≡ live
  unfolding lift
  lift-ins =
      map-map lift (λ j. In j) (count_from 0 (length (dom t)))
      ∙ ap (λ m. map (λ j. get_or live j blank) (count_from 0 m)) (sym live-size)
      ∙ map-get_or live blank 0 (λ j. get_or live j blank) (λ j. ap (λ i. get_or live i blank) (zero-add j))

  made : List (Producer (EdgeOf (fronted a p n b c r t)))
  made = map (λ i. Target (inr (inl (inl tt))) i) (count_from 0 (length c))

  made-size : length made ≡ length c
  unfolding made
  made-size = length-map (count_from 0 (length c)) (λ i. Target (inr (inl (inl tt))) i) ∙ length-count_from 0 (length c)

  -- what of the outside comes by
  other : List (Producer (EdgeOf (fronted a p n b c r t)))
  other = permuted (drop (length b) (permuted (ins (fronted a p n b c r t)) p)) (count_from 0 (length r))

  live-is : live ≡ made ++ other
  unfolding live made other
  live-is = refl

  other-size : length other ≡ length r
  other-size =
      let e = ap length live-is ∙ length-append made other in
      let m = made-size in let l = live-size in let d = ap length (sym f.typed.1.2) in
      let g = length-append c (permuted r (count_from 0 (length r))) in
      let k : length (permuted r (count_from 0 (length r))) ≡ length r = ap length (permuted-all r) in
      omega arith

  get-made : (j : ℕ) → j < length c → get_or live j blank ≡ Target (inr (inl (inl tt))) (0 + j)
  unfolding made
  get-made j l =
      ap (λ z. get_or z j blank) live-is
      ∙ get_or_append_left made other blank j (let m = made-size in omega arith)
      ∙ get_or-count (λ i. Target (inr (inl (inl tt))) i) 0 (length c) j blank l

  comes_by : (j q : ℕ) → get_or live j blank ≡ In q → (i : ℕ) × (j ≡ length c + i) × (i < length r)
  unfolding blank
  comes_by j q e = go (cases_lt j (length c))
    where
      past : length c ≤ j → (j - length c < length r) ⊎ (length r ≤ j - length c) → (i : ℕ) × (j ≡ length c + i) × (i < length r)
      past l (inl h) = (j - length c, omega arith, h)
      past l (inr h) =
          let s = ap length live-is ∙ length-append made other in let m = made-size in let o = other-size in
          let z : ◌≡◌ {A = Producer (EdgeOf (fronted a p n b c r t))} (Target (inr (inl (inl tt))) 0) (In q) = sym (get_or_past live j blank (omega arith)) ∙ e in
          cc

      go : (j < length c) ⊎ (length c ≤ j) → (i : ℕ) × (j ≡ length c + i) × (i < length r)
      go (inl l) =
          let z : ◌≡◌ {A = Producer (EdgeOf (fronted a p n b c r t))} (Target (inr (inl (inl tt))) (0 + j)) (In q) = sym (get-made j l) ∙ e in
          cc
      go (inr l) = past l (cases_lt (j - length c) (length r))

  -- what is lifted to inputs came by beside the generator
  all_come_by : (ys : List (Producer (EdgeOf t))) (ps : List ℕ) → map lift ys ≡ map (λ j. In j) ps → (s : List ℕ) × (ys ≡ map (λ j. In j) (shifted (length c) s)) × Under (length r) s
  unfolding lift
  all_come_by [] [] e = ([], refl, tt)
  all_come_by [] (q ∷ ps) e = cc
  all_come_by (y ∷ ys) [] e = cc
  all_come_by (In j ∷ ys) (q ∷ ps) e =
      let h = heads (get_or live j blank) (In q) (map lift ys) (map (λ j. In j) ps) e in
      let k = comes_by j q h.0 in
      let rest = all_come_by ys ps h.1 in
      (k.0 ∷ rest.0, ap₂ (λ a b. In a ∷ b) k.1 rest.1, (k.2, rest.2))
    where
      heads : {A : Type 0} (a b : A) (us vs : List A) → a ∷ us ≡ b ∷ vs → (a ≡ b) × (us ≡ vs)
      heads a b us vs e = (cc, cc)
  all_come_by (Target d i ∷ ys) (q ∷ ps) e =
      let z : ◌≡◌ {A = Producer (EdgeOf (fronted a p n b c r t))} (Target (inr (inr d)) i) (In q) = heads _ _ (map lift ys) (map (λ j. In j) ps) e in cc
    where
      heads : {A : Type 0} (a b : A) (us vs : List A) → a ∷ us ≡ b ∷ vs → a ≡ b
      heads a b us vs e = cc

  pub ready_inside : (k : EdgeOf t) → Ready (fronted a p n b c r t) (inr (inr k)) → (s : List ℕ) × (src t (λ e i. Target e i) (ins t) k ≡ map (λ j. In j) (shifted (length c) s)) × Under (length r) s
  unfolding lift live
  ready_inside k h =
      all_come_by (src t (λ e i. Target e i) (ins t) k) h.places
      (map-src lift t f.typed.1.1 (λ e i. Target e i) (ins t) (length-ins_of t) k
      ∙ ap (λ l. src t (λ e i. Target (inr (inr e)) i) l k) lift-ins
      ∙ h.sources)

-- the sources of k, as places, for the front of what it is peeled to
pub front-places : {t : Morphism} {k : EdgeOf t} (a : List Sort) (p n : List ℕ) (b c r : List Sort) (rest : Morphism) → IsTyped t → Tracked t (fronted a p n b c r rest) k (inr (inl (inl tt)))
    → (ps : List ℕ) → src t (λ e i. Target e i) (ins t) k ≡ map (λ j. In j) ps → take (length b) p ≡ ps
front-places {t} {k} a p n b c r rest ty tr ps e =
    sym (ap (take (length b)) (permuted-numbers N p (subst (λ m. Under m p) (sym size) (Under-perm _ p right.0))))
    ∙ sym (ap (λ z. src (fronted a p n b c r rest) (λ _ _. 0) (count_from 0 N) z) tr.at)
    ∙ tr.alike.srcs (λ _ _. 0) (count_from 0 N) (length-count_from 0 N) k
    ∙ sym (map-src place t ty (λ e i. Target e i) (ins t) (length-ins_of t) k ∙ ap (λ l. src t (λ _ _. 0) l k) (map-map place (λ j. In j) (count_from 0 N) ∙ map-same 0 N))
    ∙ ap (map place) e
    ∙ map-map place (λ j. In j) ps ∙ same-all ps
  where
    N : ℕ
    N = length (dom t)

    right : IsTyped (fronted a p n b c r rest)
    right = (sound tr.equal).right

    size : N ≡ length a
    size = ap length tr.alike.doms

    place : Producer (EdgeOf t) → ℕ
    place (In j) = j
    place (Target e i) = 0

    same-all : (xs : List ℕ) → map (λ j. j) xs ≡ xs
    same-all [] = refl
    same-all (x ∷ xs) = ap (λ r. x ∷ r) (same-all xs)

pub past_step : {x y : List Sort} (a : List Sort) (p n : List ℕ) (b c r : List Sort) (t : Morphism) → Arrow (fronted a p n b c r t) x y → (k : EdgeOf t)
    → (s : List ℕ) → src t (λ e i. Target e i) (ins t) k ≡ map (λ j. In j) (shifted (length c) s) → Under (length r) s → Peeled t k → Peeled (fronted a p n b c r t) (inr (inr k))
past_step a p n b c r t f k s e us d =
    peel_past a p n b c r t k f d.p s d.n d.c d.r d.rest
    (subst (λ z. Tracked t (fronted z d.p d.n (permuted r s) d.c d.r d.rest) k (inr (inl (inl tt)))) d-a
    (subst (λ z. Tracked t (fronted d.a d.p d.n z d.c d.r d.rest) k (inr (inl (inl tt)))) d-b d.tracked))
    front size us
  where
    right : IsTyped (fronted d.a d.p d.n d.b d.c d.r d.rest)
    right = (sound d.tracked.equal).right

    places : take (length d.b) d.p ≡ shifted (length c) s
    places = front-places d.a d.p d.n d.b d.c d.r d.rest f.typed.1.1 d.tracked (shifted (length c) s) e

    d-a : d.a ≡ c ++ r
    d-a = sym d.tracked.alike.doms ∙ sym f.typed.1.2 ∙ ap (λ z. c ++ z) (permuted-all r)

    p-size : length d.p ≡ length d.b + length d.r
    p-size = sym (length-permuted d.a d.p (Under-perm _ d.p right.0)) ∙ ap length right.2 ∙ length-append d.b d.r

    b-size : length d.b ≡ length s
    b-size = let h = p-size in sym (length-take (length d.b) d.p ∙ omega arith) ∙ ap length places ∙ length-shifted (length c) s

    front : take (length s) d.p ≡ shifted (length c) s
    front = ap (λ m. take m d.p) (sym b-size) ∙ places

    size : length s ≤ length (c ++ r)
    size = let h = p-size in let k = b-size in let g = right.0.size in let i = ap length d-a in omega arith

    d-b : d.b ≡ permuted r s
    d-b =
        sym (take-left d.b d.r (length d.b) refl)
        ∙ ap (take (length d.b)) (sym right.2)
        ∙ take-permuted d.a d.p (length d.b) (Under-perm _ d.p right.0)
        ∙ ap₂ permuted d-a places
        ∙ permuted-shifted c r s

-- a generator that is ready is brought to the front
pub peel : {t : Morphism} {x y : List Sort} → Layered t → Arrow t x y → (k : EdgeOf t) → Ready t k → Peeled t k
peel (done a p) f k h = absurd k
peel (step a p n b c r L) f (inl k) h = absurd k
peel (step a p n b c r {t = t} L) f (inr (inl (inl k))) h = record { a = a; p = p; n = n; b = b; c = c; r = r; rest = t; tracked = tracked-same f (inr (inl (inl tt))) }
peel (step a p n b c r L) f (inr (inl (inr k))) h = absurd k
peel (step a p n b c r {t = t} L) f (inr (inr k)) h =
    let s = ready_inside a p n b c r t f k h in
    past_step a p n b c r t f k s.0 s.1 s.2 (peel L (second_of_then (second_of_then f)) k (record { places = shifted (length c) s.0; sources = s.1 }))
