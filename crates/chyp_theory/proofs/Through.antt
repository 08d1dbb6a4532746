-- What no edge takes passes beside the edges: the wires that a term leaves alone are split off.
use Rattle.std.proofs.Common.{ℕ, suc, ◌+◌, ◌-◌, ◌<◌, ◌≤◌, ◌≡◌, List, [], ◌∷◌, ◌++◌, map, length, take, ◌⊎◌, inl, inr, refl, sym, ◌∙◌, ap, ap₂, subst, arith, length-append, append_assoc}
use Rattle.std.proofs.Common.{length-take}
use Rattle.std.proofs.lemmas.List.{take-map, append_cancel_left}
use Rattle.std.proofs.lemmas.Bool.{cases_lt}
use Rattle.std.specs.List.{AllByRecursion}
use Rattle.chyp_base.specs.declared.sort.Sort.{Sort}
use Rattle.chyp_term.specs.Derivation.{identity, swap, back, chain, in_then, in_beside}
use Rattle.chyp_term.specs.Morphism.{Morphism, generator, permutation, then, beside}
use Rattle.chyp_term.specs.Perm.{IsPermutation, permuted, count_from, shifted, swapped}
use Rattle.chyp_term.proofs.Closure.{Under-perm}
use Rattle.chyp_term.proofs.Inverses.{permuted-numbers, length-shifted, id_perm}
use Rattle.chyp_term.proofs.Permuted.{Under, permuted-all, permuted-map, length-count_from, length-permuted, permuted-permuted, permuted-shifted, take-left}
use Rattle.chyp_theory.proofs.Arrows.{Equal, Arrow, then_arrow, beside_arrow, id_arrow, swap_arrow, perm_arrow, generator_arrow, equal-same, equal-assoc, equal-left, equal-beside_assoc, equal-slide}
use Rattle.chyp_theory.proofs.Arrows.{equal-perms, equal-perm_beside, in_left, in_right}
use Rattle.chyp_theory.proofs.Factoring.{Factor, factor, cross, re_from, re_to}
use Rattle.chyp_theory.proofs.Fronts.{bring, take-permuted}
use Rattle.chyp_theory.proofs.Layers.{Layered, done, step, layers, along, along_left, equal-ids, arrow_along, first_of_then, second_of_then}
use Rattle.chyp_theory.proofs.Peeling.{ins, length-ins_of, fronted, front-distinct}
use Rattle.chyp_theory.proofs.Renaming.{Producer, In}
use Rattle.chyp_theory.proofs.Running.{EdgeOf}
use Rattle.chyp_theory.proofs.Soundness.{sound}
use Rattle.chyp_theory.proofs.Leaving.{IsPast, LeavesFirst, leaves-alike, leaves-later}

-- t is a term beside the wires c, and then a permutation
pub record Through (c r : List Sort) (t : Morphism) : Type 0 where
  pub m : List Sort
  pub rest : Morphism
  pub arrow : Arrow rest r m
  pub w : List ℕ
  pub perm : IsPermutation (length (c ++ m)) w
  pub equal : Equal t (then (beside (identity c) rest) (permutation (c ++ m) w))

-- a block moves before x
pub move_back : {h : Morphism} {b c : List Sort} → Arrow h b c → (x u : List Sort)
    → Equal (then (beside (swap x b) (identity u)) (beside h (identity (x ++ u))))
    (then (beside (identity x) (beside h (identity u))) (beside (swap x c) (identity u)))
move_back {h} {b} {c} f x u =
    let i = id_arrow x in
    let j = id_arrow u in
    chain (in_right (back (chain (equal-beside_assoc f i j) (in_beside (equal-same f) (equal-ids x u))))
    (re_to (append_assoc b x u) (beside_arrow (swap_arrow x b) j)) (beside_arrow f (id_arrow (x ++ u))))
    (chain (back (along u (swap_arrow x b) (beside_arrow f i)))
    (chain (in_beside (back (equal-slide i f)) (equal-same j))
    (chain (along u (beside_arrow i f) (swap_arrow x c))
    (in_left (equal-beside_assoc i f j) (beside_arrow (beside_arrow i f) j) (beside_arrow (swap_arrow x c) j)))))

-- places that are past the first n are places of the rest
pub past-list : (E : Type 0) (n m : ℕ) (ks : List ℕ) → AllByRecursion (IsPast n) (map {B = Producer E} (λ j. In j) ks) → Under (n + m) ks
    → (s : List ℕ) × (ks ≡ shifted n s) × Under m s
past-list E n m [] a u = ([], refl, tt)
past-list E n m (k ∷ ks) a u =
    let h = past-list E n m ks a.1 u.1 in
    let l : n ≤ k = above (cases_lt k n) a.0 in
    let b : k < n + m = u.0 in
    ((k - n) ∷ h.0, ap₂ (λ x r. x ∷ r) (omega arith) h.1, (omega arith, h.2))
  where
    above : (k < n) ⊎ (n ≤ k) → ¬ (k < n) → n ≤ k
    above (inl l) f = absurd (f l)
    above (inr l) f = l

-- one layer more
pub through_step : (a : List Sort) (p n : List ℕ) (b d q : List Sort) (t : Morphism) (c r : List Sort) (z : List ℕ) {y : List Sort}
    → Arrow (then (permutation (c ++ r) z) (fronted a p n b d q t)) (c ++ r) y → LeavesFirst (length c) (then (permutation (c ++ r) z) (fronted a p n b d q t))
    → ((r' : List Sort) (z' : List ℕ) → Arrow (then (permutation (c ++ r') z') t) (c ++ r') y → LeavesFirst (length c) (then (permutation (c ++ r') z') t)
    → Through c r' (then (permutation (c ++ r') z') t))
    → Through c r (then (permutation (c ++ r) z) (fronted a p n b d q t))
through_step a p n b d q t c r z {y} f h ih =
    record {
      m = rec.m;
      rest = then Y rec.rest;
      arrow = then_arrow Y0 rec.arrow;
      w = rec.w;
      perm = rec.perm;
      equal =
          chain reach (chain (in_right rec.equal CY N3)
          (chain (back (equal-assoc CY (beside_arrow (id_arrow c) rec.arrow) (perm_arrow (c ++ rec.m) rec.w rec.perm)))
          (in_left (back (along_left c Y0 rec.arrow)) (then_arrow CY (beside_arrow (id_arrow c) rec.arrow)) (perm_arrow (c ++ rec.m) rec.w rec.perm))));
    }
  where
    N : ℕ
    N = length (c ++ r)

    z2 : List ℕ
    z2 = permuted z p

    Z : Arrow (permutation (c ++ r) z) (c ++ r) a
    Z = re_to f.typed.2 (first_of_then f)

    F : Arrow (fronted a p n b d q t) a y
    F = re_from f.typed.2 (second_of_then f)

    P : Arrow (permutation a p) a (permuted a p)
    P = first_of_then F

    GT : Arrow (then (beside (generator n b d) (identity q)) t) (permuted a p) y
    GT = second_of_then F

    joined : Equal (then (permutation (c ++ r) z) (permutation a p)) (permutation (c ++ r) z2)
    joined = equal-perms (c ++ r) a z p f.typed.0 f.typed.2 f.typed.1.0

    Z2 : Arrow (permutation (c ++ r) z2) (c ++ r) (b ++ q)
    Z2 = re_to (sym GT.from) (arrow_along joined (then_arrow Z P))

    z-size : length z2 ≡ length b + length q
    z-size = sym (length-permuted (c ++ r) z2 (Under-perm _ z2 Z2.typed)) ∙ ap length Z2.to ∙ length-append b q

    zu : Under (length z) p
    zu = subst (λ k. Under k p) (sym (ap length f.typed.2) ∙ length-permuted (c ++ r) z (Under-perm _ z f.typed.0)) (Under-perm _ p f.typed.1.0)

    outer : List (Producer (EdgeOf (then (permutation (c ++ r) z) (fronted a p n b d q t))))
    outer = ins (then (permutation (c ++ r) z) (fronted a p n b d q t))

    taken : take (length b) (permuted (permuted outer z) p) ≡ map (λ j. In j) (take (length b) z2)
    taken =
        ap (take (length b)) (permuted-permuted outer z
        (subst (λ k. Under k z) (sym (length-ins_of (then (permutation (c ++ r) z) (fronted a p n b d q t)))) (Under-perm _ z f.typed.0)) p
        ∙ permuted-map (λ j. In j) (count_from 0 N) z2 (subst (λ k. Under k z2) (sym (length-count_from 0 N)) (Under-perm _ z2 Z2.typed))
        ∙ ap (map (λ j. In j)) (permuted-numbers N z2 (Under-perm _ z2 Z2.typed)))
        ∙ take-map (λ j. In j) (length b) z2

    under-take : (k : ℕ) (xs : List ℕ) (i : ℕ) → Under k xs → Under k (take i xs)
    under-take k xs ℕ.zero u = tt
    under-take k [] (suc i) u = tt
    under-take k (x ∷ xs) (suc i) u = (u.0, under-take k xs i u.1)

    found-list : (s : List ℕ) × (take (length b) z2 ≡ shifted (length c) s) × Under (length r) s
    found-list = past-list (EdgeOf (then (permutation (c ++ r) z) (fronted a p n b d q t))) (length c) (length r) (take (length b) z2)
        (subst (AllByRecursion (IsPast (length c))) taken (h (inr (inr (inl (inl tt))))))
        (subst (λ k. Under k (take (length b) z2)) (length-append c r) (under-take N z2 (length b) (Under-perm _ z2 Z2.typed)))

    s : List ℕ
    s = found-list.0

    s-size : length b ≡ length s
    s-size = let g = z-size in sym (length-take (length b) z2 ∙ omega arith) ∙ ap length found-list.1 ∙ length-shifted (length c) s

    front : take (length s) z2 ≡ shifted (length c) s
    front = ap (λ k. take k z2) (sym s-size) ∙ found-list.1

    br : (k : List ℕ) × IsPermutation (length r) (s ++ k)
    br =
        bring (length r) s found-list.2
        (front-distinct N z2 s (length c) Z2.typed (let g = z-size in let e = s-size in let o = Z2.typed.size in omega arith) front)

    fc : Factor c r z2 s
    fc = factor c c r s br.0 br.1 found-list.2 z2 Z2.typed front

    x : List Sort
    x = permuted r s

    bx : b ≡ x
    bx =
        sym (take-left b q (length b) refl) ∙ ap (take (length b)) (sym Z2.to) ∙ take-permuted (c ++ r) z2 (length b) (Under-perm _ z2 Z2.typed)
        ∙ ap (permuted (c ++ r)) found-list.1 ∙ permuted-shifted c r s

    Q : Arrow (permutation r (s ++ fc.q)) r (x ++ fc.u)
    Q = re_to fc.q_cod (perm_arrow r (s ++ fc.q) fc.q_perm)

    CQ : Arrow (beside (identity c) (permutation r (s ++ fc.q))) (c ++ r) (c ++ (x ++ fc.u))
    CQ = beside_arrow (id_arrow c) Q

    S : Arrow (beside (swap c x) (identity fc.u)) (c ++ (x ++ fc.u)) (x ++ (c ++ fc.u))
    S = re_to (append_assoc x c fc.u) (re_from (append_assoc c x fc.u) (beside_arrow (swap_arrow c x) (id_arrow fc.u)))

    W0 : Arrow (permutation (c ++ fc.u) fc.w) (c ++ fc.u) (permuted (c ++ fc.u) fc.w)
    W0 = perm_arrow (c ++ fc.u) fc.w fc.w_perm

    meet : permuted (c ++ fc.u) fc.w ≡ q
    meet = append_cancel_left x _ _ (sym (beside_arrow (id_arrow x) W0).to ∙ sym (sound fc.equal).alike.cods ∙ Z2.to ∙ ap (λ k. k ++ q) bx)

    W : Arrow (permutation (c ++ fc.u) fc.w) (c ++ fc.u) q
    W = re_to meet W0

    XW : Arrow (beside (identity x) (permutation (c ++ fc.u) fc.w)) (x ++ (c ++ fc.u)) (x ++ q)
    XW = beside_arrow (id_arrow x) W

    g : Arrow (generator n b d) x d
    g = re_from bx (generator_arrow n b d)

    G : Arrow (beside (generator n b d) (identity q)) (x ++ q) (d ++ q)
    G = beside_arrow g (id_arrow q)

    T : Arrow t (d ++ q) y
    T = record { typed = f.typed.1.1.1; from = sym f.typed.1.1.2 ∙ ap (λ k. d ++ k) (permuted-all q); to = f.to }

    G2 : Arrow (beside (generator n b d) (identity (c ++ fc.u))) (x ++ (c ++ fc.u)) (d ++ (c ++ fc.u))
    G2 = beside_arrow g (id_arrow (c ++ fc.u))

    DW : Arrow (beside (identity d) (permutation (c ++ fc.u) fc.w)) (d ++ (c ++ fc.u)) (d ++ q)
    DW = beside_arrow (id_arrow d) W

    CG : Arrow (beside (identity c) (beside (generator n b d) (identity fc.u))) (c ++ (x ++ fc.u)) (c ++ (d ++ fc.u))
    CG = beside_arrow (id_arrow c) (beside_arrow g (id_arrow fc.u))

    S2 : Arrow (beside (swap c d) (identity fc.u)) (c ++ (d ++ fc.u)) (d ++ (c ++ fc.u))
    S2 = re_to (append_assoc d c fc.u) (re_from (append_assoc c d fc.u) (beside_arrow (swap_arrow c d) (id_arrow fc.u)))

    Y : Morphism
    Y = then (permutation r (s ++ fc.q)) (beside (generator n b d) (identity fc.u))

    Y0 : Arrow Y r (d ++ fc.u)
    Y0 = then_arrow Q (beside_arrow g (id_arrow fc.u))

    CY : Arrow (beside (identity c) Y) (c ++ r) (c ++ (d ++ fc.u))
    CY = beside_arrow (id_arrow c) Y0

    E2 : Equal (beside (swap c d) (identity fc.u))
        (permutation ((c ++ d) ++ fc.u) (swapped (length c) (length d) ++ shifted (length (c ++ d)) (count_from 0 (length fc.u))))
    E2 = equal-perm_beside (c ++ d) fc.u _ _ (swap_arrow c d).typed (id_perm _)

    E3 : Equal (beside (identity d) (permutation (c ++ fc.u) fc.w)) (permutation (d ++ (c ++ fc.u)) (count_from 0 (length d) ++ shifted (length d) fc.w))
    E3 = equal-perm_beside d (c ++ fc.u) _ _ (id_perm _) fc.w_perm

    z3 : List ℕ
    z3 = permuted (swapped (length c) (length d) ++ shifted (length (c ++ d)) (count_from 0 (length fc.u))) (count_from 0 (length d) ++ shifted (length d) fc.w)

    last : Equal (then (beside (swap c d) (identity fc.u)) (beside (identity d) (permutation (c ++ fc.u) fc.w))) (permutation (c ++ (d ++ fc.u)) z3)
    last =
        subst (λ k. Equal (then (beside (swap c d) (identity fc.u)) (beside (identity d) (permutation (c ++ fc.u) fc.w))) (permutation k z3))
        (append_assoc c d fc.u)
        (chain (in_then E2 E3 (S2.to ∙ sym DW.from))
        (equal-perms ((c ++ d) ++ fc.u) (d ++ (c ++ fc.u)) _ _ (arrow_along E2 S2).typed (arrow_along E2 S2).to (arrow_along E3 DW).typed))

    Z3 : Arrow (permutation (c ++ (d ++ fc.u)) z3) (c ++ (d ++ fc.u)) (d ++ q)
    Z3 = arrow_along last (then_arrow S2 DW)

    N3 : Arrow (then (permutation (c ++ (d ++ fc.u)) z3) t) (c ++ (d ++ fc.u)) y
    N3 = then_arrow Z3 T

    GT' : Arrow (then (beside (generator n b d) (identity q)) t) (x ++ q) y
    GT' = then_arrow G T

    one : Equal (then (permutation (c ++ r) z) (fronted a p n b d q t))
        (then (then (then (beside (identity c) (permutation r (s ++ fc.q))) (beside (swap c x) (identity fc.u)))
        (beside (identity x) (permutation (c ++ fc.u) fc.w))) (then (beside (generator n b d) (identity q)) t))
    one = chain (back (equal-assoc Z P GT)) (in_left (chain joined fc.equal) (then_arrow Z P) GT)

    two : Equal (then (beside (identity x) (permutation (c ++ fc.u) fc.w)) (then (beside (generator n b d) (identity q)) t))
        (then (beside (generator n b d) (identity (c ++ fc.u))) (then (beside (identity d) (permutation (c ++ fc.u) fc.w)) t))
    two = chain (back (equal-assoc XW G T)) (chain (in_left (back (cross g W)) (then_arrow XW G) T) (equal-assoc G2 DW T))

    three : Equal (then (beside (swap c x) (identity fc.u)) (beside (generator n b d) (identity (c ++ fc.u))))
        (then (beside (identity c) (beside (generator n b d) (identity fc.u))) (beside (swap c d) (identity fc.u)))
    three = move_back g c fc.u

    M : Arrow (then (beside (identity d) (permutation (c ++ fc.u) fc.w)) t) (d ++ (c ++ fc.u)) y
    M = then_arrow DW T

    reach : Equal (then (permutation (c ++ r) z) (fronted a p n b d q t)) (then (beside (identity c) Y) (then (permutation (c ++ (d ++ fc.u)) z3) t))
    reach =
        chain one
        (chain (equal-assoc (then_arrow CQ S) XW GT')
        (chain (in_right two (then_arrow CQ S) (then_arrow XW GT'))
        (chain (equal-assoc CQ S (then_arrow G2 M))
        (chain (in_right (chain (back (equal-assoc S G2 M)) (in_left three (then_arrow S G2) M)) CQ (then_arrow S (then_arrow G2 M)))
        (chain (in_right (chain (equal-assoc CG S2 M)
        (in_right (chain (back (equal-assoc S2 DW T)) (in_left last (then_arrow S2 DW) T)) CG (then_arrow S2 M))) CQ (then_arrow (then_arrow CG S2) M))
        (chain (back (equal-assoc CQ CG N3))
        (in_left (back (along_left c Q (beside_arrow g (id_arrow fc.u)))) (then_arrow CQ CG) N3)))))))

    rec : Through c (d ++ fc.u) (then (permutation (c ++ (d ++ fc.u)) z3) t)
    rec =
        ih (d ++ fc.u) z3 N3 (leaves-later c Y (then (permutation (c ++ (d ++ fc.u)) z3) t) (sound reach).right
        (leaves-alike (length c) f.typed (sound reach).alike h))

-- the first generator of a permutation and a layer takes none of c
pub through_layers : {t : Morphism} → Layered t → (c r : List Sort) (z : List ℕ) {y : List Sort} → Arrow (then (permutation (c ++ r) z) t) (c ++ r) y
    → LeavesFirst (length c) (then (permutation (c ++ r) z) t) → Through c r (then (permutation (c ++ r) z) t)
through_layers (done a p) c r z f h =
    let g = second_of_then f in
    let w = permuted z p in
    let e = equal-perms (c ++ r) a z p f.typed.0 f.typed.2 f.typed.1 in
    let k = arrow_along e f in
    record {
      m = r;
      rest = identity r;
      arrow = id_arrow r;
      w = w;
      perm = k.typed;
      equal = chain e (chain (back (equal-left k)) (in_left (back (equal-ids c r)) (id_arrow (c ++ r)) k));
    }
through_layers (step a p n b d q {t = t} L) c r z {y} f h =
    through_step a p n b d q t c r z f h (λ r' z' f' h'. through_layers L (c) r' z' f' h')

-- each term of which no edge takes one of the wires c is one beside them
pub through : (c r y : List Sort) (t : Morphism) → Arrow t (c ++ r) y → LeavesFirst (length c) t → Through c r t
through c r y t f h =
    let l = layers t f.typed in
    let g = sound l.equal in
    let i = id_arrow (c ++ r) in
    let e = chain l.equal (back (equal-left (arrow_along l.equal f))) in
    let k = through_layers l.layered c r (count_from 0 (length (c ++ r))) (then_arrow i (arrow_along l.equal f))
    (leaves-alike (length c) f.typed (sound e).alike h) in
    record { m = k.m; rest = k.rest; arrow = k.arrow; w = k.w; perm = k.perm; equal = chain e k.equal }
