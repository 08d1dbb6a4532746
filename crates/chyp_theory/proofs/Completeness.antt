-- Terms that are alike are equal by the laws: layer by layer, and at the end two permutations.
use Rattle.std.proofs.Common.{ℕ, ◌+◌, ◌≡◌, List, ◌++◌, map, length, take, inl, inr, refl, sym, ◌∙◌, ap, subst, length-append}
use Rattle.std.proofs.lemmas.List.{append_cancel_left, take-map}
use Rattle.chyp_base.specs.declared.sort.Sort.{Sort}
use Rattle.chyp_term.specs.Perm.{IsPermutation, permuted, count_from, shifted}
use Rattle.chyp_term.specs.Morphism.{Morphism, generator, permutation, then, beside, dom, cod, IsTyped}
use Rattle.chyp_term.specs.Derivation.{identity, same, back, chain}
use Rattle.chyp_theory.proofs.Running.{EdgeOf, Label, label_of, src, Alike}
use Rattle.chyp_term.proofs.Permuted.{Under, permuted-all, permuted-map, length-count_from}
use Rattle.chyp_term.proofs.Closure.{Under-perm}
use Rattle.chyp_theory.proofs.Congruence.{Alike-trans, Alike-sym}
use Rattle.chyp_term.proofs.Inverses.{permuted-numbers, id_perm}
use Rattle.chyp_theory.proofs.Fronts.{Differs, differ}
use Rattle.chyp_theory.proofs.Renaming.{In, Target}
use Rattle.chyp_theory.proofs.Soundness.{sound}
use Rattle.chyp_theory.proofs.Arrows.{Equal, Arrow, then_arrow, beside_arrow, id_arrow, perm_arrow, generator_arrow, length-cod, equal-same, equal-perms, equal-perm_beside, in_right}
use Rattle.chyp_theory.proofs.Layers.{Layered, done, step, layers, arrow_of}
use Rattle.chyp_theory.proofs.Factoring.{re_to}
use Rattle.chyp_theory.proofs.Tracking.{Tracked, tracked-same, tracked-chain, tracked-back, tracked-left, tracked-right, tracked-assoc_first, tracked-assoc_second, tracked-assoc_third, tracked-pass}
use Rattle.chyp_theory.proofs.Peeling.{fronted, Peeled, ins, length-ins_of, front-places, peel}
use Rattle.chyp_theory.proofs.Cancelling.{cancel}

pub record SameFront (a : List Sort) (p p2 n : List ℕ) (b c r r2 : List Sort) (rest : Morphism) : Type 1 where
  pub term : Morphism
  pub tracked : Tracked (fronted a p2 n b c r2 rest) (fronted a p n b c r term) (inr (inl (inl tt))) (inr (inl (inl tt)))

-- the first permutation is made p
pub same_front : (a : List Sort) (p p2 n : List ℕ) (b c r r2 : List Sort) (rest : Morphism) → IsPermutation (length a) p → permuted a p ≡ b ++ r
    → IsTyped (fronted a p2 n b c r2 rest) → take (length b) p2 ≡ take (length b) p → SameFront a p p2 n b c r r2 rest
same_front a p p2 n b c r r2 rest tp e t2 f =
    record {
      term = then (beside (identity c) (permutation r d.rest)) rest;
      tracked =
          tracked-chain (tracked-right first (tracked-same M (inl (inl tt))) P2 M)
          (tracked-chain (tracked-assoc_third P Y M (inl (inl tt)))
          (tracked-chain (tracked-right (equal-same P) (tracked-back (tracked-assoc_second Y G R (inl tt))) P (then_arrow Y M))
          (tracked-chain (tracked-right (equal-same P) (tracked-left (tracked-pass g W tt) (equal-same R) (then_arrow Y G) R) P (then_arrow (then_arrow Y G) R))
          (tracked-right (equal-same P) (tracked-assoc_first G' Y' R (inl tt)) P (then_arrow (then_arrow G' Y') R)))));
    }
  where
    size : length a ≡ length b + length r
    size = sym (length-cod a p tp) ∙ ap length e ∙ length-append b r

    d : Differs (length r) (length b) p p2
    d = differ (length b) (length r) p p2 (subst (λ k. IsPermutation k p) size tp) (subst (λ k. IsPermutation k p2) size t2.0) f

    all : IsPermutation (length (b ++ r)) (count_from 0 (length b) ++ shifted (length b) d.rest)
    all = subst (λ k. IsPermutation k (count_from 0 (length b) ++ shifted (length b) d.rest)) (sym (length-append b r)) d.all

    first : Equal (permutation a p2) (then (permutation a p) (beside (identity b) (permutation r d.rest)))
    first =
        subst (λ l. Equal (permutation a l) (then (permutation a p) (beside (identity b) (permutation r d.rest)))) (sym d.is)
        (chain (back (equal-perms a (b ++ r) p (count_from 0 (length b) ++ shifted (length b) d.rest) tp e all))
        (in_right (back (equal-perm_beside b r (count_from 0 (length b)) d.rest (id_perm _) d.perm)) (re_to e (perm_arrow a p tp)) (perm_arrow (b ++ r) _ all)))

    P : Arrow (permutation a p) a (b ++ r)
    P = re_to e (perm_arrow a p tp)

    P2 : Arrow (permutation a p2) a (b ++ r2)
    P2 = re_to t2.2 (perm_arrow a p2 t2.0)

    W0 : Arrow (permutation r d.rest) r (permuted r d.rest)
    W0 = perm_arrow r d.rest d.perm

    meet : permuted r d.rest ≡ r2
    meet = append_cancel_left b _ _ (sym (beside_arrow (id_arrow b) W0).to ∙ sym (sound first).alike.cods ∙ t2.2)

    W : Arrow (permutation r d.rest) r r2
    W = re_to meet W0

    Y : Arrow (beside (identity b) (permutation r d.rest)) (b ++ r) (b ++ r2)
    Y = beside_arrow (id_arrow b) W

    g : Arrow (generator n b c) b c
    g = generator_arrow n b c

    G : Arrow (beside (generator n b c) (identity r2)) (b ++ r2) (c ++ r2)
    G = beside_arrow g (id_arrow r2)

    G' : Arrow (beside (generator n b c) (identity r)) (b ++ r) (c ++ r)
    G' = beside_arrow g (id_arrow r)

    Y' : Arrow (beside (identity c) (permutation r d.rest)) (c ++ r) (c ++ r2)
    Y' = beside_arrow (id_arrow c) W

    R : Arrow rest (c ++ r2) (cod rest)
    R = record { typed = t2.1.1; from = sym t2.1.2 ∙ ap (λ z. c ++ z) (permuted-all r2); to = refl }

    M : Arrow (then (beside (generator n b c) (identity r2)) rest) (b ++ r2) (cod rest)
    M = then_arrow G R

-- no edge: equal permutations
pub ends : (a : List Sort) (p : List ℕ) {t : Morphism} → Layered t → IsPermutation (length a) p → IsTyped t → Alike (permutation a p) t → Equal (permutation a p) t
ends a p (done a2 p2) tp ty k =
    subst (λ z. Equal (permutation a p) (permutation z p2)) k.doms (subst (λ l. Equal (permutation a p) (permutation a l)) (sym same_list) (same tp))
  where
    N : ℕ
    N = length a

    same_list : p2 ≡ p
    same_list =
        sym (permuted-numbers N p2 (subst (λ m. Under m p2) (sym (ap length k.doms)) (Under-perm _ p2 ty)))
        ∙ k.runs (λ e i. 0) (count_from 0 N) (length-count_from 0 N)
        ∙ permuted-numbers N p (Under-perm _ p tp)
ends a p (step a2 p2 n b c r L) tp ty k = absurd (k.from (inr (inl (inl tt))))

pub label-of_first : (n n2 : List ℕ) (b b2 c c2 : List Sort) → ◌≡◌ {A = Label} (record { name = n2; dom = b2; cod = c2 }) (record { name = n; dom = b; cod = c }) → (n2 ≡ n) × (b2 ≡ b) × (c2 ≡ c)
label-of_first n n2 b b2 c c2 e = (ap (λ l. l.name) e, ap (λ l. l.dom) e, ap (λ l. l.cod) e)

pub record Matched (a : List Sort) (p n : List ℕ) (b c r : List Sort) (s t : Morphism) : Type 1 where
  pub term : Morphism
  pub typed : IsTyped term
  pub equal : Equal t (fronted a p n b c r term)
  pub alike : Alike s term

-- the first layer of s is taken off t
pub match : (a : List Sort) (p n : List ℕ) (b c r : List Sort) (s t : Morphism) → IsTyped (fronted a p n b c r s) → Layered t → IsTyped t → Alike (fronted a p n b c r s) t → Matched a p n b c r s t
unfolding Alike-trans
match a p n b c r s t ts L ty k =
    record {
      term = sf.term;
      typed = right.1.1;
      equal = total.equal;
      alike = cancel a p n b c r s sf.term ts right (Alike-trans k total.alike) total.at;
    }
  where
    first : EdgeOf t
    first = k.to (inr (inl (inl tt)))

    places : src t (λ e i. Target e i) (ins t) first ≡ map (λ j. In j) (take (length b) p)
    places =
        k.srcs (λ e i. Target e i) (ins t) (length-ins_of t ∙ ap length (sym k.doms)) (inr (inl (inl tt)))
        ∙ ap (take (length b)) (permuted-map (λ j. In j) (count_from 0 (length (dom t))) p
        (subst (λ m. Under m p) (ap length k.doms ∙ sym (length-count_from 0 (length (dom t)))) (Under-perm _ p ts.0))
        ∙ ap (map (λ j. In j)) (permuted-numbers (length (dom t)) p (subst (λ m. Under m p) (ap length k.doms) (Under-perm _ p ts.0))))
        ∙ take-map (λ j. In j) (length b) p

    d : Peeled t first
    d = peel L (arrow_of ty) first (record { places = take (length b) p; sources = places })

    names : (d.n ≡ n) × (d.b ≡ b) × (d.c ≡ c)
    names = label-of_first n d.n b d.b c d.c (ap (label_of (fronted d.a d.p d.n d.b d.c d.r d.rest)) (sym d.tracked.at) ∙ d.tracked.alike.labels first ∙ k.labels (inr (inl (inl tt))))

    front : take (length b) d.p ≡ take (length b) p
    front = ap (λ z. take (length z) d.p) (sym names.1) ∙ front-places d.a d.p d.n d.b d.c d.r d.rest ty d.tracked (take (length b) p) places

    tracked : Tracked t (fronted a d.p n b c d.r d.rest) first (inr (inl (inl tt)))
    tracked =
        subst (λ z. Tracked t (fronted z d.p n b c d.r d.rest) first (inr (inl (inl tt)))) (sym d.tracked.alike.doms ∙ sym k.doms)
        (subst (λ z. Tracked t (fronted d.a d.p z b c d.r d.rest) first (inr (inl (inl tt)))) names.0
        (subst (λ z. Tracked t (fronted d.a d.p d.n z c d.r d.rest) first (inr (inl (inl tt)))) names.1
        (subst (λ z. Tracked t (fronted d.a d.p d.n d.b z d.r d.rest) first (inr (inl (inl tt)))) names.2 d.tracked)))

    sf : SameFront a p d.p n b c r d.r d.rest
    sf = same_front a p d.p n b c r d.r d.rest ts.0 ts.2 (sound tracked.equal).right front

    total : Tracked t (fronted a p n b c r sf.term) first (inr (inl (inl tt)))
    total = tracked-chain tracked sf.tracked

    right : IsTyped (fronted a p n b c r sf.term)
    right = (sound total.equal).right

-- layers alike to a term are equal to it by the laws
pub complete : {s : Morphism} → Layered s → (t : Morphism) → IsTyped s → IsTyped t → Alike s t → Equal s t
complete (done a p) t ts ty k =
    let h = layers t ty in
    let g = sound h.equal in
    chain (ends a p h.layered ts g.right (Alike-trans k g.alike)) (back h.equal)
complete (step a p n b c r {t = s} L) t ts ty k =
    let h = layers t ty in
    let g = sound h.equal in
    let m = match a p n b c r s h.term ts h.layered g.right (Alike-trans k g.alike) in
    chain (in_right (in_right (complete L m.term ts.1.1 m.typed m.alike) (arrow_of ts.1.0) (record { typed = ts.1.1; from = sym ts.1.2; to = refl })) (arrow_of ts.0)
    (record { typed = ts.1; from = sym ts.2; to = refl }))
    (chain (back m.equal) (back h.equal))

-- Terms that are alike are equal by the laws.
pub completeness : (s t : Morphism) → IsTyped s → IsTyped t → Alike s t → Equal s t
completeness s t ts ty k =
    let h = layers s ts in
    let g = sound h.equal in
    chain h.equal (complete h.layered t g.right ty (Alike-trans (Alike-sym g.alike) k))
