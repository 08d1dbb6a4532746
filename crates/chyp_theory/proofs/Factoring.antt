-- A permutation after a block, whose front comes from beside the block, factors so that the front passes the block.
use Rattle.std.proofs.Common.{ℕ, ◌+◌, ◌≡◌, List, [], ◌∷◌, ◌++◌, length, take, sym, ◌∙◌, ap, ap₂, subst, arith, length-append, append_assoc}
use Rattle.std.proofs.lemmas.List.{map-append}
use Rattle.chyp_base.specs.declared.sort.Sort.{Sort}
use Rattle.chyp_term.specs.Perm.{IsPermutation, permuted, count_from, shifted, swapped}
use Rattle.chyp_term.specs.Morphism.{Morphism, permutation, then, beside}
use Rattle.chyp_term.specs.Derivation.{identity, swap, back, chain, in_then, in_beside}
use Rattle.chyp_term.proofs.Permuted.{Under, permuted-append, permuted-shifted, permuted-left, count_from-0, length-count_from, length-permuted, take-left}
use Rattle.chyp_term.proofs.Closure.{Under-perm}
use Rattle.chyp_term.proofs.Inverses.{length-shifted, id_perm}
use Rattle.chyp_theory.proofs.Fronts.{Differs, differ}
use Rattle.chyp_theory.proofs.Arrows.{Equal, Arrow, then_arrow, beside_arrow, id_arrow, perm_arrow, swap_arrow, equal-same, equal-assoc, equal-left, equal-right, equal-beside_assoc, equal-exchange}
use Rattle.chyp_theory.proofs.Arrows.{equal-slide, equal-perms, equal-perm_beside, in_left, in_right}
use Rattle.chyp_theory.proofs.Layers.{arrow_along, along, along_left, equal-ids}

pub re_from : {t : Morphism} {a a' b : List Sort} → a ≡ a' → Arrow t a b → Arrow t a' b
re_from e f = record { typed = f.typed; from = f.from ∙ e; to = f.to }

pub re_to : {t : Morphism} {a b b' : List Sort} → b ≡ b' → Arrow t a b → Arrow t a b'
re_to e f = record { typed = f.typed; from = f.from; to = f.to ∙ e }

-- two terms slide past one another
pub cross : {h k : Morphism} {a b c d : List Sort} → Arrow h a b → Arrow k c d → Equal (then (beside h (identity c)) (beside (identity b) k)) (then (beside (identity a) k) (beside h (identity d)))
cross {h} {k} {a} {b} {c} {d} f g =
    chain (equal-exchange f (id_arrow c) (id_arrow b) g)
    (chain (in_beside (chain (equal-right f) (back (equal-left f))) (chain (equal-left g) (back (equal-right g))))
    (back (equal-exchange (id_arrow a) g f (id_arrow d))))

-- a block moves past x
pub move : {h : Morphism} {b c : List Sort} → Arrow h b c → (x u : List Sort)
    → Equal (then (beside h (identity (x ++ u))) (beside (swap c x) (identity u))) (then (beside (swap b x) (identity u)) (beside (identity x) (beside h (identity u))))
move {h} {b} {c} f x u =
    let i = id_arrow x in
    let j = id_arrow u in
    chain (in_left (back (chain (equal-beside_assoc f i j) (in_beside (equal-same f) (equal-ids x u))))
    (re_to (sym (append_assoc c x u)) (beside_arrow f (id_arrow (x ++ u)))) (beside_arrow (swap_arrow c x) j))
    (chain (back (along u (beside_arrow f i) (swap_arrow c x)))
    (chain (in_beside (equal-slide f i) (equal-same j))
    (chain (along u (swap_arrow b x) (beside_arrow i f))
    (in_right (equal-beside_assoc i f j) (beside_arrow (swap_arrow b x) j) (beside_arrow (beside_arrow i f) j)))))

-- h before p is h behind the wires s that p takes to the front
pub record Split (h : Morphism) (b c r : List Sort) (p s : List ℕ) : Type 0 where
  pub u : List Sort
  pub q : List ℕ
  pub w : List ℕ
  pub left_perm : IsPermutation (length (b ++ r)) q
  pub left_cod : permuted (b ++ r) q ≡ permuted r s ++ (b ++ u)
  pub right_perm : IsPermutation (length (c ++ u)) w
  pub equal : Equal (then (beside h (identity r)) (permutation (c ++ r) p)) (then (permutation (b ++ r) q) (beside (identity (permuted r s)) (then (beside h (identity u)) (permutation (c ++ u) w))))

-- p, which takes the wires s of r to the front, brings them there past c
pub record Factor (c r : List Sort) (p s : List ℕ) : Type 0 where
  pub u : List Sort
  pub q : List ℕ
  pub w : List ℕ
  pub q_perm : IsPermutation (length r) (s ++ q)
  pub q_cod : permuted r (s ++ q) ≡ permuted r s ++ u
  pub w_perm : IsPermutation (length (c ++ u)) w
  pub equal : Equal (permutation (c ++ r) p) (then (then (beside (identity c) (permutation r (s ++ q))) (beside (swap c (permuted r s)) (identity u)))
      (beside (identity (permuted r s)) (permutation (c ++ u) w)))

-- the permutation p is l, and then w behind x
pub record Behind (c r x u : List Sort) (l p : List ℕ) : Type 0 where
  pub w : List ℕ
  pub w_perm : IsPermutation (length (c ++ u)) w
  pub equal : Equal (permutation (c ++ r) p) (then (permutation (c ++ r) l) (beside (identity x) (permutation (c ++ u) w)))

module _ (b c r : List Sort) (s q : List ℕ) (t : IsPermutation (length r) (s ++ q)) (us : Under (length r) s) where
  x : List Sort
  x = permuted r s

  u : List Sort
  u = permuted r q

  -- bring s to the front of r, behind a block a, and then before the block
  lists : List Sort → List ℕ
  lists a = permuted (count_from 0 (length a) ++ shifted (length a) (s ++ q)) (swapped (length a) (length x) ++ shifted (length (a ++ x)) (count_from 0 (length u)))

  q_arrow : Arrow (permutation r (s ++ q)) r (x ++ u)
  unfolding x u
  q_arrow = re_to (permuted-append r s q) (perm_arrow r (s ++ q) t)

  moved : (a : List Sort) → Equal (then (beside (identity a) (permutation r (s ++ q))) (beside (swap a x) (identity u))) (permutation (a ++ r) (lists a))
  unfolding lists
  moved a =
      let e1 = equal-perm_beside a r (count_from 0 (length a)) (s ++ q) (id_perm _) t in
      let e2 = equal-perm_beside (a ++ x) u (swapped (length a) (length x)) (count_from 0 (length u)) (swap_arrow a x).typed (id_perm _) in
      let f1 = beside_arrow (id_arrow a) q_arrow in
      let f2 = re_from (append_assoc a x u) (beside_arrow (swap_arrow a x) (id_arrow u)) in
      let g1 = arrow_along e1 f1 in
      let g2 = arrow_along e2 f2 in
      chain (in_then e1 e2 (f1.to ∙ sym f2.from)) (equal-perms (a ++ r) ((a ++ x) ++ u) _ _ g1.typed (g1.to ∙ sym g2.from) g2.typed)

  moved_arrow : (a : List Sort) → Arrow (permutation (a ++ r) (lists a)) (a ++ r) (x ++ (a ++ u))
  moved_arrow a = arrow_along (moved a)
      (then_arrow (beside_arrow (id_arrow a) q_arrow) (re_to (append_assoc x a u) (re_from (append_assoc a x u) (beside_arrow (swap_arrow a x) (id_arrow u)))))

  past : {h : Morphism} → Arrow h b c → Equal (then (beside h (identity r)) (permutation (c ++ r) (lists c))) (then (permutation (b ++ r) (lists b)) (beside (identity x) (beside h (identity u))))
  past {h} f =
      let i = beside_arrow f (id_arrow r) in
      let k1 = beside_arrow (id_arrow c) q_arrow in
      let k2 = re_from (append_assoc c x u) (beside_arrow (swap_arrow c x) (id_arrow u)) in
      let l1 = beside_arrow (id_arrow b) q_arrow in
      let l2 = beside_arrow f (id_arrow (x ++ u)) in
      let l3 = re_from (append_assoc b x u) (beside_arrow (swap_arrow b x) (id_arrow u)) in
      let l4 = re_from (sym (append_assoc x b u)) (beside_arrow (id_arrow x) (beside_arrow f (id_arrow u))) in
      chain (in_right (back (moved c)) i (moved_arrow c))
      (chain (back (equal-assoc i k1 k2))
      (chain (in_left (cross f q_arrow) (then_arrow i k1) k2)
      (chain (equal-assoc l1 l2 k2)
      (chain (in_right (move f x u) l1 (then_arrow l2 k2))
      (chain (back (equal-assoc l1 l3 l4))
      (in_left (moved b) (then_arrow l1 l3) l4))))))

  x-size : length x ≡ length s
  unfolding x
  x-size = length-permuted r s us

  uq : Under (length r) q
  uq = Under-rear (length r) s q (Under-perm _ _ t)
    where
      Under-rear : (n : ℕ) (s q : List ℕ) → Under n (s ++ q) → Under n q
      Under-rear n [] q u = u
      Under-rear n (k ∷ s) q u = Under-rear n s q u.1

  sizes : length (c ++ r) ≡ length s + length (c ++ u)
  unfolding u
  sizes =
      let a = length-append c r in let b = length-append c (permuted r q) in let d = t.size in let e = length-append s q in
      let f = length-permuted r q uq in omega arith

  front-lists : take (length s) (lists c) ≡ shifted (length c) s
  unfolding lists
  front-lists =
      ap (take (length s)) (permuted-append e1 (swapped (length c) (length x)) (shifted (length (c ++ x)) (count_from 0 (length u)))
      ∙ ap (λ l. l ++ permuted e1 (shifted (length (c ++ x)) (count_from 0 (length u)))) (permuted-append e1 (count_from (length c) (length x)) (count_from 0 (length c)))
      ∙ append_assoc (permuted e1 (count_from (length c) (length x))) _ _)
      ∙ take-left (permuted e1 (count_from (length c) (length x))) _ (length s) (ap length front ∙ length-shifted (length c) s)
      ∙ front
    where
      e1 : List ℕ
      e1 = count_from 0 (length c) ++ shifted (length c) (s ++ q)

      front : permuted e1 (count_from (length c) (length x)) ≡ shifted (length c) s
      front =
          ap (permuted e1) (count_from-0 (length c) (length x))
          ∙ ap (λ n. permuted e1 (shifted n (count_from 0 (length x)))) (sym (length-count_from 0 (length c)))
          ∙ permuted-shifted (count_from 0 (length c)) (shifted (length c) (s ++ q)) (count_from 0 (length x))
          ∙ ap₂ permuted (map-append (λ k. length c + k) s q) (ap (count_from 0) (x-size ∙ sym (length-shifted (length c) s)))
          ∙ permuted-left (shifted (length c) s) (shifted (length c) q)

  -- what of p is left once s and then the block are brought before it
  behind : (p : List ℕ) → IsPermutation (length (c ++ r)) p → take (length s) p ≡ shifted (length c) s → Behind c r x u (lists c) p
  unfolding x u
  behind p tp e =
      record {
        w = d.rest;
        w_perm = d.perm;
        equal = subst (λ l. Equal (permutation (c ++ r) l) (then (permutation (c ++ r) (lists c)) (beside (identity x) (permutation (c ++ u) d.rest)))) (sym p-is)
            (chain (back (equal-perms (c ++ r) (x ++ (c ++ u)) (lists c) v (moved_arrow c).typed (moved_arrow c).to rear.typed)) (in_right (back together) (moved_arrow c) rear));
      }
    where
      d : Differs (length (c ++ u)) (length s) (lists c) p
      d = differ (length s) (length (c ++ u)) (lists c) p (subst (λ n. IsPermutation n (lists c)) sizes (moved_arrow c).typed) (subst (λ n. IsPermutation n p) sizes tp) (e ∙ sym front-lists)

      v : List ℕ
      v = count_from 0 (length x) ++ shifted (length x) d.rest

      p-is : p ≡ permuted (lists c) v
      p-is = d.is ∙ ap (λ n. permuted (lists c) (count_from 0 n ++ shifted n d.rest)) (sym x-size)

      together : Equal (beside (identity x) (permutation (c ++ u) d.rest)) (permutation (x ++ (c ++ u)) v)
      together = equal-perm_beside x (c ++ u) (count_from 0 (length x)) d.rest (id_perm _) d.perm

      rear : Arrow (permutation (x ++ (c ++ u)) v) (x ++ (c ++ u)) (x ++ permuted (c ++ u) d.rest)
      rear = arrow_along together (beside_arrow (id_arrow x) (perm_arrow (c ++ u) d.rest d.perm))

  pub factor : (p : List ℕ) → IsPermutation (length (c ++ r)) p → take (length s) p ≡ shifted (length c) s → Factor c r p s
  unfolding x u
  factor p tp e =
      let h = behind p tp e in
      record {
        u = u;
        q = q;
        w = h.w;
        q_perm = t;
        q_cod = permuted-append r s q;
        w_perm = h.w_perm;
        equal = chain h.equal (in_left (back (moved c)) (moved_arrow c) (beside_arrow (id_arrow x) (perm_arrow (c ++ u) h.w h.w_perm)));
      }

  pub split_off : {h : Morphism} → Arrow h b c → (p : List ℕ) → IsPermutation (length (c ++ r)) p → take (length s) p ≡ shifted (length c) s → Split h b c r p s
  unfolding x u
  split_off {h} f p tp e =
      let k = behind p tp e in
      let i = beside_arrow f (id_arrow r) in
      let after = perm_arrow (c ++ u) k.w k.w_perm in
      let m2 = beside_arrow (id_arrow x) after in
      let m3 : Arrow (permutation (b ++ r) (lists b)) (b ++ r) (x ++ (b ++ u)) = moved_arrow b in
      let m4 = beside_arrow (id_arrow x) (beside_arrow f (id_arrow u)) in
      record {
        u = u;
        q = lists b;
        w = k.w;
        left_perm = m3.typed;
        left_cod = m3.to;
        right_perm = k.w_perm;
        equal =
            chain (in_right k.equal i (perm_arrow (c ++ r) p tp))
            (chain (back (equal-assoc i (moved_arrow c) m2))
            (chain (in_left (past f) (then_arrow i (moved_arrow c)) m2)
            (chain (equal-assoc m3 m4 m2)
            (in_right (back (along_left x (beside_arrow f (id_arrow u)) after)) m3 (then_arrow m4 m2)))));
      }
