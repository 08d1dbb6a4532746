-- Lists rearranged by blocks, and parts of permutations.
use Rattle.std.proofs.Common.{[], ℕ, ◌<◌, ◌≡◌, Bool, true, false, not, cond, List, ◌∷◌, ◌++◌, length, filter, ◌⊎◌, inl, inr, refl, sym, ◌∙◌, ap, subst, arith, append_assoc, append-nil}
use Rattle.std.proofs.lemmas.List.Elements.{filter-append}
use Rattle.std.proofs.lemmas.Bool.{cases_Bool}
use Rattle.chyp_term.specs.Perm.{IsPermutation, count_from, permuted, shifted}
use Rattle.chyp_term.specs.Positions.{is_among, is_apart}
use Rattle.chyp_term.proofs.Closure.{Under-perm, beside_perm, compose_perm}
use Rattle.chyp_term.proofs.Permuted.{Under, permuted-all, permuted-permuted, permuted-shifted}
use Rattle.chyp_term.proofs.Members.{Member, Rearr-member, among-member, filter-all, filter-none, member-among, below-member, member-below, member-left}
use Rattle.chyp_term.proofs.Members.{member-not_apart, member-right, not_member-apart}
use Rattle.chyp_term.proofs.Members.{parts-apart}
use Rattle.chyp_term.proofs.Rearrangement.{Rearr, Rearr-filter, Rearr-flat, Rearr-length, Rearr-middle, Rearr-permutation, Rearr-right, Rearr-same, Rearr-sym, end, join, permutation-Rearr, skip}
use Rattle.chyp_term.proofs.Rearrangement.{turn}
use Rattle.chyp_term.proofs.Inverses.{id_perm}

-- ## what passes a test, and the rest

pub Rearr-partition : {A : Type 0} (p : A → Bool) (xs : List A) → Rearr xs (filter p xs ++ filter (λ x. not (p x)) xs)
Rearr-partition p [] = end
Rearr-partition p (x ∷ xs) = go (p x) (Rearr-partition p xs)
  where
    go : (b : Bool) → Rearr xs (filter p xs ++ filter (λ x. not (p x)) xs)
        → Rearr (x ∷ xs) (cond b (x ∷ filter p xs) (filter p xs) ++ cond (not b) (x ∷ filter (λ x. not (p x)) xs) (filter (λ x. not (p x)) xs))
    go true r = skip x r
    go false r = join (skip x r) (Rearr-sym (Rearr-middle x (filter p xs) (filter (λ x. not (p x)) xs)))

-- a test that passes nothing of the second list
filter-front : {A : Type 0} (p : A → Bool) (xs us : List A) → ((x : A) → Member x us → p x ≡ false) → filter p (xs ++ us) ≡ filter p xs
filter-front p xs us h = filter-append p xs us ∙ ap (λ r. filter p xs ++ r) (filter-none p us h) ∙ append-nil (filter p xs)

not_among : (ss : List ℕ) (w : ℕ) → (Member w ss → ⊥) → is_among ss w ≡ false
not_among ss w n = go (cases_Bool (is_among ss w))
  where
    go : (is_among ss w ≡ true) ⊎ (is_among ss w ≡ false) → is_among ss w ≡ false
    go (inl e) = absurd (n (among-member ss w e))
    go (inr e) = e

-- a part of a permutation has these items and the rest
pub pick : (n : ℕ) (xs us ss vs : List ℕ) → IsPermutation n (xs ++ us) → IsPermutation n (ss ++ vs) → ((w : ℕ) → Member w ss → Member w xs)
    → Rearr xs (ss ++ filter (is_apart ss) xs)
pick n xs us ss vs a b inside = join (Rearr-partition (is_among ss) xs) (Rearr-right (filter (is_apart ss) xs) same)
  where
    same : Rearr (filter (is_among ss) xs) ss
    same =
        join (Rearr-same (sym (filter-front (is_among ss) xs us (λ w h. not_among ss w (λ k. parts-apart n xs us a w (inside w k) h)))))
        (join (Rearr-filter (is_among ss) (join (Rearr-sym (permutation-Rearr n (xs ++ us) a)) (permutation-Rearr n (ss ++ vs) b)))
        (Rearr-same (filter-front (is_among ss) ss vs (λ w h. not_among ss w (λ k. parts-apart n ss vs b w k h)) ∙ filter-all (is_among ss) ss (member-among ss))))

-- what two permutations have besides the same part
pub cancel : (n : ℕ) (xs ys us : List ℕ) → IsPermutation n (xs ++ us) → IsPermutation n (ys ++ us) → Rearr xs ys
cancel n xs ys us a b =
    join (Rearr-same (sym (kept xs a)))
    (join (Rearr-filter (is_apart us) (join (Rearr-sym (permutation-Rearr n (xs ++ us) a)) (permutation-Rearr n (ys ++ us) b)))
    (Rearr-same (kept ys b)))
  where
    kept : (zs : List ℕ) → IsPermutation n (zs ++ us) → filter (is_apart us) (zs ++ us) ≡ zs
    kept zs t =
        filter-front (is_apart us) zs us (λ w h. member-not_apart us w h)
        ∙ filter-all (is_apart us) zs (λ w h. not_member-apart us w (λ k. parts-apart n zs us t w h k))

-- the second part and the third have no item in common
pub rear-apart : (n : ℕ) (xs ys zs : List ℕ) → IsPermutation n (xs ++ (ys ++ zs)) → (w : ℕ) → Member w ys → Member w zs → ⊥
rear-apart n xs ys zs t w h k = parts-apart n (xs ++ ys) zs (subst (IsPermutation n) (sym (append_assoc xs ys zs)) t) w (member-right xs ys w h) k

-- neither have the first and the third
pub ends-apart : (n : ℕ) (xs ys zs : List ℕ) → IsPermutation n (xs ++ (ys ++ zs)) → (w : ℕ) → Member w xs → Member w zs → ⊥
ends-apart n xs ys zs t w h k = parts-apart n (xs ++ ys) zs (subst (IsPermutation n) (sym (append_assoc xs ys zs)) t) w (member-left xs ys w h) k

pub permutation-member : (n : ℕ) (p : List ℕ) → IsPermutation n p → (w : ℕ) → Member w p → w < n
permutation-member n p t w h = member-below n w (Rearr-member w (Rearr-sym (permutation-Rearr n p t)) h)

pub permutation-has : (n : ℕ) (p : List ℕ) → IsPermutation n p → (w : ℕ) → w < n → Member w p
permutation-has n p t w h = Rearr-member w (permutation-Rearr n p t) (below-member n w h)

pub Rearr-perm : (n : ℕ) (p q : List ℕ) → Rearr p q → IsPermutation n p → IsPermutation n q
Rearr-perm n p q r t = Rearr-permutation n q (join (permutation-Rearr n p t) r)

pub under-members : (n : ℕ) (xs : List ℕ) → ((w : ℕ) → Member w xs → w < n) → Under n xs
under-members n [] f = tt
under-members n (x ∷ xs) f = (f x (inl refl), under-members n xs (λ w h. f w (inr h)))

-- ## blocks that change places

pub third_first : {A : Type 0} (a b c d : List A) → Rearr (a ++ (b ++ (c ++ d))) (c ++ (a ++ (b ++ d)))
third_first {A} a b c d =
    join (Rearr-same (simp append-nil refl))
    (join (Rearr-flat {A = List A} {B = A} (λ x. x) (Rearr-middle c (a ∷ b ∷ []) (d ∷ [])))
    (Rearr-same (simp append-nil refl)))

pub second_first : {A : Type 0} (a b c : List A) → Rearr (a ++ (b ++ c)) ((b ++ a) ++ c)
second_first {A} a b c =
    join (Rearr-same (simp append-nil refl))
    (join (Rearr-flat {A = List A} {B = A} (λ x. x) (turn a b (c ∷ [])))
    (Rearr-same (simp (append-nil, append_assoc) refl)))

pub round_over : {A : Type 0} (s r d t l : List A) → Rearr ((s ++ r) ++ (d ++ (t ++ l))) ((t ++ r) ++ ((s ++ d) ++ l))
round_over {A} s r d t l =
    join (Rearr-same (simp (append-nil, append_assoc) refl))
    (join (Rearr-flat {A = List A} {B = A} (λ x. x) (join (Rearr-middle t (s ∷ r ∷ d ∷ []) (l ∷ [])) (skip t (turn s r (d ∷ l ∷ [])))))
    (Rearr-same (simp (append-nil, append_assoc) refl)))

-- ## what is rearranged is permuted

pub record Permutes {A : Type 0} (xs ys : List A) : Type 0 where
  pub places : List ℕ
  pub perm : IsPermutation (length xs) places
  pub gives : permuted xs places ≡ ys

pub rearr_perm : {A : Type 0} {xs ys : List A} → Rearr xs ys → Permutes xs ys
rearr_perm end = record { places = []; perm = id_perm 0; gives = refl }
rearr_perm (skip x {xs} {ys} r) =
    let p = rearr_perm r in
    record {
      places = 0 ∷ shifted 1 p.places;
      perm = subst (λ n. IsPermutation n (0 ∷ shifted 1 p.places)) (omega arith) (beside_perm 1 (length xs) (0 ∷ []) p.places (id_perm 1) p.perm);
      gives = ap (λ z. x ∷ z) (permuted-shifted (x ∷ []) xs p.places ∙ p.gives);
    }
rearr_perm (turn x y xs) = record {
  places = 1 ∷ 0 ∷ shifted 2 (count_from 0 (length xs));
  perm = subst (λ n. IsPermutation n (1 ∷ 0 ∷ shifted 2 (count_from 0 (length xs)))) (omega arith)
      (beside_perm 2 (length xs) (1 ∷ 0 ∷ []) (count_from 0 (length xs)) (Rearr-permutation 2 (1 ∷ 0 ∷ []) (turn 0 1 [])) (id_perm (length xs)));
  gives = ap (λ z. y ∷ x ∷ z) (permuted-shifted (x ∷ y ∷ []) xs (count_from 0 (length xs)) ∙ permuted-all xs);
}
rearr_perm (join {xs} {ys} {zs} r q) =
    let p = rearr_perm r in
    let o = rearr_perm q in
    record {
      places = permuted p.places o.places;
      perm = compose_perm (length xs) p.places o.places p.perm (subst (λ n. IsPermutation n o.places) (sym (Rearr-length r)) o.perm);
      gives = sym (permuted-permuted xs p.places (Under-perm (length xs) p.places p.perm) o.places) ∙ ap (λ z. permuted z o.places) p.gives ∙ o.gives;
    }
