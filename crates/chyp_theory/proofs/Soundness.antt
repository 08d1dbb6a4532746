-- Derivable terms are alike: each law is sound.
use Rattle.std.proofs.Common.{[], ℕ, ◌+◌, ◌≤◌, ◌≡◌, List, ◌++◌, length, take, drop, inl, inr, refl, sym, ◌∙◌, ap, ap₂, subst, arith, length-append, length-take, length-drop, take-append-drop}
use Rattle.std.proofs.Common.{append_assoc, append-nil}
use Rattle.std.proofs.lemmas.List.{take-take, drop-drop, drop-take, take_all}
use Rattle.chyp_base.specs.declared.sort.Sort.{Sort}
use Rattle.chyp_term.specs.Perm.{IsPermutation, permuted, shifted, swapped}
use Rattle.chyp_term.specs.Morphism.{Morphism, permutation, then, beside, dom, cod, IsTyped}
use Rattle.chyp_term.specs.Derivation.{identity, empty, swap, IsLaw, then_assoc, then_left, then_right, beside_assoc, beside_left, beside_right, interchange, perm_then, perm_beside, slide, Derives}
use Rattle.chyp_term.specs.Derivation.{same, back, chain, in_then, in_beside, by_law, given}
use Rattle.chyp_term.proofs.Permuted.{Under, permuted-permuted, permuted-append, permuted-all, permuted-append_left, permuted-shifted, permuted-swapped, take-left, drop-left}
use Rattle.chyp_term.proofs.Closure.{Under-perm}
use Rattle.chyp_term.proofs.Inverses.{permuted-count}
use Rattle.chyp_theory.proofs.Running.{run, src, Alike}
use Rattle.chyp_theory.proofs.Congruence.{length-run, Alike-refl, Alike-sym, Alike-trans, Alike-then, Alike-beside, length-take_dom, length-drop_dom}

unfoldable pub assoc : (a b c : Morphism) → Alike (then (then a b) c) (then a (then b c))
assoc a b c = record {
  doms = refl;
  cods = refl;
  to = elim [ inl x ↦ elim x [ inl e ↦ inl e | inr e ↦ inr (inl e) ] | inr e ↦ inr (inr e) ];
  from = elim [ inl e ↦ inl (inl e) | inr x ↦ elim x [ inl e ↦ inl (inr e) | inr e ↦ inr e ] ];
  to_from = elim [ inl e ↦ refl | inr (inl e) ↦ refl | inr (inr e) ↦ refl ];
  from_to = elim [ inl (inl e) ↦ refl | inl (inr e) ↦ refl | inr e ↦ refl ];
  labels = elim [ inl (inl e) ↦ refl | inl (inr e) ↦ refl | inr e ↦ refl ];
  runs = λ mk live h. refl;
  srcs = λ mk live h. elim [ inl (inl e) ↦ refl | inl (inr e) ↦ refl | inr e ↦ refl ];
}

unfoldable pub unit_left : (a : Morphism) → Alike (then (identity (dom a)) a) a
unit_left a = record {
  doms = refl;
  cods = refl;
  to = elim [ inl e ↦ absurd e | inr e ↦ e ];
  from = λ e. inr e;
  to_from = λ e. refl;
  from_to = elim [ inl e ↦ absurd e | inr e ↦ refl ];
  labels = elim [ inl e ↦ absurd e | inr e ↦ refl ];
  runs = λ mk live h. ap (run a mk) (sym (permuted-count live _ h));
  srcs = λ mk live h. elim [ inl e ↦ absurd e | inr e ↦ ap (λ l. src a mk l e) (sym (permuted-count live _ h)) ];
}

unfoldable pub unit_right : (a : Morphism) → IsTyped a → Alike (then a (identity (cod a))) a
unit_right a ty = record {
  doms = refl;
  cods = permuted-all (cod a);
  to = elim [ inl e ↦ e | inr e ↦ absurd e ];
  from = λ e. inl e;
  to_from = λ e. refl;
  from_to = elim [ inl e ↦ refl | inr e ↦ absurd e ];
  labels = elim [ inl e ↦ refl | inr e ↦ absurd e ];
  runs = λ mk live h. sym (permuted-count _ _ (length-run a ty mk live h));
  srcs = λ mk live h. elim [ inl e ↦ refl | inr e ↦ absurd e ];
}

pub assoc_beside : (a b c : Morphism) → Alike (beside (beside a b) c) (beside a (beside b c))
assoc_beside a b c =
    let e : length (dom a ++ dom b) ≡ length (dom a) + length (dom b) = length-append (dom a) (dom b) in
    record {
      doms = append_assoc (dom a) (dom b) (dom c);
      cods = append_assoc (cod a) (cod b) (cod c);
      to = elim [ inl x ↦ elim x [ inl e ↦ inl e | inr e ↦ inr (inl e) ] | inr e ↦ inr (inr e) ];
      from = elim [ inl e ↦ inl (inl e) | inr x ↦ elim x [ inl e ↦ inl (inr e) | inr e ↦ inr e ] ];
      to_from = elim [ inl e ↦ refl | inr (inl e) ↦ refl | inr (inr e) ↦ refl ];
      from_to = elim [ inl (inl e) ↦ refl | inl (inr e) ↦ refl | inr e ↦ refl ];
      labels = elim [ inl (inl e) ↦ refl | inl (inr e) ↦ refl | inr e ↦ refl ];
      runs = λ mk live h. rw (
        e,
        take-take (length (dom a)) (length (dom a) + length (dom b)) live (omega arith),
        drop-take (length (dom a))
            (length (dom b)) live,
        ← drop-drop (length (dom b)) (length (dom a)) live,
      ) (rw append_assoc refl);
      srcs = λ mk live h. elim [
        | inl (inl d) ↦ rw (e, take-take (length (dom a)) (length (dom a) + length (dom b)) live (omega arith)) refl
        | inl (inr d) ↦ rw (e, drop-take (length (dom a)) (length (dom b)) live) refl
        | inr d ↦ rw (e, ← drop-drop (length (dom b)) (length (dom a)) live) refl
      ];
    }

pub beside_unit_left : (a : Morphism) → Alike (beside empty a) a
beside_unit_left a = record {
  doms = refl;
  cods = refl;
  to = elim [ inl e ↦ absurd e | inr e ↦ e ];
  from = λ e. inr e;
  to_from = λ e. refl;
  from_to = elim [ inl e ↦ absurd e | inr e ↦ refl ];
  labels = elim [ inl e ↦ absurd e | inr e ↦ refl ];
  runs = λ mk live h. refl;
  srcs = λ mk live h. elim [ inl e ↦ absurd e | inr e ↦ refl ];
}

pub beside_unit_right : (a : Morphism) → Alike (beside a empty) a
beside_unit_right a = record {
  doms = append-nil (dom a);
  cods = append-nil (cod a);
  to = elim [ inl e ↦ e | inr e ↦ absurd e ];
  from = λ e. inl e;
  to_from = λ e. refl;
  from_to = elim [ inl e ↦ refl | inr e ↦ absurd e ];
  labels = elim [ inl e ↦ refl | inr e ↦ absurd e ];
  runs = λ mk live h. rw (take_all (length (dom a)) live (le_length live h)) (sym (append-nil _));
  srcs = λ mk live h. elim [ inl e ↦ rw (take_all (length (dom a)) live (le_length live h)) refl | inr e ↦ absurd e ];
}
  where
    le_length : {V : Type 0} (live : List V) → length live ≡ length (dom a ++ []) → length live ≤ length (dom a)
    le_length live h = let k : length (dom a ++ []) ≡ length (dom a) = ap length (append-nil (dom a)) in omega arith

unfoldable pub exchange : (a b c d : Morphism) → IsTyped a → IsTyped b → cod a ≡ dom c → cod b ≡ dom d → Alike (then (beside a b) (beside c d)) (beside (then a c) (then b d))
exchange a b c d ta tb m n = record {
  doms = refl;
  cods = refl;
  to = elim [ inl x ↦ elim x [ inl e ↦ inl (inl e) | inr e ↦ inr (inl e) ] | inr x ↦ elim x [ inl e ↦ inl (inr e) | inr e ↦ inr (inr e) ] ];
  from = elim [ inl x ↦ elim x [ inl e ↦ inl (inl e) | inr e ↦ inr (inl e) ] | inr x ↦ elim x [ inl e ↦ inl (inr e) | inr e ↦ inr (inr e) ] ];
  to_from = elim [ inl (inl e) ↦ refl | inl (inr e) ↦ refl | inr (inl e) ↦ refl | inr (inr e) ↦ refl ];
  from_to = elim [ inl (inl e) ↦ refl | inl (inr e) ↦ refl | inr (inl e) ↦ refl | inr (inr e) ↦ refl ];
  labels = elim [ inl (inl e) ↦ refl | inl (inr e) ↦ refl | inr (inl e) ↦ refl | inr (inr e) ↦ refl ];
  runs = λ mk live h. let k = length-run a ta (λ e. mk (inl (inl e))) (take (length (dom a)) live) (length-take_dom a b live h) ∙ ap length m in
      rw (
        take-left (run a (λ e. mk (inl (inl e))) (take (length (dom a)) live)) (run b (λ e. mk (inr (inl e))) (drop (length (dom a)) live))
            (length (dom c)) k,
        drop-left (run a (λ e. mk (inl (inl e))) (take (length (dom a)) live)) (run b (λ e. mk (inr (inl e))) (drop (length (dom a)) live)) (length (dom c)) k,
      ) refl;
  srcs = λ mk live h. let k = length-run a ta (λ e. mk (inl (inl e))) (take (length (dom a)) live) (length-take_dom a b live h) ∙ ap length m in elim [
    | inl (inl e) ↦ refl
    | inl (inr e) ↦ refl
    | inr (inl e) ↦ rw (take-left (run a (λ e. mk (inl (inl e))) (take (length (dom a)) live)) (run b (λ e. mk (inr (inl e))) (drop (length (dom a)) live)) (length (dom c)) k) refl
    | inr (inr e) ↦ rw (drop-left (run a (λ e. mk (inl (inl e))) (take (length (dom a)) live)) (run b (λ e. mk (inr (inl e))) (drop (length (dom a)) live)) (length (dom c)) k) refl
  ];
}

pub compose : (a b : List Sort) (p q : List ℕ) → IsPermutation (length a) p → permuted a p ≡ b → Alike (then (permutation a p) (permutation b q)) (permutation a (permuted p q))
compose a b p q ty m = record {
  doms = refl;
  cods = sym (ap (λ x. permuted x q) m) ∙ permuted-permuted a p (Under-perm _ p ty) q;
  to = elim [ inl e ↦ absurd e | inr e ↦ absurd e ];
  from = λ e. absurd e;
  to_from = λ e. absurd e;
  from_to = elim [ inl e ↦ absurd e | inr e ↦ absurd e ];
  labels = elim [ inl e ↦ absurd e | inr e ↦ absurd e ];
  runs = λ mk live h. sym (permuted-permuted live p (subst (λ n. Under n p) (sym h) (Under-perm _ p ty)) q);
  srcs = λ mk live h. elim [ inl e ↦ absurd e | inr e ↦ absurd e ];
}

pub permuted-beside : {A : Type 0} (live : List A) (n : ℕ) (p q : List ℕ) → n ≤ length live → Under n p → permuted live (p ++ shifted n q) ≡ permuted (take n live) p ++ permuted (drop n live) q
permuted-beside live n p q h u =
    let k : length (take n live) ≡ n = length-take n live ∙ omega arith in
    permuted-append live p (shifted n q)
    ∙ ap (λ l. permuted l p ++ permuted l (shifted n q)) (sym (take-append-drop n live))
    ∙ ap₂ (λ x y. x ++ y) (permuted-append_left (take n live) (drop n live) p (subst (λ m. Under m p) (sym k) u))
    (ap (λ m. permuted (take n live ++ drop n live) (shifted m q)) (sym k) ∙ permuted-shifted (take n live) (drop n live) q)

pub together : (a b : List Sort) (p q : List ℕ) → IsPermutation (length a) p → Alike (beside (permutation a p) (permutation b q)) (permutation (a ++ b) (p ++ shifted (length a) q))
together a b p q ty = record {
  doms = refl;
  cods = let f : length (a ++ b) ≡ length a + length b = length-append a b in
      sym (permuted-beside (a ++ b) (length a) p q (omega arith) (Under-perm _ p ty) ∙ ap₂ (λ x y. permuted x p ++ permuted y q) (take-left a b _ refl) (drop-left a b _ refl));
  to = elim [ inl e ↦ absurd e | inr e ↦ absurd e ];
  from = λ e. absurd e;
  to_from = λ e. absurd e;
  from_to = elim [ inl e ↦ absurd e | inr e ↦ absurd e ];
  labels = elim [ inl e ↦ absurd e | inr e ↦ absurd e ];
  runs = λ mk live h. let f : length (a ++ b) ≡ length a + length b = length-append a b in
      permuted-beside live (length a) p q (omega arith) (Under-perm _ p ty);
  srcs = λ mk live h. elim [ inl e ↦ absurd e | inr e ↦ absurd e ];
}

pub swapped-live : {V : Type 0} (x y : List V) (m n : ℕ) → length x ≡ m → length y ≡ n → permuted (x ++ y) (swapped m n) ≡ y ++ x
swapped-live x y m n h k = rw (← h, ← k) (permuted-swapped x y)

pub swapped-halves : {V : Type 0} (live : List V) (m n : ℕ) → length live ≡ m + n → permuted live (swapped m n) ≡ drop m live ++ take m live
swapped-halves live m n h =
    ap (λ l. permuted l (swapped m n)) (sym (take-append-drop m live))
    ∙ swapped-live (take m live) (drop m live) m n (length-take m live ∙ omega arith) (length-drop m live ∙ omega arith)

pub sliding : (f g : Morphism) → IsTyped f → IsTyped g → Alike (then (beside f g) (swap (cod f) (cod g))) (then (swap (dom f) (dom g)) (beside g f))
sliding f g tf tg = record {
  doms = refl;
  cods = permuted-swapped (cod f) (cod g);
  to = elim [ inl x ↦ elim x [ inl e ↦ inr (inr e) | inr e ↦ inr (inl e) ] | inr e ↦ absurd e ];
  from = elim [ inl e ↦ absurd e | inr x ↦ elim x [ inl e ↦ inl (inr e) | inr e ↦ inl (inl e) ] ];
  to_from = elim [ inl e ↦ absurd e | inr (inl e) ↦ refl | inr (inr e) ↦ refl ];
  from_to = elim [ inl (inl e) ↦ refl | inl (inr e) ↦ refl | inr e ↦ absurd e ];
  labels = elim [ inl (inl e) ↦ refl | inl (inr e) ↦ refl | inr e ↦ absurd e ];
  runs = λ mk live h.
      ap₂ (λ x y. run g (λ e. mk (inr (inl e))) x ++ run f (λ e. mk (inr (inr e))) y) (front live h) (rear live h)
      ∙ sym (swapped-live (run f (λ e. mk (inr (inr e))) (take (length (dom f)) live)) (run g (λ e. mk (inr (inl e))) (drop (length (dom f)) live)) _ _
      (length-run f tf _ _ (length-take_dom f g live h)) (length-run g tg _ _ (length-drop_dom f g live h)));
  srcs = λ mk live h. elim [
    | inl (inl e) ↦ ap (λ y. src f (λ e. mk (inr (inr e))) y e) (rear live h)
    | inl (inr e) ↦ ap (λ x. src g (λ e. mk (inr (inl e))) x e) (front live h)
    | inr e ↦ absurd e
  ];
}
  where
    halves : {V : Type 0} (live : List V) → length live ≡ length (dom f ++ dom g) → permuted live (swapped (length (dom f)) (length (dom g))) ≡ drop (length (dom f)) live ++ take (length (dom f)) live
    halves live h = swapped-halves live _ _ (h ∙ length-append (dom f) (dom g))

    front : {V : Type 0} (live : List V) → length live ≡ length (dom f ++ dom g) → take (length (dom g)) (permuted live (swapped (length (dom f)) (length (dom g)))) ≡ drop (length (dom f)) live
    front live h = ap (take (length (dom g))) (halves live h) ∙ take-left (drop (length (dom f)) live) _ _ (length-drop_dom f g live h)

    rear : {V : Type 0} (live : List V) → length live ≡ length (dom f ++ dom g) → drop (length (dom g)) (permuted live (swapped (length (dom f)) (length (dom g)))) ≡ take (length (dom f)) live
    rear live h = ap (drop (length (dom g))) (halves live h) ∙ drop-left (drop (length (dom f)) live) _ _ (length-drop_dom f g live h)

-- both sides of a law are alike
pub law_alike : {s t : Morphism} → IsLaw s t → IsTyped s → IsTyped t → Alike s t
law_alike (then_assoc a b c) x y = assoc a b c
law_alike (then_left a) x y = unit_left a
law_alike (then_right a) x y = unit_right a y
law_alike (beside_assoc a b c) x y = assoc_beside a b c
law_alike (beside_left a) x y = beside_unit_left a
law_alike (beside_right a) x y = beside_unit_right a
law_alike (interchange a b c d) x y = exchange a b c d x.0.0 x.0.1 y.0.2 y.1.2
law_alike (perm_then a b p q) x y = compose a b p q x.0 x.2
law_alike (perm_beside a b p q) x y = together a b p q x.0
law_alike (slide f g) x y = sliding f g x.0.0 x.0.1

pub record Sound (s t : Morphism) : Type 1 where
  pub left : IsTyped s
  pub right : IsTyped t
  pub alike : Alike s t

-- what is derived from no equation is alike
pub sound : {s t : Morphism} → Derives [] s t → Sound s t
sound (same x) = record { left = x; right = x; alike = Alike-refl _ }
sound (back d) = let h = sound d in record { left = h.right; right = h.left; alike = Alike-sym h.alike }
sound (chain d e) = let h = sound d in let k = sound e in record { left = h.left; right = k.right; alike = Alike-trans h.alike k.alike }
sound (in_then d e m) = let h = sound d in let k = sound e in
    record { left = (h.left, k.left, m); right = (h.right, k.right, sym h.alike.cods ∙ m ∙ k.alike.doms); alike = Alike-then h.alike k.alike h.left m }
sound (in_beside d e) = let h = sound d in let k = sound e in record { left = (h.left, k.left); right = (h.right, k.right); alike = Alike-beside h.alike k.alike }
sound (by_law l x y) = record { left = x; right = y; alike = law_alike l x y }
sound (given c e) = absurd (omega (arith, c.1))
