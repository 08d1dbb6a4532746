-- One step of derivation each, from no equation, with the types at hand.
use Rattle.std.proofs.Common.{[], ℕ, ◌≡◌, List, ◌++◌, length, refl, sym, ◌∙◌, ap, ap₂, subst, length-append}
use Rattle.chyp_base.specs.declared.sort.Sort.{Sort}
use Rattle.chyp_term.specs.Perm.{IsPermutation, permuted, shifted, swapped}
use Rattle.chyp_term.specs.Morphism.{Morphism, generator, permutation, then, beside, dom, cod, IsTyped}
use Rattle.chyp_term.specs.Derivation.{identity, empty, swap, then_assoc, then_left, then_right, beside_assoc, beside_right, interchange, perm_then, perm_beside, slide, Derives, same, in_then}
use Rattle.chyp_term.specs.Derivation.{by_law}
use Rattle.chyp_term.proofs.Permuted.{permuted-all, permuted-swapped, length-permuted}
use Rattle.chyp_term.proofs.Closure.{Under-perm, compose_perm, beside_perm}
use Rattle.chyp_term.proofs.Inverses.{Undoes-swapped, to_perm, id_perm}

abbrev pub Equal : Morphism → Morphism → Type 0
Equal s t = Derives [] s t

-- t goes from a to b
pub record Arrow (t : Morphism) (a b : List Sort) : Type 0 where
  pub typed : IsTyped t
  pub from : dom t ≡ a
  pub to : cod t ≡ b

pub then_arrow : {s t : Morphism} {a b c : List Sort} → Arrow s a b → Arrow t b c → Arrow (then s t) a c
then_arrow f g = record { typed = (f.typed, g.typed, f.to ∙ sym g.from); from = f.from; to = g.to }

pub beside_arrow : {s t : Morphism} {a b c d : List Sort} → Arrow s a b → Arrow t c d → Arrow (beside s t) (a ++ c) (b ++ d)
beside_arrow f g = record { typed = (f.typed, g.typed); from = ap₂ (λ x y. x ++ y) f.from g.from; to = ap₂ (λ x y. x ++ y) f.to g.to }

pub id_arrow : (a : List Sort) → Arrow (identity a) a a
id_arrow a = record { typed = id_perm (length a); from = refl; to = permuted-all a }

pub perm_arrow : (a : List Sort) (p : List ℕ) → IsPermutation (length a) p → Arrow (permutation a p) a (permuted a p)
perm_arrow a p t = record { typed = t; from = refl; to = refl }

pub generator_arrow : (n : List ℕ) (a b : List Sort) → Arrow (generator n a b) a b
generator_arrow n a b = record { typed = tt; from = refl; to = refl }

pub swap_arrow : (a b : List Sort) → Arrow (swap a b) (a ++ b) (b ++ a)
swap_arrow a b = record {
  typed = subst (λ n. IsPermutation n (swapped (length a) (length b))) (sym (length-append a b))
      (to_perm (Undoes-swapped (length a) (length b)));
  from = refl;
  to = permuted-swapped a b;
}

pub length-cod : (a : List Sort) (p : List ℕ) → IsPermutation (length a) p → length (permuted a p) ≡ length a
length-cod a p t = length-permuted a p (Under-perm _ p t) ∙ t.size

-- ## one step each

pub equal-same : {s : Morphism} {a b : List Sort} → Arrow s a b → Equal s s
equal-same f = same f.typed

pub equal-assoc : {s t u : Morphism} {a b c d : List Sort} → Arrow s a b → Arrow t b c → Arrow u c d → Equal (then (then s t) u) (then s (then t u))
equal-assoc f g h = by_law (then_assoc _ _ _) (then_arrow (then_arrow f g) h).typed (then_arrow f (then_arrow g h)).typed

pub equal-left : {s : Morphism} {a b : List Sort} → Arrow s a b → Equal (then (identity a) s) s
equal-left {s} {a} f = subst (λ x. Equal (then (identity x) s) s) f.from (by_law (then_left s) (id_perm _, f.typed, permuted-all (dom s)) f.typed)

pub equal-right : {s : Morphism} {a b : List Sort} → Arrow s a b → Equal (then s (identity b)) s
equal-right {s} f = subst (λ x. Equal (then s (identity x)) s) f.to (by_law (then_right s) (f.typed, id_perm _, refl) f.typed)

pub equal-beside_assoc : {s t u : Morphism} {a b c d e f : List Sort} → Arrow s a b → Arrow t c d → Arrow u e f → Equal (beside (beside s t) u) (beside s (beside t u))
equal-beside_assoc f g h = by_law (beside_assoc _ _ _) ((f.typed, g.typed), h.typed) (f.typed, (g.typed, h.typed))

pub equal-beside_right : {s : Morphism} {a b : List Sort} → Arrow s a b → Equal (beside s empty) s
equal-beside_right f = by_law (beside_right _) (f.typed, id_perm 0) f.typed

pub equal-exchange : {s t u v : Morphism} {a b c d e f : List Sort} → Arrow s a b → Arrow t c d → Arrow u b e → Arrow v d f → Equal (then (beside s t) (beside u v)) (beside (then s u) (then t v))
equal-exchange f g h k = by_law (interchange _ _ _ _) (then_arrow (beside_arrow f g) (beside_arrow h k)).typed (beside_arrow (then_arrow f h) (then_arrow g k)).typed

pub equal-slide : {s t : Morphism} {a b c d : List Sort} → Arrow s a b → Arrow t c d → Equal (then (beside s t) (swap b d)) (then (swap a c) (beside t s))
equal-slide {s} {t} {a} {b} {c} {d} f g =
    subst (λ x. Equal (then (beside s t) (swap x d)) (then (swap a c) (beside t s))) f.to
    (subst (λ x. Equal (then (beside s t) (swap (cod s) x)) (then (swap a c) (beside t s))) g.to
    (subst (λ x. Equal (then (beside s t) (swap (cod s) (cod t))) (then (swap x c) (beside t s))) f.from
    (subst (λ x. Equal (then (beside s t) (swap (cod s) (cod t))) (then (swap (dom s) x) (beside t s))) g.from
    (by_law (slide s t) ((f.typed, g.typed), (swap_arrow (cod s) (cod t)).typed, refl) ((swap_arrow (dom s) (dom t)).typed, (g.typed, f.typed), permuted-swapped (dom s) (dom t))))))

pub equal-perms : (a b : List Sort) (p q : List ℕ) → IsPermutation (length a) p → permuted a p ≡ b → IsPermutation (length b) q
    → Equal (then (permutation a p) (permutation b q)) (permutation a (permuted p q))
equal-perms a b p q t e u = by_law (perm_then a b p q) (t, u, e) (compose_perm (length a) p q t (subst (λ n. IsPermutation n q) (sym (ap length e) ∙ length-cod a p t) u))

pub equal-perm_beside : (a b : List Sort) (p q : List ℕ) → IsPermutation (length a) p → IsPermutation (length b) q
    → Equal (beside (permutation a p) (permutation b q)) (permutation (a ++ b) (p ++ shifted (length a) q))
equal-perm_beside a b p q t u = by_law (perm_beside a b p q) (t, u) (subst (λ n. IsPermutation n (p ++ shifted (length a) q)) (sym (length-append a b)) (beside_perm (length a) (length b) p q t u))

pub in_left : {s t u : Morphism} {a b c : List Sort} → Equal s t → Arrow s a b → Arrow u b c → Equal (then s u) (then t u)
in_left d f g = in_then d (equal-same g) (f.to ∙ sym g.from)

pub in_right : {s t u : Morphism} {a b c : List Sort} → Equal t u → Arrow s a b → Arrow t b c → Equal (then s t) (then s u)
in_right d f g = in_then (equal-same f) d (f.to ∙ sym g.from)
