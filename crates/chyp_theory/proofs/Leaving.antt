-- Terms of which no edge takes one of the first inputs.
use Rattle.std.proofs.Common.{ℕ, ◌+◌, ◌<◌, ◌≡◌, List, [], ◌∷◌, ◌++◌, map, length, take, drop, get_or, inl, inr, sym, ◌∙◌, ap, subst, arith, length-append}
use Rattle.std.proofs.lemmas.List.{length-map, take-map, get_or_append_left}
use Rattle.std.specs.List.{AllByRecursion}
use Rattle.chyp_base.specs.declared.sort.Sort.{Sort}
use Rattle.chyp_term.specs.Derivation.{identity}
use Rattle.chyp_term.specs.Morphism.{Morphism, then, beside, dom, IsTyped}
use Rattle.chyp_term.specs.Perm.{permuted, count_from}
use Rattle.chyp_term.proofs.Inverses.{permuted-count}
use Rattle.chyp_term.proofs.Permuted.{length-count_from}
use Rattle.chyp_theory.proofs.Fronts.{take-count}
use Rattle.chyp_theory.proofs.Peeling.{ins, get_or-count}
use Rattle.chyp_theory.proofs.Renaming.{Producer, In, Target}
use Rattle.chyp_theory.proofs.Running.{EdgeOf, run, src, Alike}
use Rattle.chyp_theory.proofs.Sources.{rename, src-along, src-first, before, lifted, later}

-- no edge of t takes one of the first n inputs
abbrev pub IsPast : {E : Type 0} → ℕ → Producer E → Type 0
IsPast n (In j) = ¬ (j < n)
IsPast n (Target e i) = Unit {0}

-- no edge of t takes one of the first n inputs
abbrev pub LeavesFirst : ℕ → Morphism → Type 0
LeavesFirst n t = (e : EdgeOf t) → AllByRecursion (IsPast n) (src t (λ e i. Target e i) (ins t) e)

pub past-back : {E F : Type 0} (n : ℕ) (f : E → F) (ys : List (Producer E)) → AllByRecursion (IsPast n) (map (rename f) ys) → AllByRecursion (IsPast n) ys
past-back n f [] a = tt
past-back n f (In j ∷ ys) a = (a.0, past-back n f ys a.1)
past-back n f (Target e i ∷ ys) a = (tt, past-back n f ys a.1)

pub past-there : {E F : Type 0} (n : ℕ) (f : E → F) (ys : List (Producer E)) → AllByRecursion (IsPast n) ys → AllByRecursion (IsPast n) (map (rename f) ys)
past-there n f [] a = tt
past-there n f (In j ∷ ys) a = (a.0, past-there n f ys a.1)
past-there n f (Target e i ∷ ys) a = (tt, past-there n f ys a.1)

pub leaves-at : (n : ℕ) {s t : Morphism} → IsTyped s → (k : Alike s t) → (e : EdgeOf t)
    → AllByRecursion (IsPast n) (src s (λ e i. Target e i) (ins s) (k.from e)) → AllByRecursion (IsPast n) (src t (λ e i. Target e i) (ins t) e)
leaves-at n {s} {t} ts k e h = subst (AllByRecursion (IsPast n)) (src-along ts k e) (past-there n k.to (src s (λ e i. Target e i) (ins s) (k.from e)) h)

-- so it is with terms that are alike
pub leaves-alike : (n : ℕ) {s t : Morphism} → IsTyped s → Alike s t → LeavesFirst n s → LeavesFirst n t
leaves-alike n ts k h e = leaves-at n ts k e (h (k.from e))

-- with the first of two terms
pub leaves-first : (n : ℕ) (s t : Morphism) → IsTyped s → (e : EdgeOf s)
    → AllByRecursion (IsPast n) (src (then s t) (λ e i. Target e i) (ins (then s t)) (inl e)) → AllByRecursion (IsPast n) (src s (λ e i. Target e i) (ins s) e)
leaves-first n s t ts e h = past-back n (λ e. inl e) (src s (λ e i. Target e i) (ins s) e) (subst (AllByRecursion (IsPast n)) (sym (src-first s t ts e)) h)

-- and with a term behind one that passes the wires c
pub leaves-later : (c : List Sort) (y t : Morphism) → IsTyped (then (beside (identity c) y) t) → LeavesFirst (length c) (then (beside (identity c) y) t)
    → LeavesFirst (length c) t
leaves-later c y t ty h e =
    back-all (src t (λ e i. Target e i) (ins t) e) (subst (AllByRecursion (IsPast (length c))) (sym (later (beside (identity c) y) t ty e)) (h (inr e)))
  where
    live : List (Producer (EdgeOf (then (beside (identity c) y) t)))
    live = before (beside (identity c) y) t ty

    total : ℕ
    total = length (dom (then (beside (identity c) y) t))

    front-live : take (length c) (ins (then (beside (identity c) y) t)) ≡ map (λ j. In j) (count_from 0 (length c))
    front-live =
        take-map (λ j. In j) (length c) (count_from 0 total)
        ∙ ap (map (λ j. In j)) (take-count 0 (length c) total (let q = length-append c (dom y) in omega arith))

    at : (j : ℕ) → j < length c → get_or live j (In 0) ≡ In (0 + j)
    at j l =
        ap (λ z. get_or (permuted z (count_from 0 (length c)) ++ run y (λ e i. Target (inl (inr e)) i)
        (drop (length c) (ins (then (beside (identity c) y) t)))) j (In 0)) front-live
        ∙ ap (λ z. get_or (z ++ run y (λ e i. Target (inl (inr e)) i) (drop (length c) (ins (then (beside (identity c) y) t)))) j (In 0))
        (permuted-count (map (λ j. In j) (count_from 0 (length c))) (length c) in-size)
        ∙ get_or_append_left (map (λ j. In j) (count_from 0 (length c))) _ (In 0) j (subst (λ m. j < m) (sym in-size) l)
        ∙ get_or-count (λ j. In j) 0 (length c) j (In 0) l
      where
        in-size : length (map {B = Producer (EdgeOf (then (beside (identity c) y) t))} (λ j. In j) (count_from 0 (length c))) ≡ length c
        in-size = length-map (count_from 0 (length c)) (λ j. In j) ∙ length-count_from 0 (length c)

    back-all : (ys : List (Producer (EdgeOf t))) → AllByRecursion (IsPast (length c)) (map (lifted (beside (identity c) y) t ty) ys)
        → AllByRecursion (IsPast (length c)) ys
    back-all [] a = tt
    back-all (In j ∷ ys) a = ((λ l. subst (IsPast (length c)) (at j l) a.0 (omega arith)), back-all ys a.1)
    back-all (Target d i ∷ ys) a = (tt, back-all ys a.1)
