-- What holds of chains of any bracketing holds of those that are halved.
use Rattle.std.proofs.Common.{ℕ, zero, suc, ◌+◌, ◌/◌, ◌≤◌, ◌≡◌, List, [], ◌∷◌, ◌++◌, map, length, take, drop, refl, sym, ◌∙◌, ap, ap₂, subst, arith, length-take, length-drop}
use Rattle.std.proofs.Common.{take-append-drop}
use Rattle.std.specs.List.{sum_by}
use Rattle.std.proofs.lemmas.List.{length-map, take-map, drop-map}
use Rattle.std.proofs.lemmas.List.Sums.{sum_by-append}
use Rattle.chyp_term.specs.Halving.{halved_by, halved_in}

-- what holds of one part, and of the join of two chains where it holds of both, holds of each chain that isn't empty
pub halved_by-ind : {A : Type 0} (P : List A → A → Type 0) (none : A) (combine : A → A → A) → ((t : A) → P (t ∷ []) t)
    → ((xs ys : List A) (s t : A) → P xs s → P ys t → P (xs ++ ys) (combine s t))
    → (most : ℕ) (ts : List A) → 1 ≤ length ts → length ts ≤ most → P ts (halved_by none most combine ts)
halved_by-ind P none combine one two most [] a b = absurd (omega arith)
halved_by-ind P none combine one two most (t ∷ []) a b = one t
halved_by-ind P none combine one two zero (t ∷ u ∷ ts) a b = absurd (omega arith)
halved_by-ind {A} P none combine one two (suc most) (t ∷ u ∷ ts) a b =
    let all : List A = t ∷ u ∷ ts in
    let half : ℕ = length all / 2 in
    let front = length-take half all in
    let rest = length-drop half all in
    subst (λ z. P z (halved_by none (suc most) combine (t ∷ u ∷ ts))) (take-append-drop half all)
    (two (take half all) (drop half all) (halved_by none most combine (take half all)) (halved_by none most combine (drop half all))
    (halved_by-ind P none combine one two most (take half all) (omega arith) (omega arith))
    (halved_by-ind P none combine one two most (drop half all) (omega arith) (omega arith)))

-- what is kept by joining is kept by halving
pub halved_by-map : {A B : Type 0} (f : A → B) (none : A) (none' : B) (combine : A → A → A) (combine' : B → B → B) → f none ≡ none'
    → ((x y : A) → f (combine x y) ≡ combine' (f x) (f y)) → (most : ℕ) (xs : List A) → f (halved_by none most combine xs) ≡ halved_by none' most combine' (map f xs)
halved_by-map f none none' combine combine' e h most [] = e
halved_by-map f none none' combine combine' e h most (x ∷ []) = refl
halved_by-map f none none' combine combine' e h zero (x ∷ y ∷ xs) = e
halved_by-map {A} {B} f none none' combine combine' e h (suc most) (x ∷ y ∷ xs) =
    let all : List A = x ∷ y ∷ xs in
    let half : ℕ = length all / 2 in
    h (halved_by none most combine (take half all)) (halved_by none most combine (drop half all))
    ∙ ap₂ combine'
    (halved_by-map f none none' combine combine' e h most (take half all) ∙ ap (halved_by none' most combine') (sym (take-map f half all)))
    (halved_by-map f none none' combine combine' e h most (drop half all) ∙ ap (halved_by none' most combine') (sym (drop-map f half all)))
    ∙ ap (λ n. combine' (halved_by none' most combine' (take (n / 2) (map f all))) (halved_by none' most combine' (drop (n / 2) (map f all)))) (sym (length-map all f))

pub halved_in-map : {A B : Type 0} (f : A → B) (none : A) (none' : B) (combine : A → A → A) (combine' : B → B → B) → f none ≡ none'
    → ((x y : A) → f (combine x y) ≡ combine' (f x) (f y)) → (xs : List A) → f (halved_in none combine xs) ≡ halved_in none' combine' (map f xs)
halved_in-map f none none' combine combine' e h xs = halved_by-map f none none' combine combine' e h (length xs) xs ∙ ap (λ n. halved_by none' n combine' (map f xs)) (sym (length-map xs f))

-- sums are joined to the sum, where each join adds c
pub halved-sum : (c none : ℕ) (xs : List ℕ) → 1 ≤ length xs → c + halved_in none (λ a b. c + (a + b)) xs ≡ sum_by (λ x. c + x) xs
halved-sum c none xs l = halved_by-ind (λ ys y. c + y ≡ sum_by (λ x. c + x) ys) none (λ a b. c + (a + b)) (λ x. omega arith) two (length xs) xs l (omega arith)
  where
    two : (ys zs : List ℕ) (y z : ℕ) → c + y ≡ sum_by (λ x. c + x) ys → c + z ≡ sum_by (λ x. c + x) zs → c + (c + (y + z)) ≡ sum_by (λ x. c + x) (ys ++ zs)
    two ys zs y z h k = let e = sum_by-append (λ x. c + x) ys zs in omega arith
