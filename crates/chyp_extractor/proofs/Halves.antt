-- Rows that are joined by halves.
use Rattle.std.proofs.Common.{◌≡◌, ℕ, zero, suc, ◌/◌, ◌≤◌, List, [], ◌∷◌, length, take, drop, map, Result, Ok, Err, IfOk, refl, ◌∙◌, ap, ap₂, arith, length-take, length-drop}
use Rattle.std.proofs.lemmas.List.{length-map, take-map, drop-map}
use Rattle.chyp_term.specs.declared.term.Term.{Term}
use Rattle.chyp_term.specs.Term.{morphism_of}
use Rattle.chyp_term.specs.Morphism.{Morphism}
use Rattle.chyp_term.specs.Halving.{halved_by, halved_in}

-- more than enough is as good as enough
halved_by-enough : {A : Type 0} (none : A) (m n : ℕ) (join : A → A → A) (parts : List A) → length parts ≤ m → length parts ≤ n → halved_by none m join parts ≡ halved_by none n join parts
halved_by-enough none m n join [] h k = refl
halved_by-enough none m n join (a ∷ []) h k = refl
halved_by-enough none zero n join (a ∷ b ∷ parts) h k = absurd (omega arith)
halved_by-enough none (suc m) zero join (a ∷ b ∷ parts) h k = absurd (omega arith)
halved_by-enough {A} none (suc m) (suc n) join (a ∷ b ∷ parts) h k =
    let all : List A = a ∷ b ∷ parts in
    let half : ℕ = length all / 2 in
    let front = length-take half all in
    let rest = length-drop half all in
    ap₂ join (halved_by-enough none m n join (take half all) (omega arith) (omega arith)) (halved_by-enough none m n join (drop half all) (omega arith) (omega arith))

-- two parts or more are their two halves
pub halved_in-join : {A : Type 0} (none : A) (join : A → A → A) (parts : List A) → 2 ≤ length parts
    → halved_in none join parts ≡ join (halved_in none join (take (length parts / 2) parts)) (halved_in none join (drop (length parts / 2) parts))
halved_in-join none join [] h = absurd (omega arith)
halved_in-join none join (a ∷ []) h = absurd (omega arith)
halved_in-join {A} none join (a ∷ b ∷ parts) h =
    let all : List A = a ∷ b ∷ parts in
    let half : ℕ = length all / 2 in
    let front = length-take half all in
    let rest = length-drop half all in
    let m : ℕ = length (b ∷ parts) in
    ap₂ join (halved_by-enough none m (length (take half all)) join (take half all) (omega arith) (omega arith))
    (halved_by-enough none m (length (drop half all)) join (drop half all) (omega arith) (omega arith))

-- a row is the join of its halves, where the parts are told of something
pub halved_in-halves : {A B : Type 0} (none : B) (join : B → B → B) (f : A → B) (xs : List A) → 2 ≤ length xs
    → halved_in none join (map f xs) ≡ join (halved_in none join (map f (take (length xs / 2) xs))) (halved_in none join (map f (drop (length xs / 2) xs)))
halved_in-halves {A} {B} none join f xs two =
    let len : length (map f xs) ≡ length xs = length-map xs f in
    let half : ℕ = length xs / 2 in
    halved_in-join none join (map f xs) (omega arith)
    ∙ ap (λ n. join (halved_in none join (take (n / 2) (map f xs))) (halved_in none join (drop (n / 2) (map f xs)))) len
    ∙ ap₂ (λ (a b : List B). join (halved_in none join a) (halved_in none join b)) (take-map f half xs) (drop-map f half xs)

-- a term that is found is an equal one
pub term_is : {E : Type 0} (result : Result Term E) (a b : Morphism) → a ≡ b → IfOk result (λ term. morphism_of term ≡ a) → IfOk result (λ term. morphism_of term ≡ b)
term_is (Ok term) a b e h = h ∙ e
term_is (Err error) a b e h = tt
