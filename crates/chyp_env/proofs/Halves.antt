-- Rows that are joined by halves.
use Rattle.std.proofs.Common.{◌≡◌, ℕ, zero, suc, ◌/◌, ◌≤◌, List, [], ◌∷◌, length, take, drop, map, Result, Ok, Err, IfOk, refl, ◌∙◌, ap, ap₂, arith, length-take, length-drop}
use Rattle.std.proofs.lemmas.List.{length-map, take-map, drop-map}
use Rattle.chyp_term.specs.declared.term.Term.{Term}
use Rattle.chyp_term.specs.Term.{morphism_of}
use Rattle.chyp_term.specs.Morphism.{Morphism, then, beside}
use Rattle.chyp_syntax.specs.declared.term.TermAst.{TermAst}
use Rattle.chyp_syntax.specs.declared.term.TermAst.TheVariants.{Chain, Beside}
use Rattle.chyp_syntax.specs.Term.{terms_of, tree_of}
use Rattle.chyp_syntax.proofs.Trees.{tree_of-Chain, tree_of-Beside}
use Rattle.chyp_env.specs.Expansion.{expansion_in, expansions_in}
use Rattle.chyp_term.specs.Derivation.{empty}
use Rattle.chyp_term.specs.Halving.{halved_by, halved}

-- more than enough is as good as enough
halved-enough : (m n : ℕ) (join : Morphism → Morphism → Morphism) (parts : List Morphism) → length parts ≤ m → length parts ≤ n
    → halved_by empty m join parts ≡ halved_by empty n join parts
halved-enough m n join [] h k = refl
halved-enough m n join (a ∷ []) h k = refl
halved-enough zero n join (a ∷ b ∷ parts) h k = absurd (omega arith)
halved-enough (suc m) zero join (a ∷ b ∷ parts) h k = absurd (omega arith)
halved-enough (suc m) (suc n) join (a ∷ b ∷ parts) h k =
    let all : List Morphism = a ∷ b ∷ parts in
    let half : ℕ = length all / 2 in
    let front = length-take half all in
    let rest = length-drop half all in
    ap₂ join (halved-enough m n join (take half all) (omega arith) (omega arith)) (halved-enough m n join (drop half all) (omega arith) (omega arith))

-- two parts or more are their two halves
pub halved-join : (join : Morphism → Morphism → Morphism) (parts : List Morphism) → 2 ≤ length parts
    → halved join parts ≡ join (halved join (take (length parts / 2) parts)) (halved join (drop (length parts / 2) parts))
halved-join join [] h = absurd (omega arith)
halved-join join (a ∷ []) h = absurd (omega arith)
halved-join join (a ∷ b ∷ parts) h =
    let all : List Morphism = a ∷ b ∷ parts in
    let half : ℕ = length all / 2 in
    let front = length-take half all in
    let rest = length-drop half all in
    let m : ℕ = length (b ∷ parts) in
    ap₂ join (halved-enough m (length (take half all)) join (take half all) (omega arith) (omega arith))
    (halved-enough m (length (drop half all)) join (drop half all) (omega arith) (omega arith))

-- a row is the join of its halves, where the parts are the terms of something
pub halved-map : {A : Type 0} (join : Morphism → Morphism → Morphism) (f : A → Morphism) (xs : List A) → 2 ≤ length xs
    → halved join (map f xs) ≡ join (halved join (map f (take (length xs / 2) xs))) (halved join (map f (drop (length xs / 2) xs)))
halved-map join f xs two =
    let len : length (map f xs) ≡ length xs = length-map xs f in
    let half : ℕ = length xs / 2 in
    halved-join join (map f xs) (omega arith)
    ∙ ap (λ n. join (halved join (take (n / 2) (map f xs))) (halved join (drop (n / 2) (map f xs)))) len
    ∙ ap₂ (λ (a b : List Morphism). join (halved join a) (halved join b)) (take-map f half xs) (drop-map f half xs)

-- the term that a part stands for
abbrev pub part_in : (ℕ → Morphism) → TermAst → Morphism
part_in meaning part = expansion_in meaning (tree_of part)

pub expansions-parts : (meaning : ℕ → Morphism) (parts : List TermAst) → expansions_in meaning (terms_of (map tree_of parts)) ≡ map (part_in meaning) parts
expansions-parts meaning [] = refl
expansions-parts meaning (part ∷ parts) = ap (λ ms. part_in meaning part ∷ ms) (expansions-parts meaning parts)

pub expansion-Chain : (meaning : ℕ → Morphism) (parts : List TermAst) (semis : List ℕ)
    → expansion_in meaning (tree_of (Chain parts semis)) ≡ halved then (map (part_in meaning) parts)
expansion-Chain meaning parts semis = ap (expansion_in meaning) (tree_of-Chain parts semis) ∙ ap (halved then) (expansions-parts meaning parts)

pub expansion-Beside : (meaning : ℕ → Morphism) (parts : List TermAst) → expansion_in meaning (tree_of (Beside parts)) ≡ halved beside (map (part_in meaning) parts)
expansion-Beside meaning parts = ap (expansion_in meaning) (tree_of-Beside parts) ∙ ap (halved beside) (expansions-parts meaning parts)

-- a term that is found is an equal one
pub term_is : {E : Type 0} (result : Result Term E) (a b : Morphism) → a ≡ b → IfOk result (λ term. morphism_of term ≡ a) → IfOk result (λ term. morphism_of term ≡ b)
term_is (Ok term) a b e h = h ∙ e
term_is (Err error) a b e h = tt
