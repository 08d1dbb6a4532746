-- How the bindings of an environment are stored, by which proofs tell them apart.
use Rattle.std.specs.Prelude.{◌≡◌, ◌⊎◌, ℕ, Bool, true, false, List, [], ◌∷◌, ◌++◌}
use Rattle.std.specs.Coded.{Coded, code_by, coded×, coded⊎, coded_list, coded_ℕ, coded_bool}
use Rattle.std.proofs.Common.{inl, inr, refl, ap, sym, ◌∙◌, append_assoc, append-nil}
use Rattle.chyp_base.specs.contracts.sort.Sort as sort
use Rattle.chyp_lex.specs.contracts.token.TokenKind as kind
use Rattle.chyp_base.specs.declared.sort.Sort.{Sort}
use Rattle.chyp_term.specs.Derivation.{empty}
use Rattle.chyp_term.specs.Morphism.{Morphism, generator as a_generator, permutation, then, beside}
use Rattle.chyp_env.specs.Environment.{Sense, generator, abbreviation, equation, unproved, broken, Binding}
use Rattle.chyp_env.specs.Scope.{Scope}
use Rattle.chyp_lex.specs.declared.token.TokenKind.{TokenKind}
use Rattle.chyp_syntax.specs.Words.{Word}

-- a generator, a permutation, or a sign that the last two terms are composed (true) or stand side by side
abbrev pub Node : Type 0
Node = (List ℕ × (List Sort × List Sort)) ⊎ ((List Sort × List ℕ) ⊎ Bool)

-- a term in postfix notation
abbrev pub nodes_of : Morphism → List Node
nodes_of (a_generator name dom cod) = inl (name, (dom, cod)) ∷ []
nodes_of (permutation sorts places) = inr (inl (sorts, places)) ∷ []
nodes_of (then s t) = nodes_of s ++ (nodes_of t ++ inr (inr true) ∷ [])
nodes_of (beside s t) = nodes_of s ++ (nodes_of t ++ inr (inr false) ∷ [])

-- the terms that are read, the last first, once a node is read too
abbrev pub read_node : Node → List Morphism → List Morphism
read_node (inl g) terms = a_generator g.0 g.1.0 g.1.1 ∷ terms
read_node (inr (inl p)) terms = permutation p.0 p.1 ∷ terms
read_node (inr (inr true)) (t ∷ s ∷ terms) = then s t ∷ terms
read_node (inr (inr false)) (t ∷ s ∷ terms) = beside s t ∷ terms
read_node (inr (inr _)) terms = terms

-- the terms that are read once these nodes are read too
abbrev pub read : List Node → List Morphism → List Morphism
read [] terms = terms
read (node ∷ nodes) terms = read nodes (read_node node terms)

-- the term on top
abbrev pub top : List Morphism → Morphism
top [] = empty
top (term ∷ terms) = term

-- the nodes of a term are read as that term
pub read-nodes_of : (m : Morphism) (rest : List Node) (terms : List Morphism) → read (nodes_of m ++ rest) terms ≡ read rest (m ∷ terms)
read-nodes_of (a_generator name dom cod) rest terms = refl
read-nodes_of (permutation sorts places) rest terms = refl
read-nodes_of (then s t) rest terms =
    ap (λ nodes. read nodes terms) (append_assoc (nodes_of s) (nodes_of t ++ inr (inr true) ∷ []) rest)
    ∙ read-nodes_of s ((nodes_of t ++ inr (inr true) ∷ []) ++ rest) terms
    ∙ ap (λ nodes. read nodes (s ∷ terms)) (append_assoc (nodes_of t) (inr (inr true) ∷ []) rest)
    ∙ read-nodes_of t (inr (inr true) ∷ rest) (s ∷ terms)
read-nodes_of (beside s t) rest terms =
    ap (λ nodes. read nodes terms) (append_assoc (nodes_of s) (nodes_of t ++ inr (inr false) ∷ []) rest)
    ∙ read-nodes_of s ((nodes_of t ++ inr (inr false) ∷ []) ++ rest) terms
    ∙ ap (λ nodes. read nodes (s ∷ terms)) (append_assoc (nodes_of t) (inr (inr false) ∷ []) rest)
    ∙ read-nodes_of t (inr (inr false) ∷ rest) (s ∷ terms)

pub top-nodes_of : (m : Morphism) → top (read (nodes_of m) []) ≡ m
top-nodes_of m = ap (λ nodes. top (read nodes [])) (sym (append-nil (nodes_of m))) ∙ ap top (read-nodes_of m [] [])

-- nodes are stored by their parts
abbrev pub node_code : Coded Node
node_code =
    let sorts : Coded (List Sort) = coded_list sort.the_row.coded in
    let numbers : Coded (List ℕ) = coded_list coded_ℕ in
    coded⊎ (coded× numbers (coded× sorts sorts)) (coded⊎ (coded× sorts numbers) coded_bool)

-- terms are stored in postfix notation
abbrev pub morphism_code : Coded Morphism
morphism_code = code_by (List Node) (coded_list node_code) nodes_of (λ nodes. top (read nodes [])) top-nodes_of

-- a generator, a term, an equation, or a sign for what is not proved (true) or broken
abbrev pub Parts : Type 0
Parts = (List ℕ × (List Sort × List Sort)) ⊎ (Morphism ⊎ ((Morphism × Morphism) ⊎ Bool))

abbrev pub parts_of : Sense → Parts
parts_of (generator name dom cod) = inl (name, (dom, cod))
parts_of (abbreviation term) = inr (inl term)
parts_of (equation first last) = inr (inr (inl (first, last)))
parts_of unproved = inr (inr (inr true))
parts_of broken = inr (inr (inr false))

abbrev pub sense_with : Parts → Sense
sense_with (inl g) = generator g.0 g.1.0 g.1.1
sense_with (inr (inl term)) = abbreviation term
sense_with (inr (inr (inl sides))) = equation sides.0 sides.1
sense_with (inr (inr (inr true))) = unproved
sense_with (inr (inr (inr false))) = broken

pub sense_with-parts_of : (sense : Sense) → sense_with (parts_of sense) ≡ sense
sense_with-parts_of (generator name dom cod) = refl
sense_with-parts_of (abbreviation term) = refl
sense_with-parts_of (equation first last) = refl
sense_with-parts_of unproved = refl
sense_with-parts_of broken = refl

-- senses are stored by their parts
abbrev pub sense_code : Coded Sense
sense_code =
    let sorts : Coded (List Sort) = coded_list sort.the_row.coded in
    let generators : Coded (List ℕ × (List Sort × List Sort)) = coded× (coded_list coded_ℕ) (coded× sorts sorts) in
    code_by Parts (coded⊎ generators (coded⊎ morphism_code (coded⊎ (coded× morphism_code morphism_code) coded_bool))) parts_of sense_with
    sense_with-parts_of

-- bindings are stored as their fields
abbrev pub binding_code : Coded Binding
binding_code =
    code_by (List ℕ × ((List ℕ × ℕ) × Sense)) (coded× (coded_list coded_ℕ) (coded× (coded× (coded_list coded_ℕ) coded_ℕ) sense_code))
    (λ b. (b.name, ((b.origin.home, b.origin.number), b.sense)))
    (λ p. record { name = p.0; origin = record { home = p.1.0.0; number = p.1.0.1 }; sense = p.1.1 }) (λ _. refl)

-- so are words
abbrev pub word_code : Coded Word
word_code =
    code_by (TokenKind × (List ℕ × ℕ)) (coded× kind.the_row.coded (coded× (coded_list coded_ℕ) coded_ℕ))
    (λ w. (w.kind, (w.bytes, w.value))) (λ p. record { kind = p.0; bytes = p.1.0; value = p.1.1 }) (λ _. refl)

-- and scopes
abbrev pub scope_code : Coded Scope
scope_code =
    code_by (List Word × List Binding) (coded× (coded_list word_code) (coded_list binding_code))
    (λ s. (s.words, s.env)) (λ p. record { words = p.0; env = p.1 }) (λ _. refl)
