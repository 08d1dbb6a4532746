-- Names in tests, and entries that fit behind others.
use Rattle.std.proofs.Common.{◌≡◌, ℕ, IsTrue, List, [], ◌∷◌, ◌++◌, length, take, drop, slice_get, Some, refl, sym, ap, subst, ◌∙◌, arith}
use Rattle.std.proofs.Math.Seq.{take-length}
use Rattle.std.proofs.lemmas.List.Elements.{All-contains, Contains-push}
use Rattle.chyp_base.specs.declared.sort.Sort.{Sort}
use Rattle.chyp_lex.specs.declared.token.Token.{Token}
use Rattle.chyp_lex.specs.Names.{IsNameText, NamesAreText, is_name}
use Rattle.chyp_lex.specs.Tokens.{token_text}
use Rattle.chyp_term.specs.Morphism.{Morphism}
use Rattle.chyp_env.specs.Closed.{FitsBehind, HasBoundGenerators, HasBoundSense, IsClosed}
use Rattle.chyp_env.specs.Environment.{Binding, Origin, Sense, abbreviation, binding_of, generator}
use Rattle.chyp_env.specs.Sound.{IsSound, IsSoundSense}
use Rattle.chyp_env.proofs.Bindings.{binding-found}
use Rattle.chyp_env.proofs.Closed.{covers-append, sense-covered}

whole-text : (text : List ℕ) → take (length text) (drop 0 text) ≡ text
whole-text [] = refl
whole-text (b ∷ text) = take-length (b ∷ text)

-- a text whose first token is a name that takes all of it is a name
pub is-name : (text : List ℕ) (tokens : List Token) (token : Token) → NamesAreText text tokens → slice_get tokens 0 ≡ Some token → token.start ≡ 0 → token.len ≡ length text
    → IsTrue (is_name token.kind) → IsNameText text
is-name text [] token names first start len name = absurd cc
is-name text (x ∷ tokens) token names first start len name =
    let same : x ≡ token = cc in
    let named : IsNameText (token_text text x) = (names 0 x (omega arith) (subst (λ (t : Token). IsTrue (is_name t.kind)) (sym same) name)).1 in
    let all : token_text text x ≡ text = ap (token_text text) same ∙ ap (λ n. take token.len (drop n text)) start ∙ ap (λ n. take n (drop 0 text)) len ∙ whole-text text in
    subst IsNameText all named

-- a generator fits behind all names, under a name
pub generator-fits : (env : List Binding) (name : List ℕ) (origin : Origin) (n : List ℕ) (a b : List Sort) → IsNameText name
    → FitsBehind env (record { name = name; origin = origin; sense = generator n a b })
generator-fits env name origin n a b named =
    let mine : Binding = record { name = name; origin = origin; sense = generator n a b } in
    record { generators = record { binding = mine; has = Contains-push env mine; is = refl }; name = named }

-- so does what an entry stands for, under another name
pub renamed-fits : (env : List Binding) (from : List ℕ) (old : Binding) (name : List ℕ) → IsClosed env → binding_of env from ≡ Some old → IsNameText name
    → FitsBehind env (record { name = name; origin = old.origin; sense = old.sense })
renamed-fits env from old name closed there named =
    let next : Binding = record { name = name; origin = old.origin; sense = old.sense } in
    let has = (binding-found env from old there).0 in
    let bound = All-contains (λ (b : Binding). HasBoundSense env b.sense) env old closed.generators has in
    record { generators = sense-covered env (env ++ next ∷ []) (covers-append env (next ∷ [])) old.sense bound; name = named }

-- and it is sound
pub found-sound : (env : List Binding) (from : List ℕ) (old : Binding) → IsSound env → binding_of env from ≡ Some old → IsSoundSense old.sense
found-sound env from old sound there = All-contains (λ (b : Binding). IsSoundSense b.sense) env old sound.each (binding-found env from old there).0

-- the generators of a term that a name stands for are bound
pub found-bound : (env : List Binding) (name : List ℕ) (old : Binding) (t : Morphism) → IsClosed env → binding_of env name ≡ Some old → old.sense ≡ abbreviation t → HasBoundGenerators env t
found-bound env name old t closed there is =
    subst (HasBoundSense env) is (All-contains (λ (b : Binding). HasBoundSense env b.sense) env old closed.generators (binding-found env name old there).0)
