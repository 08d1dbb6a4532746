-- The names and the terms that a statement makes.
use Rattle.std.proofs.Common.{◌≡◌, ℕ, ◌+◌, ◌<◌, List, [], ◌∷◌, ◌++◌, length, take, drop, arith, slice_index_or, All, Option, None}
use Rattle.std.proofs.Common.{Some, refl, sym, ap, subst, ◌∙◌, Bool, true, false, ◌&&◌, true≢false, is_some, unwrap_or, cond, ◌==◌, append_assoc}
use Rattle.std.specs.Str.{IsUtf8}
use Rattle.std.proofs.lemmas.List.Elements.{All-head, All-tail}
use Rattle.chyp_lex.specs.declared.token.TokenKind.{TokenKind}
use Rattle.chyp_lex.specs.declared.token.TokenKind.TheVariants.{Ident, WordGen, WordLet, WordRule, WordRewrite, WordImport, WordShow}
use Rattle.chyp_syntax.specs.declared.statement.Ast.{Ast}
use Rattle.chyp_syntax.specs.declared.statement.Ast.TheVariants.{GenDecl, RuleDecl, RewriteDecl}
use Rattle.chyp_syntax.specs.declared.step.StepAst.{StepAst}
use Rattle.chyp_syntax.specs.declared.term.TermAst.{TermAst}
use Rattle.chyp_syntax.specs.Heading.{declares, is_identifier, declared_name}
use Rattle.chyp_syntax.specs.Words.{Word, bytes_at}
use Rattle.chyp_syntax.specs.Numbered.{NumberedToken, kind_of}
use Rattle.chyp_syntax.specs.Sentence.{IsStatement, IsSentence, is_gen, is_let, is_rule, is_rewrite, is_import, is_import_as, is_show}
use Rattle.chyp_syntax.specs.Statement.{StatementTree, generator, abbreviation, rule, rewrite, inclusion, showing, statement_of}
use Rattle.chyp_syntax.specs.Term.{tree_of}
use Rattle.chyp_base.specs.declared.sort.Sort.{Sort}
use Rattle.chyp_term.specs.Limits.{IsWithinLimits}
use Rattle.chyp_term.specs.Morphism.{Morphism, generator as a_generator}
use Rattle.chyp_env.specs.ChunkView.{AreSpelled}
use Rattle.chyp_env.specs.Scope.{Scope}
use Rattle.chyp_env.specs.declared.sizes.Sizes.{Sizes}
use Rattle.chyp_env.specs.Sizes.{AreSizes}
use Rattle.chyp_names.specs.Elaboration.{expansion_at, generator_name, terms_in}
use Rattle.chyp_names.specs.Goals.{goal_terms}
use Rattle.chyp_names.specs.Limits.{AreWithinLimits}
use Rattle.chyp_names.proofs.Goals.{all_front, all_behind, take_more, take_whole, goal_terms-append}

-- the keyword of a statement
abbrev pub keyword_for : StatementTree → TokenKind
keyword_for (generator name dom cod) = WordGen
keyword_for (abbreviation name tree) = WordLet
keyword_for (rule name left equals right) = WordRule
keyword_for (rewrite name first steps) = WordRewrite
keyword_for (inclusion imported prefix) = WordImport
keyword_for (showing name) = WordShow

-- how a sentence begins: with its keyword, and at a generator with its name
abbrev BeginsAs : StatementTree → List NumberedToken → Type 0
BeginsAs tree [] = ⊥
BeginsAs (generator name dom cod) (word ∷ []) = ⊥
BeginsAs (generator name dom cod) (word ∷ second ∷ rest) = (kind_of word ≡ WordGen) × (second.0 ≡ name) × (kind_of second ≡ Ident)
BeginsAs tree (word ∷ rest) = kind_of word ≡ keyword_for tree

begins_as : {tokens : List NumberedToken} {tree : StatementTree} → IsStatement tokens tree → BeginsAs tree tokens
begins_as (is_gen w n c d a e) = (w, refl, n)
begins_as (is_let w n e t) = w
begins_as (is_rule equals w n c l e r) = w
begins_as (is_rewrite w n c t s) = w
begins_as (is_import w n) = w
begins_as (is_import_as w n a p) = w
begins_as (is_show w n) = w

-- the keyword of a sentence
pub sentence_keyword : (first : Word) (rest : List Word) (tree : StatementTree) → IsSentence (first ∷ rest) tree → first.kind ≡ keyword_for tree
sentence_keyword first [] (generator name dom cod) s = absurd (begins_as s.statement)
sentence_keyword first (second ∷ rest) (generator name dom cod) s = (begins_as s.statement).0
sentence_keyword first rest (abbreviation name tree) s = begins_as s.statement
sentence_keyword first rest (rule name left equals right) s = begins_as s.statement
sentence_keyword first rest (rewrite name start steps) s = begins_as s.statement
sentence_keyword first rest (inclusion imported prefix) s = begins_as s.statement
sentence_keyword first rest (showing name) s = begins_as s.statement

-- the name of a generator is UTF-8
generator_spelled : (words : List Word) (name dom cod : ℕ) → AreSpelled words → IsSentence words (generator name dom cod) → IsUtf8 (bytes_at words name)
generator_spelled [] name dom cod spelled s = absurd (begins_as s.statement)
generator_spelled (first ∷ []) name dom cod spelled s = absurd (begins_as s.statement)
generator_spelled (first ∷ second ∷ rest) name dom cod spelled s =
    let begins = begins_as s.statement in
    let P : Word → Type 0 = λ word. word.kind ≡ Ident → IsUtf8 word.bytes in
    subst (λ n. IsUtf8 (bytes_at (first ∷ second ∷ rest) n)) begins.1 (All-head P second rest (All-tail P first (second ∷ rest) spelled) begins.2)

pub name_spelled : (words : List Word) (ast : Ast) (name dom cod : ℕ) → AreSpelled words → ast ≡ GenDecl name dom cod → IsSentence words (statement_of ast)
    → IsUtf8 (bytes_at words name)
name_spelled words ast name dom cod spelled is s = generator_spelled words name dom cod spelled (subst (λ a. IsSentence words (statement_of a)) is s)

-- a declared name is UTF-8
pub both_true : (a b : Bool) → a && b ≡ true → b ≡ true
both_true true b e = e
both_true false b e = absurd (true≢false (sym e))

pub identifier_kind : (kind : TokenKind) → is_identifier kind ≡ true → kind ≡ Ident
identifier_kind Ident e = refl
identifier_kind _ e = absurd (true≢false (sym e))

pub declared_spelled : (words : List Word) (name : List ℕ) → AreSpelled words → declared_name words ≡ Some name → IsUtf8 name
declared_spelled all name spells = go all spells
  where
    P : Word → Type 0
    P word = word.kind ≡ Ident → IsUtf8 word.bytes

    tell : (b : Bool) (word : Word) → P word → (b ≡ true → word.kind ≡ Ident) → (cond b (Some word.bytes) None) ≡ Some name → IsUtf8 name
    tell true word spelled kind e = subst IsUtf8 (ap (λ o. unwrap_or o []) e) (spelled (kind refl))
    tell false word spelled kind e = absurd (true≢false (sym (ap is_some e)))

    go : (words : List Word) → AreSpelled words → declared_name words ≡ Some name → IsUtf8 name
    go [] spelled e = absurd (true≢false (sym (ap is_some e)))
    go (first ∷ []) spelled e = absurd (true≢false (sym (ap is_some e)))
    go (first ∷ second ∷ rest) spelled e =
        tell (declares first.kind && is_identifier second.kind) second (All-head P second rest (All-tail P first (second ∷ rest) spelled))
        (λ t. identifier_kind second.kind (both_true (declares first.kind) (is_identifier second.kind) t)) e

-- the terms of a statement within the limits are so
each_small : (home : List ℕ) (scope : Scope) (ast tree : Ast) → ast ≡ tree → AreWithinLimits (statement_of ast) (terms_in home scope (statement_of ast))
    → All IsWithinLimits (terms_in home scope (statement_of tree))
each_small home scope ast tree is small = subst (λ a. All IsWithinLimits (terms_in home scope (statement_of a))) is small.each

module _ (home : List ℕ) (scope : Scope) (ast : Ast) (name : ℕ) (left : TermAst) (equals : ℕ) (right : TermAst) (is : ast ≡ RuleDecl name left equals right)
    (small : AreWithinLimits (statement_of ast) (terms_in home scope (statement_of ast))) where
  sides : All IsWithinLimits (expansion_at scope (tree_of left) ∷ expansion_at scope (tree_of right) ∷ [])
  sides = each_small home scope ast (RuleDecl name left equals right) is small

  pub right_small : IsWithinLimits (expansion_at scope (tree_of right))
  right_small =
      All-head IsWithinLimits (expansion_at scope (tree_of right)) []
      (All-tail IsWithinLimits (expansion_at scope (tree_of left)) (expansion_at scope (tree_of right) ∷ []) sides)

module _ (home : List ℕ) (scope : Scope) (ast : Ast) (name : ℕ) (first : TermAst) (steps : List StepAst) (is : ast ≡ RewriteDecl name first steps)
    (small : AreWithinLimits (statement_of ast) (terms_in home scope (statement_of ast))) where
  all_small : All IsWithinLimits (expansion_at scope (tree_of first) ∷ goal_terms scope steps)
  all_small = each_small home scope ast (RewriteDecl name first steps) is small

  pub goals_small : (items : List StepAst) → items ≡ steps → All IsWithinLimits (goal_terms scope items)
  goals_small items same =
      subst (λ xs. All IsWithinLimits (goal_terms scope xs)) (sym same) (All-tail IsWithinLimits (expansion_at scope (tree_of first)) (goal_terms scope steps) all_small)

-- so is the goal of each step
pub goal_small : (scope : Scope) (steps : List StepAst) (k : ℕ) (step : StepAst) → k < length steps → step ≡ slice_index_or steps k step
    → All IsWithinLimits (goal_terms scope steps) → All IsWithinLimits (goal_terms scope (step ∷ []))
goal_small scope steps k step within is small =
    all_behind IsWithinLimits (goal_terms scope (take k steps)) (goal_terms scope (step ∷ []))
    (subst (All IsWithinLimits) (goal_terms-append scope (take k steps) (step ∷ []))
    (all_front IsWithinLimits (goal_terms scope (take k steps ++ step ∷ [])) (goal_terms scope (drop (k + 1) steps))
    (subst (All IsWithinLimits) (ap (goal_terms scope) (sym (take_whole steps k step within is)) ∙ goal_terms-append scope (take k steps ++ step ∷ []) (drop (k + 1) steps)) small)))

-- the measures of a generator are those of its type
pub generator_sizes : (sizes : Sizes) (name : List ℕ) (a b c d : List Sort) → a ≡ c → b ≡ d → AreSizes sizes (a_generator name a b) → AreSizes sizes (a_generator name c d)
generator_sizes sizes name a b c d doms cods h = subst (λ (x : List Sort). AreSizes sizes (a_generator name x d)) doms (subst (λ (x : List Sort). AreSizes sizes (a_generator name a x)) cods h)

-- the terms of a list that grows by the goal of a step
pub goals_more : (scope : Scope) (first : Morphism) (terms all : List Morphism) (steps : List StepAst) (k : ℕ) (step : StepAst) → k < length steps → step ≡ slice_index_or steps k step
    → terms ≡ first ∷ goal_terms scope (take k steps) → all ≡ terms ++ goal_terms scope (step ∷ []) → all ≡ first ∷ goal_terms scope (take (k + 1) steps)
goals_more scope first terms all steps k step within is so_far next =
    next ∙ ap (λ ts. ts ++ goal_terms scope (step ∷ [])) so_far
    ∙ ap (λ ts. first ∷ ts) (sym (goal_terms-append scope (take k steps) (step ∷ [])) ∙ ap (goal_terms scope) (sym (take_more steps k step within is)))

-- the name of a generator in a module
pub in_module : (home name : List ℕ) → false ≡ (length home == 0) → home ++ 47 ∷ name ≡ generator_name home name
in_module [] name e = absurd (true≢false (sym e))
in_module (b ∷ home) name e = sym (append_assoc (b ∷ home) (47 ∷ []) name)

-- the prefix of an import is its last word, an identifier
abbrev pub EndsAs : StatementTree → List NumberedToken → Type 0
EndsAs (inclusion word None) (a ∷ b ∷ []) = Unit {0}
EndsAs (inclusion word None) _ = ⊥
EndsAs (inclusion word (Some prefix)) (a ∷ b ∷ c ∷ last ∷ []) = (last.0 ≡ prefix) × (kind_of last ≡ Ident)
EndsAs (inclusion word (Some prefix)) _ = ⊥
EndsAs _ _ = Unit {0}

pub ends_as : {tokens : List NumberedToken} {tree : StatementTree} → IsStatement tokens tree → EndsAs tree tokens
ends_as (is_gen w n c d a e) = tt
ends_as (is_let w n e t) = tt
ends_as (is_rule equals w n c l e r) = tt
ends_as (is_rewrite w n c t s) = tt
ends_as (is_import w n) = tt
ends_as (is_import_as w n a p) = (refl, p)
ends_as (is_show w n) = tt

-- so it is UTF-8
pub prefix_spelled : (words : List Word) (word prefix : ℕ) → AreSpelled words → IsSentence words (inclusion word (Some prefix)) → IsUtf8 (bytes_at words prefix)
prefix_spelled [] word prefix spelled s = absurd (ends_as s.statement)
prefix_spelled (a ∷ []) word prefix spelled s = absurd (ends_as s.statement)
prefix_spelled (a ∷ b ∷ []) word prefix spelled s = absurd (ends_as s.statement)
prefix_spelled (a ∷ b ∷ c ∷ []) word prefix spelled s = absurd (ends_as s.statement)
prefix_spelled (a ∷ b ∷ c ∷ d ∷ []) word prefix spelled s =
    let ends = ends_as s.statement in
    subst (λ n. IsUtf8 (bytes_at (a ∷ b ∷ c ∷ d ∷ []) n)) ends.0 (spelled 3 d (omega arith) ends.1)
prefix_spelled (a ∷ b ∷ c ∷ d ∷ e ∷ rest) word prefix spelled s = absurd (ends_as s.statement)

-- its number, and that it has none
pub prefix_fourth : (words : List Word) (word : ℕ) (as_word : Option ℕ) → IsSentence words (inclusion word as_word) → length words ≡ 4 → Some 3 ≡ as_word
prefix_fourth (a ∷ b ∷ c ∷ d ∷ []) word None s e = absurd (ends_as s.statement)
prefix_fourth (a ∷ b ∷ c ∷ d ∷ []) word (Some prefix) s e = ap Some (ends_as s.statement).0
prefix_fourth [] word as_word s e = absurd (omega (arith, e))
prefix_fourth (a ∷ []) word as_word s e = absurd (omega (arith, e))
prefix_fourth (a ∷ b ∷ []) word as_word s e = absurd (omega (arith, e))
prefix_fourth (a ∷ b ∷ c ∷ []) word as_word s e = absurd (omega (arith, e))
prefix_fourth (a ∷ b ∷ c ∷ d ∷ f ∷ rest) word as_word s e = absurd (omega (arith, e))

pub prefix_absent : (words : List Word) (word : ℕ) (as_word : Option ℕ) → IsSentence words (inclusion word as_word) → ¬ (length words ≡ 4) → None ≡ as_word
prefix_absent words word None s more = refl
prefix_absent (a ∷ b ∷ c ∷ d ∷ []) word (Some prefix) s more = absurd (more refl)
prefix_absent [] word (Some prefix) s more = absurd (ends_as s.statement)
prefix_absent (a ∷ []) word (Some prefix) s more = absurd (ends_as s.statement)
prefix_absent (a ∷ b ∷ []) word (Some prefix) s more = absurd (ends_as s.statement)
prefix_absent (a ∷ b ∷ c ∷ []) word (Some prefix) s more = absurd (ends_as s.statement)
prefix_absent (a ∷ b ∷ c ∷ d ∷ e ∷ rest) word (Some prefix) s more = absurd (ends_as s.statement)
