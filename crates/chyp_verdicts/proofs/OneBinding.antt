-- What a statement binds is determined by its verdict.
use Rattle.std.proofs.Common.{◌≡◌, ℕ, ◌-◌, ◌&&◌, if◌then◌else◌, IsTrue, List, [], ◌∷◌, ◌++◌, length, Option, Some, None, slice_get, refl, sym, ◌∙◌, ap, ap₂, subst}
use Rattle.chyp_base.specs.declared.verdict.Verdict.{Verdict}
use Rattle.chyp_base.specs.declared.verdict.Verdict.TheVariants.{Accepted}
use Rattle.chyp_lex.specs.declared.token.TokenKind.TheVariants.{WordRewrite, WordImport}
use Rattle.chyp_syntax.specs.Failing.{HasOneTree}
use Rattle.chyp_syntax.specs.Heading.{declared_name, declares, is_identifier}
use Rattle.chyp_syntax.specs.Numbered.{NumberedToken, numbered}
use Rattle.chyp_syntax.specs.Beginning.{BeginsWithKind}
use Rattle.chyp_syntax.specs.Sentence.{IsSentence, IsStatement, is_gen, is_let, is_rule, is_rewrite, is_import, is_import_as, is_show}
use Rattle.chyp_syntax.specs.Statement.{StatementTree, generator as a_gen, abbreviation, rule, rewrite, inclusion}
use Rattle.chyp_syntax.specs.Words.{Word}
use Rattle.chyp_term.specs.Morphism.{Morphism, generator as a_generator}
use Rattle.chyp_env.specs.Environment.{Sense, Binding, is_bound}
use Rattle.chyp_env.specs.Import.{all_passed_on, new_in}
use Rattle.chyp_env.specs.Site.{Imported, there, Site}
use Rattle.chyp_names.specs.Binding.{Binds, nothing, again, anew, imports, TakesIn, IsRewrite}
use Rattle.chyp_names.specs.Binding.{StandsFor, a_declared_generator, a_term, a_rule, a_proved_rewrite, an_unproved_rewrite, a_broken_statement}
use Rattle.chyp_names.specs.Elaboration.{prefix_at, terms_of}
use Rattle.chyp_verdicts.proofs.OneVerdict.{none-some, some-once, true-false}
use Rattle.chyp_names.proofs.Made.{keyword_for}

statement-begins : (tokens : List NumberedToken) (tree : StatementTree) → IsStatement tokens tree → BeginsWithKind (keyword_for tree) tokens
statement-begins tokens tree (is_gen k n c d a e) = k
statement-begins tokens tree (is_let k n e t) = k
statement-begins tokens tree (is_rule equals k n c l e r) = k
statement-begins tokens tree (is_rewrite k n c t s) = k
statement-begins tokens tree (is_import k n) = k
statement-begins tokens tree (is_import_as k n a p) = k
statement-begins tokens tree (is_show k n) = k

-- the first token of a sentence is its keyword
pub sentence-begins : (tokens : List Word) (tree : StatementTree) → IsSentence tokens tree → (t : Word) × (rest : List Word) × (tokens ≡ t ∷ rest) × (t.kind ≡ keyword_for tree)
sentence-begins [] tree s = absurd (statement-begins (numbered []) tree s.statement)
sentence-begins (t ∷ ts) tree s = (t, ts, refl, statement-begins (numbered (t ∷ ts)) tree s.statement)

-- a sentence is a rewrite exactly where its keyword is that of one
pub sentence-is_rewrite : (tokens : List Word) (tree : StatementTree) → IsSentence tokens tree → IsRewrite tokens → keyword_for tree ≡ WordRewrite
sentence-is_rewrite tokens tree s r =
    let b = sentence-begins tokens tree s in
    sym b.3 ∙ subst IsRewrite b.2 r

pub rewrite-begins : (tokens : List Word) (tree : StatementTree) → IsSentence tokens tree → keyword_for tree ≡ WordRewrite → IsRewrite tokens
rewrite-begins tokens tree s e =
    let b = sentence-begins tokens tree s in
    subst IsRewrite (sym b.2) (b.3 ∙ e)

one-list : {A : Type 0} (x y a b : A) → ◌≡◌ {A = List A} (x ∷ []) (a ∷ []) → x ≡ a
one-list x y a b e = cc

-- what a name stands for is determined
pub stands-once : ((tokens : List Word) → HasOneTree tokens) → (s : Site) (v : Verdict) (a b : Sense) → StandsFor s v a → StandsFor s v b → a ≡ b
stands-once one s v a b (a_declared_generator {name} {dom} {cod} {label} {a = x} {b = y} t e) (a_declared_generator {name = n} {dom = d} {cod = c} {label = l} {a = z} {b = w} u f) =
    let trees = one s.scope.words (a_gen name dom cod) (a_gen n d c) t u in
    let both : ◌≡◌ {A = List Morphism} (a_generator label x y ∷ []) (a_generator l z w ∷ []) = sym e ∙ ap (terms_of s) trees ∙ f in
    cc
stands-once one s v a b (a_declared_generator t e) (a_term u f) = let trees = one s.scope.words _ _ t u in absurd cc
stands-once one s v a b (a_declared_generator t e) (a_rule u f) = let trees = one s.scope.words _ _ t u in absurd cc
stands-once one s v a b (a_declared_generator t e) (an_unproved_rewrite r p) = let k = sentence-is_rewrite s.scope.words _ t r in absurd cc
stands-once one s v a b (a_declared_generator t e) (a_broken_statement r p) = absurd (p refl)
stands-once one s v a b (a_term t e) (a_declared_generator u f) = let trees = one s.scope.words _ _ t u in absurd cc
stands-once one s v a b (a_term {name} {tree} {term} t e) (a_term {name = n} {tree = r} {term = m} u f) =
    let trees = one s.scope.words (abbreviation name tree) (abbreviation n r) t u in
    let both : ◌≡◌ {A = List Morphism} (term ∷ []) (m ∷ []) = sym e ∙ ap (terms_of s) trees ∙ f in
    cc
stands-once one s v a b (a_term t e) (a_rule u f) = let trees = one s.scope.words _ _ t u in absurd cc
stands-once one s v a b (a_term t e) (an_unproved_rewrite r p) = let k = sentence-is_rewrite s.scope.words _ t r in absurd cc
stands-once one s v a b (a_term t e) (a_broken_statement r p) = absurd (p refl)
stands-once one s v a b (a_rule t e) (a_declared_generator u f) = let trees = one s.scope.words _ _ t u in absurd cc
stands-once one s v a b (a_rule t e) (a_term u f) = let trees = one s.scope.words _ _ t u in absurd cc
stands-once one s v a b (a_rule {name} {equals} {left} {right} {first} {last} t e) (a_rule {name = n} {equals = q} {left = l} {right = r} {first = x} {last = y} u f) =
    let trees = one s.scope.words (rule name left equals right) (rule n l q r) t u in
    let both : ◌≡◌ {A = List Morphism} (first ∷ last ∷ []) (x ∷ y ∷ []) = sym e ∙ ap (terms_of s) trees ∙ f in
    cc
stands-once one s v a b (a_rule t e) (an_unproved_rewrite r p) = let k = sentence-is_rewrite s.scope.words _ t r in absurd cc
stands-once one s v a b (a_rule t e) (a_broken_statement r p) = absurd (p refl)
stands-once one s v a b (a_proved_rewrite {name} {tree} {steps} {first} {last} t e g) (a_proved_rewrite {name = n} {tree = r} {steps = c} {first = x} {last = y} u f h) =
    let trees = one s.scope.words (rewrite name tree steps) (rewrite n r c) t u in
    let terms = ap (terms_of s) trees in
    let firsts : first ≡ x = some-once _ first x e (ap (λ ts. slice_get ts 0) terms ∙ f) in
    let lasts : last ≡ y = some-once _ last y g (ap (λ ts. slice_get ts (length ts - 1)) terms ∙ h) in
    cc
stands-once one s v a b (a_proved_rewrite t e g) (an_unproved_rewrite r p) = absurd (p refl)
stands-once one s v a b (a_proved_rewrite t e g) (a_broken_statement r p) = absurd (r (rewrite-begins s.scope.words _ t refl))
stands-once one s v a b (an_unproved_rewrite r p) (a_declared_generator t e) = let k = sentence-is_rewrite s.scope.words _ t r in absurd cc
stands-once one s v a b (an_unproved_rewrite r p) (a_term t e) = let k = sentence-is_rewrite s.scope.words _ t r in absurd cc
stands-once one s v a b (an_unproved_rewrite r p) (a_rule t e) = let k = sentence-is_rewrite s.scope.words _ t r in absurd cc
stands-once one s v a b (an_unproved_rewrite r p) (a_proved_rewrite t e g) = absurd (p refl)
stands-once one s v a b (an_unproved_rewrite r p) (an_unproved_rewrite q o) = refl
stands-once one s v a b (an_unproved_rewrite r p) (a_broken_statement q o) = absurd (q r)
stands-once one s v a b (a_broken_statement r p) (a_declared_generator t e) = absurd (p refl)
stands-once one s v a b (a_broken_statement r p) (a_term t e) = absurd (p refl)
stands-once one s v a b (a_broken_statement r p) (a_rule t e) = absurd (p refl)
stands-once one s v a b (a_broken_statement r p) (a_proved_rewrite t e g) = absurd (r (rewrite-begins s.scope.words _ t refl))
stands-once one s v a b (a_broken_statement r p) (an_unproved_rewrite q o) = absurd (r q)
stands-once one s v a b (a_broken_statement r p) (a_broken_statement q o) = refl

import-declares : (keyword : Word) (rest : List Word) → keyword.kind ≡ WordImport → declared_name (keyword ∷ rest) ≡ None
import-declares keyword [] e = refl
import-declares keyword (name ∷ rest) e = ap (λ k. if declares k && is_identifier name.kind then Some name.bytes else None) e

-- an import declares no name
pub imports-nothing : (s : Site) (imported : ℕ) (prefix : Option ℕ) (declares : List ℕ) → IsSentence s.scope.words (inclusion imported prefix) → declared_name s.scope.words ≡ Some declares → ⊥
imports-nothing s imported prefix declares t e =
    let b = sentence-begins s.scope.words (inclusion imported prefix) t in
    none-some _ declares (import-declares b.0 b.1 b.3) (ap declared_name (sym b.2) ∙ e)

pub takes-in : (i : Imported) (v : Verdict) (env : List Binding) → i ≡ there env → v ≡ Accepted → TakesIn i v
takes-in i v env e f = subst (λ x. TakesIn x v) (sym e) (subst (TakesIn (there env)) (sym f) tt)

pub inclusion-prefix : (word w : ℕ) (as_word a : Option ℕ) → inclusion word as_word ≡ inclusion w a → as_word ≡ a
inclusion-prefix word w as_word a e = cc

pub there-once : (env end : List Binding) → there env ≡ there end → env ≡ end
there-once env end e = cc

-- a statement binds in one way
pub binds-once : ((tokens : List Word) → HasOneTree tokens) → (s : Site) (n : ℕ) (v : Verdict) (a b : List Binding) → Binds s n v a → Binds s n v b → a ≡ b
binds-once one s n v a b (nothing e o) (nothing f q) = refl
binds-once one s n v a b (nothing e o) (again {name} f i) = absurd (none-some _ name e f)
binds-once one s n v a b (nothing e o) (anew {name} f i t) = absurd (none-some _ name e f)
binds-once one s n v a b (nothing e o) (imports {env} f t i) = absurd (o (takes-in s.imported v env i f))
binds-once one s n v a b (imports {env} f t i) (nothing e o) = absurd (o (takes-in s.imported v env i f))
binds-once one s n v a b (imports {word} {as_word} f t i) (again {name} e g) = absurd (imports-nothing s word as_word name t e)
binds-once one s n v a b (imports {word} {as_word} f t i) (anew {name} e g x) = absurd (imports-nothing s word as_word name t e)
binds-once one s n v a b (again {name} e g) (imports {word} {as_word} f t i) = absurd (imports-nothing s word as_word name t e)
binds-once one s n v a b (anew {name} e g x) (imports {word} {as_word} f t i) = absurd (imports-nothing s word as_word name t e)
binds-once one s n v a b (imports {word} {as_word} {env} f t i) (imports {word = w} {as_word = p} {env = end} g u j) =
    let prefixes = inclusion-prefix word w as_word p (one s.scope.words (inclusion word as_word) (inclusion w p) t u) in
    let envs = there-once env end (sym i ∙ j) in
    ap₂ (λ x y. s.scope.env ++ new_in s.scope.env (all_passed_on (prefix_at s.scope x) y)) prefixes envs
binds-once one s n v a b (again {name} f i) (nothing e o) = absurd (none-some _ name e f)
binds-once one s n v a b (again f i) (again g j) = refl
binds-once one s n v a b (again {name} f i) (anew {name = other} g j t) =
    let same = some-once (declared_name s.scope.words) name other f g in
    absurd (true-false (is_bound s.scope.env other) (subst (λ x. IsTrue (is_bound s.scope.env x)) same i) j)
binds-once one s n v a b (anew {name} f i t) (nothing e o) = absurd (none-some _ name e f)
binds-once one s n v a b (anew {name} f i t) (again {name = other} g j) =
    let same = some-once (declared_name s.scope.words) other name g f in
    absurd (true-false (is_bound s.scope.env name) (subst (λ x. IsTrue (is_bound s.scope.env x)) same j) i)
binds-once one s n v a b (anew {name} {sense} f i t) (anew {name = other} {sense = meant} g j u) =
    let same = some-once (declared_name s.scope.words) name other f g in
    let senses = stands-once one s v sense meant t u in
    ap₂ (λ x y. s.scope.env ++ record { name = x; origin = record { home = s.home; number = n }; sense = y } ∷ []) same senses
