-- The tokens of a sentence's tree stand in the sentence.
use Rattle.std.proofs.Common.{◌≡◌, ℕ, zero, suc, ◌+◌, ◌<◌, ◌≤◌, List, [], ◌∷◌, ◌++◌, length, map, Option, Some, None, slice_get, subst, arith}
use Rattle.std.specs.List.{AllByRecursion, enumerate_from}
use Rattle.chyp_syntax.specs.declared.step.ReasonAst.{ReasonAst}
use Rattle.chyp_syntax.specs.declared.step.SignedAst.{SignedAst}
use Rattle.chyp_syntax.specs.Numbered.{NumberedToken, Terminal, numbered, terminal_of}
use Rattle.chyp_syntax.specs.Sentence.{IsSwap, two_places, these_places, IsAtom, a_name, an_id, an_id0, a_swap, in_parentheses}
use Rattle.chyp_syntax.specs.Sentence.{AreAtoms, one_atom, more_atoms, IsPar, tensor, ArePars, one_par, more_pars, IsTerm, composite}
use Rattle.chyp_syntax.specs.Sentence.{IsSigned, forwards, backwards, AreSigned, one_signed, more_signed, IsReason, none, by_rule, by_simp, to_term, to_hole, AreSteps, no_step, last_hole, more_steps}
use Rattle.chyp_syntax.specs.Sentence.{IsStatement, is_gen, is_let, is_rule, is_rewrite, is_import, is_import_as, is_show}
use Rattle.chyp_syntax.specs.Statement.{StatementTree, showing}
use Rattle.chyp_syntax.specs.Step.{StepTree}
use Rattle.chyp_syntax.specs.Term.{TermTree, TermTrees, named, wire, empty, swap, chain, beside, no_terms, term, terms_of, chain_of, tensor_of}
use Rattle.chyp_syntax.specs.Words.{Word}
use Rattle.chyp_syntax.proofs.Numbered.{length-terminals}
use Rattle.chyp_names.specs.Naming.{names_of_reason}
use Rattle.chyp_names.specs.Trees.{first_tree, steps_of}

-- ---- lists

module _ {A : Type 0} (P : A → Type 0) where
  all-front : (xs ys : List A) → AllByRecursion P (xs ++ ys) → AllByRecursion P xs
  all-front [] ys h = tt
  all-front (x ∷ xs) ys h = (h.0, all-front xs ys h.1)

  all-behind : (xs ys : List A) → AllByRecursion P (xs ++ ys) → AllByRecursion P ys
  all-behind [] ys h = h
  all-behind (x ∷ xs) ys h = all-behind xs ys h.1

  pub all-mapped : {B : Type 0} (f : B → A) (xs : List B) → AllByRecursion (λ x. P (f x)) xs → AllByRecursion P (map f xs)
  all-mapped f [] h = tt
  all-mapped f (x ∷ xs) h = (h.0, all-mapped f xs h.1)

  pub all-at : (xs : List A) (k : ℕ) (x : A) → slice_get xs k ≡ Some x → AllByRecursion P xs → P x
  all-at [] k x e h = absurd cc
  all-at (y ∷ ys) zero x e h = let same : y ≡ x = cc in subst P same h.0
  all-at (y ∷ ys) (suc k) x e h = all-at ys k x e h.1

-- no number of these is greater
abbrev pub AreWithin : ℕ → List ℕ → Type 0
AreWithin n numbers = AllByRecursion (λ (k : ℕ). k ≤ n) numbers

-- nor are those of these tokens
abbrev pub TokensWithin : ℕ → List NumberedToken → Type 0
TokensWithin n tokens = AllByRecursion (λ (t : NumberedToken). t.0 ≤ n) tokens

tokens-front : (n : ℕ) (xs ys : List NumberedToken) → TokensWithin n (xs ++ ys) → TokensWithin n xs
tokens-front n = all-front (λ (t : NumberedToken). t.0 ≤ n)

tokens-behind : (n : ℕ) (xs ys : List NumberedToken) → TokensWithin n (xs ++ ys) → TokensWithin n ys
tokens-behind n = all-behind (λ (t : NumberedToken). t.0 ≤ n)

-- the numbers of words
pub words-within : (n : ℕ) (words : List Word) → length words ≤ n → TokensWithin n (numbered words)
words-within n words h = go 0 (map terminal_of words) (omega (arith, length-terminals words))
  where
    go : (i : ℕ) (xs : List Terminal) → i + length xs ≤ n → TokensWithin n (enumerate_from i xs)
    go i [] h = tt
    go i (x ∷ xs) h = (omega arith, go (i + 1) xs (omega arith))

-- ---- trees

abbrev mutual
  -- the tokens of a tree stand no later
  pub TreeWithin : ℕ → TermTree → Type 0
  TreeWithin n (named token) = token ≤ n
  TreeWithin n wire = Unit {0}
  TreeWithin n empty = Unit {0}
  TreeWithin n (swap token places) = token ≤ n
  TreeWithin n (chain parts semis) = TreesWithin n parts × AreWithin n semis
  TreeWithin n (beside parts) = TreesWithin n parts

  pub TreesWithin : ℕ → TermTrees → Type 0
  TreesWithin n no_terms = Unit {0}
  TreesWithin n (term first rest) = TreeWithin n first × TreesWithin n rest

tensor-within : (n : ℕ) (trees : List TermTree) → TreesWithin n (terms_of trees) → TreeWithin n (tensor_of trees)
tensor-within n [] h = tt
tensor-within n (tree ∷ []) h = h.0
tensor-within n (tree ∷ next ∷ trees) h = h

chain-within : (n : ℕ) (trees : List TermTree) (semis : List ℕ) → TreesWithin n (terms_of trees) → AreWithin n semis → TreeWithin n (chain_of trees semis)
chain-within n [] semis h s = (tt, s)
chain-within n (tree ∷ []) semis h s = h.0
chain-within n (tree ∷ next ∷ trees) semis h s = (h, s)

swap-within : (n : ℕ) {xs : List NumberedToken} {t : TermTree} → IsSwap xs t → TokensWithin n xs → TreeWithin n t
swap-within n (two_places is) h = h.0
swap-within n (these_places close is opens are closes) h = h.0

mutual
  atom-within : (n : ℕ) {depth : ℕ} {xs : List NumberedToken} {t : TermTree} → IsAtom depth xs t → TokensWithin n xs → TreeWithin n t
  atom-within n (a_name is) h = h.0
  atom-within n (an_id is) h = tt
  atom-within n (an_id0 is) h = tt
  atom-within n (a_swap is) h = swap-within n is h
  atom-within n (in_parentheses close {inner} opens is closes) h = term-within n is (tokens-front n inner (close ∷ []) h.1)

  atoms-within : (n : ℕ) {depth : ℕ} {xs : List NumberedToken} {ts : List TermTree} → AreAtoms depth xs ts → TokensWithin n xs → TreesWithin n (terms_of ts)
  atoms-within n (one_atom is) h = (atom-within n is h, tt)
  atoms-within n (more_atoms {atom} {rest} star is stars are) h =
      (atom-within n is (tokens-front n atom (star ∷ rest) h), atoms-within n are (tokens-behind n atom (star ∷ rest) h).1)

  par-within : (n : ℕ) {depth : ℕ} {xs : List NumberedToken} {t : TermTree} → IsPar depth xs t → TokensWithin n xs → TreeWithin n t
  par-within n (tensor {trees} are) h = tensor-within n trees (atoms-within n are h)

  pars-within : (n : ℕ) {depth : ℕ} {xs : List NumberedToken} {ts : List TermTree} {ms : List ℕ} → ArePars depth xs ts ms → TokensWithin n xs
      → TreesWithin n (terms_of ts) × AreWithin n ms
  pars-within n (one_par is) h = ((par-within n is h, tt), tt)
  pars-within n (more_pars {par} {rest} semi is semis are) h =
      let later = tokens-behind n par (semi ∷ rest) h in
      let all = pars-within n are later.1 in
      ((par-within n is (tokens-front n par (semi ∷ rest) h), all.0), (later.0, all.1))

  term-within : (n : ℕ) {depth : ℕ} {xs : List NumberedToken} {t : TermTree} → IsTerm depth xs t → TokensWithin n xs → TreeWithin n t
  term-within n (composite {trees} {semis} are) h = let all = pars-within n are h in chain-within n trees semis all.0 all.1

-- ---- steps

signed-within : (n : ℕ) {xs : List NumberedToken} {s : SignedAst} → IsSigned xs s → TokensWithin n xs → s.name ≤ n
signed-within n (forwards is) h = h.0
signed-within n (backwards minus is) h = h.1.0

all-signed-within : (n : ℕ) {xs : List NumberedToken} {ss : List SignedAst} → AreSigned xs ss → TokensWithin n xs → AreWithin n (map (λ (s : SignedAst). s.name) ss)
all-signed-within n (one_signed is) h = (signed-within n is h, tt)
all-signed-within n (more_signed {tokens} {rest} comma is commas are) h =
    (signed-within n is (tokens-front n tokens (comma ∷ rest) h), all-signed-within n are (tokens-behind n tokens (comma ∷ rest) h).1)

reason-within : (n : ℕ) {xs : List NumberedToken} {r : ReasonAst} → IsReason xs r → TokensWithin n xs → AreWithin n (names_of_reason r)
reason-within n none h = tt
reason-within n (by_rule by is) h = (signed-within n is h.1, tt)
reason-within n (by_simp close {tokens} by simp opens are closes) h = all-signed-within n are (tokens-front n tokens (close ∷ []) h.1.1.1)

-- the tokens of a goal stand no later
abbrev pub GoalWithin : ℕ → Option TermTree → Type 0
GoalWithin n None = Unit {0}
GoalWithin n (Some tree) = TreeWithin n tree

-- nor do those of a step
abbrev pub StepWithin : ℕ → StepTree → Type 0
StepWithin n step = (step.equals ≤ n) × GoalWithin n step.goal × AreWithin n (names_of_reason step.reason)

steps-within : (n : ℕ) {xs : List NumberedToken} {steps : List StepTree} → AreSteps xs steps → TokensWithin n xs → AllByRecursion (StepWithin n) steps
steps-within n no_step h = tt
steps-within n (last_hole (to_hole equals mark is)) h = ((h.0, tt, reason-within n is h.1.1), tt)
steps-within n (more_steps {rest} (to_term {equals = e} {term = xs} {by} equals is reason) are) h =
    let own = tokens-front n (e ∷ (xs ++ by)) rest h in (
      (own.0, term-within n is (tokens-front n xs by own.1), reason-within n reason (tokens-behind n xs by own.1)),
      steps-within n are (tokens-behind n (e ∷ (xs ++ by)) rest h),
    )

-- ---- statements

-- the tokens that a statement uses stand no later
abbrev pub StatementWithin : ℕ → StatementTree → Type 0
StatementWithin n (showing name) = name ≤ n
StatementWithin n tree = GoalWithin n (first_tree tree) × AllByRecursion (StepWithin n) (steps_of tree)

pub statement-within : (n : ℕ) {xs : List NumberedToken} {tree : StatementTree} → IsStatement xs tree → TokensWithin n xs → StatementWithin n tree
statement-within n (is_gen a b c d e f) h = (tt, tt)
statement-within n (is_let a b c is) h = (term-within n is h.1.1.1, tt)
statement-within n (is_rule equals {left} {right} a b c is e other) h =
    let later = tokens-behind n left (equals ∷ right) h.1.1.1 in
    (term-within n is (tokens-front n left (equals ∷ right) h.1.1.1), ((later.0, term-within n other later.1, tt), tt))
statement-within n (is_rewrite {term = xs} {rest} a b c is are) h =
    (term-within n is (tokens-front n xs rest h.1.1.1), steps-within n are (tokens-behind n xs rest h.1.1.1))
statement-within n (is_import a b) h = (tt, tt)
statement-within n (is_import_as a b c d) h = (tt, tt)
statement-within n (is_show a b) h = h.1.0

-- a statement has two words
pub statement-long : {xs : List NumberedToken} {tree : StatementTree} → IsStatement xs tree → 1 < length xs
statement-long (is_gen a b c d e f) = omega arith
statement-long (is_let a b c is) = omega arith
statement-long (is_rule equals a b c is e other) = omega arith
statement-long (is_rewrite a b c is are) = omega arith
statement-long (is_import a b) = omega arith
statement-long (is_import_as a b c d) = omega arith
statement-long (is_show a b) = omega arith
