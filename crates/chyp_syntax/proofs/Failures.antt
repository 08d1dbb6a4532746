-- The place where a chunk fails, and that each chunk is a sentence or fails.
use Rattle.std.proofs.Common.{◌≡◌, Result, Ok, Err, IfOk, ℕ, zero, suc, ◌+◌, ◌<◌, ◌≤◌, inl, inr, List, [], ◌∷◌, ◌++◌, length, take, drop, map, get_or, refl, sym, ◌∙◌, ap, subst, arith, append_assoc, length-append, length-drop, zero-add}
use Rattle.std.proofs.Math.Seq.{take-append_seam, drop-append_seam}
use Rattle.std.proofs.lemmas.List.{take_more, take-append-drop, length-take-le}
use Rattle.std.specs.List.{enumerate_from}
use Rattle.chyp_lex.specs.declared.token.TokenKind.TheVariants.{Ident}
use Rattle.chyp_syntax.specs.Expected.{statement, Verdict, accepted, stopped, verdict}
use Rattle.chyp_syntax.specs.Failing.{FailsAt, ArePrefixesClosed, IsSentenceOrFails}
use Rattle.chyp_syntax.specs.Numbered.{Terminal, terminal_of, NumberedToken, numbered}
use Rattle.chyp_syntax.specs.Beginning.{words_from, tokens_from}
use Rattle.chyp_syntax.specs.Words.{Word, words_of}
use Rattle.chyp_syntax.specs.Sentence.{IsStatement, IsSentence, IsPrefix}
use Rattle.chyp_syntax.specs.Statement.{statement_of}
use Rattle.chyp_syntax.specs.declared.statement.Ast.{Ast}
use Rattle.chyp_lex.specs.declared.token.Token.{Token}
use Rattle.chyp_syntax.proofs.Driving.{statement-drive}
use Rattle.chyp_syntax.proofs.Halting.{Halts, halts, never_accepted, completes}
use Rattle.chyp_syntax.proofs.Numbered.{length-terminals, length-numbered, length-words, same-numbered, words_from-at}
use Rattle.chyp_syntax.proofs.Sentences.{statement-tree}
use Rattle.chyp_syntax.proofs.Splits.{not-both}

-- ---- numbering

take-enumerate : (n k : ℕ) (xs : List Word) → take k (enumerate_from n (map terminal_of xs)) ≡ enumerate_from n (map terminal_of (take k xs))
take-enumerate n zero xs = refl
take-enumerate n (suc k) [] = refl
take-enumerate n (suc k) (x ∷ xs) = let p : NumberedToken = (n, terminal_of x) in ap (λ zs. p ∷ zs) (take-enumerate (n + 1) k xs)

enumerate-append : (n : ℕ) (xs ys : List Word)
    → enumerate_from n (map terminal_of (xs ++ ys)) ≡ enumerate_from n (map terminal_of xs) ++ enumerate_from (n + length xs) (map terminal_of ys)
enumerate-append n [] ys = let e : n ≡ n + 0 = omega arith in ap (λ m. enumerate_from m (map terminal_of ys)) e
enumerate-append n (x ∷ xs) ys =
    let p : NumberedToken = (n, terminal_of x) in
    let e : n + 1 + length xs ≡ n + suc (length xs) = omega arith in
    ap (λ zs. p ∷ zs) (enumerate-append (n + 1) xs ys ∙ ap (λ m. enumerate_from (n + 1) (map terminal_of xs) ++ enumerate_from m (map terminal_of ys)) e)

-- words of these terminal symbols
abbrev bare : List Terminal → List Word
bare [] = []
bare (t ∷ ts) = record { kind = t.kind; bytes = []; value = t.value } ∷ bare ts

terminals-bare : (ts : List Terminal) → map terminal_of (bare ts) ≡ ts
terminals-bare [] = refl
terminals-bare (t ∷ ts) = ap (λ us. t ∷ us) (terminals-bare ts)

-- the words in front of the place
front-of : (words : List Word) (k : ℕ) (front : List NumberedToken) → k ≤ length words → numbered words ≡ front ++ words_from words k → front ≡ numbered (take k words)
front-of words k front le joined =
    let long : length front ≡ k = omega (arith, ap length joined, length-append front (words_from words k), length-drop k (numbered words), length-numbered words) in
    sym (take-append_seam front (words_from words k)) ∙ ap (take (length front)) (sym joined) ∙ ap (λ n. take n (numbered words)) long ∙ take-enumerate 0 k words

-- ---- a chunk fails

can-go-on : (words : List Word) (k : ℕ) → k ≤ length words → Halts statement (numbered words) (words_from words k) → IsPrefix (take k words)
can-go-on words k le h =
    let c = completes h.left (0 + length (take k words)) h.fine_left in
    let front = front-of words k h.front le h.joined in
    let number = 0 + length (take k words) in
    let all : numbered (take k words ++ bare c.tokens) ≡ h.front ++ enumerate_from number c.tokens =
    enumerate-append 0 (take k words) (bare c.tokens) ∙ ap (λ ts. numbered (take k words) ++ enumerate_from number ts) (terminals-bare c.tokens)
    ∙ ap (λ zs. zs ++ enumerate_from number c.tokens) (sym front) in
    let tree = statement-tree (numbered (take k words ++ bare c.tokens)) (ap (verdict statement) all ∙ h.leads (enumerate_from number c.tokens) ∙ c.accepts) in
    (bare c.tokens, tree.0, record { statement = tree.1 })

cannot-go-on : (words : List Word) (k : ℕ) → verdict statement (numbered words) ≡ stopped (words_from words k) → k < length words → IsPrefix (take (k + 1) words) → ⊥
cannot-go-on words k is lt p =
    let d : Word = record { kind = Ident; bytes = []; value = 0 } in
    let here = words_from-at words k d lt in
    let t : Word = get_or words k d in
    let y : NumberedToken = (k, terminal_of t) in
    let ys = words_from words (k + 1) in
    let h = halts (numbered words) statement (y ∷ ys) refl (is ∙ ap stopped here) in
    let le : k ≤ length words = omega arith in
    let front = front-of words k h.front le (h.joined ∙ ap (λ zs. h.front ++ zs) (sym here)) in
    let number : 0 + length (take k words) ≡ k = zero-add (length (take k words)) ∙ length-take-le k words le in
    let rest = p.0 in
    let more : take (k + 1) words ++ rest ≡ take k words ++ t ∷ rest = ap (λ zs. zs ++ rest) (take_more words k d lt) ∙ append_assoc (take k words) (t ∷ []) rest in
    let all : numbered (take (k + 1) words ++ rest) ≡ h.front ++ y ∷ enumerate_from (k + 1) (map terminal_of rest) =
    ap numbered more ∙ enumerate-append 0 (take k words) (t ∷ rest) ∙ ap (λ n. numbered (take k words) ++ enumerate_from n (map terminal_of (t ∷ rest))) number
    ∙ ap (λ zs. zs ++ y ∷ enumerate_from (k + 1) (map terminal_of rest)) (sym front) in
    never_accepted statement (numbered words) ys y h (enumerate_from (k + 1) (map terminal_of rest)) (ap (verdict statement) (sym all) ∙ statement-drive p.2.statement)

pub fails_at : (words : List Word) (k : ℕ) → k ≤ length words → verdict statement (numbered words) ≡ stopped (words_from words k) → FailsAt words k
fails_at words k le is = record {
  no_sentence = λ tree s. not-both (words_from words k) (sym is ∙ statement-drive s.statement);
  within = le;
  before = can-go-on words k le (halts (numbered words) statement (words_from words k) refl is);
  refused = cannot-go-on words k is;
}

-- ---- laws

pub are_prefixes_closed : (words : List Word) → ArePrefixesClosed words
are_prefixes_closed words k p =
    let all : take k words ++ (drop k words ++ p.0) ≡ words ++ p.0 = sym (append_assoc (take k words) (drop k words) p.0) ∙ ap (λ zs. zs ++ p.0) (take-append-drop k words) in
    (drop k words ++ p.0, p.1, subst (λ zs. IsSentence zs p.1) (sym all) p.2)

fails-somewhere : (words : List Word) (ys : List NumberedToken) → verdict statement (numbered words) ≡ stopped ys → (k : ℕ) × FailsAt words k
fails-somewhere words ys is =
    let h = halts (numbered words) statement ys refl is in
    let k = length h.front in
    let le : k ≤ length words = omega (arith, ap length h.joined, length-append h.front ys, length-numbered words) in
    let there : words_from words k ≡ ys = ap (drop k) h.joined ∙ drop-append_seam h.front ys in
    (k, fails_at words k le (is ∙ ap stopped (sym there)))

pub is_sentence_or_fails : (words : List Word) → IsSentenceOrFails words
is_sentence_or_fails words = go (verdict statement (numbered words)) refl
  where
    go : (v : Verdict) → verdict statement (numbered words) ≡ v → IsSentenceOrFails words
    go accepted is = let tree = statement-tree (numbered words) is in inl (tree.0, record { statement = tree.1 })
    go (stopped ys) is = inr (fails-somewhere words ys is)

-- ---- words of tokens, whatever their text

pub fails_words : (text : List ℕ) (tokens : List Token) (k : ℕ) → k ≤ length tokens → verdict statement (tokens_from tokens 0) ≡ stopped (tokens_from tokens k)
    → FailsAt (words_of text tokens) k
fails_words text tokens k le is =
    let same = same-numbered text tokens in
    let within : k ≤ length (words_of text tokens) = omega (arith, length-words text tokens) in
    fails_at (words_of text tokens) k within (ap (verdict statement) same ∙ is ∙ ap (λ ts. stopped (drop k ts)) (sym same))

pub is_sentence_of : {E : Type 0} (tokens : List Token) (result : Result Ast E) → IfOk result (λ ast. IsStatement (tokens_from tokens 0) (statement_of ast))
    → IfOk result (λ ast. (text : List ℕ) → IsSentence (words_of text tokens) (statement_of ast))
is_sentence_of tokens (Ok ast) is = λ text. record { statement = subst (λ ts. IsStatement ts (statement_of ast)) (sym (same-numbered text tokens)) is }
is_sentence_of tokens (Err e) is = tt
