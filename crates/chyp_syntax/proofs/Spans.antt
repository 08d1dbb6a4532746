-- Where the tokens of a statement lie.
use Rattle.std.proofs.Common.{◌≡◌, ℕ, zero, suc, ◌+◌, ◌-◌, ◌<◌, ◌≤◌, List, [], ◌∷◌, length, take, drop, Option, Some, None, slice_get, slice_index_or, refl, ◌∙◌, ap, subst, arith}
use Rattle.std.specs.Option.{option_map_or}
use Rattle.std.proofs.lemmas.Option.{slice_get-get_or}
use Rattle.chyp_lex.specs.declared.token.Token.{Token}
use Rattle.chyp_lex.specs.Tokens.{AreSpans, AreSpansFrom}
use Rattle.chyp_syntax.specs.declared.chunk.Chunk.{Chunk}
use Rattle.chyp_syntax.specs.Chunk.{AreChunks, Tile}
use Rattle.chyp_syntax.specs.Heading.{chunk_tokens, token_start, end_of}
use Rattle.chyp_syntax.proofs.Tiling.{Tile-le}
use Rattle.chyp_lex.proofs.TokenLists.{AreSpansFrom-le}

pub spans_lower : (low lower high : ℕ) (tokens : List Token) → lower ≤ low → AreSpansFrom low high tokens → AreSpansFrom lower high tokens
spans_lower low lower high [] le h = omega arith
spans_lower low lower high (t ∷ ts) le h = (omega arith, h.1, h.2)

pub spans_drop : (low high n : ℕ) (tokens : List Token) → AreSpansFrom low high tokens → AreSpansFrom low high (drop n tokens)
spans_drop low high zero ts h = h
spans_drop low high (suc n) [] h = h
spans_drop low high (suc n) (t ∷ ts) h =
    spans_lower (t.start + t.len) low high (drop n ts) (omega arith) (spans_drop (t.start + t.len) high n ts h.2)

pub spans_take : (low high n : ℕ) (tokens : List Token) → AreSpansFrom low high tokens → AreSpansFrom low high (take n tokens)
spans_take low high zero ts h = AreSpansFrom-le low high ts h
spans_take low high (suc n) [] h = h
spans_take low high (suc n) (t ∷ ts) h = (h.0, h.1, spans_take (t.start + t.len) high n ts h.2)

-- the tokens of a chunk lie in order too
pub statement_spans : (size : ℕ) (tokens : List Token) (chunk : Chunk) → AreSpans size tokens → AreSpans size (chunk_tokens tokens chunk)
statement_spans size tokens chunk h = spans_take 0 size chunk.count (drop chunk.first tokens) (spans_drop 0 size chunk.first tokens h)

-- each token lies between the two ends
pub span_within : (low high k : ℕ) (t : Token) (tokens : List Token) → AreSpansFrom low high tokens → slice_get tokens k ≡ Some t
    → (low ≤ t.start) × (t.start + t.len ≤ high)
span_within low high k t [] h e = absurd cc
span_within low high zero t (s ∷ ts) h e = let same : s ≡ t = cc in
    let bound = AreSpansFrom-le (s.start + s.len) high ts h.2 in
    let P : Token → Type 0 = λ x. (low ≤ x.start) × (x.start + x.len ≤ high) in subst P same (h.0, bound)
span_within low high (suc k) t (s ∷ ts) h e = let rest = span_within (s.start + s.len) high k t ts h.2 e in (omega arith, rest.1)

last_there : (token : Token) (tokens : List Token) → (t : Token) × (slice_get (token ∷ tokens) (length (token ∷ tokens) - 1) ≡ Some t)
last_there token [] = (token, refl)
last_there token (t ∷ ts) =
    let rest = last_there t ts in
    let e : length (token ∷ t ∷ ts) - 1 ≡ suc (length (t ∷ ts) - 1) = omega arith in
    (rest.0, ap (slice_get (token ∷ t ∷ ts)) e ∙ rest.1)

-- the places of a statement's tokens lie between the two ends
pub start_within : (low high k : ℕ) (token : Token) (tokens : List Token) → AreSpansFrom low high (token ∷ tokens)
    → (low ≤ token_start (token ∷ tokens) k) × (token_start (token ∷ tokens) k ≤ high)
start_within low high k token tokens h = go (slice_get (token ∷ tokens) k) refl
  where
    go : (at : Option Token) → slice_get (token ∷ tokens) k ≡ at
        → (low ≤ option_map_or (λ t. t.start) at (option_map_or end_of (slice_get (token ∷ tokens) (length (token ∷ tokens) - 1)) 0))
        × (option_map_or (λ t. t.start) at (option_map_or end_of (slice_get (token ∷ tokens) (length (token ∷ tokens) - 1)) 0) ≤ high)
    go (Some t) e = let w = span_within low high k t (token ∷ tokens) h e in (w.0, omega arith)
    go None e =
        let l = last_there token tokens in
        let w = span_within low high _ l.0 (token ∷ tokens) h l.1 in
        let end : option_map_or end_of (slice_get (token ∷ tokens) (length (token ∷ tokens) - 1)) 0 ≡ end_of l.0 = ap (λ o. option_map_or end_of o 0) l.1 in
        (omega arith, omega arith)

-- no token of a statement begins in front of its first
pub starts_after_first : (size k : ℕ) (tokens : List Token) → AreSpans size tokens → token_start tokens 0 ≤ token_start tokens k
starts_after_first size k [] h = omega arith
starts_after_first size k (t ∷ ts) h = (start_within t.start size k t ts (omega arith, h.1, h.2)).0

-- the places of a statement's tokens lie in the text
pub starts_within : (size k : ℕ) (tokens : List Token) → AreSpans size tokens → token_start tokens k ≤ size
starts_within size k [] h = h
starts_within size k (t ∷ ts) h = (start_within 0 size k t ts h).1

-- tokens begin in their order
pub starts_in_order : (low high j k : ℕ) (a b : Token) (tokens : List Token) → AreSpansFrom low high tokens → j ≤ k
    → slice_get tokens j ≡ Some a → slice_get tokens k ≡ Some b → a.start ≤ b.start
starts_in_order low high j k a b [] h le e f = absurd cc
starts_in_order low high zero zero a b (t ∷ ts) h le e f = let same : a ≡ b = cc in subst (λ (x : Token). a.start ≤ x.start) same (omega arith)
starts_in_order low high zero (suc k) a b (t ∷ ts) h le e f =
    let same : t ≡ a = cc in
    let w = span_within (t.start + t.len) high k b ts h.2 f in
    subst (λ (x : Token). x.start ≤ b.start) same (omega arith)
starts_in_order low high (suc j) zero a b (t ∷ ts) h le e f = absurd (omega arith)
starts_in_order low high (suc j) (suc k) a b (t ∷ ts) h le e f = starts_in_order (t.start + t.len) high j k a b ts h.2 (omega arith) e f

-- a chunk lies between the two ends, and has a token
pub tile_within : (start end k : ℕ) (chunk : Chunk) (chunks : List Chunk) → Tile start chunks end → slice_get chunks k ≡ Some chunk
    → (start ≤ chunk.first) × (0 < chunk.count) × (chunk.first + chunk.count ≤ end)
tile_within start end k chunk [] h e = absurd cc
tile_within start end zero chunk (c ∷ cs) h e =
    let same : c ≡ chunk = cc in
    let rest = Tile-le (start + c.count) end cs h.2 in
    subst (λ (x : Chunk). (start ≤ x.first) × (0 < x.count) × (x.first + x.count ≤ end)) same (omega arith, h.1, omega arith)
tile_within start end (suc k) chunk (c ∷ cs) h e = let rest = tile_within (start + c.count) end k chunk cs h.2 e in (omega arith, rest.1, rest.2)

-- chunks begin in their order
pub tile_in_order : (start end j k : ℕ) (a b : Chunk) (chunks : List Chunk) → Tile start chunks end → j ≤ k
    → slice_get chunks j ≡ Some a → slice_get chunks k ≡ Some b → a.first ≤ b.first
tile_in_order start end j k a b [] h le e f = absurd cc
tile_in_order start end zero zero a b (c ∷ cs) h le e f = let same : a ≡ b = cc in subst (λ (x : Chunk). a.first ≤ x.first) same (omega arith)
tile_in_order start end zero (suc k) a b (c ∷ cs) h le e f =
    let same : c ≡ a = cc in
    let w = tile_within (start + c.count) end k b cs h.2 f in
    subst (λ (x : Chunk). x.first ≤ b.first) same (omega arith)
tile_in_order start end (suc j) zero a b (c ∷ cs) h le e f = absurd (omega arith)
tile_in_order start end (suc j) (suc k) a b (c ∷ cs) h le e f = tile_in_order (start + c.count) end j k a b cs h.2 (omega arith) e f

get-drop : {A : Type 0} (n : ℕ) (xs : List A) → slice_get (drop n xs) 0 ≡ slice_get xs n
get-drop zero [] = refl
get-drop zero (x ∷ xs) = refl
get-drop (suc n) [] = refl
get-drop (suc n) (x ∷ xs) = get-drop n xs

pub there : {A : Type 0} (n : ℕ) (xs : List A) → n < length xs → (x : A) × (slice_get xs n ≡ Some x)
there n [] h = absurd (omega arith)
there zero (x ∷ xs) h = (x, refl)
there (suc n) (x ∷ xs) h = there n xs (omega arith)

get-take : {A : Type 0} (n : ℕ) (xs : List A) → 0 < n → slice_get (take n xs) 0 ≡ slice_get xs 0
get-take zero xs h = absurd (omega arith)
get-take (suc n) [] h = refl
get-take (suc n) (x ∷ xs) h = refl

-- a statement begins where its first token does
pub start_of_chunk : (tokens : List Token) (chunk : Chunk) → 0 < chunk.count → chunk.first + chunk.count ≤ length tokens
    → (t : Token) × (slice_get tokens chunk.first ≡ Some t) × (token_start (chunk_tokens tokens chunk) 0 ≡ t.start)
start_of_chunk tokens chunk some within =
    let t = there chunk.first tokens (omega arith) in
    let e = get-take chunk.count (drop chunk.first tokens) some ∙ get-drop chunk.first tokens ∙ t.1 in
    (t.0, t.1, ap (λ o. option_map_or (λ x. x.start) o (option_map_or end_of (slice_get (chunk_tokens tokens chunk) (length (chunk_tokens tokens chunk) - 1)) 0)) e)

-- statements begin in their order
pub statements_in_order : (size j k : ℕ) (a b : Chunk) (tokens : List Token) (chunks : List Chunk) → AreSpans size tokens → AreChunks tokens chunks → j ≤ k
    → slice_get chunks j ≡ Some a → slice_get chunks k ≡ Some b → token_start (chunk_tokens tokens a) 0 ≤ token_start (chunk_tokens tokens b) 0
statements_in_order size j k a b tokens chunks spans are le e f =
    let wa = tile_within 0 (length tokens) j a chunks are.tile e in
    let wb = tile_within 0 (length tokens) k b chunks are.tile f in
    let sa = start_of_chunk tokens a wa.1 wa.2 in
    let sb = start_of_chunk tokens b wb.1 wb.2 in
    let order = tile_in_order 0 (length tokens) j k a b chunks are.tile le e f in
    let h = starts_in_order 0 size a.first b.first sa.0 sb.0 tokens spans order sa.1 sb.1 in
    omega (arith, sa.2, sb.2)

-- there are no more tokens than bytes
pub spans_few : (low high : ℕ) (tokens : List Token) → AreSpansFrom low high tokens → low + length tokens ≤ high
spans_few low high [] h = omega arith
spans_few low high (t ∷ ts) h = let rest = spans_few (t.start + t.len) high ts h.2 in let some = h.1 in let after = h.0 in omega arith

-- the chunk at a place, where there is one
abbrev pub here : List Chunk → ℕ → Chunk
here chunks at = slice_index_or chunks at (record { first = 0; count = 0 })

pub is_here : (chunks : List Chunk) (at : ℕ) → at < length chunks → slice_get chunks at ≡ Some (here chunks at)
is_here chunks at h = slice_get-get_or chunks at (record { first = 0; count = 0 }) h

-- behind the end of a list stands nothing
pub nothing_there : {A : Type 0} (n : ℕ) (xs : List A) → length xs ≤ n → slice_get xs n ≡ None
nothing_there n [] h = refl
nothing_there zero (x ∷ xs) h = absurd (omega arith)
nothing_there (suc n) (x ∷ xs) h = nothing_there n xs (omega arith)
