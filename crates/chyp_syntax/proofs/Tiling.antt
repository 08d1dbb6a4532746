-- Lists of chunks: how one grows with its tokens, and that the same tokens have one alone.
use Rattle.std.proofs.Common.{◌≡◌, ℕ, zero, suc, ◌+◌, ◌<◌, ◌≤◌, ◌⊎◌, false, IsTrue, List, [], ◌∷◌, ◌++◌, length, map, Contains, slice_get, get_or, set, Some, All, refl, sym, ◌∙◌, ap, ap₂, subst, inl, inr, arith, append_assoc, append-nil, true≢false}
use Rattle.std.proofs.lemmas.Bool.{cases_Bool, cases_order}
use Rattle.std.proofs.lemmas.List.{length_push, map_push, get_or_at, set_at}
use Rattle.std.proofs.lemmas.List.Elements.{Contains-append_cases, Contains-append_left, Contains-append_right, Contains-push, Contains-push_cases, All-nil, All-cons}
use Rattle.std.proofs.lemmas.Option.{slice_get_within, slice_get_cases}
use Rattle.chyp_lex.specs.declared.token.Token.{Token}
use Rattle.chyp_syntax.specs.declared.chunk.Chunk.{Chunk}
use Rattle.chyp_syntax.specs.Chunk.{is_statement_keyword, Tile, AreChunks, HasOneListOfChunks}

abbrev firsts : List Chunk → List ℕ
firsts chunks = map (λ (chunk : Chunk). chunk.first) chunks

-- an element of a list that has one more at its end
slice_get_push : {X : Type 0} (xs : List X) (x : X) (i : ℕ) (y : X) → slice_get (xs ++ x ∷ []) i ≡ Some y →
    (slice_get xs i ≡ Some y) ⊎ ((i ≡ length xs) × (x ≡ y))
slice_get_push [] x zero y e = let same : x ≡ y = cc in inr (refl, same)
slice_get_push [] x (suc i) y e = cc
slice_get_push (a ∷ xs) x zero y e = inl e
slice_get_push (a ∷ xs) x (suc i) y e =
    elim (slice_get_push xs x i y e) [ inl p ↦ inl p | inr q ↦ inr (ap suc q.0, q.1) ]

Contains-single : (a k : ℕ) → Contains (a ∷ []) k → a ≡ k
Contains-single a k (zero, within, same) = same
Contains-single a k (suc i, within, same) = absurd (omega arith)

-- ---- tilings

pub Tile-le : (start end : ℕ) (chunks : List Chunk) → Tile start chunks end → start ≤ end
Tile-le start end [] tile = omega arith
Tile-le start end (c ∷ cs) tile = omega (arith, Tile-le (start + c.count) end cs tile.2)

Tile-push : (start end : ℕ) (chunks : List Chunk) (last : Chunk) → Tile start chunks end → last.first ≡ end → 0 < last.count →
    Tile start (chunks ++ last ∷ []) (end + last.count)
Tile-push start end [] last tile first some = (first ∙ sym tile, some, ap (λ n. n + last.count) tile)
Tile-push start end (c ∷ cs) last tile first some = (tile.0, tile.1, Tile-push (start + c.count) end cs last tile.2 first some)

Tile-longer : (start end : ℕ) (chunks : List Chunk) (last longer : Chunk) → Tile start (chunks ++ last ∷ []) end →
    longer.first ≡ last.first → longer.count ≡ last.count + 1 → Tile start (chunks ++ longer ∷ []) (end + 1)
Tile-longer start end [] last longer tile first count =
    let t : start + last.count ≡ end = tile.2 in (first ∙ tile.0, omega arith, omega arith)
Tile-longer start end (c ∷ cs) last longer tile first count =
    (tile.0, tile.1, Tile-longer (start + c.count) end cs last longer tile.2 first count)

Tile-last : (start end : ℕ) (chunks : List Chunk) (last : Chunk) → Tile start (chunks ++ last ∷ []) end →
    (start < end) × (last.first + last.count ≡ end)
Tile-last start end [] last tile =
    let f : last.first ≡ start = tile.0 in
    let s : 0 < last.count = tile.1 in
    let t : start + last.count ≡ end = tile.2 in (omega arith, omega arith)
Tile-last start end (c ∷ cs) last tile =
    let h = Tile-last (start + c.count) end cs last tile.2 in (omega arith, h.1)

Tile-firsts : (start end k : ℕ) (chunks : List Chunk) → Tile start chunks end → Contains (firsts chunks) k → (start ≤ k) × (k < end)
Tile-firsts start end k [] tile (i, within, same) = absurd (omega arith)
Tile-firsts start end k (c ∷ cs) tile here =
    let f : c.first ≡ start = tile.0 in
    let s : 0 < c.count = tile.1 in
    let le = Tile-le (start + c.count) end cs tile.2 in
    elim (Contains-append_cases (c.first ∷ []) (firsts cs) k here) [
      | inl at ↦ let e = Contains-single c.first k at in (omega arith, omega arith)
      | inr later ↦ let h = Tile-firsts (start + c.count) end k cs tile.2 later in (omega arith, omega arith)
    ]

pub Tile-within : (start end : ℕ) (chunks : List Chunk) → Tile start chunks end → All (λ (c : Chunk). c.first + c.count ≤ end) chunks
Tile-within start end [] tile = All-nil (λ (c : Chunk). c.first + c.count ≤ end)
Tile-within start end (c ∷ cs) tile =
    let f : c.first ≡ start = tile.0 in
    let le = Tile-le (start + c.count) end cs tile.2 in
    All-cons (λ (c : Chunk). c.first + c.count ≤ end) c cs (omega arith) (Tile-within (start + c.count) end cs tile.2)

pub Tile-some : (start end : ℕ) (chunks : List Chunk) → Tile start chunks end → All (λ (c : Chunk). 0 < c.count) chunks
Tile-some start end [] tile = All-nil (λ (c : Chunk). 0 < c.count)
Tile-some start end (c ∷ cs) tile = All-cons (λ (c : Chunk). 0 < c.count) c cs tile.1 (Tile-some (start + c.count) end cs tile.2)

-- ---- one more token

pub AreChunks-nil : AreChunks [] []
AreChunks-nil = record { tile = refl; starts = λ at token e. cc }

-- a token that begins a chunk of its own
pub AreChunks-push : (tokens : List Token) (token : Token) (chunks : List Chunk) (last : Chunk) → AreChunks tokens chunks →
    (length tokens ≡ 0) ⊎ IsTrue (is_statement_keyword token.kind) → last.first ≡ length tokens → last.count ≡ 1 →
    AreChunks (tokens ++ token ∷ []) (chunks ++ last ∷ [])
AreChunks-push tokens token chunks last are begins first count = record {
  tile =
      subst (λ n. Tile 0 (chunks ++ last ∷ []) n) (ap (λ n. length tokens + n) count ∙ sym (length_push tokens token)) (
      Tile-push 0 (length tokens) chunks last are.tile first (omega arith)
      );
  starts = λ at t e.
      let firsts_are : firsts (chunks ++ last ∷ []) ≡ firsts chunks ++ last.first ∷ [] = map_push (λ (chunk : Chunk). chunk.first) chunks last in
      elim (slice_get_push tokens token at t e) [
        | inl before ↦ (
          λ here. elim (Contains-push_cases (firsts chunks) last.first at (subst (λ xs. Contains xs at) firsts_are here)) [
            | inl there ↦ (are.starts at t before).0 there
            | inr same ↦ let lt = slice_get_within tokens at t before in absurd (omega arith)
          ],
          λ starts. subst (λ xs. Contains xs at) (sym firsts_are) (Contains-append_left (firsts chunks) (last.first ∷ []) at ((are.starts at t before).1 starts)),
        )
        | inr end ↦ (
          λ _. elim begins [
            | inl none ↦ inl (end.0 ∙ none)
            | inr keyword ↦ inr (subst (λ (x : Token). IsTrue (is_statement_keyword x.kind)) end.1 keyword)
          ],
          λ _. subst (λ xs. Contains xs at) (sym firsts_are) (subst (λ k. Contains (firsts chunks ++ last.first ∷ []) k) (first ∙ sym end.0) (Contains-push (firsts chunks) last.first)),
        )
      ];
}

-- a token that goes on with the last chunk
pub AreChunks-longer : (tokens : List Token) (token : Token) (chunks : List Chunk) (last longer : Chunk) → AreChunks tokens (chunks ++ last ∷ []) →
    is_statement_keyword token.kind ≡ false → longer.first ≡ last.first → longer.count ≡ last.count + 1 →
    AreChunks (tokens ++ token ∷ []) (chunks ++ longer ∷ [])
AreChunks-longer tokens token chunks last longer are goes_on first count = record {
  tile =
      subst (λ n. Tile 0 (chunks ++ longer ∷ []) n) (sym (length_push tokens token)) (
      Tile-longer 0 (length tokens) chunks last longer are.tile first count
      );
  starts = λ at t e.
      let same_firsts : firsts (chunks ++ longer ∷ []) ≡ firsts (chunks ++ last ∷ []) =
      map_push (λ (chunk : Chunk). chunk.first) chunks longer ∙ ap (λ k. firsts chunks ++ k ∷ []) first ∙ sym (map_push (λ (chunk : Chunk). chunk.first) chunks last) in
      elim (slice_get_push tokens token at t e) [
        | inl before ↦ (
          λ here. (are.starts at t before).0 (subst (λ xs. Contains xs at) same_firsts here),
          λ starts. subst (λ xs. Contains xs at) (sym same_firsts) ((are.starts at t before).1 starts),
        )
        | inr end ↦ (
          λ here. let h = Tile-firsts 0 (length tokens) at (chunks ++ last ∷ []) are.tile (subst (λ xs. Contains xs at) same_firsts here) in absurd (omega arith),
          λ starts. elim starts [
            | inl none ↦ let h = Tile-last 0 (length tokens) chunks last are.tile in absurd (omega arith)
            | inr keyword ↦ absurd (true≢false (sym keyword ∙ ap (λ (x : Token). is_statement_keyword x.kind) (sym end.1) ∙ goes_on))
          ],
        )
      ];
}

split_last : {X : Type 0} (x : X) (xs : List X) → (front : List X) × (last : X) × (x ∷ xs ≡ front ++ last ∷ [])
split_last x [] = ([], x, refl)
split_last x (y ∷ ys) = let h = split_last y ys in (x ∷ h.0, h.1, ap (λ zs. x ∷ zs) h.2)

split_end : {X : Type 0} (xs : List X) → 0 < length xs → (front : List X) × (last : X) × (xs ≡ front ++ last ∷ [])
split_end [] some = absurd (omega arith)
split_end (x ∷ xs) some = split_last x xs

-- the same, where the last chunk is written over
pub AreChunks-set : (tokens : List Token) (token : Token) (chunks : List Chunk) (last longer : Chunk) (n : ℕ) → AreChunks tokens chunks →
    0 < length chunks → length chunks ≡ n + 1 → last ≡ get_or chunks n last →
    is_statement_keyword token.kind ≡ false → longer.first ≡ last.first → longer.count ≡ last.count + 1 →
    AreChunks (tokens ++ token ∷ []) (set chunks n longer)
AreChunks-set tokens token chunks last longer n are some long read goes_on first count =
    let h = split_end chunks some in
    let place : length h.0 ≡ n = let e = sym (ap length h.2) ∙ long in let f = length_push h.0 h.1 in omega arith in
    let is_last : last ≡ h.1 = read ∙ ap (λ xs. get_or xs n last) h.2 ∙ get_or_at h.0 h.1 [] last n place in
    let made : set chunks n longer ≡ h.0 ++ longer ∷ [] = ap (λ xs. set xs n longer) h.2 ∙ set_at h.0 h.1 [] longer n place in
    subst (AreChunks (tokens ++ token ∷ [])) (sym made) (
    AreChunks-longer tokens token h.0 h.1 longer (subst (AreChunks tokens) h.2 are) goes_on
    (first ∙ ap (λ (x : Chunk). x.first) is_last) (count ∙ ap (λ (x : Chunk). x.count + 1) is_last)
    )

pub last_within : (tokens : List Token) (chunks : List Chunk) (last : Chunk) (n : ℕ) → AreChunks tokens chunks → n < length chunks →
    last ≡ get_or chunks n last → last.first + last.count ≤ length tokens
last_within tokens chunks last n are within read =
    subst (λ (x : Chunk). x.first + x.count ≤ length tokens) (sym read) (Tile-within 0 (length tokens) chunks are.tile n last within)

pub none_yet : (tokens : List Token) (chunks : List Chunk) → AreChunks tokens chunks → length chunks ≡ 0 → length tokens ≡ 0
none_yet tokens [] are none = sym are.tile
none_yet tokens (c ∷ cs) are none = absurd (omega arith)

-- ---- one list alone

same_chunk : (c d : Chunk) → c.first ≡ d.first → c.count ≡ d.count → c ≡ d
same_chunk c d first count = ap₂ (λ (m n : ℕ). let chunk : Chunk = record { first = m; count = n } in chunk) first count

-- both lists begin their chunks at the same places
abbrev SameFirsts : ℕ → ℕ → List Chunk → List Chunk → Type 0
SameFirsts start end cs ds = (k : ℕ) → start ≤ k → k < end → Contains (firsts cs) k → Contains (firsts ds) k

not_longer : (start end : ℕ) (c d : Chunk) (cs ds : List Chunk) → Tile start (c ∷ cs) end → Tile start (d ∷ ds) end →
    SameFirsts start end (c ∷ cs) (d ∷ ds) → c.count < d.count → ⊥
not_longer start end c d [] ds tc td same lt =
    let e : start + c.count ≡ end = tc.2 in
    let le = Tile-le (start + d.count) end ds td.2 in omega arith
not_longer start end c d (x ∷ cs) ds tc td same lt =
    let k = start + c.count in
    let some : 0 < c.count = tc.1 in
    let df : d.first ≡ start = td.0 in
    let xf : x.first ≡ start + c.count = tc.2.0 in
    let le = Tile-le (start + d.count) end ds td.2 in
    let low : start ≤ start + c.count = omega arith in
    let high : start + c.count < end = omega arith in
    let has : Contains (firsts (c ∷ x ∷ cs)) (start + c.count) =
    (1, omega arith, xf) in
    elim (Contains-append_cases (d.first ∷ []) (firsts ds) (start + c.count) (same (start + c.count) low high has)) [
      | inl at ↦ let e = Contains-single d.first (start + c.count) at in omega arith
      | inr later ↦ let h = Tile-firsts (start + d.count) end (start + c.count) ds td.2 later in omega arith
    ]

same_count : (m n : ℕ) → (m < n → ⊥) → (n < m → ⊥) → m ≡ n
same_count m n p q = elim (cases_order m n) [ inl e ↦ e | inr o ↦ absurd (elim o [ inl lt ↦ p lt | inr gt ↦ q gt ]) ]

rest_same : (start end : ℕ) (c d : Chunk) (cs ds : List Chunk) → 0 < c.count → d.first ≡ start → SameFirsts start end (c ∷ cs) (d ∷ ds) →
    SameFirsts (start + c.count) end cs ds
rest_same start end c d cs ds some first same k low high here =
    elim (Contains-append_cases (d.first ∷ []) (firsts ds) k (same k (omega arith) high (Contains-append_right (c.first ∷ []) (firsts cs) k here))) [
      | inl at ↦ let e = Contains-single d.first k at in absurd (omega arith)
      | inr later ↦ later
    ]

Tile-unique : (start end : ℕ) (cs ds : List Chunk) → Tile start cs end → Tile start ds end → SameFirsts start end cs ds → SameFirsts start end ds cs → cs ≡ ds
Tile-unique start end [] [] tc td there back = refl
Tile-unique start end [] (d ∷ ds) tc td there back = let le = Tile-le (start + d.count) end ds td.2 in absurd (omega arith)
Tile-unique start end (c ∷ cs) [] tc td there back = let le = Tile-le (start + c.count) end cs tc.2 in absurd (omega arith)
Tile-unique start end (c ∷ cs) (d ∷ ds) tc td there back =
    let count : c.count ≡ d.count =
    same_count c.count d.count (not_longer start end c d cs ds tc td there) (not_longer start end d c ds cs td tc back) in
    let td' : Tile (start + c.count) ds end = subst (λ n. Tile (start + n) ds end) (sym count) td.2 in
    let back' : SameFirsts (start + c.count) end ds cs =
    subst (λ n. SameFirsts (start + n) end ds cs) (sym count) (rest_same start end d c ds cs td.1 tc.0 back) in
    ap₂ (λ (x : Chunk) (xs : List Chunk). x ∷ xs) (same_chunk c d (tc.0 ∙ sym td.0) count) (
    Tile-unique (start + c.count) end cs ds tc.2 td' (rest_same start end c d cs ds tc.1 td.0 there) back'
    )

starts_same : (tokens : List Token) (cs ds : List Chunk) → AreChunks tokens cs → AreChunks tokens ds → SameFirsts 0 (length tokens) cs ds
starts_same tokens cs ds p q k low high here =
    elim ((slice_get_cases tokens k).1) [
      | inl found ↦ (q.starts k found.0 found.2).1 ((p.starts k found.0 found.2).0 here)
      | inr past ↦ absurd (omega arith)
    ]

pub AreChunks-unique : (tokens : List Token) (cs ds : List Chunk) → AreChunks tokens cs → AreChunks tokens ds → cs ≡ ds
AreChunks-unique tokens cs ds p q =
    Tile-unique 0 (length tokens) cs ds p.tile q.tile (starts_same tokens cs ds p q) (starts_same tokens ds cs q p)

-- ---- one list at least

one_more : (tokens : List Token) (token : Token) (chunks : List Chunk) → AreChunks tokens chunks → (more : List Chunk) × AreChunks (tokens ++ token ∷ []) more
one_more tokens token [] are =
    ([] ++ record { first = length tokens; count = 1 } ∷ [], AreChunks-push tokens token [] (record { first = length tokens; count = 1 }) are (inl (sym are.tile)) refl refl)
one_more tokens token (c ∷ cs) are =
    elim (cases_Bool (is_statement_keyword token.kind)) [
      | inl keyword ↦ (c ∷ cs ++ record { first = length tokens; count = 1 } ∷ [], AreChunks-push tokens token (c ∷ cs) (record { first = length tokens; count = 1 }) are (inr keyword) refl refl)
      | inr goes_on ↦
          let h = split_last c cs in
          let longer : Chunk = record { first = h.1.first; count = h.1.count + 1 } in
          (h.0 ++ longer ∷ [], AreChunks-longer tokens token h.0 h.1 longer (subst (AreChunks tokens) h.2 are) goes_on refl refl)
    ]

all_more : (tokens more : List Token) (chunks : List Chunk) → AreChunks tokens chunks → (all : List Chunk) × AreChunks (tokens ++ more) all
all_more tokens [] chunks are = (chunks, rw append-nil are)
all_more tokens (token ∷ more) chunks are =
    let h = one_more tokens token chunks are in
    let k = all_more (tokens ++ token ∷ []) more h.0 h.1 in
    (k.0, subst (λ ts. AreChunks ts k.0) (append_assoc tokens (token ∷ []) more) k.1)

pub has_one_list_of_chunks : (tokens : List Token) → HasOneListOfChunks tokens
has_one_list_of_chunks tokens =
    let h = all_more [] tokens [] AreChunks-nil in (h.0, h.1, λ others are. AreChunks-unique tokens others h.0 are h.1)
