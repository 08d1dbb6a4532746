-- The pieces of a picture's lines, line by line.
use Rattle.std.proofs.Common.{ℕ, zero, suc, ◌+◌, ◌<◌, ◌≤◌, ◌≡◌, Bool, true, false, cond, ◌&&◌, leb, ltb, min, List, [], ◌∷◌, ◌++◌, map, length, take, replicate, Option, Some, None, slice_get, ◌⊎◌, inl, inr, All, refl, sym, ◌∙◌, ap, ap₂, subst, arith}
use Rattle.std.specs.List.{cons_option, filter_map, range_with_len}
use Rattle.std.proofs.lemmas.Bool.{cases_lt, le-ltb, lt-ltb}
use Rattle.std.proofs.lemmas.List.{length-map}
use Rattle.chyp_term.proofs.Positions.{slice_get-length}
use Rattle.chyp_term.proofs.Members.{map-member, All-from_get_members}
use Rattle.chyp_term.proofs.Slices.{take-suc}
use Rattle.chyp_picture.specs.Crossings.{piece_at, pieces_between}
use Rattle.chyp_picture.specs.Picture.{column_of}
use Rattle.chyp_picture.specs.declared.line.Line.{Line}
use Rattle.chyp_picture.specs.declared.picture.Picture.{Picture}
use Rattle.chyp_picture.specs.declared.piece.Piece.{Piece}
use Rattle.chyp_layout.specs.Crossings.{piece_from}
use Rattle.chyp_layout.specs.Order.{AreExtended}
use Rattle.chyp_layout.proofs.Numbers.{same-items}
use Rattle.chyp_layout.proofs.Ordering.{get-map-range, length-range}

-- the pieces of some of the lines in the gap behind column c
abbrev pub pieces_of : Picture → List Line → ℕ → List Piece
pieces_of p lines c = filter_map (piece_at p c) lines

maps-push : {A B : Type 0} (f : A → Option B) (xs : List A) (x : A) → filter_map f (xs ++ x ∷ []) ≡ filter_map f xs ++ cons_option (f x) []
maps-push f [] x = refl
maps-push {A} {B} f (y ∷ xs) x = go (f y) (maps-push f xs x)
  where
    go : (o : Option B) → filter_map f (xs ++ x ∷ []) ≡ filter_map f xs ++ cons_option (f x) []
        → cons_option o (filter_map f (xs ++ x ∷ [])) ≡ cons_option o (filter_map f xs) ++ cons_option (f x) []
    go None e = e
    go (Some z) e = ap (λ l. z ∷ l) e

length-maps : {A B : Type 0} (f : A → Option B) (xs : List A) → length (filter_map f xs) ≤ length xs
length-maps f [] = omega arith
length-maps {A} {B} f (x ∷ xs) = go (f x) (length-maps f xs)
  where
    go : (o : Option B) → length (filter_map f xs) ≤ length xs → length (cons_option o (filter_map f xs)) ≤ suc (length xs)
    go None h = omega arith
    go (Some y) h = omega arith

pub pieces-none : (p : Picture) (n : ℕ) (gaps : List (List Piece)) → gaps ≡ replicate n [] → gaps ≡ map (pieces_of p []) (range_with_len 0 n)
pieces-none p n gaps e = e ∙ go 0 n
  where
    go : (a n : ℕ) → replicate n [] ≡ map (pieces_of p []) (range_with_len a n)
    go a zero = refl
    go a (suc n) = ap (λ l. [] ∷ l) (go (a + 1) n)

pub pieces-more : (p : Picture) (lines : List Line) (i n : ℕ) (l : Line) (before after : List (List Piece)) → slice_get lines i ≡ Some l
    → before ≡ map (pieces_of p (take i lines)) (range_with_len 0 n)
    → AreExtended (piece_from p l) (column_of p l.from) (min (column_of p l.to) (length before)) before after → after ≡ map (pieces_of p (take (i + 1) lines)) (range_with_len 0 n)
pieces-more p lines i n l before after h e t = same-items after (map is (range_with_len 0 n)) (t.size ∙ sized ∙ sym (length-map (range_with_len 0 n) is ∙ length-range 0 n)) at
  where
    was : ℕ → List Piece
    was c = pieces_of p (take i lines) c

    is : ℕ → List Piece
    is c = pieces_of p (take (i + 1) lines) c

    sized : length before ≡ n
    sized = ap length e ∙ length-map (range_with_len 0 n) was ∙ length-range 0 n

    next : (c : ℕ) → is c ≡ was c ++ cons_option (piece_at p c l) []
    next c = ap (λ ls. pieces_of p ls c) (take-suc lines i l h) ∙ maps-push (piece_at p c) (take i lines) l

    few : (j : ℕ) (y : List Piece) → slice_get (map is (range_with_len 0 n)) j ≡ Some y → j < n
    few j y q = let k = slice_get-length (map is (range_with_len 0 n)) j y q in let a = length-map (range_with_len 0 n) is in let b = length-range 0 n in omega arith

    end : (j : ℕ) → j < n → ltb j (min (column_of p l.to) (length before)) ≡ ltb j (column_of p l.to)
    end j k = let s = sized in go (cases_lt j (column_of p l.to))
      where
        go : (j < column_of p l.to) ⊎ (column_of p l.to ≤ j) → ltb j (min (column_of p l.to) (length before)) ≡ ltb j (column_of p l.to)
        go (inl a) = let s = sized in lt-ltb j (min (column_of p l.to) (length before)) (omega arith) ∙ sym (lt-ltb j (column_of p l.to) a)
        go (inr a) = le-ltb j (min (column_of p l.to) (length before)) (omega arith) ∙ sym (le-ltb j (column_of p l.to) a)

    piece : (j : ℕ) → j < n → cond (leb (column_of p l.from) j && ltb j (min (column_of p l.to) (length before))) (piece_from p l j ∷ []) [] ≡ cons_option (piece_at p j l) []
    piece j k = ap (λ b. cond (leb (column_of p l.from) j && b) (piece_from p l j ∷ []) []) (end j k) ∙ go (leb (column_of p l.from) j && ltb j (column_of p l.to))
      where
        go : (b : Bool) → cond b (piece_from p l j ∷ []) [] ≡ cons_option (cond b (Some (piece_from p l j)) None) []
        go true = refl
        go false = refl

    at : (j : ℕ) (a y : List Piece) → slice_get after j ≡ Some a → slice_get (map is (range_with_len 0 n)) j ≡ Some y → a ≡ y
    at j a y q r =
        let k = few j y r in
        let b : slice_get before j ≡ Some (was (0 + j)) = ap (λ o. slice_get o j) e ∙ get-map-range was 0 n j k in
        let c : Some a ≡ Some (was (0 + j) ++ cond (leb (column_of p l.from) j && ltb j (min (column_of p l.to) (length before))) (piece_from p l j ∷ []) []) = sym q ∙ t.at j (was (0 + j)) b in
        let d : Some y ≡ Some (is (0 + j)) = sym r ∙ get-map-range is 0 n j k in
        let u : a ≡ was (0 + j) ++ cond (leb (column_of p l.from) j && ltb j (min (column_of p l.to) (length before))) (piece_from p l j ∷ []) [] = cc in
        let v : y ≡ is (0 + j) = cc in
        let z : 0 + j ≡ j = omega arith in
        u ∙ ap₂ (λ x m. x ++ m) (ap was z) (piece j k) ∙ sym (v ∙ ap is z ∙ next j)

pub pieces-short : (p : Picture) (n : ℕ) (gaps : List (List Piece)) → length p.lines < 2147483648 → gaps ≡ map (pieces_between p) (range_with_len 0 n)
    → All (λ pieces. length pieces ≤ 4294967296) gaps
pieces-short p n gaps l e = subst (All (λ pieces. length pieces ≤ 4294967296)) (sym e) (All-from_get_members {P = λ pieces. length pieces ≤ 4294967296} (map (pieces_between p)
    (range_with_len 0 n)) (λ ps m.
    let c = map-member (pieces_between p) (range_with_len 0 n) ps m in
    let s = length-maps (piece_at p c.0) p.lines in
    subst (λ ps. length ps ≤ 4294967296) c.2 (omega arith)))

pub gaps-length : (p : Picture) (n : ℕ) (gaps : List (List Piece)) → gaps ≡ map (pieces_between p) (range_with_len 0 n) → length gaps ≡ n
gaps-length p n gaps e = ap length e ∙ length-map (range_with_len 0 n) (pieces_between p) ∙ length-range 0 n
