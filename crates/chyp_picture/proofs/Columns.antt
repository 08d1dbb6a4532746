-- The crossings of a picture, line by line.
use Rattle.std.proofs.Common.{◌≡◌, ℕ, zero, suc, ◌+◌, ◌-◌, ◌*◌, ◌^◌, ◌<◌, ◌≤◌, Bool, true, false, cond, ◌&&◌, max, min, nat_le, nat_lt, List, [], ◌∷◌, ◌++◌, length, get_or, drop, take, sum_by, arith, refl, sym, ap, subst, ◌∙◌, Option, None, Some}
use Rattle.std.specs.List.{All, cons_option, filter_map, range_with_len}
use Rattle.std.proofs.lemmas.Bool.{le-leb, le-ltb, lt-leb, lt-ltb, ltb-false, ltb-true}
use Rattle.std.proofs.Math.Nat.{mul-le-mul_left}
use Rattle.std.proofs.lemmas.List.{length-drop, take_all}
use Rattle.std.proofs.lemmas.Nat.{mul-le}
use Rattle.std.proofs.lemmas.List.Sums.{sum_by-cons, sum_by_push}
use Rattle.chyp_picture.specs.declared.line.Line.{Line}
use Rattle.chyp_picture.specs.declared.picture.Picture.{Picture}
use Rattle.chyp_picture.specs.declared.piece.Piece.{Piece}
use Rattle.chyp_picture.specs.Crossings.{both_cross, crosses, crossing_number, crossings_of, end_after, line_crossings, piece_at, sum_of_pairs}
use Rattle.chyp_picture.specs.Picture.{IsDrawn, IsWhole, bend_count, column_of}
use Rattle.chyp_picture.proofs.Pairs.{sum_by-plus, sum_by-same, sum_by-one, sum_by-zero, sum_of_pairs-drop, sum_of_pairs-most}

-- the order of two sums may be exchanged
pub sums-exchanged : {X Y : Type 0} (w : X → Y → ℕ) (xs : List X) (ys : List Y) → sum_by (λ x. sum_by (w x) ys) xs ≡ sum_by (λ y. sum_by (λ x. w x y) xs) ys
sums-exchanged w [] ys = sym (sum_by-zero ys)
sums-exchanged w (x ∷ xs) ys =
    omega (
      arith,
      sum_by-cons (λ x. sum_by (w x) ys) x xs,
      sums-exchanged w xs ys,
      sum_by-plus (w x) (λ y. sum_by (λ x. w x y) xs) ys,
      sum_by-same (λ y. sum_by (λ x. w x y) (x ∷ xs)) (λ y. w x y + sum_by (λ x. w x y) xs) (λ y. sum_by-cons (λ x. w x y) x xs) ys,
    )

-- so may that of a sum and a sum over pairs
pub pairs-exchanged : {X Y : Type 0} (w : X → Y → Y → ℕ) (xs : List X) (ys : List Y) → sum_by (λ x. sum_of_pairs (w x) ys) xs ≡ sum_of_pairs (λ y z. sum_by (λ x. w x y z) xs) ys
pairs-exchanged w xs [] = sum_by-zero xs
pairs-exchanged w xs (y ∷ ys) =
    omega (arith, sum_by-plus (λ x. sum_by (w x y) ys) (λ x. sum_of_pairs (w x) ys) xs, sums-exchanged (λ x z. w x y z) xs ys, pairs-exchanged w xs ys)

-- the pairs of what h gives of a list
module _ {X : Type 0} (h : X → Option Piece) where
  crossed : (p : Piece) (xs : List X) → sum_by (λ q. cond (crosses p q) 1 0) (filter_map h xs) ≡ sum_by (λ x. cond (both_cross (Some p) (h x)) 1 0) xs
  crossed p [] = refl
  crossed p (x ∷ xs) = sym (sum_by-cons (λ x. cond (both_cross (Some p) (h x)) 1 0) x xs ∙ by (h x) (crossed p xs))
    where
      by : (o : Option Piece) → sum_by (λ q. cond (crosses p q) 1 0) (filter_map h xs) ≡ sum_by (λ x. cond (both_cross (Some p) (h x)) 1 0) xs
          → cond (both_cross (Some p) o) 1 0 + sum_by (λ x. cond (both_cross (Some p) (h x)) 1 0) xs ≡ sum_by (λ q. cond (crosses p q) 1 0) (cons_option o (filter_map h xs))
      by None e = omega (arith, e)
      by (Some q) e = omega (arith, e, sum_by-cons (λ q. cond (crosses p q) 1 0) q (filter_map h xs))

  pub crossing_number-filter_map : (xs : List X) → crossing_number (filter_map h xs) ≡ sum_of_pairs (λ x y. cond (both_cross (h x) (h y)) 1 0) xs
  crossing_number-filter_map [] = refl
  crossing_number-filter_map (x ∷ xs) = by (h x) (crossing_number-filter_map xs)
    where
      by : (o : Option Piece) → crossing_number (filter_map h xs) ≡ sum_of_pairs (λ x y. cond (both_cross (h x) (h y)) 1 0) xs
          → crossing_number (cons_option o (filter_map h xs)) ≡ sum_by (λ y. cond (both_cross o (h y)) 1 0) xs + sum_of_pairs (λ x y. cond (both_cross (h x) (h y)) 1 0) xs
      by None e = omega (arith, e, sum_by-zero xs)
      by (Some p) e = omega (arith, e, crossed p xs)

-- the crossings of a picture are those of each two of its lines
pub crossings-by_line : (p : Picture) → crossings_of p ≡ sum_of_pairs (line_crossings p) p.lines
crossings-by_line p =
    sum_by-same _ _ (λ c. crossing_number-filter_map (piece_at p c) p.lines) (range_with_len 0 (p.columns + 1))
    ∙ pairs-exchanged (λ c l m. cond (both_cross (piece_at p c l) (piece_at p c m)) 1 0) (range_with_len 0 (p.columns + 1)) p.lines

-- sums over the first numbers
range_with_len-more : (a n : ℕ) → range_with_len a (n + 1) ≡ range_with_len a n ++ (a + n) ∷ []
range_with_len-more a zero = let e : a ≡ a + 0 = omega arith in ap (λ m. m ∷ []) e
range_with_len-more a (suc n) =
    let e : suc n + 1 ≡ suc (n + 1) = omega arith in
    let next : (a + 1) + n ≡ a + suc n = omega arith in
    ap (range_with_len a) e ∙ ap (λ ns. a ∷ ns) (range_with_len-more (a + 1) n ∙ ap (λ m. range_with_len (a + 1) n ++ m ∷ []) next)

module _ (f : ℕ → ℕ) where
  abbrev pub sum_below : ℕ → ℕ
  sum_below n = sum_by f (range_with_len 0 n)

  pub sum_below-next : (n : ℕ) → sum_below (n + 1) ≡ sum_below n + f n
  sum_below-next n =
      let e : 0 + n ≡ n = omega arith in
      ap (sum_by f) (range_with_len-more 0 n ∙ ap (λ m. range_with_len 0 n ++ m ∷ []) e) ∙ sum_by_push f (range_with_len 0 n) n

  -- numbers of which nothing comes add nothing
  pub sum_below-still : (a n : ℕ) → ((c : ℕ) → a ≤ c → c < a + n → f c ≡ 0) → sum_below (a + n) ≡ sum_below a
  sum_below-still a zero none = let e : a + 0 ≡ a = omega arith in ap sum_below e
  sum_below-still a (suc n) none =
      let e : a + suc n ≡ (a + n) + 1 = omega arith in
      omega (arith, ap sum_below e, sum_below-next (a + n), none (a + n) (omega arith) (omega arith), sum_below-still a n (λ c low high. none c low (omega arith)))

  pub sum_below-between : (a b : ℕ) → a ≤ b → ((c : ℕ) → a ≤ c → c < b → f c ≡ 0) → sum_below b ≡ sum_below a
  sum_below-between a b le none =
      let e : a + (b - a) ≡ b = omega arith in
      ap sum_below (sym e) ∙ sum_below-still a (b - a) (λ c low high. none c low (omega (arith, e)))

  -- at most 1 comes of each number, and nothing of those outside of a window
  pub sum_below-window : (a k : ℕ) → ((c : ℕ) → f c ≤ 1) → ((c : ℕ) → c < a → f c ≡ 0) → ((c : ℕ) → a + k ≤ c → f c ≡ 0)
      → (n : ℕ) → (sum_below n ≤ n - a) × (sum_below n ≤ k)
  sum_below-window a k one low high zero = (omega arith, omega arith)
  sum_below-window a k one low high (suc n) =
      let rest = sum_below-window a k one low high n in
      let next = sum_below-next n in
      let e : suc n ≡ n + 1 = omega arith in
      let same : sum_below (suc n) ≡ sum_below (n + 1) = ap sum_below e in
      by (nat_lt n a) (nat_lt n (a + k)) refl refl rest (same ∙ next)
    where
      by : (below within : Bool) → nat_lt n a ≡ below → nat_lt n (a + k) ≡ within → (sum_below n ≤ n - a) × (sum_below n ≤ k) → sum_below (suc n) ≡ sum_below n + f n
          → (sum_below (suc n) ≤ suc n - a) × (sum_below (suc n) ≤ k)
      by true within e g rest next = let none = low n (ltb-true n a e) in (omega (arith, rest.0, next, none), omega (arith, rest.1, next, none))
      by false true e g rest next = let most = one n in let le = ltb-false n a e in let lt = ltb-true n (a + k) g in
          (omega (arith, rest.0, next, most, le), omega (arith, rest.0, next, most, le, lt))
      by false false e g rest next = let none = high n (ltb-false n (a + k) g) in (omega (arith, rest.0, next, none), omega (arith, rest.1, next, none))

-- two lines of a picture, and what comes of each column
module _ (p : Picture) (l m : Line) where
  abbrev pub at_column : ℕ → ℕ
  at_column c = cond (both_cross (piece_at p c l) (piece_at p c m)) 1 0

  not_before : (k : Line) (c : ℕ) → c < column_of p k.from → piece_at p c k ≡ None
  not_before k c h = rw (lt-leb (column_of p k.from) c h) refl

  not_behind : (k : Line) (c : ℕ) → column_of p k.to ≤ c → piece_at p c k ≡ None
  not_behind k c h = rw (le-ltb c (column_of p k.to) h, no_and (nat_le (column_of p k.from) c)) refl
    where
      no_and : (b : Bool) → (b && false) ≡ false
      no_and true = refl
      no_and false = refl

  none_left : (o o' : Option Piece) → o ≡ None → ◌≡◌ {A = ℕ} (cond (both_cross o o') 1 0) 0
  none_left o o' e = rw e refl

  none_right : (o o' : Option Piece) → o' ≡ None → ◌≡◌ {A = ℕ} (cond (both_cross o o') 1 0) 0
  none_right o o' e = rw e (by o)
    where
      by : (o : Option Piece) → ◌≡◌ {A = ℕ} (cond (both_cross o None) 1 0) 0
      by None = refl
      by (Some x) = refl

  -- nothing comes of a column that one of them doesn't leave
  pub none-before : (c : ℕ) → c < max (column_of p l.from) (column_of p m.from) → at_column c ≡ 0
  none-before c h = by (nat_lt c (column_of p l.from)) refl
    where
      by : (b : Bool) → nat_lt c (column_of p l.from) ≡ b → at_column c ≡ 0
      by true e = none_left (piece_at p c l) (piece_at p c m) (not_before l c (ltb-true _ _ e))
      by false e = let le = ltb-false c (column_of p l.from) e in none_right (piece_at p c l) (piece_at p c m) (not_before m c (omega (arith, h, le)))

  pub none-behind : (c : ℕ) → min (column_of p l.to) (column_of p m.to) ≤ c → at_column c ≡ 0
  none-behind c h = by (nat_lt c (column_of p l.to)) refl
    where
      by : (b : Bool) → nat_lt c (column_of p l.to) ≡ b → at_column c ≡ 0
      by false e = none_left (piece_at p c l) (piece_at p c m) (not_behind l c (ltb-false _ _ e))
      by true e = let lt = ltb-true c (column_of p l.to) e in none_right (piece_at p c l) (piece_at p c m) (not_behind m c (omega (arith, h, lt)))

  -- what comes of the columns in front of the first that both leave
  pub crossings-start : 0 ≡ sum_below at_column (max (column_of p l.from) (column_of p m.from))
  crossings-start = sym (sum_below-between at_column 0 (max (column_of p l.from) (column_of p m.from)) (omega arith) (λ c low high. none-before c high))

  -- from there to the last that both leave, or to the picture's last, is all that counts
  pub crossings-end : (at n : ℕ) → max (column_of p l.from) (column_of p m.from) ≤ at → min (min (column_of p l.to) (column_of p m.to)) n ≤ at
      → at ≤ max (max (column_of p l.from) (column_of p m.from)) (min (min (column_of p l.to) (column_of p m.to)) n) → sum_below at_column at ≡ sum_below at_column n
  crossings-end at n start end most = by (nat_lt n at) refl
    where
      by : (b : Bool) → nat_lt n at ≡ b → sum_below at_column at ≡ sum_below at_column n
      by true e = let lt = ltb-true n at e in sum_below-between at_column n at (omega arith) (λ c low high. none-before c (omega arith))
      by false e = let le = ltb-false n at e in sym (sum_below-between at_column at n le (λ c low high. none-behind c (omega arith)))

  -- what comes of a column that both leave
  pub at_column-crosses : (c : ℕ) (x y : Piece) → column_of p l.from ≤ c → c < column_of p l.to → column_of p m.from ≤ c → c < column_of p m.to
      → x ≡ record { left = end_after p l (c - column_of p l.from); right = end_after p l (c - column_of p l.from + 1) }
      → y ≡ record { left = end_after p m (c - column_of p m.from); right = end_after p m (c - column_of p m.from + 1) } → at_column c ≡ cond (crosses x y) 1 0
  at_column-crosses c x y a b d e f g =
      rw (le-leb (column_of p l.from) c a, lt-ltb c (column_of p l.to) b, le-leb (column_of p m.from) c d, lt-ltb c (column_of p m.to) e, f, g) refl

  at_column-most : (c : ℕ) → at_column c ≤ 1
  at_column-most c = by (both_cross (piece_at p c l) (piece_at p c m))
    where
      by : (b : Bool) → cond b 1 0 ≤ 1
      by true = omega arith
      by false = omega arith

  -- two lines cross at most once in each column that the first leaves
  pub line_crossings-most : IsDrawn p l → line_crossings p l m ≤ (length l.bends + 1) * (length m.bends + 1)
  line_crossings-most d =
      let window = sum_below-window at_column (column_of p l.from) (length l.bends + 1) at_column-most
      (λ c h. none_left (piece_at p c l) (piece_at p c m) (not_before l c h))
      (λ c h. none_left (piece_at p c l) (piece_at p c m) (not_behind l c (omega (arith, d.last, h)))) (p.columns + 1) in
      omega (arith, window.1, mul-le-mul_left (length l.bends + 1) (one-more (length m.bends)))
    where
      one-more : (n : ℕ) → 1 ≤ n + 1
      one-more n = omega arith

-- twice the crossings are at most the square of the number of pieces
pub crossings-most : (p : Picture) → All (IsDrawn p) p.lines → 2 * sum_of_pairs (line_crossings p) p.lines ≤ (bend_count p.lines + length p.lines) * (bend_count p.lines + length p.lines)
crossings-most p drawn =
    let pieces : sum_by (λ l. length l.bends + 1) p.lines ≡ bend_count p.lines + length p.lines =
    sum_by-plus (λ l. length l.bends) (λ l. 1) p.lines ∙ ap (λ n. bend_count p.lines + n) (sum_by-one p.lines) in
    subst (λ n. 2 * sum_of_pairs (line_crossings p) p.lines ≤ n * n) pieces
    (sum_of_pairs-most (line_crossings p) (λ l. length l.bends + 1) p.lines (λ i j d less within. line_crossings-most p (get_or p.lines i d) (get_or p.lines j d) (drawn i d (omega arith))))

-- so they are below 2 ^ 64 in a whole picture
pub crossings-fit : (p : Picture) → IsWhole p → sum_of_pairs (line_crossings p) p.lines < 2 ^ 64
crossings-fit p whole =
    let n = bend_count p.lines + length p.lines in
    let most : n ≤ 2 ^ 32 + 65536 = omega (arith, whole.few_points, whole.few_lines) in
    omega (arith, crossings-most p whole.drawn, mul-le n n (2 ^ 32 + 65536) (2 ^ 32 + 65536) most most)

-- the pairs from a line on are those of it with the later ones, and those of these
pub crossings-next : (p : Picture) (lines : List Line) (line : Line) (i : ℕ) → lines ≡ p.lines → i < length lines → line ≡ get_or lines i line
    → sum_of_pairs (line_crossings p) (drop i p.lines) ≡ sum_by (line_crossings p line) (take (length lines - (i + 1)) (drop (i + 1) lines)) + sum_of_pairs (line_crossings p) (drop (i + 1) p.lines)
crossings-next p lines line i same h is =
    let rest : take (length lines - (i + 1)) (drop (i + 1) lines) ≡ drop (i + 1) lines = take_all (length lines - (i + 1)) (drop (i + 1) lines) (omega (arith, length-drop (i + 1) lines)) in
    let here = sum_of_pairs-drop (line_crossings p) lines i line h in
    let one : sum_by (line_crossings p line) (drop (i + 1) lines) ≡ sum_by (line_crossings p (get_or lines i line)) (drop (i + 1) lines) =
    ap (λ l. sum_by (line_crossings p l) (drop (i + 1) lines)) is in
    omega (arith, here, one, ap (sum_by (line_crossings p line)) rest, ap (λ ls. sum_of_pairs (line_crossings p) (drop i ls)) same, ap (λ ls. sum_of_pairs (line_crossings p) (drop (i + 1) ls)) same)
