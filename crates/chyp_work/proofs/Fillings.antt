-- Boards that are filled from a list.
use Rattle.std.proofs.Common.{ℕ, zero, suc, ◌+◌, ◌<◌, ◌≤◌, ◌≡◌, All, List, [], ◌∷◌, ◌++◌, length, map, take, drop, slice_get, slice_index}
use Rattle.std.proofs.Common.{slice_set, get_or, Some, refl, sym, ◌∙◌, ap, subst, arith, append_assoc}
use Rattle.std.specs.List.{zip}
use Rattle.std.proofs.lemmas.List.{map-append}
use Rattle.chyp_term.proofs.Closure.{get-item}
use Rattle.chyp_term.proofs.Positions.{slice_get-length}
use Rattle.chyp_term.proofs.Slices.{index-is, take-suc}
use Rattle.chyp_store.specs.Lists.{HasRows, Row, room_of}

pub zip-push : {X : Type 0} (ns : List ℕ) (xs : List X) (n : ℕ) (x : X) → length ns ≡ length xs → zip (ns ++ n ∷ []) (xs ++ x ∷ []) ≡ zip ns xs ++ (n, x) ∷ []
zip-push [] [] n x h = refl
zip-push [] (y ∷ ys) n x h = absurd (omega arith)
zip-push (m ∷ ms) [] n x h = absurd (omega arith)
zip-push (m ∷ ms) (y ∷ ys) n x h = ap (λ l. (m, y) ∷ l) (zip-push ms ys n x (omega arith))

-- one more item, in what is kept of each
pub filled-more : {A X : Type 0} (f : A → X) (items more old : List (ℕ × A)) (ns ms : List ℕ) (xs : List X) (n : ℕ) (a : A)
    → map (λ (e : ℕ × A). (e.0, f e.1)) items ≡ map (λ (e : ℕ × A). (e.0, f e.1)) old ++ zip ns xs
    → more ≡ items ++ (n, a) ∷ [] → ms ≡ ns ++ n ∷ [] → length ns ≡ length xs
    → map {B = ℕ × X} (λ e. (e.0, f e.1)) more ≡ map {B = ℕ × X} (λ e. (e.0, f e.1)) old ++ zip ms (xs ++ f a ∷ [])
filled-more {A} {X} f items more old ns ms xs n a h e g l =
    rw (e, g, map-append {A = ℕ × A} {B = ℕ × X} (λ e. (e.0, f e.1)) items ((n, a) ∷ []), h, zip-push ns xs n (f a) l)
    (append_assoc (map (λ (e : ℕ × A). (e.0, f e.1)) old) (zip ns xs) ((n, f a) ∷ []))

pub rows-less : {X : Type 0} (name_of : X → List ℕ) (x : X) (xs : List X) (rows more : List (List ℕ × Row ℕ)) → HasRows name_of (x ∷ xs) (length (x ∷ xs)) rows
    → ((n : List ℕ) → room_of n rows ≤ room_of n more + 1) → HasRows name_of xs (length xs) more
rows-less name_of x xs rows more h r i y l g =
    let a = h (suc i) y (omega arith) g in
    let b = r (name_of y) in omega arith

pub nothing_left : {X : Type 0} (l : List X) → length l ≡ 0 → l ≡ []
nothing_left [] h = refl
nothing_left (x ∷ xs) h = absurd (omega arith)

pub length-mapped : {A B : Type 0} (f : A → B) (xs : List A) → length (map f xs) ≡ length xs
length-mapped f [] = refl
length-mapped f (x ∷ xs) = ap suc (length-mapped f xs)

-- ## what is taken of a graph

pub item-taken : {X : Type 0} (xs items more : List X) (i : ℕ) (x y : X) → slice_get xs i ≡ Some y → x ≡ y → items ≡ take i xs → more ≡ items ++ x ∷ [] → more ≡ take (i + 1) xs
item-taken xs items more i x y g e h m = rw (m, h, e, take-suc xs i y g) refl

pub map-taken : {X Y : Type 0} (f : X → Y) (xs : List Y) (items more : List X) (i : ℕ) (x : X) (y : Y) → slice_get xs i ≡ Some y → f x ≡ y → map f items ≡ take i xs
    → more ≡ items ++ x ∷ [] → map f more ≡ take (i + 1) xs
map-taken f xs items more i x y g e h m = rw (m, map-append f items (x ∷ []), h, e, take-suc xs i y g) refl

-- ## places that become wires

pub renamed-none : (f : ℕ → ℕ) (xs : List ℕ) → xs ≡ map f (take 0 xs) ++ drop 0 xs
renamed-none f xs = refl

pub renamed-get : (f : ℕ → ℕ) (xs : List ℕ) (i : ℕ) → slice_get (map f (take i xs) ++ drop i xs) i ≡ slice_get xs i
renamed-get f [] zero = refl
renamed-get f [] (suc i) = refl
renamed-get f (x ∷ xs) zero = refl
renamed-get f (x ∷ xs) (suc i) = renamed-get f xs i

pub renamed-more : (f : ℕ → ℕ) (xs : List ℕ) (i x : ℕ) → slice_get xs i ≡ Some x → slice_set (map f (take i xs) ++ drop i xs) i (f x) ≡ map f (take (i + 1) xs) ++ drop (i + 1) xs
renamed-more f [] i x h = absurd (cc)
renamed-more f (y ∷ xs) zero x h = let q : y ≡ x = cc in rw q refl
renamed-more f (y ∷ xs) (suc i) x h = let z : suc i + 1 ≡ suc (i + 1) = omega arith in rw z (ap (λ l. f y ∷ l) (renamed-more f xs i x h))

got-or : {A : Type 0} (xs : List A) (i : ℕ) (x d : A) → slice_get xs i ≡ Some x → get_or xs i d ≡ x
got-or [] i x d h = absurd (cc)
got-or (y ∷ xs) zero x d h = cc
got-or (y ∷ xs) (suc i) x d h = got-or xs i x d h

-- what holds of all holds of each
pub all-get : {A : Type 0} (P : A → Type 0) (xs : List A) (i : ℕ) (x : A) → All P xs → slice_get xs i ≡ Some x → P x
all-get P xs i x a h = subst P (got-or xs i x x h) (a i x (slice_get-length xs i x h))

-- the wire at the place is written in its place
pub rename-step : (wires xs now : List ℕ) (i x v : ℕ) → All (λ w. w < length wires) xs → now ≡ map (slice_index wires) (take i xs) ++ drop i xs → i < length now → x ≡ get_or now i x
    → v ≡ get_or wires x v → slice_set now i v ≡ map (slice_index wires) (take (i + 1) xs) ++ drop (i + 1) xs
rename-step wires xs now i x v within e h a b =
    let g : slice_get now i ≡ Some x = get-item now i x h a in
    let s : slice_get xs i ≡ Some x = sym (renamed-get (slice_index wires) xs i) ∙ ap (λ l. slice_get l i) (sym e) ∙ g in
    let t = all-get (λ w. w < length wires) xs i x within s in
    let q : v ≡ slice_index wires x = index-is wires x v t b in
    rw (e, q) (renamed-more (slice_index wires) xs i x s)

-- one more item that is made of another
pub filled-exact : {A X : Type 0} (f : X → A) (items more old : List (ℕ × A)) (ns ms : List ℕ) (xs : List X) (n : ℕ) (x : X) → items ≡ old ++ zip ns (map f xs)
    → more ≡ items ++ (n, f x) ∷ [] → ms ≡ ns ++ n ∷ [] → length ns ≡ length xs → more ≡ old ++ zip ms (map f (xs ++ x ∷ []))
filled-exact f items more old ns ms xs n x h g m l =
    rw (g, h, m, map-append f xs (x ∷ []), zip-push ns (map f xs) n (f x) (l ∙ sym (length-mapped f xs))) (append_assoc old (zip ns (map f xs)) ((n, f x) ∷ []))
