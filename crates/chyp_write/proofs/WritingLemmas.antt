-- Texts that are written one behind the other.
use Rattle.std.proofs.Common.{◌≡◌, ℕ, zero, suc, ◌+◌, ◌<◌, List, [], ◌∷◌, ◌++◌, length, take, drop, flat_map, slice_index_or, Bor, append_assoc, append-nil, arith, Option, Result, Ok, Err, IsErr, refl, sym, ap, subst, ◌∙◌}
use Rattle.std.specs.Io.KnownBytes.{Appends}
use Rattle.std.proofs.Math.Seq.{take-append-add}
use Rattle.std.proofs.lemmas.Grind.{flat_map-append}
use Rattle.std.proofs.lemmas.List.{length-append, take_more}
use Rattle.chyp_base.proofs.KnownBytes.{Appends-more}
use Rattle.chyp_write.specs.Writing.{Writes}

-- a whole text and then what is written of another are what is written of both
pub writes-more : {T S E F : Type 0} (a b c : Option (List ℕ)) (f g h : ℕ) (x : T) (result : Result S F) (xs ys : List ℕ)
    → Writes {T = T} {E = E} a b f g (Ok x) xs → Writes b c g h result ys → Writes a c f h result (xs ++ ys)
writes-more a b c f g h x (Ok y) xs ys w v = record {
  whole = Appends-more a b c xs ys w.whole v.whole;
  kept = v.kept ∙ w.kept;
  prefix = tt;
  rose = tt;
}
writes-more a b c f g h x (Err y) xs ys w v = record {
  whole = tt;
  kept = tt;
  prefix = (length xs + v.prefix.0, subst (Appends a c) (sym (take-append-add xs ys v.prefix.0)) (Appends-more a b c xs (take v.prefix.0 ys) w.whole v.prefix.1));
  rose = subst (λ n. n < h) w.kept v.rose;
}

-- what begins a text begins it with another behind it
front-part : (n : ℕ) (xs ys : List ℕ) → (m : ℕ) × (take n xs ≡ take m (xs ++ ys))
front-part zero xs ys = (zero, refl)
front-part (suc n) [] ys = (zero, refl)
front-part (suc n) (x ∷ xs) ys = let rest = front-part n xs ys in (suc rest.0, ap (λ zs. x ∷ zs) rest.1)

-- what is written of a text before a fault is written of it and another
pub writes-part : {T S E F : Type 0} (a b : Option (List ℕ)) (f g : ℕ) (x : E) (result : Result S F) (xs ys : List ℕ) → IsErr result
    → Writes {T = T} {E = E} a b f g (Err x) xs → Writes a b f g result (xs ++ ys)
writes-part a b f g x (Ok y) xs ys is w = absurd cc
writes-part a b f g x (Err y) xs ys is w = record {
  whole = tt;
  kept = tt;
  prefix = let front = front-part w.prefix.0 xs ys in (front.0, subst (Appends a b) front.1 w.prefix.1);
  rose = w.rose;
}

-- a text that was written whole, where nothing failed
pub written : {T E : Type 0} (a b : Option (List ℕ)) (f g : ℕ) (x : T) (xs : List ℕ) → Appends a b xs → g ≡ f → Writes {T = T} {E = E} a b f g (Ok x) xs
written a b f g x xs whole kept = record {
  whole = whole;
  kept = kept;
  prefix = tt;
  rose = tt;
}

-- pieces are those before one, it, and those behind it
pub pieces-turn : (i : ℕ) (pieces : List (Bor (List ℕ))) (d : Bor (List ℕ)) → i < length pieces
    → flat_map (λ piece. piece.now) pieces ≡ flat_map (λ piece. piece.now) (take i pieces) ++ ((slice_index_or pieces i d).now ++ flat_map (λ piece. piece.now) (drop (suc i) pieces))
pieces-turn i [] d h = absurd (omega arith)
pieces-turn zero (p ∷ ps) d h = refl
pieces-turn (suc i) (p ∷ ps) d h = ap (λ t. p.now ++ t) (pieces-turn i ps d (omega arith)) ∙ sym (append_assoc p.now (flat_map (λ piece. piece.now) (take i ps)) _)

-- what was written of a text before a fault in one of its parts, where all before this part was written
pub writes-cut : {S E F : Type 0} (a b c : Option (List ℕ)) (f g h : ℕ) (x : E) (result : Result S F) (done part rest whole : List ℕ)
    → Appends a b done → g ≡ f → IsErr result → Writes {T = Unit {0}} {E = E} b c g h (Err x) part → whole ≡ done ++ (part ++ rest) → Writes a c f h result whole
writes-cut {E = E} a b c f g h x result done part rest whole before kept is w e =
    subst (Writes a c f h result) (sym e) (writes-more {T = Unit {0}} {E = E} a b c f g h tt result done (part ++ rest)
    (written a b f g tt done before kept) (writes-part b c g h x result part rest is w))

module _ {X : Type 0} (text : X → List ℕ) where
  turn : (i : ℕ) (xs : List X) (d : X) → i < length xs → flat_map text xs ≡ flat_map text (take i xs) ++ (text (slice_index_or xs i d) ++ flat_map text (drop (suc i) xs))
  turn i [] d h = absurd (omega arith)
  turn zero (x ∷ xs) d h = refl
  turn (suc i) (x ∷ xs) d h = ap (λ t. text x ++ t) (turn i xs d (omega arith)) ∙ sym (append_assoc (text x) (flat_map text (take i xs)) _)

  module _ (i : ℕ) (xs : List X) (x : X) (h : i < length xs) (is : x ≡ slice_index_or xs i x) where
    -- the text of a list is that of what stands before a place, of the element there, and of what stands behind it
    pub parts-turn : flat_map text xs ≡ flat_map text (take i xs) ++ (text x ++ flat_map text (drop (suc i) xs))
    parts-turn = turn i xs x h ∙ ap (λ y. flat_map text (take i xs) ++ (text y ++ flat_map text (drop (suc i) xs))) (sym is)

    -- and that of the first elements goes on with the next one
    pub parts-more : flat_map text (take i xs) ++ text x ≡ flat_map text (take (i + 1) xs)
    parts-more =
        ap (λ y. flat_map text (take i xs) ++ text y) is ∙ ap (λ t. flat_map text (take i xs) ++ t) (sym (append-nil (text (slice_index_or xs i x))))
        ∙ sym (flat_map-append text (take i xs) (slice_index_or xs i x ∷ [])) ∙ ap (flat_map text) (sym (take_more xs i x h))

    pub parts-length : (n k : ℕ) → n ≡ length (flat_map text (take i xs)) → k ≡ length (text x) → n + k ≡ length (flat_map text (take (i + 1) xs))
    parts-length n k e f = omega (arith, e, f, length-append (flat_map text (take i xs)) (text x), ap length parts-more)
