-- Ends that are moved in turn.
use Rattle.std.proofs.Common.{ℕ, zero, suc, ◌+◌, ◌≡◌, Bool, true, false, cond, eqb, List, [], ◌∷◌, ◌++◌, length, map, take, Option, Some, None, slice_get, slice_index, refl, sym, ◌∙◌, ap, ne_eqb}
use Rattle.std.specs.Prelude.{option_map}
use Rattle.std.specs.Option.{option_map_or}
use Rattle.std.proofs.lemmas.List.{map-append}
use Rattle.chyp_term.specs.Positions.{place_of}
use Rattle.chyp_term.proofs.Slices.{take-suc}
use Rattle.chyp_work.specs.Net.{put}
use Rattle.chyp_work.specs.Rerouting.{MovesInTurn}

-- the place of x in a list with one more number
abbrev pub place_with : ℕ → ℕ → ℕ → Option ℕ → Option ℕ
place_with x w n None = cond (eqb w x) (Some n) None
place_with x w n (Some j) = Some j

suc-with : (x w n : ℕ) (o : Option ℕ) → option_map suc (place_with x w n o) ≡ place_with x w (suc n) (option_map suc o)
suc-with x w n (Some j) = refl
suc-with x w n None = by (eqb w x) refl
  where
    by : (b : Bool) → eqb w x ≡ b → option_map suc (cond (eqb w x) (Some n) None) ≡ cond (eqb w x) (Some (suc n)) None
    by true e = rw e refl
    by false e = rw e refl

pub place-push : (x w : ℕ) (ks : List ℕ) → place_of x (ks ++ w ∷ []) ≡ place_with x w (length ks) (place_of x ks)
place-push x w [] = refl
place-push x w (k ∷ ks) = by (eqb k x) refl (place-push x w ks)
  where
    by : (b : Bool) → eqb k x ≡ b → place_of x (ks ++ w ∷ []) ≡ place_with x w (length ks) (place_of x ks)
        → cond (eqb k x) (Some 0) (option_map suc (place_of x (ks ++ w ∷ []))) ≡ place_with x w (suc (length ks)) (cond (eqb k x) (Some 0) (option_map suc (place_of x ks)))
    by true e r = rw e refl
    by false e r = rw (e, r) (suc-with x w (length ks) (place_of x ks))

pub length-front : {A : Type 0} (xs : List A) (i : ℕ) (a : A) → slice_get xs i ≡ Some a → length (take i xs) ≡ i
length-front [] i a h = absurd (cc)
length-front (x ∷ xs) zero a h = refl
length-front (x ∷ xs) (suc i) a h = ap suc (length-front xs i a h)

length-image : (f : ℕ → ℕ) (xs : List ℕ) → length (map f xs) ≡ length xs
length-image f [] = refl
length-image f (x ∷ xs) = ap suc (length-image f xs)

pub moves-in-turn : MovesInTurn
moves-in-turn ws vs inner ends i a x g fresh =
    let t : map (slice_index ws) (take (i + 1) inner) ≡ map (slice_index ws) (take i inner) ++ slice_index ws a ∷ [] = ap (map (slice_index ws)) (take-suc inner i a g)
    ∙ map-append (slice_index ws) (take i inner) (a ∷ []) in
    let l : length (map (slice_index ws) (take i inner)) ≡ i = length-image (slice_index ws) (take i inner) ∙ length-front inner i a g in
    rw (t, place-push x (slice_index ws a) (map (slice_index ws) (take i inner)), l) (by (place_of x (map (slice_index ws) (take i inner))))
  where
    by : (o : Option ℕ) → put (slice_index ws a) (slice_index vs (slice_index ends i)) (option_map_or (λ j. slice_index vs (slice_index ends j)) o x)
        ≡ option_map_or (λ j. slice_index vs (slice_index ends j)) (place_with x (slice_index ws a) i o) x
    by (Some j) = rw (ne_eqb (slice_index ws a) (slice_index vs (slice_index ends j)) (λ q. fresh j (sym q))) refl
    by None = on (eqb (slice_index ws a) x) refl
      where
        on : (b : Bool) → eqb (slice_index ws a) x ≡ b
            → cond (eqb (slice_index ws a) x) (slice_index vs (slice_index ends i)) x ≡ option_map_or (λ j. slice_index vs (slice_index ends j)) (cond (eqb (slice_index ws a) x) (Some i) None) x
        on true e = rw e refl
        on false e = rw e refl
