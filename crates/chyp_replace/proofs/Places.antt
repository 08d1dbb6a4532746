-- Where numbers stand in a list that grows by one.
use Rattle.std.proofs.Common.{ℕ, suc, ◌<◌, ◌≡◌, true, false, cond, eqb, List, [], ◌∷◌, ◌++◌, length, take, Option, Some, None, option_map, slice_index}
use Rattle.std.proofs.Common.{inl, inr, refl, sym, ◌∙◌, ap, ap₂, arith, eq-eqb, ne_eqb}
use Rattle.std.proofs.lemmas.List.{length-take}
use Rattle.chyp_term.specs.Positions.{is_there, is_among, place_of}
use Rattle.chyp_term.proofs.Closure.{index-get}
use Rattle.chyp_term.proofs.Positions.{slice_get-length}
use Rattle.chyp_term.proofs.Members.{Member, member-get}
use Rattle.chyp_term.proofs.Slices.{get-take}
use Rattle.chyp_replace.specs.Numbers.{AreApart}

-- a number that isn't the new one stands where it stood
pub place-other : (w x : ℕ) (ks : List ℕ) → (x ≡ w → ⊥) → place_of w (ks ++ x ∷ []) ≡ place_of w ks
place-other w x [] n = ap (λ b. cond b (Some 0) None) (ne_eqb x w n)
place-other w x (k ∷ ks) n = ap (λ o. cond (eqb k w) (Some 0) (option_map suc o)) (place-other w x ks n)

-- the new one stands at the end, where it is new
pub place-new : (x : ℕ) (ks : List ℕ) → (Member x ks → ⊥) → place_of x (ks ++ x ∷ []) ≡ Some (length ks)
place-new x [] n = ap (λ b. cond b (Some 0) None) (eq-eqb x x refl)
place-new x (k ∷ ks) n =
    ap₂ (λ b o. cond b (Some 0) (option_map suc o)) (ne_eqb k x (λ e. n (inl e))) (place-new x ks (λ m. n (inr m)))

-- it is among them in any case
pub among-new : (x : ℕ) (ks : List ℕ) → is_among (ks ++ x ∷ []) x ≡ true
among-new x [] = ap (λ b. is_there (cond b (Some 0) None)) (eq-eqb x x refl)
among-new x (k ∷ ks) = go (eqb k x) (place_of x (ks ++ x ∷ [])) (among-new x ks)
  where
    go : (b : _) (o : Option ℕ) → is_there o ≡ true → is_there (cond b (Some 0) (option_map suc o)) ≡ true
    go true o e = refl
    go false None e = e
    go false (Some j) e = refl

-- among items that are apart, one is none of those before it
pub item-new : (ws : List ℕ) (i : ℕ) → i < length ws → AreApart ws → Member (slice_index ws i) (take i ws) → ⊥
item-new ws i h apart m =
    let f = member-get (take i ws) (slice_index ws i) m in
    let b = slice_get-length (take i ws) f.0 (slice_index ws i) f.1 in
    let l = length-take i ws in
    let below : f.0 < i = omega arith in
    let same : slice_index ws f.0 ≡ slice_index ws i = index-get ws f.0 (slice_index ws i) (sym (get-take ws i f.0 below) ∙ f.1) in
    let q : f.0 ≡ i = apart f.0 i (omega arith) h same in
    omega arith
