-- Edges that are found one by one, each once.
use Rattle.std.proofs.Common.{ℕ, ◌<◌, ◌≤◌, ◌≡◌, ◌≢◌, Bool, true, false, List, [], ◌∷◌, ◌++◌, length, replicate, Some, slice_get, slice_index, slice_set, ◌⊎◌, inl, inr, Contains, refl}
use Rattle.std.proofs.Common.{sym, ◌∙◌, ap, subst, arith, length-append}
use Rattle.std.proofs.lemmas.List.{length-replicate}
use Rattle.std.proofs.Math.ListN.{length-set}
use Rattle.chyp_term.proofs.Closure.{get-index}
use Rattle.chyp_term.proofs.Inverting.{pigeonhole}
use Rattle.chyp_term.proofs.Positions.{slice_get-length}
use Rattle.chyp_term.proofs.Members.{Member, get-member, member-left, member-right, member-split, Contains-member, member-Contains}
use Rattle.chyp_term.proofs.Slices.{get-set_other, get-set_same, all-same, set-cases}
use Rattle.chyp_graph.proofs.Removing.{Once-push}
use Rattle.chyp_pattern.specs.Sweep.{Found, IsFound, IsKept}

pub kept-none : (visited : List Bool) (found : List ℕ) (n room : ℕ) → visited ≡ replicate n false → found ≡ [] → n ≤ room → IsKept visited found room
kept-none visited found n room s f e =
    record {
      found_if_marked = λ k h. let e : true ≡ false = all-same n false visited s k true h in cc;
      marked_if_found = λ k h. absurd (subst (Member k) f (Contains-member found k h));
      once = λ i j k a b. let c : slice_get [] i ≡ Some k = ap (λ xs. slice_get xs i) (sym f) ∙ a in cc;
      enough = subst (λ m. m ≤ room) (sym (ap length s ∙ length-replicate n false)) e;
    }

pub kept-below : (visited : List Bool) (found : List ℕ) (room : ℕ) → IsKept visited found room → (i k : ℕ) → slice_get found i ≡ Some k → k < length visited
kept-below visited found room t i k h = slice_get-length visited k true (t.marked_if_found k (member-Contains found k (get-member found i k h)))

pub kept-few : (visited : List Bool) (found : List ℕ) (room : ℕ) → IsKept visited found room → length found ≤ length visited
kept-few visited found room t =
    pigeonhole (length visited) found
    (λ i j h l e. t.once i j (slice_index found i) (get-index found i h) (get-index found j l ∙ ap (λ x. Some x) (sym e)))
    (λ i h. kept-below visited found room t i (slice_index found i) (get-index found i h))

pub kept-push : (visited : List Bool) (found after : List ℕ) (room k : ℕ) → IsKept visited found room → k < length visited → (Contains found k → ⊥)
    → after ≡ found ++ k ∷ [] → IsKept (slice_set visited k true) after room
kept-push visited found after room k t b new is = subst (λ xs. IsKept (slice_set visited k true) xs room) (sym is)
    (record {
      found_if_marked = λ j h. member-Contains (found ++ k ∷ []) j (there j (set-cases visited k true j true b h));
      marked_if_found = λ j h. marked j (member-split found (k ∷ []) j (Contains-member (found ++ k ∷ []) j h));
      once = Once-push found k t.once (λ m. new (member-Contains found k m));
      enough = subst (λ n. n ≤ room) (sym (length-set visited k true)) t.enough;
    })
  where
    there : (j : ℕ) → ((j ≡ k) × (true ≡ true)) ⊎ ((j ≢ k) × (slice_get visited j ≡ Some true)) → Member j (found ++ k ∷ [])
    there j (inl e) = member-right found (k ∷ []) j (inl (sym e.0))
    there j (inr h) = member-left found (k ∷ []) j (Contains-member found j (t.found_if_marked j h.1))

    marked : (j : ℕ) → (Member j found) ⊎ (Member j (k ∷ [])) → slice_get (slice_set visited k true) j ≡ Some true
    marked j (inl m) = get-set_other visited k j true (λ e. new (subst (Contains found) e (member-Contains found j m))) ∙ t.marked_if_found j (member-Contains found j m)
    marked j (inr (inl e)) = ap (slice_get (slice_set visited k true)) (sym e) ∙ get-set_same visited k true b
    marked j (inr (inr h)) = absurd h

-- there is room for an edge that is not found
pub kept-room : (visited : List Bool) (found : List ℕ) (room k : ℕ) → IsKept visited found room → k < length visited → (Contains found k → ⊥) → length found < room
kept-room visited found room k t b new =
    let few = kept-few (slice_set visited k true) (found ++ k ∷ []) room (kept-push visited found (found ++ k ∷ []) room k t b new refl) in
    let one = length-append found (k ∷ []) in
    let same = length-set visited k true in
    let enough = t.enough in
    omega arith

-- and more room is no harm
pub kept-more : (visited : List Bool) (found : List ℕ) (room more : ℕ) → room ≤ more → IsKept visited found room → IsKept visited found more
kept-more visited found room more h t =
    let enough = t.enough in
    record { found_if_marked = t.found_if_marked; marked_if_found = t.marked_if_found; once = t.once; enough = omega arith }

pub found-push : (edges k : ℕ) (found after : List ℕ) (s t : Found) → s ≡ record { edges = edges; found = found } → t ≡ record { edges = edges; found = after }
    → after ≡ found ++ k ∷ [] → IsFound k s t
found-push edges k found after s t a b is =
    subst (λ s. IsFound k s t) (sym a) (subst (λ t. IsFound k (record { edges = edges; found = found }) t) (sym b)
    (record {
      grows = record { edges = refl; more = (k ∷ [], is) };
      found = member-Contains after k (subst (Member k) (sym is) (member-right found (k ∷ []) k (inl refl)));
      only = λ j h. go j (member-split found (k ∷ []) j (subst (Member j) is (Contains-member after j h)));
    }))
  where
    go : (j : ℕ) → (Member j found) ⊎ (Member j (k ∷ [])) → (Contains found j) ⊎ (j ≡ k)
    go j (inl m) = inl (member-Contains found j m)
    go j (inr (inl e)) = inr (sym e)
    go j (inr (inr h)) = absurd h
