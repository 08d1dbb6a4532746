-- Tables of ports.
use Rattle.std.proofs.Common.{[], ℕ, ◌+◌, ◌<◌, ◌≡◌, ◌≢◌, Bool, true, false, not, List, ◌∷◌, ◌++◌, length, take, flat_map, Option, Some, None, slice_get, slice_set, ◌⊎◌, inl, inr, IfSome}
use Rattle.std.proofs.Common.{IsNone, Contains, All, length-append, ◌↔◌, get_or, refl, sym, ◌∙◌, ap, subst, arith}
use Rattle.std.specs.Option.{option_and_then, is_some}
use Rattle.std.proofs.lemmas.Bool.{cases_eq}
use Rattle.std.proofs.Math.ListN.{length-set}
use Rattle.chyp_term.specs.Perm.{IsPermutation}
use Rattle.chyp_term.specs.Positions.{is_among, is_apart}
use Rattle.chyp_term.proofs.Permuted.{get-append_left}
use Rattle.chyp_term.proofs.Positions.{slice_get-length}
use Rattle.chyp_term.proofs.Members.{Member, Rearr-member, among-member, below-member, get-member, member-among, member-below, member-flat, member-not_apart}
use Rattle.chyp_term.proofs.Members.{member-right, member-split, not_member-apart}
use Rattle.chyp_term.proofs.Members.{parts-apart, member-Contains, Contains-member, All-from_get_members, All-members, le-flat}
use Rattle.chyp_term.proofs.Rearrangement.{Rearr-sym, flat-append, permutation-Rearr}
use Rattle.chyp_term.proofs.Slices.{get-set_same, get-set_other, get-take, take-suc}
use Rattle.chyp_term.proofs.Closure.{get-item}
use Rattle.chyp_graph.specs.Graph.{IsPort, IsTable}
use Rattle.chyp_graph.specs.PlainGraph.{Edge}
use Rattle.chyp_graph.specs.PortTable.{AreNoted}

pub noted-more : (e : ℕ) (ws : List ℕ) (i w : ℕ) (before table : List (Option (ℕ × ℕ))) → slice_get ws i ≡ Some w → w < length before
    → AreNoted e (take i ws) before table → AreNoted e (take (i + 1) ws) before (slice_set table w (Some (e, i)))
noted-more e ws i w before table g b n = (length-set table w (Some (e, i)) ∙ n.0, λ v entry h. at v entry h (cases_eq v w))
  where
    next : take (i + 1) ws ≡ take i ws ++ w ∷ []
    next = take-suc ws i w g

    at : (v : ℕ) (entry : Option (ℕ × ℕ)) → slice_get (slice_set table w (Some (e, i))) v ≡ Some entry → (v ≡ w) ⊎ (v ≢ w)
        → ((slice_get before v ≡ Some entry) × (is_apart (take (i + 1) ws) v ≡ true)) ⊎ ((j : ℕ) × (entry ≡ Some (e, j)) × (slice_get (take (i + 1) ws) j ≡ Some v))
    at v entry h (inl q) =
        let l = n.0 in
        let s : slice_get (slice_set table w (Some (e, i))) v ≡ Some (Some (e, i)) = ap (slice_get (slice_set table w (Some (e, i)))) q ∙ get-set_same table w (Some (e, i)) (omega arith) in
        let c : Some entry ≡ Some (Some (e, i)) = sym h ∙ s in
        inr (i, cc, get-take ws (i + 1) i (omega arith) ∙ g ∙ ap (λ x. Some x) (sym q))
    at v entry h (inr q) = old (n.1 v entry (sym (get-set_other table w v (Some (e, i)) q) ∙ h))
      where
        old : ((slice_get before v ≡ Some entry) × (is_apart (take i ws) v ≡ true)) ⊎ ((j : ℕ) × (entry ≡ Some (e, j)) × (slice_get (take i ws) j ≡ Some v))
            → ((slice_get before v ≡ Some entry) × (is_apart (take (i + 1) ws) v ≡ true)) ⊎ ((j : ℕ) × (entry ≡ Some (e, j)) × (slice_get (take (i + 1) ws) j ≡ Some v))
        old (inl k) = inl (k.0, rw next (not_member-apart (take i ws ++ w ∷ []) v (λ m. no (member-split (take i ws) (w ∷ []) v m))))
          where
            no : (Member v (take i ws)) ⊎ ((w ≡ v) ⊎ ⊥) → ⊥
            no (inl m) = let a = member-not_apart (take i ws) v m in let c = k.1 in cc
            no (inr (inl m)) = q (sym m)
            no (inr (inr m)) = m
        old (inr k) = inr (k.0, k.1, rw next (get-append_left (take i ws) (w ∷ []) k.0 (slice_get-length (take i ws) k.0 v k.2) ∙ k.2))

pub table-more : (ports : Edge → List ℕ) (es : List Edge) (k : ℕ) (e : Edge) (n : ℕ) (table new : List (Option (ℕ × ℕ))) → slice_get es k ≡ Some e
    → IsTable ports (take k es) n table → AreNoted k (ports e) table new → IsTable ports (take (k + 1) es) n new
table-more ports es k e n table new g t m = record {
  size = m.0 ∙ t.size;
  entries = λ w entry h. at w entry (m.1 w entry h);
}
  where
    next : take (k + 1) es ≡ take k es ++ e ∷ []
    next = take-suc es k e g

    older : (w : ℕ) (entry : Option (ℕ × ℕ)) → IsPort ports (take k es) w entry → is_apart (ports e) w ≡ true → IsPort ports (take (k + 1) es) w entry
    older w None h a = rw next (not_member-apart _ w (λ q. no (member-split (flat_map ports (take k es)) (ports e ++ []) w (subst (Member w) (flat-append ports (take k es) (e ∷ [])) q))))
      where
        no : (Member w (flat_map ports (take k es))) ⊎ (Member w (ports e ++ [])) → ⊥
        no (inl q) = let b = member-not_apart (flat_map ports (take k es)) w q in cc
        no (inr q) = last (member-split (ports e) [] w q)
          where
            last : (Member w (ports e)) ⊎ ⊥ → ⊥
            last (inl r) = let b = member-not_apart (ports e) w r in cc
            last (inr r) = r
    older w (Some p) h a = found-edge (slice_get (take k es) p.0) refl h
      where
        found-edge : (o : Option Edge) → slice_get (take k es) p.0 ≡ o → option_and_then (λ e. slice_get (ports e) p.1) o ≡ Some w
            → option_and_then (λ e. slice_get (ports e) p.1) (slice_get (take (k + 1) es) p.0) ≡ Some w
        found-edge None q r = cc
        found-edge (Some d) q r = rw (next, get-append_left (take k es) (e ∷ []) p.0 (slice_get-length (take k es) p.0 d q), q) r

    at : (w : ℕ) (entry : Option (ℕ × ℕ)) → ((slice_get table w ≡ Some entry) × (is_apart (ports e) w ≡ true)) ⊎
        ((i : ℕ) × (entry ≡ Some (k, i)) × (slice_get (ports e) i ≡ Some w)) → IsPort ports (take (k + 1) es) w entry
    at w entry (inl q) = older w entry (t.entries w entry q.0) q.1
    at w entry (inr q) = subst (IsPort ports (take (k + 1) es) w) (sym q.1) (rw (get-take es (k + 1) k (omega arith), g) q.2)

-- what a table says of a wire
pub read-port : (ports : Edge → List ℕ) (es : List Edge) (n : ℕ) (table : List (Option (ℕ × ℕ))) → IsTable ports es n table → (w : ℕ) → w < n
    → (entry : Option (ℕ × ℕ)) → entry ≡ get_or table w entry → IsPort ports es w entry
read-port ports es n table t w h entry e = let s = t.size in t.entries w entry (get-item table w entry (omega arith) e)

pub port-at : (ports : Edge → List ℕ) (es : List Edge) (w : ℕ) (entry : Option (ℕ × ℕ)) → IsPort ports es w entry
    → IfSome entry (λ p. option_and_then (λ e. slice_get (ports e) p.1) (slice_get es p.0) ≡ Some w)
port-at ports es w None h = tt
port-at ports es w (Some p) h = h

-- a wire is no port exactly where it is an end, and each wire is once either
pub no-port : (ports : Edge → List ℕ) (es : List Edge) (n : ℕ) (ends : List ℕ) → IsPermutation n (ends ++ flat_map ports es) → (w : ℕ) → w < n
    → (entry : Option (ℕ × ℕ)) → IsPort ports es w entry → IsNone entry ↔ Contains ends w
no-port ports es n ends t w b None h = (λ _. member-Contains ends w (go (member-split ends (flat_map ports es) w (Rearr-member w (permutation-Rearr n _ t) (below-member n w b)))), λ _. refl)
  where
    go : (Member w ends) ⊎ (Member w (flat_map ports es)) → Member w ends
    go (inl m) = m
    go (inr m) = let a = member-not_apart (flat_map ports es) w m in cc
no-port ports es n ends t w b (Some p) h = (λ x. cc, λ c. absurd (parts-apart n ends (flat_map ports es) t w (Contains-member ends w c) (there (slice_get es p.0) refl h)))
  where
    there : (o : Option Edge) → slice_get es p.0 ≡ o → option_and_then (λ e. slice_get (ports e) p.1) o ≡ Some w → Member w (flat_map ports es)
    there None q r = cc
    there (Some e) q r = member-flat ports es e w (get-member es p.0 e q) (get-member (ports e) p.1 w r)

-- ## the ports of a valid graph

-- they are few wires each
pub ports-within : (ports : Edge → List ℕ) (es : List Edge) (n : ℕ) (ends : List ℕ) → IsPermutation n (ends ++ flat_map ports es) → n < 2147483648
    → All (λ e. (length (ports e) < 4294967296) × All (λ w. w < n) (ports e)) es
ports-within ports es n ends t b =
    All-from_get_members {P = λ e. (length (ports e) < 4294967296) × All (λ w. w < n) (ports e)} es (λ e m. (few e m, All-members (ports e) (λ w k. below w (member-flat ports es e w m k))))
  where
    below : (w : ℕ) → Member w (flat_map ports es) → w < n
    below w m = member-below n w (Rearr-member w (Rearr-sym (permutation-Rearr n _ t)) (member-right ends _ w m))

    few : (e : Edge) → Member e es → length (ports e) < 4294967296
    few e m = let a = length-append ends (flat_map ports es) in let s = t.size in let l = le-flat ports es e m in omega arith

-- a wire that nothing makes is an input, and the others are none
pub among-end : (ks : List ℕ) (w : ℕ) (r : Option (ℕ × ℕ)) (b : Bool) → (IsNone r ↔ Contains ks w) → is_some r ≡ not b → b ≡ true → is_among ks w ≡ true
among-end ks w r b e q t = member-among ks w (Contains-member ks w (e.0 (q ∙ ap not t)))

pub not-among_end : (ks : List ℕ) (w : ℕ) (r : Option (ℕ × ℕ)) (b : Bool) → (IsNone r ↔ Contains ks w) → is_some r ≡ not b → b ≡ false → is_among ks w ≡ false
not-among_end ks w r b e q f = go (is_among ks w) refl
  where
    go : (x : Bool) → is_among ks w ≡ x → is_among ks w ≡ false
    go false h = h
    go true h = let n = e.1 (member-Contains ks w (among-member ks w h)) in let s : is_some r ≡ true = q ∙ ap not f in cc
