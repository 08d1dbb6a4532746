-- Each wire is made once and used once: what comes out and what is used is what goes in and what is made.
use Rattle.std.proofs.Common.{[], ℕ, ◌<◌, ◌≡◌, List, ◌∷◌, ◌++◌, map, length, take, drop, flat_map, ◌⊎◌, inl, inr, refl, sym, ◌∙◌, ap, ap₂, subst, arith, append_assoc, append-nil, take-append-drop}
use Rattle.std.specs.List.{AllByRecursion}
use Rattle.chyp_term.specs.Morphism.{Morphism, generator, permutation, then, beside, dom, IsTyped}
use Rattle.chyp_term.specs.Perm.{IsPermutation, count_from}
use Rattle.chyp_term.proofs.Distinct.{all-append}
use Rattle.chyp_term.proofs.Members.{Member, Rearr-member, flat-member, get-member, member-flat, member-left, member-split}
use Rattle.chyp_term.proofs.Rearrangement.{Rearr, join, Rearr-right, Rearr-left, Rearr-same, Rearr-sym, Rearr-comm, Rearr-inner, Rearr-append, permuted-Rearr}
use Rattle.chyp_term.proofs.Rearrangement.{flat-append, flat-map, all-count, Rearr-all}
use Rattle.chyp_term.proofs.Apart.{Apart, Rearr-Apart, all-split, Apart-append, Apart-split, apart-turned, Apart-count, all-flat}
use Rattle.chyp_term.proofs.SameMembers.{member-all, member-count}
use Rattle.chyp_theory.proofs.Congruence.{length-run, length-take_dom, length-drop_dom}
use Rattle.chyp_theory.proofs.Renaming.{Producer, Target}
use Rattle.chyp_theory.proofs.Running.{EdgeOf, label_of, run, src}
use Rattle.chyp_theory.proofs.EdgeLists.{edges_of, number, edge_at}

pub flat-both : {A B C : Type 0} (f : A ⊎ B → List C) (xs : List A) (ys : List B)
    → flat_map f (map (λ x. inl x) xs ++ map (λ y. inr y) ys) ≡ flat_map (λ x. f (inl x)) xs ++ flat_map (λ y. f (inr y)) ys
flat-both f xs ys = flat-append f (map (λ x. inl x) xs) (map (λ y. inr y) ys) ∙ ap₂ (λ a b. a ++ b) (flat-map f (λ x. inl x) xs) (flat-map f (λ y. inr y) ys)

-- what the edges make, in the order of the edges
abbrev pub made : {V : Type 0} (t : Morphism) → (EdgeOf t → ℕ → V) → List V
made t mk = flat_map (λ e. map (mk e) (count_from 0 (length (label_of t e).cod))) (edges_of t)

-- what the edges take, in the order of the edges
abbrev pub used : {V : Type 0} (t : Morphism) → (EdgeOf t → ℕ → V) → List V → List V
used t mk live = flat_map (src t mk live) (edges_of t)

-- what comes out and what is taken is, in some order, what goes in and what is made
pub linear : {V : Type 0} (t : Morphism) → IsTyped t → (mk : EdgeOf t → ℕ → V) (live : List V) → length live ≡ length (dom t)
    → Rearr (run t mk live ++ used t mk live) (live ++ made t mk)
linear (generator n a b) ty mk live h =
    join (Rearr-comm (map (mk tt) (count_from 0 (length b))) (live ++ []))
    (Rearr-same (append_assoc live [] _ ∙ ap (λ z. live ++ z) (sym (append-nil (map (mk tt) (count_from 0 (length b)))))))
linear (permutation a p) ty mk live h = Rearr-right [] (Rearr-sym (permuted-Rearr live p (subst (λ n. IsPermutation n p) (sym h) ty)))
linear (then s t) ty mk live h =
    let l = run s (λ e. mk (inl e)) live in
    let f = linear s ty.0 (λ e. mk (inl e)) live h in
    let g = linear t ty.1 (λ e. mk (inr e)) l (length-run s ty.0 (λ e. mk (inl e)) live h ∙ ap length ty.2) in
    join (Rearr-same (ap (λ z. run t (λ e. mk (inr e)) l ++ z) (flat-both (src (then s t) mk live) (edges_of s) (edges_of t))))
    (join (Rearr-left (run t (λ e. mk (inr e)) l) (Rearr-comm (used s (λ e. mk (inl e)) live) (used t (λ e. mk (inr e)) l)))
    (join (Rearr-same (sym (append_assoc (run t (λ e. mk (inr e)) l) (used t (λ e. mk (inr e)) l) (used s (λ e. mk (inl e)) live))))
    (join (Rearr-right (used s (λ e. mk (inl e)) live) g)
    (join (Rearr-same (append_assoc l (made t (λ e. mk (inr e))) (used s (λ e. mk (inl e)) live)))
    (join (Rearr-left l (Rearr-comm (made t (λ e. mk (inr e))) (used s (λ e. mk (inl e)) live)))
    (join (Rearr-same (sym (append_assoc l (used s (λ e. mk (inl e)) live) (made t (λ e. mk (inr e))))))
    (join (Rearr-right (made t (λ e. mk (inr e))) f)
    (Rearr-same (append_assoc live (made s (λ e. mk (inl e))) (made t (λ e. mk (inr e)))
    ∙ ap (λ z. live ++ z) (sym (flat-both (λ e. map (mk e) (count_from 0 (length (label_of (then s t) e).cod))) (edges_of s) (edges_of t))))))))))))
linear (beside s t) ty mk live h =
    let x = take (length (dom s)) live in
    let y = drop (length (dom s)) live in
    let f = linear s ty.0 (λ e. mk (inl e)) x (length-take_dom s t live h) in
    let g = linear t ty.1 (λ e. mk (inr e)) y (length-drop_dom s t live h) in
    join (Rearr-same (ap (λ z. (run s (λ e. mk (inl e)) x ++ run t (λ e. mk (inr e)) y) ++ z) (flat-both (src (beside s t) mk live) (edges_of s) (edges_of t))))
    (join (Rearr-inner (run s (λ e. mk (inl e)) x) (run t (λ e. mk (inr e)) y) (used s (λ e. mk (inl e)) x) (used t (λ e. mk (inr e)) y))
    (join (Rearr-append f g)
    (join (Rearr-inner x (made s (λ e. mk (inl e))) y (made t (λ e. mk (inr e))))
    (Rearr-same (ap₂ (λ a b. a ++ b) (take-append-drop (length (dom s)) live)
    (sym (flat-both (λ e. map (mk e) (count_from 0 (length (label_of (beside s t) e).cod))) (edges_of s) (edges_of t))))))))

pub all-made : (P : ℕ → Type 0) (t : Morphism) (mk : EdgeOf t → ℕ → ℕ) → ((e : EdgeOf t) (i : ℕ) → i < length (label_of t e).cod → P (mk e i))
    → AllByRecursion P (made t mk)
all-made P t mk h = each (edges_of t)
  where
    each : (es : List (EdgeOf t)) → AllByRecursion P (flat_map (λ e. map (mk e) (count_from 0 (length (label_of t e).cod))) es)
    each [] = tt
    each (e ∷ es) =
        all-append P (map (mk e) (count_from 0 (length (label_of t e).cod))) _ (all-count P (mk e) 0 (length (label_of t e).cod) (λ i _ l. h e i (omega arith)))
        (each es)

-- ## runs on numbers that are apart

pub on_left : {A B : Type 0} (d e : A) (i j : ℕ) → ◌≡◌ {A = Producer (A ⊎ B)} (Target (inl d) i) (Target (inl e) j)
    → ◌≡◌ {A = Producer A} (Target d i) (Target e j)
on_left d e i j q = let z : d ≡ e = cc in let y : i ≡ j = cc in ap₂ (λ a b. Target a b) z y

pub on_right : {A B : Type 0} (d e : B) (i j : ℕ) → ◌≡◌ {A = Producer (A ⊎ B)} (Target (inr d) i) (Target (inr e) j)
    → ◌≡◌ {A = Producer B} (Target d i) (Target e j)
on_right d e i j q = let z : d ≡ e = cc in let y : i ≡ j = cc in ap₂ (λ a b. Target a b) z y

pub differ : {A B : Type 0} (d : A) (e : B) (i j : ℕ) → ◌≡◌ {A = Producer (A ⊎ B)} (Target (inl d) i) (Target (inr e) j) → ⊥
differ d e i j q = cc

pub made-both : (s t : Morphism) (mk : EdgeOf s ⊎ EdgeOf t → ℕ → ℕ) → Apart (made s (λ e. mk (inl e))) → Apart (made t (λ e. mk (inr e)))
    → ((d : EdgeOf s) (e : EdgeOf t) (i j : ℕ) → i < length (label_of s d).cod → j < length (label_of t e).cod → mk (inl d) i ≡ mk (inr e) j → ⊥)
    → Apart (made s (λ e. mk (inl e)) ++ made t (λ e. mk (inr e)))
made-both s t mk a b c =
    Apart-append (made s (λ e. mk (inl e))) (made t (λ e. mk (inr e))) a b
    (all-made (λ x. AllByRecursion (λ y. ¬ (x ≡ y)) (made t (λ e. mk (inr e)))) s (λ e. mk (inl e))
    (λ d i l. all-made (λ y. ¬ (mk (inl d) i ≡ y)) t (λ e. mk (inr e)) (λ e j r q. c d e i j l r q)))

-- what all edges make is apart, if no two targets have one number
pub Apart-made : (t : Morphism) (mk : EdgeOf t → ℕ → ℕ)
    → ((d e : EdgeOf t) (i j : ℕ) → i < length (label_of t d).cod → j < length (label_of t e).cod → mk d i ≡ mk e j
    → ◌≡◌ {A = Producer (EdgeOf t)} (Target d i) (Target e j)) → Apart (made t mk)
Apart-made (generator n a b) mk h =
    subst Apart (sym (append-nil _)) (Apart-count (mk tt) 0 (length b) (λ i j _ l _ r e. at i j (h tt tt i j (omega arith) (omega arith) e)))
  where
    at : (i j : ℕ) → ◌≡◌ {A = Producer (Unit {0})} (Target tt i) (Target tt j) → i ≡ j
    at i j e = cc
Apart-made (permutation a p) mk h = tt
Apart-made (then s t) mk h =
    subst Apart (sym (flat-both (λ e. map (mk e) (count_from 0 (length (label_of (then s t) e).cod))) (edges_of s) (edges_of t)))
    (made-both s t mk (Apart-made s (λ e. mk (inl e)) (λ d e i j l r q. on_left d e i j (h (inl d) (inl e) i j l r q)))
    (Apart-made t (λ e. mk (inr e)) (λ d e i j l r q. on_right d e i j (h (inr d) (inr e) i j l r q)))
    (λ d e i j l r q. differ d e i j (h (inl d) (inr e) i j l r q)))
Apart-made (beside s t) mk h =
    subst Apart (sym (flat-both (λ e. map (mk e) (count_from 0 (length (label_of (beside s t) e).cod))) (edges_of s) (edges_of t)))
    (made-both s t mk (Apart-made s (λ e. mk (inl e)) (λ d e i j l r q. on_left d e i j (h (inl d) (inl e) i j l r q)))
    (Apart-made t (λ e. mk (inr e)) (λ d e i j l r q. on_right d e i j (h (inr d) (inr e) i j l r q)))
    (λ d e i j l r q. differ d e i j (h (inl d) (inr e) i j l r q)))

-- what holds of all that goes in and all that is made holds of all that comes out and all that is used
pub all-run : (P : ℕ → Type 0) (t : Morphism) → IsTyped t → (mk : EdgeOf t → ℕ → ℕ) (live : List ℕ) → length live ≡ length (dom t) → AllByRecursion P live
    → ((e : EdgeOf t) (i : ℕ) → i < length (label_of t e).cod → P (mk e i))
    → AllByRecursion P (run t mk live) × ((e : EdgeOf t) → AllByRecursion P (src t mk live e))
all-run P t ty mk live h a f =
    let r = all-split P (run t mk live) (used t mk live)
    (Rearr-all P (Rearr-sym (linear t ty mk live h)) (all-append P live (made t mk) a (all-made P t mk f))) in
    (r.0, λ e. all-flat P (src t mk live) (edges_of t) (number t e) e (edge_at t e) r.1)

-- where wires are numbers: what comes out is apart, and none of it is taken
pub record IsLinear (t : Morphism) (mk : EdgeOf t → ℕ → ℕ) (live : List ℕ) : Type 0 where
  pub outs : Apart (run t mk live)
  -- what an edge takes does not come out
  pub taken : (e : EdgeOf t) → AllByRecursion (λ y. AllByRecursion (λ x. ¬ (y ≡ x)) (run t mk live)) (src t mk live e)

-- so it is where what goes in and what is made is apart
pub is_linear : (t : Morphism) → IsTyped t → (mk : EdgeOf t → ℕ → ℕ) (live : List ℕ) → length live ≡ length (dom t) → Apart live
    → ((d e : EdgeOf t) (i j : ℕ) → i < length (label_of t d).cod → j < length (label_of t e).cod → mk d i ≡ mk e j
    → ◌≡◌ {A = Producer (EdgeOf t)} (Target d i) (Target e j))
    → ((e : EdgeOf t) (i : ℕ) → i < length (label_of t e).cod → AllByRecursion (λ x. ¬ (mk e i ≡ x)) live) → IsLinear t mk live
is_linear t ty mk live h a f g =
    let m = all-made (λ y. AllByRecursion (λ x. ¬ (y ≡ x)) live) t mk g in
    let r = Apart-split (run t mk live) (used t mk live)
    (Rearr-Apart (Rearr-sym (linear t ty mk live h)) (Apart-append live (made t mk) a (Apart-made t mk f) (apart-turned (made t mk) live m))) in
    record {
      outs = r.0;
      taken =
          λ e. all-flat (λ y. AllByRecursion (λ x. ¬ (y ≡ x)) (run t mk live)) (src t mk live) (edges_of t) (number t e) e (edge_at t e)
          (apart-turned (run t mk live) (used t mk live) r.2);
    }

-- ## the members of what is made and used

pub member-made : (t : Morphism) (mk : EdgeOf t → ℕ → ℕ) (e : EdgeOf t) (i : ℕ) → i < length (label_of t e).cod → Member (mk e i) (made t mk)
member-made t mk e i h =
    member-flat (λ e. map (mk e) (count_from 0 (length (label_of t e).cod))) (edges_of t) e (mk e i) (get-member (edges_of t) (number t e) e (edge_at t e))
    (subst (λ z. Member (mk e z) (map (mk e) (count_from 0 (length (label_of t e).cod)))) (omega arith) (member-count (mk e) 0 (length (label_of t e).cod) i h))

pub used-member : (t : Morphism) (mk : EdgeOf t → ℕ → ℕ) (live : List ℕ) (w : ℕ) → Member w (used t mk live) → (e : EdgeOf t) × Member w (src t mk live e)
used-member t mk live w h = let f = flat-member (src t mk live) (edges_of t) w h in (f.0, f.2)

-- what goes in or is made comes out or is used
pub comes_out : (t : Morphism) → IsTyped t → (mk : EdgeOf t → ℕ → ℕ) (live : List ℕ) → length live ≡ length (dom t) → (w : ℕ) → Member w (live ++ made t mk)
    → ((e : EdgeOf t) → Member w (src t mk live e) → ⊥) → Member w (run t mk live)
comes_out t ty mk live h w q n = go (member-split (run t mk live) (used t mk live) w (Rearr-member w (Rearr-sym (linear t ty mk live h)) q))
  where
    go : (Member w (run t mk live)) ⊎ (Member w (used t mk live)) → Member w (run t mk live)
    go (inl r) = r
    go (inr r) = let f = used-member t mk live w r in absurd (n f.0 f.1)

-- what comes out goes in or is made
pub came_from : (t : Morphism) → IsTyped t → (mk : EdgeOf t → ℕ → ℕ) (live : List ℕ) → length live ≡ length (dom t) → (w : ℕ) → Member w (run t mk live)
    → Member w (live ++ made t mk)
came_from t ty mk live h w q = Rearr-member w (linear t ty mk live h) (member-left (run t mk live) (used t mk live) w q)

pub not_used : (t : Morphism) (mk : EdgeOf t → ℕ → ℕ) (live : List ℕ) → IsLinear t mk live → (w : ℕ) → Member w (run t mk live) → (e : EdgeOf t)
    → Member w (src t mk live e) → ⊥
not_used t mk live k w q e r =
    member-all (λ x. ¬ (w ≡ x)) (run t mk live) w (member-all (λ y. AllByRecursion (λ x. ¬ (y ≡ x)) (run t mk live)) (src t mk live e) w (k.taken e) r) q refl

pub made-member : (t : Morphism) (mk : EdgeOf t → ℕ → ℕ) (w : ℕ) → Member w (made t mk)
    → (e : EdgeOf t) × (i : ℕ) × (i < length (label_of t e).cod) × (mk e i ≡ w)
made-member t mk w h = member-all (λ w. (e : EdgeOf t) × (i : ℕ) × (i < length (label_of t e).cod) × (mk e i ≡ w)) (made t mk) w
    (all-made (λ w. (e : EdgeOf t) × (i : ℕ) × (i < length (label_of t e).cod) × (mk e i ≡ w)) t mk (λ e i l. (e, i, l, refl))) h
