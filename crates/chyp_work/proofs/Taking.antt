-- Boards that items are taken out of, one after the other.
use Rattle.std.proofs.Common.{ℕ, zero, suc, ◌≡◌, ◌≢◌, Bool, true, false, cond, List, [], ◌∷◌, ◌++◌, take, Some, slice_get, ◌⊎◌, inl, inr, refl, sym, ◌∙◌, ap, subst, eq-eqb, ne_eqb}
use Rattle.std.proofs.lemmas.Bool.{cases_eq}
use Rattle.chyp_term.specs.Positions.{is_apart}
use Rattle.chyp_term.proofs.Members.{Member, member-not_apart, member-right, not_member-apart}
use Rattle.chyp_store.specs.Items.{AreDistinct, without, without_all}
use Rattle.chyp_match.specs.View.{IsIn}

-- none are taken out of a list
pub without-none : {X : Type 0} (items : List (ℕ × X)) → without_all [] items ≡ items
without-none [] = refl
without-none (e ∷ es) = ap (λ l. e ∷ l) (without-none es)

apart-push : (ks : List ℕ) (k j : ℕ) → k ≢ j → is_apart (ks ++ k ∷ []) j ≡ is_apart ks j
apart-push [] k j n = rw (ne_eqb k j n) refl
apart-push (x ∷ ks) k j n = by (cases_eq x j) (apart-push ks k j n)
  where
    by : (x ≡ j) ⊎ (x ≢ j) → is_apart (ks ++ k ∷ []) j ≡ is_apart ks j → is_apart (x ∷ (ks ++ k ∷ [])) j ≡ is_apart (x ∷ ks) j
    by (inl q) r = member-not_apart (x ∷ (ks ++ k ∷ [])) j (inl q) ∙ sym (member-not_apart (x ∷ ks) j (inl q))
    by (inr d) r = here (is_apart ks j) refl
      where
        here : (b : Bool) → is_apart ks j ≡ b → is_apart (x ∷ (ks ++ k ∷ [])) j ≡ is_apart (x ∷ ks) j
        here true e =
            let a = rw e at r in
            not_member-apart (x ∷ (ks ++ k ∷ [])) j (out (ks ++ k ∷ []) a) ∙ sym (not_member-apart (x ∷ ks) j (out ks e))
          where
            out : (ys : List ℕ) → is_apart ys j ≡ true → Member j (x ∷ ys) → ⊥
            out ys a (inl q) = d q
            out ys a (inr m) = let b = member-not_apart ys j m in absurd (cc)
        here false e = member-not_apart (x ∷ (ks ++ k ∷ [])) j (inr (stays (ks ++ k ∷ []) (r ∙ e))) ∙ sym (member-not_apart (x ∷ ks) j (inr (stays ks e)))
          where
            stays : (ys : List ℕ) → is_apart ys j ≡ false → Member j ys
            stays [] a = absurd (cc)
            stays (y ∷ ys) a = on (cases_eq y j) (stays ys)
              where
                on : (y ≡ j) ⊎ (y ≢ j) → (is_apart ys j ≡ false → Member j ys) → Member j (y ∷ ys)
                on (inl q) s = inl q
                on (inr n) s = inr (s (sure (is_apart ys j) refl))
                  where
                    sure : (b : Bool) → is_apart ys j ≡ b → is_apart ys j ≡ false
                    sure false e = e
                    sure true e = let z = not_member-apart (y ∷ ys) j (λ m. none m e) in absurd (cc)
                      where
                        none : Member j (y ∷ ys) → is_apart ys j ≡ true → ⊥
                        none (inl q) t = n q
                        none (inr m) t = let b = member-not_apart ys j m in absurd (cc)

-- one more is taken out
pub without-more : {X : Type 0} (ks : List ℕ) (k : ℕ) (items : List (ℕ × X)) → without k (without_all ks items) ≡ without_all (ks ++ k ∷ []) items
without-more ks k [] = refl
without-more {X} ks k (e ∷ es) = by (is_apart ks e.0) (cases_eq k e.0) refl (without-more ks k es)
  where
    by : (b : Bool) → (k ≡ e.0) ⊎ (k ≢ e.0) → is_apart ks e.0 ≡ b → without k (without_all ks es) ≡ without_all (ks ++ k ∷ []) es
        → without k (cond (is_apart ks e.0) (e ∷ without_all ks es) (without_all ks es)) ≡ cond (is_apart (ks ++ k ∷ []) e.0) (e ∷ without_all (ks ++ k ∷ []) es) (without_all (ks ++ k ∷ []) es)
    by b (inl q) a r =
        let m = member-not_apart (ks ++ k ∷ []) e.0 (member-right ks (k ∷ []) e.0 (inl q)) in
        rw m (go b a)
      where
        go : (b : Bool) → is_apart ks e.0 ≡ b → without k (cond (is_apart ks e.0) (e ∷ without_all ks es) (without_all ks es)) ≡ without_all (ks ++ k ∷ []) es
        go true t = rw (t, eq-eqb k e.0 q) r
        go false t = rw t r
    by true (inr n) a r = rw (apart-push ks k e.0 n, a, ne_eqb k e.0 n) (ap (λ l. e ∷ l) r)
    by false (inr n) a r = rw (apart-push ks k e.0 n, a) r

-- what is not taken out is still there
pub there-still : {X : Type 0} (ks : List ℕ) (k : ℕ) (items : List (ℕ × X)) → is_apart ks k ≡ true → IsIn k items → IsIn k (without_all ks items)
there-still ks k [] a h = h
there-still {X} ks k (e ∷ es) a h = by (is_apart ks e.0) (cases_eq k e.0) refl (there-still ks k es a)
  where
    by : (b : Bool) → (k ≡ e.0) ⊎ (k ≢ e.0) → is_apart ks e.0 ≡ b → (IsIn k es → IsIn k (without_all ks es)) → IsIn k (cond (is_apart ks e.0) (e ∷ without_all ks es) (without_all ks es))
    by true (inl q) b r = rw (b, eq-eqb k e.0 q) refl
    by false (inl q) b r = let c : is_apart ks k ≡ false = ap (is_apart ks) q ∙ b in absurd (cc)
    by true (inr n) b r = let g = rw (ne_eqb k e.0 n) at h in rw (b, ne_eqb k e.0 n) (r g)
    by false (inr n) b r = let g = rw (ne_eqb k e.0 n) at h in rw b (r g)

-- in a list of distinct numbers, each is none of those before it
pub apart-before : (ks : List ℕ) (i k : ℕ) → AreDistinct ks → slice_get ks i ≡ Some k → is_apart (take i ks) k ≡ true
apart-before [] i k d h = absurd (cc)
apart-before (x ∷ ks) zero k d h = refl
apart-before (x ∷ ks) (suc i) k d h =
    let r = apart-before ks i k d.1 h in
    not_member-apart (x ∷ take i ks) k (λ m. out m r)
  where
    member : (ks : List ℕ) (i : ℕ) → slice_get ks i ≡ Some k → Member k ks
    member [] i h = cc
    member (y ∷ ks) zero h = let q : y ≡ k = cc in inl q
    member (y ∷ ks) (suc i) h = inr (member ks i h)

    out : Member k (x ∷ take i ks) → is_apart (take i ks) k ≡ true → ⊥
    out (inl q) r = let b = member-not_apart ks x (subst (λ j. Member j ks) (sym q) (member ks i h)) in let c = d.0 in absurd (cc)
    out (inr m) r = let b = member-not_apart (take i ks) k m in absurd (cc)
