-- The verdicts of the first statements of a module.
use Rattle.std.proofs.Common.{◌≡◌, ℕ, zero, suc, ◌<◌, List, [], ◌∷◌, ◌++◌, Some, length, slice_get, ◌⊎◌, inl, inr, refl, sym, ◌∙◌, ap, ap₂, subst, arith}
use Rattle.std.proofs.lemmas.List.{length-append}
use Rattle.chyp_base.specs.declared.verdict.Verdict.{Verdict}
use Rattle.chyp_verdicts.specs.Standing.{Gets, Standing}

-- ---- lists by their places

pub list-same : {A : Type 0} (xs ys : List A) → length xs ≡ length ys → ((k : ℕ) (x y : A) → slice_get xs k ≡ Some x → slice_get ys k ≡ Some y → x ≡ y) → xs ≡ ys
list-same [] [] e each = refl
list-same [] (y ∷ ys) e each = absurd (omega arith)
list-same (x ∷ xs) [] e each = absurd (omega arith)
list-same (x ∷ xs) (y ∷ ys) e each = ap₂ (λ z zs. z ∷ zs) (each 0 x y refl refl) (list-same xs ys (omega arith) (λ k a b f g. each (suc k) a b f g))

pub get-push : {A : Type 0} (xs : List A) (x y : A) (k : ℕ) → slice_get (xs ++ x ∷ []) k ≡ Some y → ((k < length xs) × (slice_get xs k ≡ Some y)) ⊎ ((k ≡ length xs) × (x ≡ y))
get-push [] x y zero e = inr (refl, cc)
get-push [] x y (suc k) e = absurd cc
get-push (a ∷ rest) x y zero e = inl (omega arith, e)
get-push (a ∷ rest) x y (suc k) e = elim (get-push rest x y k e) [ inl h ↦ inl (omega (arith, h.0), h.1) | inr h ↦ inr (ap suc h.0, h.1) ]

-- ---- verdicts of the first statements

-- the first statements, as many as this, get these verdicts
pub record HaveVerdicts (Stands : Standing) (home : List ℕ) (number : ℕ) (verdicts : List Verdict) : Type 0 where
  pub many : length verdicts ≡ number
  pub each : (k : ℕ) (v : Verdict) → slice_get verdicts k ≡ Some v → Gets Stands (record { home = home; number = k }) v

pub no-verdicts : (Stands : Standing) (home : List ℕ) → HaveVerdicts Stands home 0 []
no-verdicts Stands home = record { many = refl; each = λ k v e. absurd cc }

-- one verdict more
pub push-verdict : (Stands : Standing) (home : List ℕ) (number : ℕ) (verdicts : List Verdict) (v : Verdict) → HaveVerdicts Stands home number verdicts
    → Gets Stands (record { home = home; number = number }) v → HaveVerdicts Stands home (suc number) (verdicts ++ v ∷ [])
push-verdict Stands home number verdicts v front g = record {
  many = let many = front.many in let l = length-append verdicts (v ∷ []) in omega arith;
  each = λ k w e. go k w (get-push verdicts v w k e);
}
  where
    go : (k : ℕ) (w : Verdict) → ((k < length verdicts) × (slice_get verdicts k ≡ Some w)) ⊎ ((k ≡ length verdicts) × (v ≡ w)) → Gets Stands (record { home = home; number = k }) w
    go k w (inl h) = front.each k w h.1
    go k w (inr h) = subst (λ n. Gets Stands (record { home = home; number = n }) w) (sym (h.0 ∙ front.many)) (subst (Gets Stands (record { home = home; number = number })) h.1 g)
