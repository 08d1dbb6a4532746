-- Marks of images, one after the other.
use Rattle.std.proofs.Common.{ℕ, ◌+◌, ◌<◌, ◌≡◌, ◌≢◌, Bool, true, List, [], ◌∷◌, ◌++◌, length, take, Some, slice_get, slice_set, ◌⊎◌, inl, inr, sym, ◌∙◌, ap, arith}
use Rattle.std.proofs.lemmas.Bool.{cases_eq}
use Rattle.std.proofs.Math.ListN.{length-set}
use Rattle.chyp_term.specs.Positions.{is_among, is_there}
use Rattle.chyp_term.proofs.Slices.{get-set_other, get-set_same, take-suc}
use Rattle.chyp_replace.specs.Images.{AreMarked}
use Rattle.chyp_replace.proofs.Places.{among-new, place-other}

-- one image more
pub marked-more : (images : List ℕ) (n : ℕ) (marks after : List Bool) (i x : ℕ) → slice_get images i ≡ Some x → x < n
    → AreMarked (take i images) n marks → after ≡ slice_set marks x true → AreMarked (take (i + 1) images) n after
marked-more images n marks after i x g b m e = record {
  size = ap length e ∙ length-set marks x true ∙ m.size;
  each = λ k h. at k h (cases_eq k x);
}
  where
    at : (k : ℕ) → k < n → (k ≡ x) ⊎ (k ≢ x) → slice_get after k ≡ Some (is_among (take (i + 1) images) k)
    at k h (inl q) =
        ap (λ l. slice_get l k) e ∙ ap (slice_get (slice_set marks x true)) q ∙ get-set_same marks x true (let s = m.size in omega arith)
        ∙ ap (λ b. Some b) (sym (ap (λ l. is_among l k) (take-suc images i x g) ∙ ap (is_among (take i images ++ x ∷ [])) q ∙ among-new x (take i images)))
    at k h (inr q) =
        ap (λ l. slice_get l k) e ∙ get-set_other marks x k true q ∙ m.each k h
        ∙ ap (λ b. Some b) (sym (ap (λ l. is_among l k) (take-suc images i x g) ∙ ap is_there (place-other k x (take i images) (λ r. q (sym r)))))
