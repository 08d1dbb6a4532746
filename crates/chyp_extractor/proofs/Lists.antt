-- Lists: members, filters, and lists that grow by one.
use Rattle.std.proofs.Common.{◌≡◌, ℕ, ◌+◌, Bool, cond, List, [], ◌∷◌, ◌++◌, take, filter, flat_map, map, Some, slice_get, All, inl, inr, refl, sym, ◌∙◌, ap, ap₂, subst, append_assoc}
use Rattle.std.specs.List.{cons_option}
use Rattle.std.proofs.lemmas.List.{map-append}
use Rattle.std.proofs.lemmas.Option.{get_or_from_slice_get}
use Rattle.chyp_term.specs.declared.term.Term.{Term}
use Rattle.chyp_term.specs.Morphism.{Morphism}
use Rattle.chyp_term.specs.Perm.{permuted}
use Rattle.chyp_term.specs.Term.{morphism_of, morphisms_of}
use Rattle.chyp_term.proofs.Members.{Member, member-get}
use Rattle.chyp_term.proofs.Permuted.{permuted-append}
use Rattle.chyp_term.proofs.Positions.{slice_get-length}
use Rattle.chyp_term.proofs.Rearrangement.{flat-append}
use Rattle.chyp_term.proofs.Slices.{take-suc}

pub All-member : {A : Type 0} (P : A → Type 0) (xs : List A) → All P xs → (x : A) → Member x xs → P x
All-member P xs all x m = let i = member-get xs x m in subst P (get_or_from_slice_get xs i.0 x x i.1) (all i.0 x (slice_get-length xs i.0 x i.1))

-- filters that agree on the members
pub filter-same_on : {A : Type 0} (p q : A → Bool) (xs : List A) → ((x : A) → Member x xs → p x ≡ q x) → filter p xs ≡ filter q xs
filter-same_on p q [] h = refl
filter-same_on p q (x ∷ xs) h = ap₂ (λ b l. cond b (x ∷ l) l) (h x (inl refl)) (filter-same_on p q xs (λ y m. h y (inr m)))

-- one place more takes one item more
pub permuted-next : {A : Type 0} (xs : List A) (ks : List ℕ) (i k : ℕ) (x : A) → slice_get ks i ≡ Some k → slice_get xs k ≡ Some x
    → permuted xs (take (i + 1) ks) ≡ permuted xs (take i ks) ++ x ∷ []
permuted-next xs ks i k x e f = ap (permuted xs) (take-suc ks i k e) ∙ permuted-append xs (take i ks) (k ∷ []) ∙ ap (λ o. permuted xs (take i ks) ++ cons_option o []) f

pub flat-next : {A B : Type 0} (f : A → List B) (xs : List A) (ks : List ℕ) (i k : ℕ) (x : A) → slice_get ks i ≡ Some k → slice_get xs k ≡ Some x
    → flat_map f (permuted xs (take (i + 1) ks)) ≡ flat_map f (permuted xs (take i ks)) ++ f x
flat-next {B = B} f xs ks i k x e h = ap (flat_map f) (permuted-next xs ks i k x e h) ∙ flat-append f (permuted xs (take i ks)) (x ∷ [])
    ∙ ap (λ l. flat_map f (permuted xs (take i ks)) ++ l) (end (f x))
  where
    end : (l : List B) → l ++ [] ≡ l
    end [] = refl
    end (y ∷ l) = ap (λ z. y ∷ z) (end l)

-- a row of terms that grows by one
pub row-next : {A : Type 0} (f : A → Morphism) (xs : List A) (ks : List ℕ) (i k : ℕ) (start : List Morphism) (row after : List Term) (t : Term) → slice_get ks i ≡ Some k
    → map f (permuted xs (k ∷ [])) ≡ morphism_of t ∷ [] → morphisms_of row ≡ start ++ map f (permuted xs (take i ks)) → after ≡ row ++ t ∷ []
    → morphisms_of after ≡ start ++ map f (permuted xs (take (i + 1) ks))
row-next f xs ks i k start row after t q e b a =
    ap morphisms_of a ∙ map-append morphism_of row (t ∷ [])
    ∙ ap₂ (λ l m. l ++ m) b (sym e) ∙ append_assoc start (map f (permuted xs (take i ks))) (map f (permuted xs (k ∷ [])))
    ∙ ap (λ l. start ++ l) (sym (map-append f (permuted xs (take i ks)) (permuted xs (k ∷ [])))
    ∙ ap (map f) (sym (ap (permuted xs) (take-suc ks i k q) ∙ permuted-append xs (take i ks) (k ∷ []))))
