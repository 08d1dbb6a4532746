-- The producers outside the middle of a context.
use Rattle.std.proofs.Common.{ℕ, ◌≡◌, false, List, [], ◌∷◌, None, ◌⊎◌, inl, inr, refl, sym, eqb, eq-eqb}
use Rattle.std.specs.List.{AllByRecursion}
use Rattle.chyp_base.specs.declared.sort.Sort.{Sort}
use Rattle.chyp_term.specs.Morphism.{Morphism}
use Rattle.chyp_term.specs.Positions.{place_of}
use Rattle.chyp_term.proofs.Distinct.{place-off}
use Rattle.chyp_theory.proofs.Renaming.{Producer, In, Target}
use Rattle.chyp_theory.proofs.Running.{EdgeOf}
use Rattle.chyp_laws.proofs.Drawing.{IsWire, sort_at}
use Rattle.chyp_laws.proofs.Front.{IsEarly}
use Rattle.chyp_laws.proofs.Placed.{context}

-- what is not in the middle
abbrev pub IsOuter : {A B C : Type 0} → Producer (A ⊎ (B ⊎ C)) → Type 0
IsOuter (In j) = Unit {0}
IsOuter (Target (inl e) i) = Unit {0}
IsOuter (Target (inr (inl e)) i) = ⊥
IsOuter (Target (inr (inr e)) i) = Unit {0}

-- the same outside another middle
abbrev pub outer : {A B C D : Type 0} → Producer (A ⊎ (B ⊎ C)) → Producer (A ⊎ (D ⊎ C))
outer (In j) = In j
outer (Target (inl e) i) = Target (inl e) i
outer (Target (inr (inl e)) i) = In 0
outer (Target (inr (inr e)) i) = Target (inr (inr e)) i

-- there and back
pub outer_outer : {A B C : Type 0} (D : Type 0) (x : Producer (A ⊎ (B ⊎ C))) → IsOuter x → outer {B = D} (outer {D = D} x) ≡ x
outer_outer D (In j) o = refl
outer_outer D (Target (inl e) i) o = refl
outer_outer D (Target (inr (inl e)) i) o = absurd o
outer_outer D (Target (inr (inr e)) i) o = refl

pub outer_is : {A B C : Type 0} (D : Type 0) (x : Producer (A ⊎ (B ⊎ C))) → IsOuter x → IsOuter (outer {D = D} x)
outer_is D (In j) o = tt
outer_is D (Target (inl e) i) o = tt
outer_is D (Target (inr (inl e)) i) o = absurd o
outer_is D (Target (inr (inr e)) i) o = tt

pub early_outer : {A B C : Type 0} (x : Producer (A ⊎ (B ⊎ C))) → IsEarly x → IsOuter x
early_outer (In j) o = tt
early_outer (Target (inl e) i) o = tt
early_outer (Target (inr e) i) o = absurd o

pub outer_valid : (K : List Sort) (b a l r : Morphism) (x : Producer (EdgeOf (context K b a l))) → IsOuter x → IsWire (context K b a l) x
    → IsWire (context K b a r) (outer x)
outer_valid K b a l r (In j) o v = v
outer_valid K b a l r (Target (inl e) i) o v = v
outer_valid K b a l r (Target (inr (inl e)) i) o v = absurd o
outer_valid K b a l r (Target (inr (inr e)) i) o v = v

pub outer_sort : (K : List Sort) (b a l r : Morphism) (x : Producer (EdgeOf (context K b a l))) → IsOuter x
    → sort_at (context K b a r) (outer x) ≡ sort_at (context K b a l) x
outer_sort K b a l r (In j) o = refl
outer_sort K b a l r (Target (inl e) i) o = refl
outer_sort K b a l r (Target (inr (inl e)) i) o = absurd o
outer_sort K b a l r (Target (inr (inr e)) i) o = refl

pub none-all : (w : ℕ) (xs : List ℕ) → place_of w xs ≡ None → AllByRecursion (λ x. ¬ (w ≡ x)) xs
none-all w [] e = tt
none-all w (x ∷ xs) e = let h = place-off x w xs e in ((λ q. differ x w (sym q) h.0), none-all w xs h.1)
  where
    differ : (x w : ℕ) → x ≡ w → eqb x w ≡ false → ⊥
    differ x w q f = let t = eq-eqb x w q in cc
