-- The first names of generators in a sound environment mean them.
use Rattle.std.proofs.Common.{◌≡◌, ◌⊎◌, ℕ, Bool, true, false, cond, List, [], ◌∷◌, Some, find, is_some, inl, inr, refl, sym, ap, subst, ◌∙◌, ⊎_elim, arith}
use Rattle.std.specs.Cmp.Lexicographic.{pointwise}
use Rattle.std.specs.Prelude.{◌&&◌, Contains}
use Rattle.std.specs.Option.{option_map_or}
use Rattle.std.specs.Str.{bytes_eq}
use Rattle.std.proofs.lemmas.Bool.{cases_Bool, cond-false, cond-true, false≢true}
use Rattle.std.proofs.lemmas.Slice.Eq.{bytes_eq-Decides, slice_eq-Decides}
use Rattle.std.proofs.lemmas.List.Elements.{All-contains}
use Rattle.chyp_base.specs.Sort.{same_sort}
use Rattle.chyp_base.specs.declared.sort.Sort.{Sort}
use Rattle.chyp_lex.specs.Names.{IsNameText}
use Rattle.chyp_base.proofs.SortEquality.{same_sort-Decides}
use Rattle.chyp_term.specs.Derivation.{empty}
use Rattle.chyp_term.specs.Morphism.{Morphism, generator, permutation, then, beside}
use Rattle.chyp_env.specs.Closed.{HasBoundGenerators, IsBoundGenerator, IsClosed}
use Rattle.chyp_env.specs.Environment.{Binding, Sense, abbreviation, binding_of, broken, generator as a_generator, is_bound, equation, unproved}
use Rattle.chyp_env.specs.Scope.{term_of}
use Rattle.chyp_env.specs.Sound.{HasDistinctNames}
use Rattle.chyp_env.proofs.Bindings.{Contains-cons, Contains-from_cons}
use Rattle.chyp_print.specs.Environments.{HasPlainPermutations, NamesMeanGenerators, first_binding, first_names, is_generator, meaning_in}
use Rattle.chyp_print.specs.Reading.{IsNamed}

both-true : (p q : Bool) → p && q ≡ true → (p ≡ true) × (q ≡ true)
both-true true q h = (refl, h)
both-true false q h = absurd (false≢true h)

-- what passes the test is that generator
is_generator-is : (n : List ℕ) (a b : List Sort) (sense : Sense) → is_generator n a b sense ≡ true → sense ≡ a_generator n a b
is_generator-is n a b (a_generator m c d) h =
    let outer = both-true _ _ h in
    let inner = both-true _ _ outer.1 in
    let name : n ≡ m = (bytes_eq-Decides n m).0 outer.0 in
    let from : a ≡ c = (slice_eq-Decides same_sort-Decides a c _ refl).0 inner.0 in
    let to : b ≡ d = (slice_eq-Decides same_sort-Decides b d _ refl).0 inner.1 in
    rw (name, from, to) refl
is_generator-is n a b (abbreviation m) h = absurd (false≢true h)
is_generator-is n a b (equation l r) h = absurd (false≢true h)
is_generator-is n a b unproved h = absurd (false≢true h)
is_generator-is n a b broken h = absurd (false≢true h)

-- what is found passes the test, and is the binding of its name
record IsFound (test : Sense → Bool) (env : List Binding) (binding : Binding) : Type 0 where
  passes : test binding.sense ≡ true
  named : binding_of env binding.name ≡ Some binding

found : (test : Sense → Bool) (env : List Binding) (binding : Binding) → HasDistinctNames env → find (λ b. test b.sense) env ≡ Some binding → IsFound test env binding
found test [] binding distinct h = absurd cc
found test (b ∷ rest) binding distinct h =
    ⊎_elim
    (λ (yes : test b.sense ≡ true).
    let some : Some b ≡ Some binding = sym (cond-true _ _ _ yes) ∙ h in
    let is : b ≡ binding = cc in
    let same : bytes_eq b.name b.name ≡ true = (bytes_eq-Decides b.name b.name).1 refl in
    let at : binding_of (b ∷ rest) b.name ≡ Some b = cond-true _ _ _ same in
    record { passes = rw is at yes; named = subst (λ (c : Binding). binding_of (b ∷ rest) c.name ≡ Some c) is at })
    (λ (no : test b.sense ≡ false).
    let inner = found test rest binding distinct.1 (sym (cond-false _ _ _ no) ∙ h) in
    ⊎_elim
    (λ (yes : bytes_eq binding.name b.name ≡ true).
    let same : binding.name ≡ b.name = (bytes_eq-Decides binding.name b.name).0 yes in
    let there : binding_of rest b.name ≡ Some binding = subst (λ (n : List ℕ). binding_of rest n ≡ Some binding) same inner.named in
    let bound : is_bound rest b.name ≡ true = ap is_some there in
    absurd (false≢true (sym distinct.0 ∙ bound)))
    (λ (other : bytes_eq binding.name b.name ≡ false). record { passes = inner.passes; named = cond-false _ _ _ other ∙ inner.named })
    (cases_Bool (bytes_eq binding.name b.name)))
    (cases_Bool (test b.sense))

-- what passes a test is found, or something in front of it
found-some : (test : Sense → Bool) (env : List Binding) (b : Binding) → Contains env b → test b.sense ≡ true
    → (first : Binding) × (find (λ x. test x.sense) env ≡ Some first) × Contains env first
found-some test [] b has passes = absurd (omega (arith, has.1))
found-some test (x ∷ env) b has passes = go (test x.sense) refl (Contains-from_cons x env b has) (λ d. found-some test env b d passes)
  where
    go : (c : Bool) → test x.sense ≡ c → (x ≡ b) ⊎ Contains env b
        → (Contains env b → (first : Binding) × (find (λ y. test y.sense) env ≡ Some first) × Contains env first)
        → (first : Binding) × (cond c (Some x) (find (λ y. test y.sense) env) ≡ Some first) × Contains (x ∷ env) first
    go true e here rest = (x, refl, (0, omega arith, refl))
    go false e (inl same) rest = absurd (false≢true (sym e ∙ ap (λ (y : Binding). test y.sense) same ∙ passes))
    go false e (inr there) rest = let f = rest there in (f.0, f.1, Contains-cons x env f.0 f.2)

is_generator-itself : (n : List ℕ) (a b : List Sort) → is_generator n a b (a_generator n a b) ≡ true
is_generator-itself n a b =
    let name : bytes_eq n n ≡ true = (bytes_eq-Decides n n).1 refl in
    let from : pointwise same_sort a a ≡ true = (slice_eq-Decides same_sort-Decides a a _ refl).1 refl in
    let to : pointwise same_sort b b ≡ true = (slice_eq-Decides same_sort-Decides b b _ refl).1 refl in
    rw (name, from, to) refl

-- a generator that has a binding has a first one, whose name is read as one name
record HasFirst (env : List Binding) (n : List ℕ) (a b : List Sort) : Type 0 where
  binding : Binding
  first : first_binding env n a b ≡ Some binding
  name : IsNameText binding.name

has-first : (env : List Binding) (n : List ℕ) (a b : List Sort) → IsClosed env → IsBoundGenerator env n a b → HasFirst env n a b
has-first env n a b closed g =
    let passes : is_generator n a b g.binding.sense ≡ true = ap (is_generator n a b) g.is ∙ is_generator-itself n a b in
    let found = found-some (is_generator n a b) env g.binding g.has passes in
    record { binding = found.0; first = found.1; name = All-contains (λ (x : Binding). IsNameText x.name) env found.0 closed.names found.2 }

bound-means : (env : List Binding) (n : List ℕ) (a b : List Sort) → HasDistinctNames env → (h : HasFirst env n a b) → meaning_in env (first_names env n a b) ≡ generator n a b
bound-means env n a b distinct h =
    let is = found (is_generator n a b) env h.binding distinct h.first in
    let name : first_names env n a b ≡ h.binding.name = ap (λ o. option_map_or (λ (binding : Binding). binding.name) o []) h.first in
    let there : meaning_in env h.binding.name ≡ term_of h.binding.sense = ap (λ o. option_map_or (λ (binding : Binding). term_of binding.sense) o empty) is.named in
    ap (meaning_in env) name ∙ there ∙ ap term_of (is_generator-is n a b h.binding.sense is.passes)

bound-named : (env : List Binding) (t : Morphism) → HasDistinctNames env → IsClosed env → HasPlainPermutations t → HasBoundGenerators env t → IsNamed (first_names env) (meaning_in env) t
bound-named env (generator n a b) distinct closed plain g =
    let h = has-first env n a b closed g in
    let name : first_names env n a b ≡ h.binding.name = ap (λ o. option_map_or (λ (binding : Binding). binding.name) o []) h.first in
    (rw name h.name, bound-means env n a b distinct h)
bound-named env (permutation a p) distinct closed plain h = plain
bound-named env (then s t) distinct closed plain h = (bound-named env s distinct closed plain.0 h.0, bound-named env t distinct closed plain.1 h.1)
bound-named env (beside s t) distinct closed plain h = (bound-named env s distinct closed plain.0 h.0, bound-named env t distinct closed plain.1 h.1)

pub names-mean : NamesMeanGenerators
names-mean env t sound closed c = record { typed = c.typed; named = bound-named env t sound.distinct closed c.plain c.bound; shallow = c.shallow }
