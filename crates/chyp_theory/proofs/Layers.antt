-- Each typed term equals by the laws a chain of layers: a permutation, then one generator beside an identity.
use Rattle.std.proofs.Common.{ℕ, List, [], ◌++◌, length, refl, sym, ◌∙◌, ap, subst, length-append, append-nil, zero-add}
use Rattle.chyp_base.specs.declared.sort.Sort.{Sort}
use Rattle.chyp_term.specs.Perm.{permuted, count_from, swapped}
use Rattle.chyp_term.specs.Morphism.{Morphism, generator, permutation, then, beside, dom, cod, IsTyped}
use Rattle.chyp_term.specs.Derivation.{identity, empty, swap, same, back, chain, in_then, in_beside}
use Rattle.chyp_term.proofs.Permuted.{permuted-swapped, count_from-0}
use Rattle.chyp_term.proofs.Positions.{count_from-append}
use Rattle.chyp_term.proofs.Inverses.{swapped-swapped, id_perm}
use Rattle.chyp_theory.proofs.Soundness.{sound}
use Rattle.chyp_theory.proofs.Arrows.{Equal, Arrow, then_arrow, beside_arrow, id_arrow, generator_arrow, swap_arrow, equal-same, equal-assoc, equal-left}
use Rattle.chyp_theory.proofs.Arrows.{equal-right, equal-beside_assoc, equal-beside_right}
use Rattle.chyp_theory.proofs.Arrows.{equal-exchange, equal-slide, equal-perms, equal-perm_beside, in_left, in_right}

pub data Layered : Morphism → Type 0 where
  done : (a : List Sort) (p : List ℕ) → Layered (permutation a p)
  step : (a : List Sort) (p : List ℕ) (n : List ℕ) (b c r : List Sort) {t : Morphism} → Layered t → Layered (then (permutation a p) (then (beside (generator n b c) (identity r)) t))

pub record HasLayers (s : Morphism) : Type 0 where
  pub term : Morphism
  pub layered : Layered term
  pub equal : Equal s term

pub before : {s t : Morphism} → Equal s t → HasLayers t → HasLayers s
before d h = record { term = h.term; layered = h.layered; equal = chain d h.equal }

pub arrow_of : {t : Morphism} → IsTyped t → Arrow t (dom t) (cod t)
arrow_of x = record { typed = x; from = refl; to = refl }

pub first_of_then : {s t : Morphism} {a c : List Sort} → Arrow (then s t) a c → Arrow s a (cod s)
first_of_then f = record { typed = f.typed.0; from = f.from; to = refl }

pub second_of_then : {s t : Morphism} {a c : List Sort} → Arrow (then s t) a c → Arrow t (cod s) c
second_of_then f = record { typed = f.typed.1; from = sym f.typed.2; to = f.to }

-- one chain of layers after the other is a chain of layers
pub append : {s t : Morphism} {a b c : List Sort} → Layered s → Layered t → Arrow s a b → Arrow t b c → HasLayers (then s t)
append (done a p) (done b q) f g = record { term = _; layered = done a (permuted p q); equal = equal-perms a b p q f.typed (f.to ∙ sym g.from) g.typed }
append (done a p) (step b q n d e r {t = t} L) f g =
    record {
      term = _;
      layered = step a (permuted p q) n d e r L;
      equal = chain (back (equal-assoc f (first_of_then g) (second_of_then g)))
          (in_left (equal-perms a b p q f.typed (f.to ∙ sym g.from) g.typed.0) (then_arrow f (first_of_then g)) (second_of_then g));
    }
append (step a p n b c r {t = t} L) M f g =
    let f1 = first_of_then f in
    let f2 = second_of_then f in
    let h = append L M (second_of_then f2) g in
    record {
      term = _;
      layered = step a p n b c r h.layered;
      equal = chain (equal-assoc f1 f2 g)
          (in_right (chain (equal-assoc (first_of_then f2) (second_of_then f2) g) (in_right h.equal (first_of_then f2) (then_arrow (second_of_then f2) g))) f1 (then_arrow f2 g));
    }

pub equal-ids : (r x : List Sort) → Equal (beside (identity r) (identity x)) (identity (r ++ x))
equal-ids r x =
    subst (λ l. Equal (beside (identity r) (identity x)) (permutation (r ++ x) l))
    (ap (λ l. count_from 0 (length r) ++ l) (sym (count_from-0 (length r) (length x))) ∙ ap (λ k. count_from 0 (length r) ++ count_from k (length x)) (sym (zero-add (length r)))
    ∙ sym (count_from-append 0 (length r) (length x)) ∙ ap (count_from 0) (sym (length-append r x)))
    (equal-perm_beside r x (count_from 0 (length r)) (count_from 0 (length x)) (id_perm _) (id_perm _))

pub wider : (n : List ℕ) (b c r x : List Sort) → Equal (beside (beside (generator n b c) (identity r)) (identity x)) (beside (generator n b c) (identity (r ++ x)))
wider n b c r x = chain (equal-beside_assoc (generator_arrow n b c) (id_arrow r) (id_arrow x)) (in_beside (equal-same (generator_arrow n b c)) (equal-ids r x))

-- an identity beside a composite is an identity beside each part
pub along : {s t : Morphism} {a b c : List Sort} (x : List Sort) → Arrow s a b → Arrow t b c → Equal (beside (then s t) (identity x)) (then (beside s (identity x)) (beside t (identity x)))
along x f g = chain (in_beside (equal-same (then_arrow f g)) (back (equal-left (id_arrow x)))) (back (equal-exchange f (id_arrow x) g (id_arrow x)))

pub along_left : {s t : Morphism} {a b c : List Sort} (x : List Sort) → Arrow s a b → Arrow t b c → Equal (beside (identity x) (then s t)) (then (beside (identity x) s) (beside (identity x) t))
along_left x f g = chain (in_beside (back (equal-left (id_arrow x))) (equal-same (then_arrow f g))) (back (equal-exchange (id_arrow x) f (id_arrow x) g))

-- a chain of layers beside wires is a chain of layers
pub whisker : {s : Morphism} {a b : List Sort} → Layered s → Arrow s a b → (x : List Sort) → HasLayers (beside s (identity x))
whisker (done a p) f x = record { term = _; layered = done _ _; equal = equal-perm_beside a x p (count_from 0 (length x)) f.typed (id_perm _) }
whisker (step a p n b c r {t = t} L) f x =
    let f1 = first_of_then f in
    let f2 = second_of_then f in
    let g1 = first_of_then f2 in
    let g2 = second_of_then f2 in
    let i = id_arrow x in
    let h = whisker L g2 x in
    record {
      term = _;
      layered = step (a ++ x) _ n b c (r ++ x) h.layered;
      equal = chain (along x f1 f2)
          (in_then (equal-perm_beside a x p (count_from 0 (length x)) f.typed.0 (id_perm _))
          (chain (along x g1 g2) (in_then (wider n b c r x) h.equal ((beside_arrow g1 i).to ∙ sym (beside_arrow g2 i).from)))
          ((beside_arrow f1 i).to ∙ sym (beside_arrow f2 i).from));
    }

-- swapping twice is the identity
pub swap_twice : (a b : List Sort) → Equal (then (swap a b) (swap b a)) (identity (a ++ b))
swap_twice a b =
    subst (λ l. Equal (then (swap a b) (swap b a)) (permutation (a ++ b) l)) (swapped-swapped (length a) (length b) ∙ ap (count_from 0) (sym (length-append a b)))
    (equal-perms (a ++ b) (b ++ a) (swapped (length a) (length b)) (swapped (length b) (length a)) (swap_arrow a b).typed (permuted-swapped a b) (swap_arrow b a).typed)

-- an identity on the left, by swaps
pub to_right : {s : Morphism} {a b : List Sort} → Arrow s a b → (x : List Sort) → Equal (beside (identity x) s) (then (then (swap x a) (beside s (identity x))) (swap b x))
to_right {s} {a} {b} f x =
    let w = beside_arrow (id_arrow x) f in
    chain (back (equal-right w))
    (chain (in_right (back (swap_twice x b)) w (id_arrow (x ++ b)))
    (chain (back (equal-assoc w (swap_arrow x b) (swap_arrow b x)))
    (in_left (equal-slide (id_arrow x) f) (then_arrow w (swap_arrow x b)) (swap_arrow b x))))

-- what equals t by the laws has its type
pub arrow_along : {s t : Morphism} {a b : List Sort} → Equal s t → Arrow s a b → Arrow t a b
arrow_along d f = let h = sound d in record { typed = h.right; from = sym h.alike.doms ∙ f.from; to = sym h.alike.cods ∙ f.to }

pub join : {s t : Morphism} {a b c : List Sort} → HasLayers s → HasLayers t → Arrow s a b → Arrow t b c → HasLayers (then s t)
join h k f g = before (in_then h.equal k.equal (f.to ∙ sym g.from)) (append h.layered k.layered (arrow_along h.equal f) (arrow_along k.equal g))

pub of_layered : {s : Morphism} {a b : List Sort} → Layered s → Arrow s a b → HasLayers s
of_layered L f = record { term = _; layered = L; equal = equal-same f }

-- so it is with the wires before it
pub whisker_left : {s : Morphism} {a b : List Sort} → Layered s → Arrow s a b → (x : List Sort) → HasLayers (beside (identity x) s)
whisker_left {s} {a} {b} L f x =
    let w = beside_arrow f (id_arrow x) in
    before (to_right f x)
    (join (join (of_layered (done (x ++ a) (swapped (length x) (length a))) (swap_arrow x a)) (whisker L f x) (swap_arrow x a) w)
    (of_layered (done (b ++ x) (swapped (length b) (length x))) (swap_arrow b x)) (then_arrow (swap_arrow x a) w) (swap_arrow b x))

-- each typed term has layers
pub layers : (t : Morphism) → IsTyped t → HasLayers t
layers (generator n a b) ty =
    let g = generator_arrow n a b in
    let w : Arrow (beside (generator n a b) empty) a b = record { typed = (tt, id_perm 0); from = append-nil a; to = append-nil b } in
    record {
      term = _;
      layered = step a (count_from 0 (length a)) n a b [] (done b (count_from 0 (length b)));
      equal = chain (back (equal-left g)) (in_right (chain (back (equal-beside_right g)) (back (equal-right w))) (id_arrow a) g);
    }
layers (permutation a p) ty = record { term = _; layered = done a p; equal = same ty }
layers (then s t) ty =
    join (layers s ty.0) (layers t ty.1) (arrow_of ty.0) (record { typed = ty.1; from = sym ty.2; to = refl })
layers (beside s t) ty = both_sides s t ty (layers s ty.0) (layers t ty.1)
  where
    both_sides : (s t : Morphism) → IsTyped (beside s t) → HasLayers s → HasLayers t → HasLayers (beside s t)
    both_sides s t ty h k =
        let f = arrow_of ty.0 in
        let g = arrow_of ty.1 in
        let f' = arrow_along h.equal f in
        let g' = arrow_along k.equal g in
        before
        (chain (in_beside (chain h.equal (back (equal-right f'))) (chain k.equal (back (equal-left g'))))
        (back (equal-exchange f' (id_arrow (dom t)) (id_arrow (cod s)) g')))
        (join (whisker h.layered f' (dom t)) (whisker_left k.layered g' (cod s)) (beside_arrow f' (id_arrow (dom t))) (beside_arrow (id_arrow (cod s)) g'))
