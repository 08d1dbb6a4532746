-- Terms with isomorphic graphs are alike.
use Rattle.std.proofs.Common.{ℕ, zero, suc, ◌+◌, ◌<◌, ◌≡◌, List, [], ◌∷◌, ◌++◌, map, length, take, drop, Option, Some, option_map, slice_get, slice_index, inl, inr, refl, sym, ◌∙◌, ap}
use Rattle.std.proofs.Common.{ap₂, subst, arith, add-zero, zero-add}
use Rattle.std.proofs.lemmas.List.{map-append, take-map, drop-map, take_all}
use Rattle.chyp_base.specs.declared.sort.Sort.{Sort}
use Rattle.chyp_term.specs.Morphism.{IsTyped, Morphism, beside, cod, dom, generator, permutation, then}
use Rattle.chyp_term.specs.Perm.{count_from}
use Rattle.chyp_term.proofs.Closure.{Under-perm}
use Rattle.chyp_term.proofs.Permuted.{drop-left, permuted-map, take-left}
use Rattle.chyp_term.proofs.Positions.{map-map, slice_get-length, some-same}
use Rattle.chyp_theory.proofs.Cancelling.{map-Some, read-take}
use Rattle.chyp_theory.proofs.Peeling.{get_or-count}
use Rattle.chyp_theory.proofs.Renaming.{In, Target, map-run, map-src, same-run, same-src}
use Rattle.chyp_theory.proofs.Running.{Alike, EdgeOf, Label, label_of, run, src}
use Rattle.chyp_theory.proofs.Separation.{alike_by}
use Rattle.chyp_graph.specs.Isomorphism.{Isomorphic}
use Rattle.chyp_graph.specs.PlainGraph.{PlainGraph, renamed}
use Rattle.chyp_laws.proofs.Drawing.{drawn}
use Rattle.chyp_laws.proofs.Draws.{Draws, edge-apart, edge-below, ins-size}

pub read-all : {V : Type 0} (xs : List V) (f : ℕ → Option V) → ((i : ℕ) → i < length xs → f i ≡ slice_get xs i) → map f (count_from 0 (length xs)) ≡ map (λ x. Some x) xs
read-all xs f h = read-take xs 0 (length xs) f (omega arith) (λ i l. ap f (zero-add i) ∙ h i l) ∙ ap (map (λ x. Some x)) (take_all (length xs) xs (omega arith))

-- sorts go along
pub run-sorts : (t : Morphism) → IsTyped t → run t (λ e i. slice_get (label_of t e).cod i) (map (λ x. Some x) (dom t)) ≡ map (λ x. Some x) (cod t)
run-sorts (generator n a b) ty = read-all b (slice_get b) (λ i l. refl)
run-sorts (permutation a p) ty = permuted-map (λ x. Some x) a p (Under-perm _ p ty)
run-sorts (then s t) ty = ap (run t (λ e i. slice_get (label_of t e).cod i)) (run-sorts s ty.0 ∙ ap (map (λ x. Some x)) ty.2) ∙ run-sorts t ty.1
run-sorts (beside s t) ty =
    ap₂ (λ x y. x ++ y)
    (ap (run s (λ e i. slice_get (label_of s e).cod i)) (front s t) ∙ run-sorts s ty.0)
    (ap (run t (λ e i. slice_get (label_of t e).cod i)) (rear s t) ∙ run-sorts t ty.1)
    ∙ sym (map-append (λ x. Some x) (cod s) (cod t))
  where
    front : (s t : Morphism) → take (length (dom s)) (map (λ x. Some x) (dom s ++ dom t)) ≡ map (λ x. Some x) (dom s)
    front s t = take-map (λ x. Some x) (length (dom s)) (dom s ++ dom t) ∙ ap (map (λ x. Some x)) (take-left (dom s) (dom t) _ refl)

    rear : (s t : Morphism) → drop (length (dom s)) (map (λ x. Some x) (dom s ++ dom t)) ≡ map (λ x. Some x) (dom t)
    rear s t = drop-map (λ x. Some x) (length (dom s)) (dom s ++ dom t) ∙ ap (map (λ x. Some x)) (drop-left (dom s) (dom t) _ refl)

pub src-sorts : (t : Morphism) → IsTyped t → (e : EdgeOf t) → src t (λ e i. slice_get (label_of t e).cod i) (map (λ x. Some x) (dom t)) e ≡ map (λ x. Some x) (label_of t e).dom
src-sorts (generator n a b) ty e = refl
src-sorts (permutation a p) ty e = absurd e
src-sorts (then s t) ty (inl e) = src-sorts s ty.0 e
src-sorts (then s t) ty (inr e) = ap (λ l. src t (λ e i. slice_get (label_of t e).cod i) l e) (run-sorts s ty.0 ∙ ap (map (λ x. Some x)) ty.2) ∙ src-sorts t ty.1 e
src-sorts (beside s t) ty (inl e) =
    ap (λ l. src s (λ e i. slice_get (label_of s e).cod i) l e)
    (take-map (λ x. Some x) (length (dom s)) (dom s ++ dom t) ∙ ap (map (λ x. Some x)) (take-left (dom s) (dom t) _ refl)) ∙ src-sorts s ty.0 e
src-sorts (beside s t) ty (inr e) =
    ap (λ l. src t (λ e i. slice_get (label_of t e).cod i) l e)
    (drop-map (λ x. Some x) (length (dom s)) (dom s ++ dom t) ∙ ap (map (λ x. Some x)) (drop-left (dom s) (dom t) _ refl)) ∙ src-sorts t ty.1 e

module _ (s : Morphism) (ts : IsTyped s) (g : PlainGraph) (d : Draws s g) where
  pub input-sorts : map (slice_get g.wires) g.inputs ≡ map (λ x. Some x) (dom s)
  input-sorts =
      ap (map (slice_get g.wires)) d.inputs ∙ map-map (slice_get g.wires) (λ j. d.wire (In j)) (count_from 0 (length (dom s)))
      ∙ read-all (dom s) (λ j. slice_get g.wires (d.wire (In j))) (λ j l. d.sorts (In j) l)

  output-sorts : map (slice_get g.wires) g.outputs ≡ map (λ x. Some x) (cod s)
  output-sorts =
      ap (map (slice_get g.wires)) d.outputs
      ∙ map-run (slice_get g.wires) s ts (λ e i. d.wire (Target e i)) g.inputs (ins-size d)
      ∙ ap (run s (λ e i. slice_get g.wires (d.wire (Target e i)))) input-sorts
      ∙ same-run s _ (λ e i. slice_get (label_of s e).cod i) (λ e i l. d.sorts (Target e i) l) (map (λ x. Some x) (dom s))
      ∙ run-sorts s ts

  pub source-sorts : (e : EdgeOf s) → map (slice_get g.wires) (src s (λ e i. d.wire (Target e i)) g.inputs e) ≡ map (λ x. Some x) (label_of s e).dom
  source-sorts e =
      map-src (slice_get g.wires) s ts (λ e i. d.wire (Target e i)) g.inputs (ins-size d) e
      ∙ ap (λ l. src s (λ e i. slice_get g.wires (d.wire (Target e i))) l e) input-sorts
      ∙ same-src s _ (λ e i. slice_get (label_of s e).cod i) (λ e i l. d.sorts (Target e i) l) (map (λ x. Some x) (dom s)) e
      ∙ src-sorts s ts e

  pub target-sorts : (e : EdgeOf s) → map (slice_get g.wires) (map (λ i. d.wire (Target e i)) (count_from 0 (length (label_of s e).cod))) ≡ map (λ x. Some x) (label_of s e).cod
  target-sorts e =
      map-map (slice_get g.wires) (λ i. d.wire (Target e i)) (count_from 0 (length (label_of s e).cod))
      ∙ read-all (label_of s e).cod (λ i. slice_get g.wires (d.wire (Target e i))) (λ i l. d.sorts (Target e i) l)

pub map-count-at : {V : Type 0} (f g : ℕ → V) (k n i : ℕ) → map f (count_from k n) ≡ map g (count_from k n) → i < n → f (k + i) ≡ g (k + i)
map-count-at f g k zero i e h = absurd (omega arith)
map-count-at f g k (suc n) zero e h = rw (add-zero k) (heads (f k) (g k) _ _ e)
  where
    heads : {A : Type 0} (x y : A) (us vs : List A) → x ∷ us ≡ y ∷ vs → x ≡ y
    heads x y us vs e = cc
map-count-at f g k (suc n) (suc i) e h =
    let q : k + suc i ≡ suc k + i = omega arith in
    ap f q ∙ map-count-at f g (suc k) n i (tails (f k) (g k) _ _ e) (omega arith) ∙ ap g (sym q)
  where
    tails : {A : Type 0} (x y : A) (us vs : List A) → x ∷ us ≡ y ∷ vs → us ≡ vs
    tails x y us vs e = cc

module _ (s t : Morphism) (ts : IsTyped s) (ty : IsTyped t) (g h : PlainGraph) (d : Draws s g) (k : Draws t h) (m : Isomorphic g h) where
  carry : (xs : List ℕ) (ys : List Sort) → map (slice_get g.wires) xs ≡ map (λ x. Some x) ys → map (slice_get h.wires) (map m.wire xs) ≡ map (λ x. Some x) ys
  carry [] [] e = refl
  carry [] (y ∷ ys) e = cc
  carry (x ∷ xs) [] e = cc
  carry (x ∷ xs) (y ∷ ys) e =
      let f = parts (slice_get g.wires x) y (map (slice_get g.wires) xs) (map (λ z. Some z) ys) e in
      ap₂ (λ a b. a ∷ b) (m.sorts x (slice_get-length g.wires x y f.0) ∙ f.0) (carry xs ys f.1)
    where
      parts : (o : Option Sort) (y : Sort) (us vs : List (Option Sort)) → o ∷ us ≡ Some y ∷ vs → (o ≡ Some y) × (us ≡ vs)
      parts o y us vs e = (cc, cc)

  to : EdgeOf s → EdgeOf t
  to e = (k.edge_onto (m.edge (d.edge e)) (m.edges.there (d.edge e) (edge-below d e))).0

  to-at : (e : EdgeOf s) → k.edge (to e) ≡ m.edge (d.edge e)
  unfolding to
  to-at e = (k.edge_onto (m.edge (d.edge e)) (m.edges.there (d.edge e) (edge-below d e))).2

  from : EdgeOf t → EdgeOf s
  from e = (d.edge_onto (m.edge_back (k.edge e)) (m.edges.back (k.edge e) (edge-below k e))).0

  from-at : (e : EdgeOf t) → d.edge (from e) ≡ m.edge_back (k.edge e)
  unfolding from
  from-at e = (d.edge_onto (m.edge_back (k.edge e)) (m.edges.back (k.edge e) (edge-below k e))).2

  to_from : (e : EdgeOf t) → to (from e) ≡ e
  to_from e = edge-apart k (to (from e)) e (to-at (from e) ∙ ap m.edge (from-at e) ∙ m.edges.there_back (k.edge e) (edge-below k e))

  from_to : (e : EdgeOf s) → from (to e) ≡ e
  from_to e = edge-apart d (from (to e)) e (from-at (to e) ∙ ap m.edge_back (to-at e) ∙ m.edges.back_there (d.edge e) (edge-below d e))

  port : (e : EdgeOf s) → drawn t (λ e i. k.wire (Target e i)) h.inputs (to e) ≡ renamed m.wire (drawn s (λ e i. d.wire (Target e i)) g.inputs e)
  port e = some-same _ _ (
      sym (k.ports (to e)) ∙ ap (slice_get h.edges) (to-at e)
      ∙ m.ports (d.edge e) (edge-below d e)
      ∙ ap (option_map (renamed m.wire)) (d.ports e))

  labels : (e : EdgeOf s) → label_of t (to e) ≡ label_of s e
  labels e = label (label_of t (to e)) (label_of s e) (ap (λ z. z.name) (port e))
      (map-Some _ _ (sym (source-sorts t ty h k (to e)) ∙ ap (λ z. map (slice_get h.wires) z.sources) (port e) ∙ carry _ _ (source-sorts s ts g d e)))
      (map-Some _ _ (sym (target-sorts t ty h k (to e)) ∙ ap (λ z. map (slice_get h.wires) z.targets) (port e) ∙ carry _ _ (target-sorts s ts g d e)))
    where
      label : (x y : Label) → x.name ≡ y.name → x.dom ≡ y.dom → x.cod ≡ y.cod → x ≡ y
      label x y a b c = λ i. record { name = a i; dom = b i; cod = c i }

  doms : dom s ≡ dom t
  doms = sym (map-Some _ _ (sym (input-sorts t ty h k) ∙ ap (map (slice_get h.wires)) m.inputs ∙ carry _ _ (input-sorts s ts g d)))

  cods : cod s ≡ cod t
  cods = sym (map-Some _ _ (sym (output-sorts t ty h k) ∙ ap (map (slice_get h.wires)) m.outputs ∙ carry _ _ (output-sorts s ts g d)))

  marks : (e : EdgeOf s) (i : ℕ) → i < length (label_of s e).cod → m.wire (d.wire (Target e i)) ≡ k.wire (Target (to e) i)
  marks e i l =
      ap (λ j. m.wire (d.wire (Target e j))) (sym (zero-add i)) ∙ sym (map-count-at (λ j. k.wire (Target (to e) j)) (λ j. m.wire (d.wire (Target e j))) 0 (length (label_of s e).cod) i same l)
      ∙ ap (λ j. k.wire (Target (to e) j)) (zero-add i)
    where
      same : map (λ j. k.wire (Target (to e) j)) (count_from 0 (length (label_of s e).cod)) ≡ map (λ j. m.wire (d.wire (Target e j))) (count_from 0 (length (label_of s e).cod))
      same =
          ap (λ z. map (λ j. k.wire (Target (to e) j)) (count_from 0 (length z.cod))) (sym (labels e)) ∙ ap (λ z. z.targets) (port e)
          ∙ map-map m.wire (λ j. d.wire (Target e j)) (count_from 0 (length (label_of s e).cod))

  runs : run t (λ e i. k.wire (Target e i)) h.inputs ≡ run s (λ e i. k.wire (Target (to e) i)) h.inputs
  runs =
      sym k.outputs ∙ m.outputs ∙ ap (map m.wire) d.outputs ∙ map-run m.wire s ts (λ e i. d.wire (Target e i)) g.inputs (ins-size d)
      ∙ same-run s _ (λ e i. k.wire (Target (to e) i)) marks (map m.wire g.inputs) ∙ ap (run s (λ e i. k.wire (Target (to e) i))) (sym m.inputs)

  srcs : (e : EdgeOf s) → src t (λ e i. k.wire (Target e i)) h.inputs (to e) ≡ src s (λ e i. k.wire (Target (to e) i)) h.inputs e
  srcs e =
      ap (λ z. z.sources) (port e) ∙ map-src m.wire s ts (λ e i. d.wire (Target e i)) g.inputs (ins-size d) e
      ∙ same-src s _ (λ e i. k.wire (Target (to e) i)) marks (map m.wire g.inputs) e ∙ ap (λ z. src s (λ e i. k.wire (Target (to e) i)) z e) (sym m.inputs)

  back_in : (j : ℕ) → j < length h.inputs → k.from (slice_index h.inputs j) ≡ In j
  back_in j l =
      let b = subst (λ n. j < n) (ins-size k) l in
      ap k.from (ap (λ z. slice_index z j) k.inputs ∙ get_or-count (λ j. k.wire (In j)) 0 (length (dom t)) j 0 b ∙ ap (λ j. k.wire (In j)) (zero-add j)) ∙ k.from_wire (In j) b

  pub alike_from : Alike s t
  alike_from = alike_by s t ts ty doms cods to from to_from from_to labels (λ e i. k.wire (Target e i)) h.inputs (ins-size k) k.from back_in (λ e i l. k.from_wire (Target e i) l) runs srcs
