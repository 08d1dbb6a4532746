-- The wires and edges that are kept, one after the other.
use Rattle.std.proofs.Common.{ℕ, zero, suc, ◌+◌, ◌<◌, ◌≤◌, ◌≡◌, Bool, true, false, not, List, [], ◌∷◌, ◌++◌, map, length, take, All, Some, slice_get, get_or}
use Rattle.std.proofs.Common.{sym, ◌∙◌, ap, ap₂, arith, append_assoc, zero-add}
use Rattle.std.specs.List.{cons_option}
use Rattle.std.proofs.lemmas.List.{map-append}
use Rattle.chyp_term.specs.Perm.{count_from, permuted}
use Rattle.chyp_term.specs.Positions.{is_among, is_apart}
use Rattle.chyp_term.proofs.Permuted.{length-count_from, length-permuted, permuted-append}
use Rattle.chyp_term.proofs.Positions.{Under-filter, slice_get-length}
use Rattle.chyp_graph.specs.Composition.{inner}
use Rattle.chyp_graph.proofs.Leaves.{filter-few}
use Rattle.chyp_graph.specs.PlainGraph.{Edge, PlainGraph}
use Rattle.chyp_graph.specs.Validity.{IsValid}
use Rattle.chyp_graph.proofs.Numbering.{edges-within, inner-input, inner-other}
use Rattle.chyp_term.proofs.Closure.{get-item}
use Rattle.chyp_term.proofs.Counting.{count_from-push}
use Rattle.chyp_term.proofs.Slices.{all-is, take-suc}
use Rattle.chyp_replace.specs.Images.{AreMarked}
use Rattle.chyp_replace.specs.Numbers.{kept_before}

map-count-suc : (f : ℕ → ℕ) (w : ℕ) → map f (count_from 0 (w + 1)) ≡ map f (count_from 0 w) ++ f w ∷ []
map-count-suc f w =
    let l : w + 1 ≡ suc w = omega arith in
    ap (λ n. map f (count_from 0 n)) l ∙ ap (map f) (count_from-push 0 w) ∙ map-append f (count_from 0 w) ((0 + w) ∷ []) ∙ ap (λ n. map f (count_from 0 w) ++ f n ∷ []) (zero-add w)

-- what a mark says of its number
pub mark-apart : (images : List ℕ) (n : ℕ) (marks : List Bool) (k : ℕ) (mark b : Bool) → AreMarked images n marks → k < n → mark ≡ get_or marks k mark → mark ≡ b → is_apart images k ≡ not b
mark-apart images n marks k mark b m h g e =
    let s = m.size in
    let q : Some (is_among images k) ≡ Some mark = sym (m.each k h) ∙ get-item marks k mark (omega arith) g in
    let r : is_among images k ≡ mark = cc in
    ap not (r ∙ e)

-- what is read where an item is found
pub read-item : {A : Type 0} (xs : List A) (k : ℕ) (x : A) → slice_get xs k ≡ Some x → x ≡ get_or xs k x
read-item [] k x e = cc
read-item (y ∷ xs) zero x e = let q : y ≡ x = cc in sym q
read-item (y ∷ xs) (suc k) x e = read-item xs k x e

-- the ports of an edge of a valid graph are in a table of all its wires
pub ports-in : (g : PlainGraph) → IsValid g → (k : ℕ) (e : Edge) → slice_get g.edges k ≡ Some e → (n : ℕ) → n ≡ length g.wires → All (λ w. w < n) e.sources × All (λ w. w < n) e.targets
ports-in g v k e h n q = all-is (λ e. All (λ w. w < n) e.sources × All (λ w. w < n) e.targets) g.edges k e (slice_get-length g.edges k e h) (read-item g.edges k e h) (edges-within g v n (sym q))

-- the items of the numbers below k that are no image
module _ {A : Type 0} (items : List A) (images : List ℕ) (k : ℕ) (list : List A) (i : list ≡ permuted items (inner images k)) where
  pub kept-skip : is_apart images k ≡ false → list ≡ permuted items (inner images (k + 1))
  kept-skip e = i ∙ ap (permuted items) (sym (inner-input images k e))

  pub kept-push : (x : A) (after : List A) → is_apart images k ≡ true → slice_get items k ≡ Some x → after ≡ list ++ x ∷ [] → after ≡ permuted items (inner images (k + 1))
  kept-push x after e g a =
      a ∙ ap (λ l. l ++ x ∷ []) i
      ∙ sym (ap (permuted items) (inner-other images k e) ∙ permuted-append items (inner images k) (k ∷ []) ∙ ap (λ o. permuted items (inner images k) ++ cons_option o []) g)

  -- they are as many as their numbers
  pub kept-length : k ≤ length items → length list ≡ kept_before images k
  kept-length h = ap length i ∙ length-permuted items (inner images k) (Under-filter (is_apart images) (length items) 0 k (omega arith))

  pub kept-few : k ≤ length items → length list ≤ k
  kept-few h = let a = kept-length h in let b = filter-few (is_apart images) (count_from 0 k) in let c = length-count_from 0 k in omega arith

-- the same under a map
module _ {A B : Type 0} (f : A → B) (items : List A) (images : List ℕ) (k : ℕ) (list : List B) (i : list ≡ map f (permuted items (inner images k))) where
  pub mapped-skip : is_apart images k ≡ false → list ≡ map f (permuted items (inner images (k + 1)))
  mapped-skip e = i ∙ ap (λ l. map f (permuted items l)) (sym (inner-input images k e))

  pub mapped-push : (x : A) (after : List B) → is_apart images k ≡ true → slice_get items k ≡ Some x → after ≡ list ++ f x ∷ [] → after ≡ map f (permuted items (inner images (k + 1)))
  mapped-push x after e g a =
      a ∙ ap (λ l. l ++ f x ∷ []) i ∙ sym (map-append f (permuted items (inner images k)) (x ∷ []))
      ∙ ap (map f) (sym (ap (permuted items) (inner-other images k e) ∙ permuted-append items (inner images k) (k ∷ []) ∙ ap (λ o. permuted items (inner images k) ++ cons_option o []) g))

-- one item more under a map
pub pushed-map : {A B : Type 0} (f : A → B) (list : List B) (items : List A) (before after : List B) (i : ℕ) (x : A) (y : B) → slice_get items i ≡ Some x → y ≡ f x
    → before ≡ list ++ map f (take i items) → after ≡ before ++ y ∷ [] → after ≡ list ++ map f (take (i + 1) items)
pushed-map f list items before after i x y e g q r =
    r ∙ ap₂ (λ l z. l ++ z ∷ []) q g ∙ append_assoc list (map f (take i items)) (f x ∷ [])
    ∙ ap (λ l. list ++ l) (sym (ap (map f) (take-suc items i x e) ∙ map-append f (take i items) (x ∷ [])))

-- one number more
pub number-more : (images : List ℕ) (k x : ℕ) (before after : List ℕ)
    → before ≡ map (kept_before images) (count_from 0 k) → x ≡ kept_before images k → after ≡ before ++ x ∷ [] → after ≡ map (kept_before images) (count_from 0 (k + 1))
number-more images k x before after e q a = a ∙ ap₂ (λ l n. l ++ n ∷ []) e q ∙ sym (map-count-suc (kept_before images) k)
