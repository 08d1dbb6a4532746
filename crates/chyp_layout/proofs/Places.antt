-- The table of the wires' places.
use Rattle.std.proofs.Common.{ℕ, ◌+◌, ◌<◌, ◌≡◌, Bool, true, false, cond, List, [], ◌∷◌, length, take, Some, slice_get, slice_index, ◌⊎◌, inl, inr, All, refl, sym, ◌∙◌, ap, subst, arith}
use Rattle.std.specs.List.{enumerate_from, fold}
use Rattle.std.proofs.lemmas.Bool.{cases_Bool}
use Rattle.std.proofs.lemmas.List.Sums.{fold_push}
use Rattle.chyp_term.specs.Positions.{is_among}
use Rattle.chyp_term.proofs.Closure.{get-index, index-get}
use Rattle.chyp_term.proofs.Permuted.{found}
use Rattle.chyp_graph.specs.PlainGraph.{Edge, PlainGraph}
use Rattle.chyp_graph.specs.Removal.{IsWritten}
use Rattle.chyp_graph.specs.Validity.{IsValid}
use Rattle.chyp_term.proofs.Members.{All-members}
use Rattle.chyp_term.proofs.Slices.{take-suc}
use Rattle.chyp_graph.proofs.Removing.{sources-within, targets-wires}
use Rattle.chyp_layout.specs.Side.{IsItem, ports_on, wires_on}
use Rattle.chyp_layout.specs.Sweep.{place_on}
use Rattle.chyp_layout.specs.declared.item.Item.{Item}
use Rattle.chyp_layout.specs.declared.item.Item.TheVariants.{Box, Wire}
use Rattle.chyp_layout.specs.declared.side.Side.{Side}
use Rattle.chyp_layout.specs.declared.side.Side.TheVariants.{Left, Right}
use Rattle.chyp_layout.proofs.Lists.{enumerate-take}

-- the wires of an item are wires of the graph
pub wires-within : (g : PlainGraph) → IsValid g → (side : Side) (t : Item) (n : ℕ) → n ≡ length g.wires → IsItem g t → All (λ w. w < n) (wires_on g side t)
wires-within g v side (Wire w) n e h = All-members {P = λ x. x < n} (w ∷ []) (λ x m. elim m [ inl q ↦ omega arith | inr q ↦ absurd q ])
wires-within g v side (Box k) n e h = let f = found g.edges k h in subst (λ o. All (λ w. w < n) (ports_on side o)) (sym f.1) (inside side f.0 f.1)
  where
    inside : (side : Side) (d : Edge) → slice_get g.edges k ≡ Some d → All (λ w. w < n) (ports_on side (Some d))
    inside Left d q = sources-within g v k n d q e
    inside Right d q = subst (λ m. All (λ w. w < m) d.targets) (sym e) (targets-wires g v k d q)

-- the table after a writing, wire by wire
pub written-index : (wires : List ℕ) (x : ℕ) (before after : List ℕ) (w : ℕ) → IsWritten wires x before after → w < length before
    → slice_index after w ≡ cond (is_among wires w) x (slice_index before w)
written-index wires x before after w t l = go (cases_Bool (is_among wires w))
  where
    go : (is_among wires w ≡ true) ⊎ (is_among wires w ≡ false) → slice_index after w ≡ cond (is_among wires w) x (slice_index before w)
    go (inl h) = let s = t.size in rw h (t.at w (slice_index after w) (get-index after w (omega arith)) h)
    go (inr h) = rw h (index-get after w (slice_index before w) (t.rest w h ∙ get-index before w l))

-- the place of a wire among one item more
pub place-more : (g : PlainGraph) (side : Side) (items : List Item) (i : ℕ) (t : Item) (w : ℕ) → slice_get items i ≡ Some t
    → place_on g side (take (i + 1) items) w ≡ cond (is_among (wires_on g side t) w) i (place_on g side (take i items) w)
place-more g side items i t w h =
    ap (fold (λ place p. cond (is_among (wires_on g side p.1) w) p.0 place) 0) (enumerate-take items i t h)
    ∙ fold_push (λ place p. cond (is_among (wires_on g side p.1) w) p.0 place) 0 (enumerate_from 0 (take i items)) (i, t)

pub noted-more : (g : PlainGraph) (side : Side) (items : List Item) (i : ℕ) (t : Item) (before after : List ℕ) → slice_get items i ≡ Some t → length before ≡ length g.wires
    → ((w : ℕ) → w < length g.wires → slice_index before w ≡ place_on g side (take i items) w) → IsWritten (wires_on g side t) i before after
    → (length after ≡ length g.wires) × ((w : ℕ) → w < length g.wires → slice_index after w ≡ place_on g side (take (i + 1) items) w)
noted-more g side items i t before after h s f x = (
  x.size ∙ s,
  λ w l. written-index (wires_on g side t) i before after w x (omega arith) ∙ ap (cond (is_among (wires_on g side t) w) i) (f w l) ∙ sym (place-more g side items i t w h),
)

-- ## writing 0 at the wires of the items

abbrev pub cleared : PlainGraph → Side → ℕ → ℕ → List Item → ℕ
cleared g side w x items = fold (λ x t. cond (is_among (wires_on g side t) w) 0 x) x items

pub cleared-more : (g : PlainGraph) (side : Side) (items : List Item) (i : ℕ) (t : Item) (start before after : List ℕ) → slice_get items i ≡ Some t → length before ≡ length g.wires
    → ((w : ℕ) → w < length g.wires → slice_index before w ≡ cleared g side w (slice_index start w) (take i items)) → IsWritten (wires_on g side t) 0 before after
    → (length after ≡ length g.wires) × ((w : ℕ) → w < length g.wires → slice_index after w ≡ cleared g side w (slice_index start w) (take (i + 1) items))
cleared-more g side items i t start before after h s f x = (
  x.size ∙ s,
  λ w l. written-index (wires_on g side t) 0 before after w x (omega arith) ∙ ap (cond (is_among (wires_on g side t) w) 0) (f w l)
      ∙ sym (ap (cleared g side w (slice_index start w)) (take-suc items i t h) ∙ fold_push (λ x t. cond (is_among (wires_on g side t) w) 0 x) (slice_index start w) (take i items) t),
)

cleared-zero : (g : PlainGraph) (side : Side) (w : ℕ) (items : List Item) → cleared g side w 0 items ≡ 0
cleared-zero g side w [] = refl
cleared-zero g side w (t ∷ ts) = go (is_among (wires_on g side t) w) (cleared-zero g side w ts)
  where
    go : (b : Bool) → cleared g side w 0 ts ≡ 0 → cleared g side w (cond b 0 0) ts ≡ 0
    go true e = e
    go false e = e

-- the place of a wire among items with their numbers, where it is x before them
abbrev placed : PlainGraph → Side → ℕ → ℕ → List (ℕ × Item) → ℕ
placed g side w x items = fold (λ place p. cond (is_among (wires_on g side p.1) w) p.0 place) x items

cleared-or : (g : PlainGraph) (side : Side) (w : ℕ) (items : List Item) → ((x : ℕ) → cleared g side w x items ≡ 0) ⊎ (((x : ℕ) → cleared g side w x items ≡ x) × ((n x : ℕ)
    → placed g side w x (enumerate_from n items) ≡ x))
cleared-or g side w [] = inr (λ x. refl, λ n x. refl)
cleared-or g side w (t ∷ ts) = go (is_among (wires_on g side t) w) refl (cleared-or g side w ts) (cleared-zero g side w ts)
  where
    go : (b : Bool) → is_among (wires_on g side t) w ≡ b → (((x : ℕ) → cleared g side w x ts ≡ 0) ⊎ (((x : ℕ) → cleared g side w x ts ≡ x) × ((n x : ℕ)
        → placed g side w x (enumerate_from n ts) ≡ x))) → cleared g side w 0 ts ≡ 0
        → ((x : ℕ) → cleared g side w x (t ∷ ts) ≡ 0) ⊎ (((x : ℕ) → cleared g side w x (t ∷ ts) ≡ x) × ((n x : ℕ) → placed g side w x (enumerate_from n (t ∷ ts)) ≡ x))
    go true e ih z = inl (λ x. ap (λ b. cleared g side w (cond b 0 x) ts) e ∙ z)
    go false e (inl c) z = inl (λ x. ap (λ b. cleared g side w (cond b 0 x) ts) e ∙ c x)
    go false e (inr c) z = inr (λ x. ap (λ b. cleared g side w (cond b 0 x) ts) e ∙ c.0 x, λ n x. ap (λ b. placed g side w (cond b n x) (enumerate_from (n + 1) ts)) e ∙ c.1 (n + 1) x)

-- then the places of the items are 0
pub cleared-all : (g : PlainGraph) (side : Side) (items : List Item) (w : ℕ) → cleared g side w (place_on g side items w) items ≡ 0
cleared-all g side items w = go (cleared-or g side w items)
  where
    go : (((x : ℕ) → cleared g side w x items ≡ 0) ⊎ (((x : ℕ) → cleared g side w x items ≡ x) × ((n x : ℕ) → placed g side w x (enumerate_from n items) ≡ x)))
        → cleared g side w (place_on g side items w) items ≡ 0
    go (inl c) = c (place_on g side items w)
    go (inr c) = c.0 (place_on g side items w) ∙ c.1 0 0
