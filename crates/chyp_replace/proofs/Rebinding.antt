-- Ends that are put in the places of wires, one after the other.
use Rattle.std.proofs.Common.{ℕ, ◌+◌, ◌<◌, ◌≡◌, ◌≢◌, List, [], ◌∷◌, ◌++◌, length, take, Some, slice_index, slice_set, ◌⊎◌, inl, inr, sym, ◌∙◌, ap, arith, get_or-set_other, get_or-set_same}
use Rattle.std.proofs.lemmas.Bool.{cases_eq}
use Rattle.std.proofs.lemmas.List.{length-take}
use Rattle.std.proofs.Math.ListN.{length-set}
use Rattle.chyp_term.specs.Positions.{place_of}
use Rattle.chyp_term.proofs.Closure.{get-index}
use Rattle.chyp_graph.specs.Composition.{joined_at}
use Rattle.chyp_term.proofs.Slices.{take-suc}
use Rattle.chyp_replace.specs.Numbers.{AreApart, AreRebound}
use Rattle.chyp_replace.proofs.Places.{item-new, place-new, place-other}

pub rebound-more : (wires ends before table after : List ℕ) (i : ℕ) → i < length wires → slice_index wires i < length before
    → AreApart wires
    → AreRebound (take i wires) ends before table → after ≡ slice_set table (slice_index wires i) (slice_index ends i) → AreRebound (take (i + 1) wires) ends before after
rebound-more wires ends before table after i h b apart r e = record {
  size = ap length e ∙ length-set table (slice_index wires i) (slice_index ends i) ∙ r.size;
  each = λ w l. at w l (cases_eq w (slice_index wires i));
}
  where
    grown : take (i + 1) wires ≡ take i wires ++ slice_index wires i ∷ []
    grown = take-suc wires i (slice_index wires i) (get-index wires i h)

    here : place_of (slice_index wires i) (take i wires ++ slice_index wires i ∷ []) ≡ Some i
    here = place-new (slice_index wires i) (take i wires) (item-new wires i h apart) ∙ ap (λ n. Some n) (let l = length-take i wires in omega arith)

    at : (w : ℕ) → w < length before → (w ≡ slice_index wires i) ⊎ (w ≢ slice_index wires i) → slice_index after w ≡ joined_at ends (slice_index before w) (place_of w (take (i + 1) wires))
    at w l (inl q) =
        ap (λ t. slice_index t w) e ∙ ap (slice_index (slice_set table (slice_index wires i) (slice_index ends i))) q
        ∙ get_or-set_same table (slice_index wires i) (slice_index ends i) 0 (let s = r.size in omega arith)
        ∙ sym (ap (joined_at ends (slice_index before w)) (ap (place_of w) grown ∙ ap (λ v. place_of v (take i wires ++ slice_index wires i ∷ [])) q ∙ here))
    at w l (inr q) =
        ap (λ t. slice_index t w) e ∙ get_or-set_other table (slice_index wires i) w (slice_index ends i) 0 q ∙ r.each w l
        ∙ sym (ap (joined_at ends (slice_index before w)) (ap (place_of w) grown ∙ place-other w (slice_index wires i) (take i wires) (λ s. q (sym s))))
