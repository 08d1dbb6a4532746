-- Places of wires among others, read from a table.
use Rattle.std.proofs.Common.{ℕ, suc, ◌+◌, ◌<◌, ◌≡◌, Bool, true, false, cond, ◌&&◌, eqb, List, [], ◌∷◌, ◌++◌, length, take, drop, map, Option, Some, None, slice_index, All, inl, inr, refl, sym, ◌∙◌, ap, ap₂, subst, arith, add-zero, append-nil, length-take, take-append-drop, drop-cons, eq-eqb, ne_eqb}
use Rattle.std.specs.List.{cons_option}
use Rattle.std.proofs.lemmas.List.{map-append}
use Rattle.chyp_base.specs.declared.sort.Sort.{Sort}
use Rattle.chyp_term.specs.declared.term.Term.{Term}
use Rattle.chyp_term.specs.Morphism.{permutation}
use Rattle.chyp_term.specs.Perm.{IsPermutation, permuted}
use Rattle.chyp_term.specs.Term.{morphism_of, morphisms_of}
use Rattle.chyp_graph.specs.PlainGraph.{PlainGraph}
use Rattle.chyp_term.specs.Positions.{is_among, is_there, place_of}
use Rattle.chyp_term.proofs.Closure.{get-index, index-get}
use Rattle.chyp_term.proofs.Inverses.{place-found}
use Rattle.chyp_term.proofs.Members.{Member}
use Rattle.chyp_term.proofs.Positions.{slice_get-length}
use Rattle.chyp_term.proofs.Slices.{take-suc}
use Rattle.chyp_extract.specs.Extraction.{counts_from, crossing, places_in}
use Rattle.chyp_extractor.specs.Crossing.{ArePlaced}
use Rattle.chyp_extractor.proofs.Lists.{All-member}

-- what a table of places has at wires that are live
pub places-read : (live table wanted : List ℕ) → ArePlaced live table → All (λ w. is_among live w ≡ true) wanted → map (λ w. slice_index table w) wanted ≡ places_in live wanted
places-read live table wanted t a = go wanted (λ w m. All-member (λ w. is_among live w ≡ true) wanted a w m)
  where
    place : (w : ℕ) → is_among live w ≡ true → place_of w live ≡ Some (slice_index table w)
    place w h = on (place_of w live) refl h
      where
        on : (o : Option ℕ) → place_of w live ≡ o → is_there (place_of w live) ≡ true → place_of w live ≡ Some (slice_index table w)
        on None q e = let b : is_there (place_of w live) ≡ false = ap is_there q in cc
        on (Some j) q e =
            let f = place-found w live j q in
            q ∙ ap Some (sym (ap (slice_index table) (sym (index-get live j w f)) ∙ t j (slice_get-length live j w f)))

    go : (ws : List ℕ) → ((w : ℕ) → Member w ws → is_among live w ≡ true) → map (λ w. slice_index table w) ws ≡ places_in live ws
    go [] h = refl
    go (w ∷ ws) h = ap (λ l. slice_index table w ∷ l) (go ws (λ u m. h u (inr m))) ∙ sym (ap (λ o. cons_option o (places_in live ws)) (place w (h w (inl refl))))

counts-append : (k : ℕ) (xs ys : List ℕ) → counts_from k (xs ++ ys) ≡ counts_from k xs && counts_from (k + length xs) ys
counts-append k [] ys = ap (λ n. counts_from n ys) (sym (add-zero k))
counts-append k (x ∷ xs) ys = ap (λ b. eqb k x && b) (counts-append (suc k) xs ys ∙ ap (λ n. counts_from (suc k) xs && counts_from n ys) shift)
    ∙ assoc (eqb k x) (counts_from (suc k) xs) (counts_from (k + suc (length xs)) ys)
  where
    shift : suc k + length xs ≡ k + suc (length xs)
    shift = omega arith

    assoc : (a b c : Bool) → (a && (b && c)) ≡ ((a && b) && c)
    assoc true b c = refl
    assoc false b c = refl

pub counts-more : (xs : List ℕ) (i : ℕ) → i < length xs → counts_from 0 (take i xs) ≡ true → slice_index xs i ≡ i → counts_from 0 (take (i + 1) xs) ≡ true
counts-more xs i l h e =
    let n : 0 + length (take i xs) ≡ i = let t = length-take i xs in omega arith in
    ap (counts_from 0) (take-suc xs i (slice_index xs i) (get-index xs i l)) ∙ counts-append 0 (take i xs) (slice_index xs i ∷ [])
    ∙ ap₂ (λ a m. a && (eqb m (slice_index xs i) && true)) h n ∙ ap (λ a. a && true) (eq-eqb i (slice_index xs i) (sym e))

pub counts-stop : (xs : List ℕ) (i : ℕ) → i < length xs → (slice_index xs i ≡ i → ⊥) → false ≡ counts_from 0 xs
counts-stop xs i l q =
    let n : 0 + length (take i xs) ≡ i = let t = length-take i xs in omega arith in
    sym (ap (counts_from 0) (sym (take-append-drop i xs) ∙ ap (λ r. take i xs ++ r) (drop-cons xs i 0 l)) ∙ counts-append 0 (take i xs) (slice_index xs i ∷ drop (suc i) xs)
    ∙ ap (λ m. counts_from 0 (take i xs) && (eqb m (slice_index xs i) && counts_from (suc m) (drop (suc i) xs))) n
    ∙ ap (λ b. counts_from 0 (take i xs) && (b && counts_from (suc i) (drop (suc i) xs))) (ne_eqb i (slice_index xs i) (λ e. q (sym e))) ∙ none (counts_from 0 (take i xs)))
  where
    none : (b : Bool) → (b && false) ≡ false
    none true = refl
    none false = refl

-- ## the terms of a crossing

pub perm-self : (n : ℕ) (p q : List ℕ) → IsPermutation n p → q ≡ p → IsPermutation (length q) q
perm-self n p q t e = subst (λ (z : List ℕ). IsPermutation (length z) z) (sym e) (subst (λ m. IsPermutation m p) (sym t.size) t)

pub crossing-made : (g : PlainGraph) (live wanted places : List ℕ) (sorts : List Sort) (parts after : List Term) (t : Term) → places ≡ places_in live wanted → counts_from 0 places ≡ false
    → sorts ≡ permuted g.wires live → morphism_of t ≡ permutation sorts places → after ≡ parts ++ t ∷ [] → morphisms_of after ≡ morphisms_of parts ++ crossing g live wanted
crossing-made g live wanted places sorts parts after t e f s m a =
    ap morphisms_of a ∙ map-append morphism_of parts (t ∷ [])
    ∙ ap (λ x. morphisms_of parts ++ x ∷ []) (m ∙ ap₂ permutation s e)
    ∙ ap (λ b. morphisms_of parts ++ cond b [] (permutation (permuted g.wires live) (places_in live wanted) ∷ [])) (sym (ap (counts_from 0) (sym e) ∙ f))

pub crossing-none : (g : PlainGraph) (live wanted places : List ℕ) (parts : List Term) → places ≡ places_in live wanted → counts_from 0 places ≡ true
    → morphisms_of parts ≡ morphisms_of parts ++ crossing g live wanted
crossing-none g live wanted places parts e f =
    sym (append-nil (morphisms_of parts))
    ∙ ap (λ b. morphisms_of parts ++ cond b [] (permutation (permuted g.wires live) (places_in live wanted) ∷ [])) (sym (ap (counts_from 0) (sym e) ∙ f))
