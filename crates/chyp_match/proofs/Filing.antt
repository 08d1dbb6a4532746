-- One more item put under its name.
use Rattle.std.proofs.Common.{ℕ, ◌+◌, ◌≡◌, ◌≢◌, Bool, true, false, List, [], ◌∷◌, ◌++◌, length, take, Some, slice_get, refl, sym, ◌∙◌, ap, arith, append-nil}
use Rattle.std.specs.Str.{bytes_eq}
use Rattle.std.proofs.lemmas.List.{length-take}
use Rattle.chyp_term.proofs.Positions.{slice_get-length}
use Rattle.chyp_match.specs.Lists.{list_of}
use Rattle.chyp_match.specs.Listed.{ids_where, numbered_from}
use Rattle.chyp_match.proofs.Choosing.{ids-fail, ids-pass}
use Rattle.chyp_match.proofs.Named.{same-bytes, same-names}

module _ {T : Type 0} (name_of : T → List ℕ) (xs : List T) (k : ℕ) (x : T) (before after : List (List ℕ × List ℕ)) (at : slice_get xs k ≡ Some x)
    (was : (name : List ℕ) → list_of name before ≡ ids_where (λ y. bytes_eq name (name_of y)) (numbered_from 0 (take k xs)))
    (added : list_of (name_of x) after ≡ list_of (name_of x) before ++ k ∷ [])
    (others : (n : List ℕ) → n ≢ name_of x → list_of n after ≡ list_of n before) where
  taken : length (take k xs) ≡ k
  taken = let l = slice_get-length xs k x at in let m = length-take k xs in omega arith

  pub filed : (name : List ℕ) → list_of name after ≡ ids_where (λ y. bytes_eq name (name_of y)) (numbered_from 0 (take (k + 1) xs))
  filed name = by (bytes_eq name (name_of x)) refl
    where
      by : (b : Bool) → bytes_eq name (name_of x) ≡ b → list_of name after ≡ ids_where (λ y. bytes_eq name (name_of y)) (numbered_from 0 (take (k + 1) xs))
      by true e =
          let q : name ≡ name_of x = same-names name (name_of x) e in
          ap (λ n. list_of n after) q ∙ added ∙ ap (λ n. list_of n before ++ k ∷ []) (sym q) ∙ ap (λ l. l ++ k ∷ []) (was name)
          ∙ sym (ids-pass (λ y. bytes_eq name (name_of y)) xs k x at e taken)
      by false e =
          let d : name ≢ name_of x = λ q. let y = same-bytes (name_of x) in let z = rw q at e in absurd (cc) in
          others name d ∙ was name ∙ sym (append-nil (ids_where (λ y. bytes_eq name (name_of y)) (numbered_from 0 (take k xs))))
          ∙ sym (ids-fail (λ y. bytes_eq name (name_of y)) xs k x at e)
