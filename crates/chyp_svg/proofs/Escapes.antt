-- Bytes that stand for themselves.
use Rattle.std.proofs.Common.{◌≡◌, ℕ, suc, ◌+◌, ◌-◌, Bool, true, false, ◌==◌, List, [], ◌∷◌, ◌++◌, length, drop, take, flat_map, arith, refl, sym, ap, ◌∙◌}
use Rattle.std.specs.List.{prefix_len}
use Rattle.std.proofs.Math.Seq.{take-add}
use Rattle.std.proofs.lemmas.Grind.{flat_map-append}
use Rattle.std.proofs.lemmas.List.{length-drop, take_all, take-append-drop}
use Rattle.chyp_svg.specs.Drawing.{escaped, is_plain}

false_true : false ≡ true → ⊥
false_true h = cc

pub escaped-plain : (byte : ℕ) → is_plain byte ≡ true → escaped byte ≡ byte ∷ []
escaped-plain byte h = by (byte == 38) (byte == 60) (byte == 62) (byte == 34) refl refl refl refl
  where
    by : (a b c d : Bool) → (byte == 38) ≡ a → (byte == 60) ≡ b → (byte == 62) ≡ c → (byte == 34) ≡ d → escaped byte ≡ byte ∷ []
    by true b c d e f g k = absurd (false_true (rw e at h))
    by false true c d e f g k = absurd (false_true (rw (e, f) at h))
    by false false true d e f g k = absurd (false_true (rw (e, f, g) at h))
    by false false false true e f g k = absurd (false_true (rw (e, f, g, k) at h))
    by false false false false e f g k = rw (e, f, g, k) refl

-- the bytes in front that stand for themselves are written as they are
pub escaped-prefix : (text : List ℕ) → flat_map escaped (take (prefix_len is_plain text) text) ≡ take (prefix_len is_plain text) text
escaped-prefix [] = refl
escaped-prefix (byte ∷ text) = by (is_plain byte) refl (escaped-prefix text)
  where
    by : (b : Bool) → is_plain byte ≡ b → flat_map escaped (take (prefix_len is_plain text) text) ≡ take (prefix_len is_plain text) text
        → flat_map escaped (take (prefix_len is_plain (byte ∷ text)) (byte ∷ text)) ≡ take (prefix_len is_plain (byte ∷ text)) (byte ∷ text)
    by true e rest =
        let n = prefix_len is_plain text in
        let one : 1 + n ≡ suc n = omega arith in
        rw (e, one) (ap (λ t. t ++ flat_map escaped (take n text)) (escaped-plain byte e) ∙ ap (λ ts. byte ∷ ts) rest)
    by false e rest = rw e refl

module _ (text : List ℕ) (at n : ℕ) (part : List ℕ) (h : part ≡ flat_map escaped (take n (take (length text - at) (drop at text)))) where
  part-is : part ≡ flat_map escaped (take n (drop at text))
  part-is = h ∙ ap (λ t. flat_map escaped (take n t)) (take_all (length text - at) (drop at text) (omega (arith, length-drop at text)))

  -- what is written goes on with the part that stands for the next n bytes
  pub escaped-more : flat_map escaped (take at text) ++ part ≡ flat_map escaped (take (at + n) text)
  escaped-more = ap (λ t. flat_map escaped (take at text) ++ t) part-is ∙ sym (flat_map-append escaped (take at text) (take n (drop at text))) ∙ ap (flat_map escaped) (sym (take-add at n text))

  -- all is what stands before them, that part, and the rest
  pub escaped-turn : flat_map escaped text ≡ flat_map escaped (take at text) ++ (part ++ flat_map escaped (drop n (drop at text)))
  escaped-turn =
      ap (flat_map escaped) (sym (take-append-drop at text ∙ refl) ∙ ap (λ t. take at text ++ t) (sym (take-append-drop n (drop at text))))
      ∙ flat_map-append escaped (take at text) (take n (drop at text) ++ drop n (drop at text))
      ∙ ap (λ t. flat_map escaped (take at text) ++ t) (flat_map-append escaped (take n (drop at text)) (drop n (drop at text)) ∙ ap (λ t. t ++ flat_map escaped (drop n (drop at text))) (sym part-is))
