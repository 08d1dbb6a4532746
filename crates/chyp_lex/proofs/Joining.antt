-- Names that are joined by a dot are one dotted name.
use Rattle.std.proofs.Common.{◌≡◌, ℕ, suc, ◌+◌, List, [], ◌∷◌, ◌++◌, length, drop, inl, inr, refl, sym, ap, subst, ◌∙◌, arith, length-append}
use Rattle.std.specs.Prelude.{codes}
use Rattle.std.proofs.Math.Seq.{drop-append_seam}
use Rattle.std.proofs.lemmas.List.{drop-append-le, drop-drop}
use Rattle.chyp_lex.specs.Lexemes.{BeginsWithDotted, BeginsWithMany, BeginsWithMember, dotted_name, member, no_more, one_more}
use Rattle.chyp_lex.specs.Names.{IsNameText}
use Rattle.chyp_lex.proofs.Extending.{identifier-fits, identifier-more, member-fits, member-more, many-more}

drop-none : (text : List ℕ) → drop 0 text ≡ text
drop-none [] = refl
drop-none (b ∷ text) = refl

-- pieces behind pieces
many-both : (Piece : List ℕ → ℕ → Type 0) (text : List ℕ) (n k : ℕ) → BeginsWithMany Piece text n → BeginsWithMany Piece (drop n text) k → BeginsWithMany Piece text (n + k)
many-both Piece text n k no_more others =
    let same : k ≡ 0 + k = omega arith in
    subst (BeginsWithMany Piece text) same (subst (λ t. BeginsWithMany Piece t k) (drop-none text) others)
many-both Piece text n k (one_more {m = m} {n = j} piece rest) others =
    let behind = many-both Piece (drop m text) j k rest (subst (λ t. BeginsWithMany Piece t k) (sym (drop-drop j m text)) others) in
    let same : m + (j + k) ≡ (m + j) + k = omega arith in
    subst (BeginsWithMany Piece text) same (one_more piece behind)

-- the members behind a dot
more-members : (name : List ℕ) (n : ℕ) → BeginsWithDotted name n → BeginsWithMany BeginsWithMember (codes "." ++ name) (1 + n)
more-members name n (dotted_name {m = m} {n = k} first some others) =
    let behind : drop m name ≡ drop (1 + m) (codes "." ++ name) = ap (λ j. drop j (codes "." ++ name)) {x = suc m} (omega arith) in
    let same : (1 + m) + k ≡ 1 + (m + k) = omega arith in
    subst (BeginsWithMany BeginsWithMember (codes "." ++ name)) same
    (one_more (member refl first) (subst (λ t. BeginsWithMany BeginsWithMember t k) behind others))

members : (name : List ℕ) → IsNameText name → BeginsWithMany BeginsWithMember (codes "." ++ name) (1 + length name)
members name (inl (at, kind)) =
    let same : (1 + length name) + 0 ≡ 1 + length name = omega arith in
    subst (BeginsWithMany BeginsWithMember (codes "." ++ name)) same (one_more (member refl at) no_more)
members name (inr at) = more-members name (length name) at

-- a name, a dot and a name are a dotted name
pub joined-name : (prefix name : List ℕ) → IsNameText prefix → IsNameText name → IsNameText (prefix ++ (codes "." ++ name))
joined-name prefix name p q = inr (subst (BeginsWithDotted whole) (sym (length-append prefix dotted)) (go p))
  where
    dotted : List ℕ
    dotted = codes "." ++ name

    whole : List ℕ
    whole = prefix ++ dotted

    behind : BeginsWithMany BeginsWithMember (drop (length prefix) whole) (length dotted)
    behind = subst (λ t. BeginsWithMany BeginsWithMember t (length dotted)) (sym (drop-append_seam prefix dotted))
        (subst (BeginsWithMany BeginsWithMember dotted) {x = 1 + length name} (omega arith) (members name q))

    further : (n : ℕ) → BeginsWithDotted prefix n → n ≡ length prefix → BeginsWithDotted whole (n + length dotted)
    further n (dotted_name {m = m} {n = k} first some others) e =
        let cut = drop-append-le m prefix dotted (identifier-fits prefix m first) in
        let front = subst (λ t. BeginsWithMany BeginsWithMember t k) (sym cut) (many-more dotted BeginsWithMember member-fits (member-more dotted) others) in
        let end : drop (length prefix) whole ≡ drop k (drop m whole) = ap (λ j. drop j whole) (sym e) ∙ sym (drop-drop k m whole) in
        let all = many-both BeginsWithMember (drop m whole) k (length dotted) front (subst (λ t. BeginsWithMany BeginsWithMember t (length dotted)) end behind) in
        let same : m + (k + length dotted) ≡ (m + k) + length dotted = omega arith in
        subst (BeginsWithDotted whole) same (dotted_name (identifier-more dotted prefix m first) (omega (arith, some)) all)

    go : IsNameText prefix → BeginsWithDotted whole (length prefix + length dotted)
    go (inl (at, kind)) = dotted_name (identifier-more dotted prefix (length prefix) at) (omega arith) behind
    go (inr at) = further (length prefix) at refl
