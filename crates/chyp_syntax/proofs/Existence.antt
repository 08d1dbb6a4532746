-- Tokens that are accepted are a sentence: they have a tree.
use Rattle.std.proofs.Common.{◌≡◌, ℕ, zero, suc, true, false, ◌≤◌, ◌⊎◌, inl, inr, List, [], ◌∷◌, ◌++◌, length, None, Some, refl, sym, ◌∙◌, ap, subst, arith, append-nil, length-append}
use Rattle.chyp_lex.specs.declared.token.TokenKind.{TokenKind}
use Rattle.chyp_lex.specs.declared.token.TokenKind.TheVariants.{Ident, Dotted, Number, LeftParenthesis, RightParenthesis, LeftBracket, RightBracket, Comma, Minus, WordId, WordId0, WordSw, WordBy, WordSimp}
use Rattle.chyp_syntax.specs.declared.step.ReasonAst.{ReasonAst}
use Rattle.chyp_syntax.specs.declared.step.ReasonAst.TheVariants.{Plain, Rule, Simp}
use Rattle.chyp_syntax.specs.declared.step.SignedAst.{SignedAst}
use Rattle.chyp_syntax.specs.Expected.{Tail, opener, behind, signed_left, reason_left, numbers_left, places_left, atoms_left, pars_left, Symbol, token, name, signed, reason, atom, tail, nothing, next, takes, refuses, answer, onto, term_then, accepted, verdict}
use Rattle.chyp_syntax.specs.Numbered.{NumberedToken, kind_of, value_of}
use Rattle.chyp_syntax.specs.Sentence.{AreNumbers, IsSwap, two_places, these_places, IsAtom, a_name, an_id, an_id0, a_swap, in_parentheses, AreAtoms, IsPar, tensor, ArePars, IsTerm, composite, IsSigned, forwards, backwards, AreSigned, one_signed, more_signed, IsReason, none, by_rule, by_simp}
use Rattle.chyp_syntax.specs.Term.{TermTree, named, wire, empty, swap, tensor_of, chain_of}
use Rattle.chyp_syntax.proofs.Atoms.{atoms_one, atoms_more, pars_one, pars_more}
use Rattle.chyp_syntax.proofs.Numbers.{IsNumber, a_value, numbers_one, numbers_more}
use Rattle.chyp_syntax.proofs.Splits.{Split, split, one_token, one_symbol, one_name, one_tail, no_token}

-- ---- parts with a token between them

-- the tree of parts, and the numbers of the tokens between them
abbrev pub Trees : {A : Type 0} → (List NumberedToken → List A → List ℕ → Type 0) → List NumberedToken → Type 0
Trees {A} Are xs = (ts : List A) × (ms : List ℕ) × Are xs ts ms

shorter : (n : ℕ) (xs a b ys : List NumberedToken) (x : NumberedToken) → length xs ≤ suc n → xs ≡ a ++ b → b ≡ x ∷ ys → length ys ≤ n
shorter n xs a b ys x le joined there = omega (arith, ap length joined, length-append a b, ap length there)

none-left : (xs a b ys : List NumberedToken) (x : NumberedToken) → length xs ≤ zero → xs ≡ a ++ b → b ≡ x ∷ ys → ⊥
none-left xs a b ys x le joined there = omega (arith, ap length joined, length-append a b, ap length there)

module _ {A : Type 0} (Is : List NumberedToken → A → Type 0) (Are : List NumberedToken → List A → List ℕ → Type 0) (item : List Symbol) (t : Tail) (mark : ℕ → List ℕ)
    (one : (a : List NumberedToken) (u : A) → Is a u → Are a (u ∷ []) [])
    (more : (a b : List NumberedToken) (x : NumberedToken) (u : A) (us : List A) (ms : List ℕ) → Is a u → kind_of x ≡ opener t → Are b us ms → Are (a ++ x ∷ b) (u ∷ us) (mark x.0 ++ ms))
    (loops : onto (behind t) nothing ≡ onto item (next (tail t) nothing))
    (each : (a : List NumberedToken) → verdict (onto item nothing) a ≡ accepted → (u : A) × Is a u) where
  last_part : (xs : List NumberedToken) (h : Split item (next (tail t) nothing) xs) → verdict nothing h.back ≡ accepted → Trees Are xs
  last_part xs h ended =
      let part = each h.front h.front_is in
      let joined : xs ≡ h.front = h.joined ∙ ap (λ zs. h.front ++ zs) (no_token h.back ended) ∙ append-nil h.front in
      (part.0 ∷ [], [], subst (λ zs. Are zs (part.0 ∷ []) []) (sym joined) (one h.front part.0 part.1))

  next_part : (xs : List NumberedToken) (h : Split item (next (tail t) nothing) xs) (x : NumberedToken) (ys : List NumberedToken) → h.back ≡ x ∷ ys → kind_of x ≡ opener t → Trees Are ys → Trees Are xs
  next_part xs h x ys there is rest =
      let part = each h.front h.front_is in
      let joined : xs ≡ h.front ++ x ∷ ys = h.joined ∙ ap (λ zs. h.front ++ zs) there in
      (part.0 ∷ rest.0, mark x.0 ++ rest.1, subst (λ zs. Are zs (part.0 ∷ rest.0) (mark x.0 ++ rest.1)) (sym joined) (more h.front ys x part.0 rest.0 rest.1 part.1 is rest.2))

  abbrev Behind : List NumberedToken → Type 0
  Behind b = (verdict nothing b ≡ accepted) ⊎ ((x : NumberedToken) × (ys : List NumberedToken) × (b ≡ x ∷ ys) × (kind_of x ≡ opener t) × (verdict (onto (behind t) nothing) ys ≡ accepted))

  parts_end : (xs : List NumberedToken) → length xs ≤ zero → (h : Split item (next (tail t) nothing) xs) → Behind h.back → Trees Are xs
  parts_end xs le h (inl ended) = last_part xs h ended
  parts_end xs le h (inr w) = absurd (none-left xs h.front h.back w.1 w.0 le h.joined w.2)

  parts_more : (n : ℕ) → ((ys : List NumberedToken) → length ys ≤ n → verdict (onto item (next (tail t) nothing)) ys ≡ accepted → Trees Are ys) →
      (xs : List NumberedToken) → length xs ≤ suc n → (h : Split item (next (tail t) nothing) xs) → Behind h.back → Trees Are xs
  parts_more n before xs le h (inl ended) = last_part xs h ended
  parts_more n before xs le h (inr w) =
      next_part xs h w.0 w.1 w.2 w.3 (before w.1 (shorter n xs h.front h.back w.1 w.0 le h.joined w.2) (ap (λ e. verdict e w.1) (sym loops) ∙ w.4))

  pub parts_tree : (n : ℕ) (xs : List NumberedToken) → length xs ≤ n → verdict (onto item (next (tail t) nothing)) xs ≡ accepted → Trees Are xs
  parts_tree zero xs le is = let h = split xs item (next (tail t) nothing) is in parts_end xs le h (one_tail t nothing h.back h.back_is)
  parts_tree (suc n) xs le is =
      let h = split xs item (next (tail t) nothing) is in
      parts_more n (λ ys short at. parts_tree n ys short at) xs le h (one_tail t nothing h.back h.back_is)

-- ---- numbers and swaps

number-tree : (a : List NumberedToken) → verdict (next (token Number) nothing) a ≡ accepted → (v : ℕ) × IsNumber a v
number-tree a is =
    let w = one_token Number nothing a is in
    (value_of w.0, subst (λ zs. IsNumber zs (value_of w.0)) (sym (w.2 ∙ ap (λ zs. w.0 ∷ zs) (no_token w.1 w.4))) (a_value {number = w.0} w.3))

numbers-tree : (xs : List NumberedToken) → verdict (next (token Number) (next (tail numbers_left) nothing)) xs ≡ accepted → (vs : List ℕ) × AreNumbers xs vs
numbers-tree xs is =
    let w = parts_tree IsNumber (λ zs vs _. AreNumbers zs vs) (token Number ∷ []) numbers_left (λ _. []) numbers_one numbers_more refl number-tree (length xs) xs (omega arith) is in
    (w.0, w.2)

-- a swap from its first token on
swap-tree : (x : NumberedToken) (ys : List NumberedToken) → kind_of x ≡ WordSw → verdict (next (tail places_left) nothing) ys ≡ accepted → (u : TermTree) × IsSwap (x ∷ ys) u
swap-tree x ys is at = go (one_tail places_left nothing ys at)
  where
    go : (verdict nothing ys ≡ accepted) ⊎ ((y : NumberedToken) × (zs : List NumberedToken) × (ys ≡ y ∷ zs) × (kind_of y ≡ LeftBracket) × (verdict (onto (behind places_left) nothing) zs ≡ accepted))
        → (u : TermTree) × IsSwap (x ∷ ys) u
    go (inl ended) = (swap x.0 None, subst (λ zs. IsSwap (x ∷ zs) (swap x.0 None)) (sym (no_token ys ended)) (two_places {word = x} is))
    go (inr w) =
        let h = split w.1 (token Number ∷ tail numbers_left ∷ []) (next (token RightBracket) nothing) w.4 in
        let numbers = numbers-tree h.front h.front_is in
        let c = one_token RightBracket nothing h.back h.back_is in
        let joined : ys ≡ w.0 ∷ (h.front ++ c.0 ∷ []) = w.2 ∙ ap (λ zs. w.0 ∷ zs) (h.joined ∙ ap (λ zs. h.front ++ zs) (c.2 ∙ ap (λ zs. c.0 ∷ zs) (no_token c.1 c.4))) in
        (swap x.0 (Some numbers.0), subst (λ zs. IsSwap (x ∷ zs) (swap x.0 (Some numbers.0))) (sym joined) (these_places {word = x} {open' = w.0} c.0 is w.3 numbers.1 c.3))

-- ---- atoms

same-takes : (ss rs : List Symbol) → takes ss ≡ takes rs → ss ≡ rs
same-takes ss rs e = cc

abbrev Inner : ℕ → Type 0
Inner depth = (xs : List NumberedToken) → verdict (term_then depth nothing) xs ≡ accepted → (u : TermTree) × IsTerm depth xs u

abbrev AtomTree : ℕ → List NumberedToken → Type 0
AtomTree depth xs = (u : TermTree) × IsAtom depth xs u

atom-single : (depth : ℕ) (x : NumberedToken) (ys : List NumberedToken) (rs : List Symbol) (u : TermTree) → IsAtom depth (x ∷ []) u → rs ≡ [] → verdict (onto rs nothing) ys ≡ accepted
    → AtomTree depth (x ∷ ys)
atom-single depth x ys rs u is none' at =
    let ended : ys ≡ [] = no_token ys (ap (λ ss. verdict (onto ss nothing) ys) (sym none') ∙ at) in
    (u, subst (λ zs. IsAtom depth (x ∷ zs) u) (sym ended) is)

atom-inner : (depth : ℕ) (x : NumberedToken) (ys : List NumberedToken) → Inner depth → kind_of x ≡ LeftParenthesis → verdict (term_then depth (next (token RightParenthesis) nothing)) ys ≡ accepted
    → AtomTree (suc depth) (x ∷ ys)
atom-inner depth x ys inner is at =
    let h = split ys (atom depth ∷ tail (atoms_left depth) ∷ tail (pars_left depth) ∷ []) (next (token RightParenthesis) nothing) at in
    let term = inner h.front h.front_is in
    let c = one_token RightParenthesis nothing h.back h.back_is in
    let joined : ys ≡ h.front ++ c.0 ∷ [] = h.joined ∙ ap (λ zs. h.front ++ zs) (c.2 ∙ ap (λ zs. c.0 ∷ zs) (no_token c.1 c.4)) in
    (term.0, subst (λ zs. IsAtom (suc depth) (x ∷ zs) term.0) (sym joined) (in_parentheses {open' = x} c.0 is term.1 c.3))

no-answer : (rs : List Symbol) → refuses ≡ takes rs → ⊥
no-answer rs e = cc

atom-cases : (depth : ℕ) (k : TokenKind) (x : NumberedToken) (ys : List NumberedToken) (rs : List Symbol) → ((d : ℕ) → depth ≡ suc d → Inner d) → kind_of x ≡ k → answer (atom depth) k ≡ takes rs →
    verdict (onto rs nothing) ys ≡ accepted → AtomTree depth (x ∷ ys)
atom-cases depth Ident x ys rs inner e is at = atom-single depth x ys rs (named x.0) (a_name {word = x} (inl e)) (same-takes rs [] (sym is)) at
atom-cases depth Dotted x ys rs inner e is at = atom-single depth x ys rs (named x.0) (a_name {word = x} (inr e)) (same-takes rs [] (sym is)) at
atom-cases depth WordId x ys rs inner e is at = atom-single depth x ys rs wire (an_id {word = x} e) (same-takes rs [] (sym is)) at
atom-cases depth WordId0 x ys rs inner e is at = atom-single depth x ys rs empty (an_id0 {word = x} e) (same-takes rs [] (sym is)) at
atom-cases depth WordSw x ys rs inner e is at =
    let found = swap-tree x ys e (ap (λ ss. verdict (onto ss nothing) ys) (same-takes (tail places_left ∷ []) rs is) ∙ at) in
    (found.0, a_swap found.1)
atom-cases zero LeftParenthesis x ys rs inner e is at = absurd (no-answer rs is)
atom-cases (suc depth) LeftParenthesis x ys rs inner e is at =
    atom-inner depth x ys (inner depth refl) e
    (ap (λ ss. verdict (onto ss nothing) ys) (same-takes (atom depth ∷ tail (atoms_left depth) ∷ tail (pars_left depth) ∷ token RightParenthesis ∷ []) rs is) ∙ at)
atom-cases depth _ x ys rs inner e is at = absurd (no-answer rs is)

atom-tree : (depth : ℕ) → ((d : ℕ) → depth ≡ suc d → Inner d) → (xs : List NumberedToken) → verdict (next (atom depth) nothing) xs ≡ accepted → AtomTree depth xs
atom-tree depth inner xs is =
    let w = one_symbol (atom depth) nothing xs refl is in
    let found = atom-cases depth (kind_of w.0) w.0 w.1 w.2 inner refl w.4 w.5 in
    (found.0, subst (λ zs. IsAtom depth zs found.0) (sym w.3) found.1)

-- ---- terms

par-tree : (depth : ℕ) → ((d : ℕ) → depth ≡ suc d → Inner d) → (xs : List NumberedToken) → verdict (next (atom depth) (next (tail (atoms_left depth)) nothing)) xs ≡ accepted → (u : TermTree)
    × IsPar depth xs u
par-tree depth inner xs is =
    let w = parts_tree (IsAtom depth) (λ zs ts _. AreAtoms depth zs ts) (atom depth ∷ []) (atoms_left depth) (λ _. []) (atoms_one depth) (atoms_more depth) refl (atom-tree depth inner) (length xs) xs
    (omega arith) is in
    (tensor_of w.0, tensor w.2)

term-step : (depth : ℕ) → ((d : ℕ) → depth ≡ suc d → Inner d) → Inner depth
term-step depth inner xs is =
    let w = parts_tree (IsPar depth) (ArePars depth) (atom depth ∷ tail (atoms_left depth) ∷ []) (pars_left depth) (λ n. n ∷ []) (pars_one depth) (pars_more depth) refl (par-tree depth inner)
    (length xs) xs (omega arith) is in
    (chain_of w.0 w.1, composite w.2)

pub no-less : (d : ℕ) → zero ≡ suc d → ⊥
no-less d e = omega (arith, e)

pub one-less : (depth d : ℕ) → suc depth ≡ suc d → depth ≡ d
one-less depth d e = omega (arith, e)

pub term-tree : (depth : ℕ) → Inner depth
term-tree zero = term-step zero (λ d e. absurd (no-less d e))
term-tree (suc depth) = term-step (suc depth) (λ d e. subst Inner (one-less depth d e) (term-tree depth))

-- ---- reasons

signed-cases : (k : TokenKind) (x : NumberedToken) (ys : List NumberedToken) (rs : List Symbol) → kind_of x ≡ k → answer signed k ≡ takes rs → verdict (onto rs nothing) ys ≡ accepted → (u : SignedAst)
    × IsSigned (x ∷ ys) u
signed-cases Ident x ys rs e is at =
    let ended : ys ≡ [] = no_token ys (ap (λ ss. verdict (onto ss nothing) ys) (same-takes [] rs is) ∙ at) in
    (record { minus = false; name = x.0 }, subst (λ zs. IsSigned (x ∷ zs) (record { minus = false; name = x.0 })) (sym ended) (forwards {word = x} (inl e)))
signed-cases Dotted x ys rs e is at =
    let ended : ys ≡ [] = no_token ys (ap (λ ss. verdict (onto ss nothing) ys) (same-takes [] rs is) ∙ at) in
    (record { minus = false; name = x.0 }, subst (λ zs. IsSigned (x ∷ zs) (record { minus = false; name = x.0 })) (sym ended) (forwards {word = x} (inr e)))
signed-cases Minus x ys rs e is at =
    let w = one_name nothing ys (ap (λ ss. verdict (onto ss nothing) ys) (same-takes (name ∷ []) rs is) ∙ at) in
    let ended : ys ≡ w.0 ∷ [] = w.2 ∙ ap (λ zs. w.0 ∷ zs) (no_token w.1 w.4) in
    (record { minus = true; name = w.0.0 }, subst (λ zs. IsSigned (x ∷ zs) (record { minus = true; name = w.0.0 })) (sym ended) (backwards {minus = x} {word = w.0} e w.3))
signed-cases _ x ys rs e is at = absurd (no-answer rs is)

signed-tree : (xs : List NumberedToken) → verdict (next signed nothing) xs ≡ accepted → (u : SignedAst) × IsSigned xs u
signed-tree xs is =
    let w = one_symbol signed nothing xs refl is in
    let found = signed-cases (kind_of w.0) w.0 w.1 w.2 refl w.4 w.5 in
    (found.0, subst (λ zs. IsSigned zs found.0) (sym w.3) found.1)

signeds-one : (a : List NumberedToken) (u : SignedAst) → IsSigned a u → AreSigned a (u ∷ [])
signeds-one a u is = one_signed is

signeds-more : (a b : List NumberedToken) (x : NumberedToken) (u : SignedAst) (us : List SignedAst) (ms : List ℕ) → IsSigned a u → kind_of x ≡ Comma → AreSigned b us → AreSigned (a ++ x ∷ b) (u ∷ us)
signeds-more a b x u us ms is comma are = more_signed x is comma are

signeds-tree : (xs : List NumberedToken) → verdict (next signed (next (tail signed_left) nothing)) xs ≡ accepted → (us : List SignedAst) × AreSigned xs us
signeds-tree xs is =
    let w = parts_tree IsSigned (λ zs ts _. AreSigned zs ts) (signed ∷ []) signed_left (λ _. []) signeds-one signeds-more refl signed-tree (length xs) xs (omega arith) is in
    (w.0, w.2)

-- a reason from its `by` on
by-cases : (k : TokenKind) (b x : NumberedToken) (ys : List NumberedToken) (rs : List Symbol) → kind_of b ≡ WordBy → kind_of x ≡ k → answer reason k ≡ takes rs
    → verdict (onto rs nothing) ys ≡ accepted →
    (u : ReasonAst) × IsReason (b ∷ x ∷ ys) u
by-cases Ident b x ys rs by e is at = let found = signed-cases Ident x ys rs e is at in (Rule found.0, by_rule {word = b} by found.1)
by-cases Dotted b x ys rs by e is at = let found = signed-cases Dotted x ys rs e is at in (Rule found.0, by_rule {word = b} by found.1)
by-cases Minus b x ys rs by e is at = let found = signed-cases Minus x ys rs e is at in (Rule found.0, by_rule {word = b} by found.1)
by-cases WordSimp b x ys rs by e is at =
    let o = one_token LeftParenthesis (next signed (next (tail signed_left) (next (token RightParenthesis) nothing))) ys
    (ap (λ ss. verdict (onto ss nothing) ys) (same-takes (token LeftParenthesis ∷ signed ∷ tail signed_left ∷ token RightParenthesis ∷ []) rs is) ∙ at) in
    let h = split o.1 (signed ∷ tail signed_left ∷ []) (next (token RightParenthesis) nothing) o.4 in
    let rules = signeds-tree h.front h.front_is in
    let c = one_token RightParenthesis nothing h.back h.back_is in
    let joined : ys ≡ o.0 ∷ (h.front ++ c.0 ∷ []) = o.2 ∙ ap (λ zs. o.0 ∷ zs) (h.joined ∙ ap (λ zs. h.front ++ zs) (c.2 ∙ ap (λ zs. c.0 ∷ zs) (no_token c.1 c.4))) in
    (Simp rules.0, subst (λ zs. IsReason (b ∷ x ∷ zs) (Simp rules.0)) (sym joined) (by_simp {word = b} {simp' = x} {open' = o.0} c.0 by e o.3 rules.1 c.3))
by-cases _ b x ys rs by e is at = absurd (no-answer rs is)

pub reason-tree : (xs : List NumberedToken) → verdict (next (tail reason_left) nothing) xs ≡ accepted → (u : ReasonAst) × IsReason xs u
reason-tree xs is = go (one_tail reason_left nothing xs is)
  where
    go : (verdict nothing xs ≡ accepted) ⊎ ((x : NumberedToken) × (ys : List NumberedToken) × (xs ≡ x ∷ ys) × (kind_of x ≡ WordBy) × (verdict (onto (behind reason_left) nothing) ys ≡ accepted))
        → (u : ReasonAst) × IsReason xs u
    go (inl ended) = (Plain, subst (λ zs. IsReason zs Plain) (sym (no_token xs ended)) none)
    go (inr w) =
        let v = one_symbol reason nothing w.1 refl w.4 in
        let found = by-cases (kind_of v.0) w.0 v.0 v.1 v.2 w.3 refl v.4 v.5 in
        (found.0, subst (λ zs. IsReason zs found.0) (sym (w.2 ∙ ap (λ zs. w.0 ∷ zs) v.3)) found.1)
