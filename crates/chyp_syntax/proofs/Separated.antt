-- Parts with a token between them, read one after the other.
use Rattle.std.proofs.Common.{◌≡◌, ℕ, ◌+◌, List, [], ◌∷◌, ◌++◌, sym, ◌∙◌, ap, subst, append_assoc, append-nil}
use Rattle.chyp_lex.specs.declared.token.Token.{Token}
use Rattle.chyp_lex.specs.declared.token.TokenKind.{TokenKind}
use Rattle.chyp_syntax.specs.Expected.{Tail, opener, behind, tail, Expected, next, onto, verdict}
use Rattle.chyp_syntax.specs.Numbered.{NumberedToken, kind_of}
use Rattle.chyp_syntax.specs.Beginning.{tokens_from, BeginsWithKind}
use Rattle.chyp_syntax.specs.Reads.{BeginsWith, Passes, Stops}
use Rattle.chyp_syntax.proofs.Numbered.{token_there}
use Rattle.chyp_syntax.proofs.Verdicts.{tail_passes, tail_skips}

-- some parts were read, and more are to come: whatever parts stand next, they are all parts together
abbrev pub SoFar : {A : Type 0} → (List NumberedToken → List A → List ℕ → Type 0) → List NumberedToken → List NumberedToken → List A → List ℕ → Type 0
SoFar {A} Are xs ys done marks =
    (front : List NumberedToken) × (xs ≡ front ++ ys) × ((more : List NumberedToken) (rest : List A) (ms : List ℕ) → Are more rest ms → Are (front ++ more) (done ++ rest) (marks ++ ms))

module _ {A : Type 0} (Is : List NumberedToken → A → Type 0) (Are : List NumberedToken → List A → List ℕ → Type 0) (kind : TokenKind) (mark : ℕ → List ℕ)
    (one : (a : List NumberedToken) (t : A) → Is a t → Are a (t ∷ []) [])
    (more : (a b : List NumberedToken) (x : NumberedToken) (t : A) (ts : List A) (ms : List ℕ) →
    Is a t → kind_of x ≡ kind → Are b ts ms → Are (a ++ x ∷ b) (t ∷ ts) (mark x.0 ++ ms)) where
  pub so_far_more : (tokens : List Token) (start at end : ℕ) (done : List A) (marks : List ℕ) (t : A) → SoFar Are (tokens_from tokens start) (tokens_from tokens at) done marks →
      BeginsWith Is (tokens_from tokens at) (tokens_from tokens end) t → BeginsWithKind kind (tokens_from tokens end) →
      SoFar Are (tokens_from tokens start) (tokens_from tokens (end + 1)) (done ++ t ∷ []) (marks ++ mark end)
  so_far_more tokens start at end done marks t so_far part begins =
      let h = token_there tokens end kind begins in
      let x : NumberedToken = (end, h.0) in
      let rest = tokens_from tokens (end + 1) in
      let front : List NumberedToken = so_far.0 ++ (part.front ++ x ∷ []) in
      let split : (zs : List NumberedToken) → front ++ zs ≡ so_far.0 ++ (part.front ++ x ∷ zs) =
      λ zs. append_assoc so_far.0 (part.front ++ x ∷ []) zs ∙ ap (λ ys. so_far.0 ++ ys) (append_assoc part.front (x ∷ []) zs) in
      let joined : tokens_from tokens start ≡ front ++ rest =
      so_far.1 ∙ ap (λ ys. so_far.0 ++ ys) (part.joined ∙ ap (λ ys. part.front ++ ys) h.2) ∙ sym (split rest) in (
        front,
        joined,
        λ zs ts ms are. let made = so_far.2 (part.front ++ x ∷ zs) (t ∷ ts) (mark end ++ ms) (more part.front zs x t ts ms part.is h.3 are) in
            subst (λ ys. Are ys ((done ++ t ∷ []) ++ ts) ((marks ++ mark end) ++ ms)) (sym (split zs)) (
            subst (λ us. Are (so_far.0 ++ (part.front ++ x ∷ zs)) us ((marks ++ mark end) ++ ms)) (sym (append_assoc done (t ∷ []) ts)) (
            subst (λ ns. Are (so_far.0 ++ (part.front ++ x ∷ zs)) (done ++ t ∷ ts) ns) (sym (append_assoc marks (mark end) ms)) made
            )
            ),
      )

  pub so_far_last : (tokens : List Token) (start at end : ℕ) (done : List A) (marks : List ℕ) (t : A) → SoFar Are (tokens_from tokens start) (tokens_from tokens at) done marks →
      BeginsWith Is (tokens_from tokens at) (tokens_from tokens end) t →
      BeginsWith (λ xs ts. Are xs ts marks) (tokens_from tokens start) (tokens_from tokens end) (done ++ t ∷ [])
  so_far_last tokens start at end done marks t so_far part = record {
    front = so_far.0 ++ part.front;
    joined = so_far.1 ∙ ap (λ ys. so_far.0 ++ ys) part.joined ∙ sym (append_assoc so_far.0 part.front (tokens_from tokens end));
    is = subst (λ ns. Are (so_far.0 ++ part.front) (done ++ t ∷ []) ns) (append-nil marks) (so_far.2 part.front (t ∷ []) [] (one part.front t part.is));
  }

-- ---- what is expected

-- behind some parts the same is expected as in front of them
abbrev pub Again : (Expected → Expected) → List Token → ℕ → ℕ → Type 0
Again symbols tokens start at = (e : Expected) → verdict (symbols e) (tokens_from tokens start) ≡ verdict (symbols e) (tokens_from tokens at)

module _ (item : Expected → Expected) (t : Tail) (loops : (e : Expected) → onto (behind t) e ≡ item (next (tail t) e)) where
  abbrev pub items : Expected → Expected
  items e = item (next (tail t) e)

  pub again_more : (tokens : List Token) (start at end : ℕ) → Again items tokens start at → Passes item tokens at end → BeginsWithKind (opener t) (tokens_from tokens end)
      → Again items tokens start (end + 1)
  again_more tokens start at end again passes begins e =
      again e ∙ passes (next (tail t) e) ∙ tail_passes tokens end t e begins ∙ ap (λ e'. verdict e' (tokens_from tokens (end + 1))) (loops e)

  pub again_last : (tokens : List Token) (start at end : ℕ) → Again items tokens start at → Passes item tokens at end → (BeginsWithKind (opener t) (tokens_from tokens end) → ⊥)
      → Passes items tokens start end
  again_last tokens start at end again passes ended e = again e ∙ passes (next (tail t) e) ∙ tail_skips t e (tokens_from tokens end) ended

  pub again_stops : (tokens : List Token) (start at k : ℕ) → Again items tokens start at → Stops item tokens at k → Stops items tokens start k
  again_stops tokens start at k again stops = (stops.0, λ e. again e ∙ stops.1 (next (tail t) e))
