use Rattle.std.proofs.Common.{rules, ◌≡◌, ℕ, ◌+◌, ◌-◌, ◌^◌, ◌<◌, ◌≤◌, ◌⊎◌, IsTrue, ◌∷◌, ◌++◌, [], length, take, set, get_or, vec_len, false, true≢false, inl, inr, ap, sym, subst, ◌∙◌, arith, refl}
use Rattle.std.proofs.lemmas.Bool.{eqb-true, eqb-false}
use Rattle.std.proofs.lemmas.List.{take_more, length-take-le}
use Rattle.chyp_lex.specs.declared.token.Token.{Token}
use Rattle.chyp_lex.specs.declared.token.TokenKind.TheVariants.{Ident}
use Rattle.chyp_syntax.specs.declared.chunk.Chunk.{Chunk}
use Rattle.chyp_syntax.specs.Chunk.{is_statement_keyword}
use Rattle.chyp_syntax.proofs.Tiling.{Tile-some, Tile-within, AreChunks-push, AreChunks-set, last_within, none_yet}
use Rattle.chyp_syntax.proofs.chunk.chunks.Goals as goal
use Rattle.chyp_syntax.proofs.chunk.chunks.Goals.{then-is_empty, else-is_empty, then-is_statement_keyword+in_ok-push, else-is_statement_keyword+in-Some, else-is_statement_keyword+in_default}

pub overflow_add-open : goal.overflow_add-open
overflow_add-open c =
    let tokens = c.args.tokens.now in
    let front : length (take c.loop-at.at tokens) ≡ c.loop-at.at = length-take-le c.loop-at.at tokens (omega arith) in
    let same : vec_len c.loop-at.chunks ≡ length c.loop-at.chunks.items = search rules in
    let some : 0 < length c.loop-at.chunks.items = c.in-Some.ensures.item.3.0 in
    let within = last_within (take c.loop-at.at tokens) c.loop-at.chunks.items c.in-Some.open.now (vec_len c.loop-at.chunks - 1) c.loop-at.invariant (omega arith) c.in-Some.ensures.value in
    let fits : length tokens < 2 ^ 32 = c.requires in
    omega arith

pub loop-at-preserved : goal.loop-at-preserved
loop-at-preserved c =
    let tokens = c.args.tokens.now in
    let at = c.loop-at.at in
    let chunks = c.loop-at.chunks.items in
    let default : Token = record { kind = Ident; start = 0; len = 0; value = 0 } in
    let token : Token = get_or tokens at default in
    let front : length (take at tokens) ≡ at = length-take-le at tokens (omega arith) in
    let same : vec_len c.loop-at.chunks ≡ length chunks = search rules in
    let own : Chunk = record { first = at; count = 1 } in
    let more : take (at + 1) tokens ≡ take at tokens ++ token ∷ [] = take_more tokens at default (omega arith) in
    elim c.if-is_statement_keyword.branch [
      | then-is_statement_keyword+in_ok-push w ↦
          let made = ap (λ v. v.items) w.chunks-is ∙ w.in_ok-push.ensures.items in
          let begins : (length (take at tokens) ≡ 0) ⊎ IsTrue (is_statement_keyword token.kind) =
          elim c.if-is_empty.branch [
            | then-is_empty v ↦
                let none = eqb-true (vec_len c.loop-at.chunks) 0 (sym c.is_empty.ensures ∙ v.if-is_empty.true) in
                inl (none_yet (take at tokens) chunks c.loop-at.invariant (omega arith))
            | else-is_empty v ↦ inr (sym v.is_statement_keyword.ensures ∙ sym v.value-is ∙ w.if-is_statement_keyword.true)
          ] in
          let are = AreChunks-push (take at tokens) token chunks own c.loop-at.invariant begins (sym front) refl in
          rw (made, more) are
      | else-is_statement_keyword+in-Some w ↦
          let open' = w.in-Some.open.now in
          let longer : Chunk = record { first = open'.first; count = open'.count + 1 } in
          let made : c.if-is_statement_keyword.chunks.items ≡ set chunks (vec_len c.loop-at.chunks - 1) longer = ap (λ v. v.items) w.chunks-is in
          let goes_on : is_statement_keyword token.kind ≡ false =
          elim c.if-is_empty.branch [
            | then-is_empty v ↦ absurd (true≢false (sym v.if-is_empty.true ∙ sym v.value-is ∙ w.if-is_statement_keyword.false))
            | else-is_empty v ↦ sym v.is_statement_keyword.ensures ∙ sym v.value-is ∙ w.if-is_statement_keyword.false
          ] in
          let some : 0 < length chunks = w.in-Some.ensures.item.3.0 in
          let are = AreChunks-set (take at tokens) token chunks open' longer (vec_len c.loop-at.chunks - 1) c.loop-at.invariant some (omega arith) w.in-Some.ensures.value goes_on refl refl in
          rw (made, more) are
      | else-is_statement_keyword+in_default w ↦ absurd (
          elim c.if-is_empty.branch [
            | then-is_empty v ↦ true≢false (sym v.if-is_empty.true ∙ sym v.value-is ∙ w.if-is_statement_keyword.false)
            | else-is_empty v ↦
                let not_zero = eqb-false (vec_len c.loop-at.chunks) 0 (sym c.is_empty.ensures ∙ v.if-is_empty.false) in
                let some : 0 < vec_len c.loop-at.chunks = omega (arith, not_zero) in
                true≢false (sym (w.in_default.ensures.variant.1 some))
          ])
    ]

pub returns-clause-some : goal.returns-clause-some
returns-clause-some c = Tile-some 0 (length (take c.loop-at.at c.args.tokens.now)) c.loop-at.chunks.items c.loop-at.invariant.tile

pub returns-clause-within : goal.returns-clause-within
returns-clause-within c =
    let tokens = c.args.tokens.now in
    let front : length (take c.loop-at.at tokens) ≡ length tokens = length-take-le c.loop-at.at tokens (omega arith) ∙ (let e : c.loop-at.at ≡ length tokens = omega arith in e) in
    subst (λ n. (k : ℕ) (d : Chunk) → k < length c.loop-at.chunks.items
    → (get_or c.loop-at.chunks.items k d).first + (get_or c.loop-at.chunks.items k d).count ≤ n) front
    (Tile-within 0 (length (take c.loop-at.at tokens)) c.loop-at.chunks.items c.loop-at.invariant.tile)
