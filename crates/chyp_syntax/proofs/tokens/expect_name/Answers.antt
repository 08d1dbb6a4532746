use Rattle.std.proofs.Common.{◌≡◌, ◌⊎◌, inl, inr, List, [], ◌∷◌, sym, ◌∙◌}
use Rattle.std.proofs.lemmas.Bool.{both_ways}
use Rattle.chyp_lex.specs.declared.token.TokenKind.TheVariants.{Ident, Dotted}
use Rattle.chyp_syntax.specs.Expected.{next, name}
use Rattle.chyp_syntax.specs.Numbered.{NumberedToken}
use Rattle.chyp_syntax.specs.Beginning.{tokens_from, BeginsWithName, BeginsWithKind}
use Rattle.chyp_syntax.proofs.Numbered.{token_there}
use Rattle.chyp_syntax.proofs.Verdicts.{name_stops, stops_here}
use Rattle.chyp_syntax.proofs.tokens.expect_name.Goals as goal
use Rattle.chyp_syntax.proofs.tokens.expect_name.Goals.{then-is_kind, else-is_kind}

name_begins : (xs : List NumberedToken) → BeginsWithName xs → BeginsWithKind Ident xs ⊎ BeginsWithKind Dotted xs
name_begins [] is = elim is [ ]
name_begins (x ∷ xs) is = is

begins_name : (xs : List NumberedToken) → BeginsWithKind Ident xs ⊎ BeginsWithKind Dotted xs → BeginsWithName xs
begins_name [] (inl is) = is
begins_name [] (inr is) = is
begins_name (x ∷ xs) is = is

pub returns-then-is_kind-2-clause-there : goal.returns-then-is_kind-2-clause-there
returns-then-is_kind-2-clause-there c =
    begins_name (tokens_from c.args.tokens.now c.args.at) (
    elim c.if-is_kind.branch [
      | then-is_kind w ↦ inl (c.is_kind.ensures.0 w.if-is_kind.true)
      | else-is_kind w ↦ inr (w.is_kind-else-is_kind.ensures.0 (sym w.value-is ∙ c.if-is_kind-2.true))
    ]
    )

pub returns-then-is_kind-2-clause-within : goal.returns-then-is_kind-2-clause-within
returns-then-is_kind-2-clause-within c =
    elim c.if-is_kind.branch [
      | then-is_kind w ↦ (token_there c.args.tokens.now c.args.at Ident (c.is_kind.ensures.0 w.if-is_kind.true)).1
      | else-is_kind w ↦ (token_there c.args.tokens.now c.args.at Dotted (w.is_kind-else-is_kind.ensures.0 (sym w.value-is ∙ c.if-is_kind-2.true))).1
    ]

pub returns-else-is_kind-2-clause-stops : goal.returns-else-is_kind-2-clause-stops
returns-else-is_kind-2-clause-stops c k is =
    let same : c.args.at ≡ k = cc in
    stops_here c.args.tokens.now c.args.at k (next name) c.requires.within same (
    λ e. name_stops e (tokens_from c.args.tokens.now c.args.at) (
    λ begins. elim c.if-is_kind.branch [
      | then-is_kind w ↦ both_ways c.if-is_kind.value c.if-is_kind-2.false (w.value-is ∙ w.if-is_kind.true)
      | else-is_kind w ↦ elim (name_begins (tokens_from c.args.tokens.now c.args.at) begins) [
        | inl is ↦ both_ways c.is_kind.result w.if-is_kind.false (c.is_kind.ensures.1 is)
        | inr is ↦ both_ways c.if-is_kind.value c.if-is_kind-2.false (w.value-is ∙ w.is_kind-else-is_kind.ensures.1 is)
      ]
    ]
    )
    )
