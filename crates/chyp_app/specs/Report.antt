-- What is written of a text and its verdicts.
use Rattle.std.specs.Prelude.{ℕ, List, [], ◌∷◌, ◌++◌, Some, length, count_by, unwrap_or}
use Rattle.chyp_base.specs.declared.verdict.Verdict.{Verdict}
use Rattle.chyp_base.specs.Verdict.{is_good, token_of}
use Rattle.chyp_lex.specs.declared.token.Token.{Token}
use Rattle.chyp_syntax.specs.declared.chunk.Chunk.{Chunk}
use Rattle.chyp_syntax.specs.Heading.{chunk_tokens, kind_text, shown_name, token_start}
use Rattle.chyp_session.specs.declared.reply.Reply.TheVariants.{Total}
use Rattle.chyp_session.specs.Line.{report_line}
use Rattle.chyp_session.specs.Place.{place_of}
use Rattle.chyp_session.specs.Reply.{reply_text}

-- The line of a statement: where it begins, its keyword, its name, and its verdict with the place of the token that it names, or of the
-- first token where it names none.
abbrev pub line_of : List ℕ → List Token → Verdict → List ℕ
line_of text statement verdict =
    report_line (place_of text (token_start statement 0)) (kind_text statement) (shown_name text statement) (Some verdict)
    (place_of text (token_start statement (unwrap_or (token_of verdict) 0)))

-- the lines of some statements with their verdicts, in order
abbrev pub lines_of : List ℕ → List Token → List Chunk → List Verdict → List ℕ
lines_of text tokens (chunk ∷ chunks) (verdict ∷ verdicts) =
    line_of text (chunk_tokens tokens chunk) verdict ++ lines_of text tokens chunks verdicts
lines_of text tokens _ _ = []

-- a line for each statement, and the total
abbrev pub report_of : List ℕ → List Token → List Chunk → List Verdict → List ℕ
report_of text tokens chunks verdicts =
    lines_of text tokens chunks verdicts ++ reply_text (Total (length verdicts) (count_by is_good verdicts))
