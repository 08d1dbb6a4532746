use Rattle.std.proofs.Common.{◌≡◌, ◌<◌, ◌≤◌, [], slice_get, Some, rules, length, refl, ap, sym, ◌∙◌}
use Rattle.std.specs.Option.{option_map_or}
use Rattle.std.proofs.lemmas.Option.{slice_get_read}
use Rattle.chyp_lex.specs.Tokens.{token_text}
use Rattle.chyp_syntax.proofs.Spans.{span_within, nothing_there}
use Rattle.chyp_syntax.proofs.Words.{bytes-there}
use Rattle.chyp_syntax.proofs.heading.text_at.Goals as goal

pub token_text-requires : goal.token_text-requires
token_text-requires c =
    let statement = c.args.statement.now in
    let token = c.in-Some.token.now in
    let within : c.args.number < length statement = search rules in
    let there : slice_get statement c.args.number ≡ Some token = slice_get_read statement (length statement) c.args.number token refl within c.in-Some.ensures.lookup.1 in
    (span_within 0 (length c.args.text.now) c.args.number token statement c.requires there).1

pub returns-in-Some : goal.returns-in-Some
returns-in-Some c =
    let statement = c.args.statement.now in
    let token = c.in-Some.token.now in
    let within : c.args.number < length statement = search rules in
    let there : slice_get statement c.args.number ≡ Some token = slice_get_read statement (length statement) c.args.number token refl within c.in-Some.ensures.lookup.1 in
    c.token_text.ensures ∙ ap (λ o. option_map_or (token_text c.args.text.now) o []) (sym there) ∙ sym (bytes-there c.args.text.now statement c.args.number)

pub returns-in-None : goal.returns-in-None
returns-in-None c =
    let beyond : length c.args.statement.now ≤ c.args.number = search rules in
    ap (λ o. option_map_or (token_text c.args.text.now) o []) (sym (nothing_there c.args.number c.args.statement.now beyond))
    ∙ sym (bytes-there c.args.text.now c.args.statement.now c.args.number)
