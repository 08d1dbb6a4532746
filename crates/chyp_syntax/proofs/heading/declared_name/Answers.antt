use Rattle.std.proofs.Common.{◌≡◌, ◌<◌, slice_get, Some, rules, length, refl}
use Rattle.std.proofs.lemmas.Option.{slice_get_read}
use Rattle.chyp_syntax.proofs.Spans.{span_within}
use Rattle.chyp_syntax.proofs.heading.declared_name.Goals as goal

pub token_text-requires : goal.token_text-requires
token_text-requires c =
    let statement = c.args.statement.now in
    let name = c.in_ok-name.name.now in
    let within : 1 < length statement = search rules in
    let there : slice_get statement 1 ≡ Some name = slice_get_read statement (length statement) 1 name refl within c.in_ok-name.ensures.lookup.1 in
    (span_within 0 (length c.args.text.now) 1 name statement c.requires there).1
