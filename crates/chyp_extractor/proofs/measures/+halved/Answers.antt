use Rattle.std.proofs.Common.{◌≡◌, ◌-◌, ◌/◌, ◌≤◌, ap, ap₂, drop, length, sym, take, ◌∙◌}
use Rattle.std.proofs.lemmas.List.{take_rest}
use Rattle.chyp_term.specs.Halving.{halved_in}
use Rattle.chyp_extract.specs.Measuring.{of_wires}
use Rattle.chyp_extractor.specs.Measures.{both, kept}
use Rattle.chyp_extractor.proofs.Halves.{halved_in-join}
use Rattle.chyp_extractor.proofs.measures.+halved.Goals as goal

pub returns-in_default : goal.returns-in_default
returns-in_default t c =
    let items = c.args.parts.now in
    let half = length items / 2 in
    let two : 2 ≤ length items = c.in_default.len_at_least in
    let same : take (length items - half) (drop half items) ≡ drop half items = take_rest items half in
    c.joined.ensures ∙ ap₂ both c.halved-first.ensures (c.halved-rest.ensures ∙ ap (halved_in (kept (of_wires 0)) both) same) ∙ sym (halved_in-join (kept (of_wires 0)) both items two)
