use Rattle.std.proofs.Common.{◌≡◌, ◌-◌, ◌/◌, ◌≤◌, List, length, map, take, drop, arith, ap, ap₂, sym, ◌∙◌, length-take, length-drop}
use Rattle.std.proofs.lemmas.List.{take_rest}
use Rattle.chyp_term.specs.declared.term.Term.{Term}
use Rattle.chyp_term.specs.Derivation.{empty}
use Rattle.chyp_term.specs.Halving.{halved}
use Rattle.chyp_term.specs.Term.{morphism_of}
use Rattle.chyp_extractor.specs.Joining.{join_of}
use Rattle.chyp_extractor.proofs.Halves.{halved_in-halves, term_is}
use Rattle.chyp_extractor.proofs.halving.+halved.Goals as goal

pub halved-requires : goal.halved-requires
halved-requires t c =
    let items = c.args.parts.now in
    let half = length items / 2 in
    let two : 2 ≤ length items = c.in_default.len_at_least in
    let count = length-take half items in
    let dec = c.decreases in
    (omega arith, tt)

pub halved-requires-in_default : goal.halved-requires-in_default
halved-requires-in_default t c =
    let items = c.args.parts.now in
    let half = length items / 2 in
    let two : 2 ≤ length items = c.in_default.len_at_least in
    let count = length-drop half items in
    let same = ap length (take_rest items half) in
    let dec = c.decreases in
    (omega arith, tt)

pub returns-in_ok-rest-in_default : goal.returns-in_ok-rest-in_default
returns-in_ok-rest-in_default t c =
    let items = c.args.parts.now in
    let half = length items / 2 in
    let join = join_of c.args.join in
    let two : 2 ≤ length items = c.in_default.len_at_least in
    let same : take (length items - half) (drop half items) ≡ drop half items = take_rest items half in
    let whole = halved_in-halves empty join morphism_of items two in
    let rest = ap (λ (xs : List Term). halved join (map morphism_of xs)) same in
    term_is c.joined.result _ _ (ap₂ join c.in_ok-first-in_default.ensures (c.in_ok-rest-in_default.ensures ∙ rest) ∙ sym whole) c.joined.ensures
