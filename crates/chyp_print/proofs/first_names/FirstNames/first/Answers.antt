use Rattle.std.proofs.Common.{◌≡◌, ◌≤◌, Some, slice_get, length, is_some, arith, ap, ◌∙◌, sym, subst}
use Rattle.chyp_env.specs.Entry.{entry_of}
use Rattle.chyp_print.specs.FirstNames.{IsIndex}
use Rattle.chyp_print.proofs.Firsts.{copied-none, copied-some, is-first, none-left, none-noted, passed-over, some-noted}
use Rattle.chyp_print.proofs.first_names.FirstNames.first.Goals as goal

pub returns-in_default : goal.returns-in_default
returns-in_default c =
    let n = c.args.name.now in
    let numbers = c.self.inside.numbers.entries in
    let index : IsIndex c.args.self.now numbers = subst (λ env. IsIndex env numbers) c.self.view_is c.self.invariant in
    let none = copied-none n c.as_bytes.result.now c.get.result numbers (c.as_bytes.ensures.value ∙ c.as_str.ensures) (ap is_some c.in_default.is) c.get.ensures.value in
    sym (none-noted n c.args.dom.now c.args.cod.now c.args.self.now numbers index none)

pub loop-number-init : goal.loop-number-init
loop-number-init c =
    let n = c.args.name.now in
    let numbers = c.self.inside.numbers.entries in
    let index : IsIndex c.args.self.now numbers = subst (λ env. IsIndex env numbers) c.self.view_is c.self.invariant in
    let some = copied-some n c.as_bytes.result.now c.get.result c.in-Some.first numbers (c.as_bytes.ensures.value ∙ c.as_str.ensures) c.in-Some.is c.get.ensures.value in
    some-noted n c.args.dom.now c.args.cod.now c.args.self.now numbers c.in-Some.first.now index some

pub returns-then-stands_for : goal.returns-then-stands_for
returns-then-stands_for c =
    let i = c.loop-number.number in
    let binding = entry_of c.entry-entry.result.now in
    let there : slice_get c.args.self.now i ≡ Some binding = subst (λ env. slice_get env i ≡ Some binding) c.self.view_is c.entry-entry.ensures in
    sym (is-first c.args.name.now c.args.dom.now c.args.cod.now c.args.self.now i binding there (sym c.stands_for.ensures ∙ c.if-stands_for.true)) ∙ c.loop-number.invariant

pub loop-number-preserved : goal.loop-number-preserved
loop-number-preserved c =
    let i = c.loop-number.number in
    let binding = entry_of c.entry-entry.result.now in
    let there : slice_get c.args.self.now i ≡ Some binding = subst (λ env. slice_get env i ≡ Some binding) c.self.view_is c.entry-entry.ensures in
    passed-over c.args.name.now c.args.dom.now c.args.cod.now c.args.self.now i binding there (sym c.stands_for.ensures ∙ c.if-stands_for.false) ∙ c.loop-number.invariant

pub returns : goal.returns
returns c =
    let size = c.count-number-end.ensures in
    let test = c.loop-number-test.false in
    let kept : length c.self.inside.env.now ≤ c.loop-number.number = omega arith in
    let end : length c.args.self.now ≤ c.loop-number.number = subst (λ env. length env ≤ c.loop-number.number) c.self.view_is kept in
    sym (none-left c.args.name.now c.args.dom.now c.args.cod.now c.args.self.now c.loop-number.number end) ∙ c.loop-number.invariant
