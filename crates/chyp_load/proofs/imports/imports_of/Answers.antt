use Rattle.std.proofs.Common.{◌≡◌, ◌+◌, List, ℕ, length, refl, ap, sym, subst, arith, ◌∙◌}
use Rattle.chyp_verdicts.specs.Texts.{statements_of}
use Rattle.chyp_modules.specs.Import.{Imports, ImportsNothing}
use Rattle.chyp_modules.specs.Library.{AreStatements}
use Rattle.chyp_load.proofs.Texts.{HaveImports, all-imports, chunks_few, no-imports, of-none, of-some, one-import, one-nothing}
use Rattle.chyp_load.proofs.imports.imports_of.Goals as goal
use Rattle.chyp_load.proofs.imports.imports_of.Goals.{in-Some+in_ok-push, in_default}

pub loop-number-init : goal.loop-number-init
loop-number-init c = no-imports c.args.statements.now.text _ _ c.new-names.ensures.items

pub loop-number-preserved : goal.loop-number-preserved
loop-number-preserved c =
    let cut = c.args.statements.now in
    let all = statements_of cut.text cut.tokens cut.chunks in
    let at = c.loop-number.number in
    let names = c.loop-number.names.items in
    let words = c.statement-statement.result in
    let are : AreStatements cut.text all =
    record { tokens = cut.tokens; chunks = cut.chunks; are_tokens = c.cut.ensures.tokens; are_chunks = c.cut.ensures.chunks; each = refl } in
    let P : List ℕ → Type 0 = Imports words in
    elim c.match-branch-2.branch [
      | in-Some+in_ok-push w ↦
          subst (HaveImports cut.text all (at + 1)) (sym (ap (λ v. v.items) w.names-is ∙ w.in_ok-push.ensures.items))
          (one-import cut.text all are at names words c.statement-statement.ensures c.loop-number.invariant (c.each_sentence_has_one_tree.ensures words) w.in-Some.name
          (of-some _ P w.in-Some.name w.in-Some.is c.in_ok-name.ensures.some))
      | in_default w ↦
          subst (HaveImports cut.text all (at + 1)) (sym (ap (λ v. v.items) w.names-is))
          (one-nothing cut.text all are at names words c.statement-statement.ensures c.loop-number.invariant
          (of-none c.in_ok-name.field-0 (ImportsNothing words) w.in_default.is c.in_ok-name.ensures.none))
    ]

pub returns-clause-imports : goal.returns-clause-imports
returns-clause-imports c =
    let cut = c.args.statements.now in
    let all = statements_of cut.text cut.tokens cut.chunks in
    let are : AreStatements cut.text all =
    record { tokens = cut.tokens; chunks = cut.chunks; are_tokens = c.cut.ensures.tokens; are_chunks = c.cut.ensures.chunks; each = refl } in
    let ended = c.loop-number-test.false in
    let end = c.loop-number.auto.number-end in
    let many = c.count-number-end.ensures in
    let last : c.loop-number.number ≡ length cut.chunks = omega arith in
    all-imports c.every_text_has_one_token_list.ensures c.each_text_has_one_list_of_chunks.ensures cut.text cut.tokens cut.chunks c.loop-number.names.items are
    (subst (λ n. HaveImports cut.text all n c.loop-number.names.items) last c.loop-number.invariant)

pub returns-clause-few : goal.returns-clause-few
returns-clause-few c =
    let cut = c.args.statements.now in
    let few = c.loop-number.invariant.few in
    let fewer = chunks_few (length cut.text) cut.tokens cut.chunks c.cut.ensures.spans c.cut.ensures.chunks in
    let short = c.cut.ensures.short in
    let end = c.loop-number.auto.number-end in
    let many = c.count-number-end.ensures in
    omega arith
