use Rattle.std.proofs.Common.{◌+◌, ◌<◌, ◌≤◌, length, List, [], arith, rules, sym, subst}
use Rattle.std.proofs.lemmas.List.{length-map}
use Rattle.chyp_base.specs.declared.verdict.Verdict.{Verdict}
use Rattle.chyp_env.specs.Environment.{Binding}
use Rattle.chyp_verdicts.specs.Texts.{statement_of, statements_of}
use Rattle.chyp_modules.specs.Modules.{AreVerdicts}
use Rattle.chyp_load.specs.Statements.{CutText}
use Rattle.chyp_load.proofs.Texts.{chunks_few}
use Rattle.chyp_check.specs.Project.{library_in, name_at}
use Rattle.chyp_check.proofs.Outcomes.{on_err}
use Rattle.chyp_check.proofs.Fronts.{IsFront, front-environment, front-more, front-start, front-verdicts, leads-from, this-cut}
use Rattle.chyp_check.proofs.text.check_each.Goals as goal

pub loop-index-init : goal.loop-index-init
loop-index-init g c =
    let nodes = c.args.project.now.nodes in
    let V = library_in nodes in
    let name = name_at nodes c.args.number in
    let cut : CutText = c.args.statements.now in
    let m = this-cut c.args.project.now c.args.number cut c.mapped.ensures c.requires.within c.requires.text c.cut.ensures in
    record {
      front = subst (λ (env : List Binding). IsFront V name 0 c.in_ok-verdicts.verdicts.items env) (sym c.new-env.ensures)
          (subst (λ (vs : List Verdict). IsFront V name 0 vs []) (sym c.in_ok-verdicts.ensures.items)
          (front-start V name cut.text (statements_of cut.text cut.tokens cut.chunks) m));
      ticked = omega arith;
    }

pub overflow_cast-index : goal.overflow_cast-index
overflow_cast-index g c =
    let cut : CutText = c.args.statements.now in
    let few = chunks_few (length cut.text) cut.tokens cut.chunks c.cut.ensures.spans c.cut.ensures.chunks in
    let short = c.cut.ensures.short in
    let inside = c.loop-index-test.true in
    let many = c.count-index-end.ensures in
    let small : c.loop-index.index < 4294967296 = omega arith in
    search rules

pub check_next-requires-clause-leads : goal.check_next-requires-clause-leads
check_next-requires-clause-leads g c =
    let nodes = c.args.project.now.nodes in
    let name = name_at nodes c.args.number in
    let cut : CutText = c.args.statements.now in
    let m = this-cut c.args.project.now c.args.number cut c.mapped.ensures c.requires.within c.requires.text c.cut.ensures in
    leads-from (library_in nodes) name cut.text (statements_of cut.text cut.tokens cut.chunks) c.loop-index.index c.statement-view.result m c.statement-view.ensures

pub returns-in_err-verdict-clause-no_more : goal.returns-in_err-verdict-clause-no_more
returns-in_err-verdict-clause-no_more g c =
    let here = c.loop-index-test.true in
    let many = c.count-index-end.ensures in
    let t = c.loop-index.invariant.ticked in
    let x = c.tick.ensures in
    on_err c.from_residual-in_err-verdict.result (c.tick.new.self ≤ c.args.steps.now + length c.args.statements.now.chunks) (omega arith)

pub returns-in_err-push-clause-no_more : goal.returns-in_err-push-clause-no_more
returns-in_err-push-clause-no_more g c =
    let here = c.loop-index-test.true in
    let many = c.count-index-end.ensures in
    let t = c.loop-index.invariant.ticked in
    let x = c.tick.ensures in
    on_err c.from_residual-in_err-push.result (c.tick.new.self ≤ c.args.steps.now + length c.args.statements.now.chunks) (omega arith)

pub loop-index-preserved : goal.loop-index-preserved
loop-index-preserved g c =
    let nodes = c.args.project.now.nodes in
    let V = library_in nodes in
    let name = name_at nodes c.args.number in
    let cut : CutText = c.args.statements.now in
    let all = statements_of cut.text cut.tokens cut.chunks in
    let at = c.loop-index.index in
    let m = this-cut c.args.project.now c.args.number cut c.mapped.ensures c.requires.within c.requires.text c.cut.ensures in
    record {
      front = subst (λ (vs : List Verdict). IsFront V name (at + 1) vs c.check_next.new.env) (sym c.in_ok-push.ensures.items)
          (front-more V name cut.text all at c.statement-view.result c.loop-index.verdicts.items c.in_ok-verdict.verdict c.loop-index.env
          c.check_next.new.env m c.statement-view.ensures c.loop-index.invariant.front c.in_ok-verdict.ensures);
      ticked = let t = c.loop-index.invariant.ticked in let x = c.tick.ensures in omega arith;
    }

pub returns-clause-env : goal.returns-clause-env
returns-clause-env g c =
    let nodes = c.args.project.now.nodes in
    let cut : CutText = c.args.statements.now in
    let m = this-cut c.args.project.now c.args.number cut c.mapped.ensures c.requires.within c.requires.text c.cut.ensures in
    let ended = c.loop-index-test.false in
    let end = c.loop-index.auto.index-end in
    let many = c.count-index-end.ensures in
    let length' = length-map cut.chunks (statement_of cut.text cut.tokens) in
    front-environment (library_in nodes) (name_at nodes c.args.number) cut.text (statements_of cut.text cut.tokens cut.chunks) c.loop-index.index
    c.loop-index.verdicts.items c.loop-index.env m (omega arith) c.loop-index.invariant.front

pub returns-clause-verdicts : goal.returns-clause-verdicts
returns-clause-verdicts g c =
    let nodes = c.args.project.now.nodes in
    let cut : CutText = c.args.statements.now in
    let m = this-cut c.args.project.now c.args.number cut c.mapped.ensures c.requires.within c.requires.text c.cut.ensures in
    let ended = c.loop-index-test.false in
    let end = c.loop-index.auto.index-end in
    let many = c.count-index-end.ensures in
    let length' = length-map cut.chunks (statement_of cut.text cut.tokens) in
    subst (AreVerdicts (library_in nodes) (name_at nodes c.args.number)) (sym c.from_vec-verdicts.ensures)
    (front-verdicts (library_in nodes) (name_at nodes c.args.number) cut.text (statements_of cut.text cut.tokens cut.chunks) c.loop-index.index
    c.loop-index.verdicts.items c.loop-index.env m (omega arith) c.loop-index.invariant.front)
