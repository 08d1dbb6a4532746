use Rattle.std.proofs.Common.{◌≡◌, ◌+◌, ◌≤◌, ℕ, sym, subst}
use Rattle.std.specs.Prelude.{OnErr, OnOk}
use Rattle.chyp_load.specs.Statements.{CutText}
use Rattle.chyp_check.specs.Project.{library_in, name_at}
use Rattle.chyp_check.proofs.Fronts.{have-one, this-cut}
use Rattle.chyp_check.proofs.text.check_statements.Goals as goal

pub returns-clause-steps : goal.returns-clause-steps
returns-clause-steps g c = λ n have.
    let nodes = c.args.project.now.nodes in
    let cut : CutText = c.args.statements.now in
    let m = this-cut c.args.project.now c.args.number cut c.mapped.ensures c.requires.within c.requires.text c.cut.ensures in
    let many = have-one c.every_text_has_one_token_list.ensures c.each_text_has_one_list_of_chunks.ensures (library_in nodes) (name_at nodes c.args.number)
    cut.text cut.tokens cut.chunks n m have in
    subst (λ (x : ℕ). OnOk c.check_each.result (c.check_each.new.steps ≡ c.args.steps.now + x)) (sym many) c.check_each.ensures.steps

pub returns-clause-no_more : goal.returns-clause-no_more
returns-clause-no_more g c = λ n have.
    let nodes = c.args.project.now.nodes in
    let cut : CutText = c.args.statements.now in
    let m = this-cut c.args.project.now c.args.number cut c.mapped.ensures c.requires.within c.requires.text c.cut.ensures in
    let many = have-one c.every_text_has_one_token_list.ensures c.each_text_has_one_list_of_chunks.ensures (library_in nodes) (name_at nodes c.args.number)
    cut.text cut.tokens cut.chunks n m have in
    subst (λ (x : ℕ). OnErr c.check_each.result (c.check_each.new.steps ≤ c.args.steps.now + x)) (sym many) c.check_each.ensures.no_more
