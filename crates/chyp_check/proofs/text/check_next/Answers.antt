use Rattle.std.proofs.Common.{ap, ◌∙◌}
use Rattle.chyp_env.specs.ImportState.{imported_of, site_of}
use Rattle.chyp_modules.proofs.Exist.{import-state}
use Rattle.chyp_check.specs.Project.{Node, library_in, name_at}
use Rattle.chyp_check.proofs.Fronts.{finds-agree, if-next}
use Rattle.chyp_check.proofs.text.check_next.Goals as goal

pub judge_and_bind-requires-clause-state : goal.judge_and_bind-requires-clause-state
judge_and_bind-requires-clause-state c =
    import-state (library_in c.args.project.now.nodes) (site_of (record { words = c.args.chunk.now; env = c.args.env.now }) c.name.result.now c.in_ok-import.import)
    c.in_ok-import.ensures

pub judge_and_bind-requires-clause-origins : goal.judge_and_bind-requires-clause-origins
judge_and_bind-requires-clause-origins c =
    finds-agree c.modules_are_determined.ensures.senses (library_in c.args.project.now.nodes) (name_at c.args.project.now.nodes c.args.number) c.args.index c.args.env.now c.args.chunk.now
    (imported_of c.in_ok-import.import) c.requires.makes c.in_ok-import.ensures

pub returns : goal.returns
returns c =
    if-next (library_in c.args.project.now.nodes) c.name.result.now (name_at c.args.project.now.nodes c.args.number) c.args.chunk.now c.args.env.now c.judge_and_bind.new.env c.args.index
    (imported_of c.in_ok-import.import) c.judge_and_bind.result (c.name.ensures ∙ ap (λ (n : Node). n.0) c.node-node.ensures) c.in_ok-import.ensures
    c.judge_and_bind.ensures.judged c.judge_and_bind.ensures.binds
