use Rattle.std.proofs.Common.{[], ◌∙◌, sym}
use Rattle.chyp_syntax.specs.Statement.{statement_of}
use Rattle.chyp_env.specs.ImportState.{site_of}
use Rattle.chyp_extract_tests.proofs.First.{import_state}
use Rattle.chyp_extract_tests.proofs.environments.meant_by.Goals as goal

pub returns-in-Ok-clause-state : goal.returns-in-Ok-clause-state
returns-in-Ok-clause-state c =
    import_state (site_of (record { words = c.args.chunk.now; env = c.args.env.now }) [] c.args.import.now) (statement_of c.args.ast.now) c.requires
    (sym c.is_import.ensures ∙ c.if-not-is_import.false)
