use Rattle.std.proofs.Common.{sym, subst}
use Rattle.chyp_env.specs.ImportState.{imported_of, site_of}
use Rattle.chyp_env.specs.Site.{IsImportState}
use Rattle.chyp_extract_tests.proofs.First.{agrees}
use Rattle.chyp_extract_tests.proofs.environments.take_in.Goals as goal

pub bind-requires-clause-state : goal.bind-requires-clause-state
bind-requires-clause-state c =
    subst (λ home. IsImportState (site_of (record { words = c.args.chunk.now; env = c.args.env.now }) home c.args.import.now)) (sym c.in_ok-main.ensures) c.requires.state

pub bind-requires-clause-origins : goal.bind-requires-clause-origins
bind-requires-clause-origins c = agrees c.args.env.now (imported_of c.args.import.now) c.requires.empty
