use Rattle.std.proofs.Common.{refl}
use Rattle.chyp_env.specs.declared.import_state.ImportState.TheVariants.{NotImport}
use Rattle.chyp_env.proofs.Imports.{agrees_with_nothing, alone}
use Rattle.chyp_text_tests.proofs.statements.share.Goals as goal

pub bind-requires-clause-state : goal.bind-requires-clause-state
bind-requires-clause-state c = alone _ _ NotImport refl

pub bind-requires-clause-origins : goal.bind-requires-clause-origins
bind-requires-clause-origins c = agrees_with_nothing _ NotImport refl
