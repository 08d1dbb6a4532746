use Rattle.std.proofs.Common.{refl}
use Rattle.chyp_env.specs.declared.import_state.ImportState.TheVariants.{NotImport}
use Rattle.chyp_env.proofs.Imports.{agrees_with_nothing, alone}
use Rattle.chyp_extract_tests.proofs.environments.hand_over.Goals as goal

pub bind_owned-requires-clause-state : goal.bind_owned-requires-clause-state
bind_owned-requires-clause-state c = alone _ _ NotImport refl

pub bind_owned-requires-clause-origins : goal.bind_owned-requires-clause-origins
bind_owned-requires-clause-origins c = agrees_with_nothing _ NotImport refl
