-- What contracts see of a statement where it stands.
use Rattle.chyp_check.specs.declared.inputs.Inputs.{Inputs}
use Rattle.chyp_env.specs.ImportState.{site_of}
use Rattle.chyp_env.specs.Site.{Site}

-- where the statement stands
abbrev pub site_at : Inputs → Site
site_at inputs = site_of (record { words = inputs.chunk.now; env = inputs.env.now }) inputs.«module».now inputs.import.now
