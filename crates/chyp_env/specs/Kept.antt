-- What an environment keeps under a name.
use Rattle.std.specs.Prelude.{◌≡◌, ℕ, List}
use Rattle.chyp_env.specs.declared.entry.Entry.{Entry}
use Rattle.chyp_env.specs.Entry.{sense_of}
use Rattle.chyp_env.specs.Sound.{IsSoundSense}

-- the entry is the one of this name, and sound
pub record IsKept (name : List ℕ) (entry : Entry) : Type 0 where
  pub named : entry.name ≡ name
  pub sound : IsSoundSense (sense_of entry.meaning)
