use Rattle.std.proofs.Common.{rc_value}
use Rattle.chyp_env.proofs.Envs.{kept_sound}
use Rattle.chyp_env.proofs.entries.Entries.sound.Goals as goal

pub returns : goal.returns
returns c = kept_sound rc_value c.self.inside.map.entries c.args.self.now c.self.invariant c.self.view_is
