use Rattle.std.proofs.Common.{refl}
use Rattle.chyp_env.proofs.env.Env.keep_plain.Goals as goal

pub same-self : goal.same-self
same-self c = refl

pub returns-in_err-new_plain : goal.returns-in_err-new_plain
returns-in_err-new_plain c = refl

pub returns-else-is_none : goal.returns-else-is_none
returns-else-is_none c = refl
