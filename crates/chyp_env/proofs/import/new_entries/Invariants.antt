use Rattle.std.proofs.Common.{◌≡◌, take, option_copied}
use Rattle.chyp_env.specs.Import.{all_passed_on, new_in}
use Rattle.chyp_env.proofs.import.new_entries.Given as goal

abbrev pub invariant-loop-number : goal.invariant-loop-number
invariant-loop-number l = l.entries ≡ new_in l.env (all_passed_on (option_copied l.prefix) (take l.number l.imported))
