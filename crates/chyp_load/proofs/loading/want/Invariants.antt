use Rattle.std.proofs.Common.{◌≡◌, ◌++◌, take}
use Rattle.chyp_load.proofs.loading.want.Given as goal

abbrev pub invariant-loop-name : goal.invariant-loop-name
invariant-loop-name l = l.wanted.items ≡ l.initial.wanted.items ++ take l.name-index l.names
