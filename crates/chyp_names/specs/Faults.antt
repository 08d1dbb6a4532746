-- What is wrong with some uses of names, and which of them rest on a rewrite that is not proved. No public clause cites this.
use Rattle.std.specs.Prelude.{ℕ, List, Option, slice_get}
use Rattle.std.specs.List.{filter_map}
use Rattle.chyp_base.specs.declared.verdict.Verdict.{Verdict}
use Rattle.chyp_env.specs.Scope.{Scope}
use Rattle.chyp_names.specs.Naming.{Use, fault_of, unproved_use}

-- what is wrong with the first of the uses that is at fault
abbrev pub first_fault_among : Scope → List Use → Option Verdict
first_fault_among scope uses = slice_get (filter_map (fault_of scope) uses) 0

-- the first of the uses that rests on a rewrite which is not proved
abbrev pub first_unproved_among : Scope → List Use → Option ℕ
first_unproved_among scope uses = slice_get (filter_map (unproved_use scope) uses) 0
