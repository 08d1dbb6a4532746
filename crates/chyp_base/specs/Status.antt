-- The exit status of the program for each way in which a run ends.
use Rattle.std.specs.Prelude.{ℕ}
use Rattle.chyp_base.specs.declared.status.Status.{Status}
use Rattle.chyp_base.specs.declared.status.Status.TheVariants.{Done, SomeNotGood, BadWords, ReadFault, WriteFault, LibraryFault, TooLong, BadCommand, NoMemory}

-- the number that the program ends with
abbrev pub number_of : Status → ℕ
number_of Done = 0
number_of SomeNotGood = 1
number_of BadWords = 2
number_of ReadFault = 3
number_of WriteFault = 4
number_of LibraryFault = 5
number_of TooLong = 6
number_of BadCommand = 7
number_of NoMemory = 8
