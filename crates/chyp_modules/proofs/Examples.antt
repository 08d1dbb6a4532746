-- What imports bind, on small environments.
use Rattle.std.proofs.Common.{◌≡◌, List, [], ◌∷◌, ◌++◌, Some, None, refl}
use Rattle.std.specs.Prelude.{codes}
use Rattle.chyp_env.specs.Environment.{broken, Binding}
use Rattle.chyp_env.specs.Import.{all_passed_on, first_clash, new_in, prefixed}

abbrev monoid : List Binding
monoid = record { name = codes "m"; origin = record { home = codes "monoid"; number = 0 }; sense = broken } ∷ []

abbrev other : List Binding
other = record { name = codes "m"; origin = record { home = codes "e"; number = 0 }; sense = broken } ∷ []

-- what comes by two ways from one module is passed over the second time
diamond-fits : first_clash monoid (all_passed_on None monoid) ≡ None
diamond-fits = refl

diamond-adds : monoid ++ new_in monoid (all_passed_on None monoid) ≡ monoid
diamond-adds = refl

-- one name for the statements of two modules clashes
two-clash : first_clash monoid (all_passed_on None other) ≡ Some (codes "m")
two-clash = refl

-- and doesn't, behind prefixes
prefixes-fit : first_clash (all_passed_on (Some (codes "p")) monoid) (all_passed_on (Some (codes "q")) other) ≡ None
prefixes-fit = refl

prefix-name : prefixed (Some (codes "p")) (codes "m") ≡ codes "p.m"
prefix-name = refl

-- a clash behind a prefix names the name that would be bound
prefix-clash : first_clash (all_passed_on (Some (codes "p")) monoid) (all_passed_on (Some (codes "p")) other) ≡ Some (codes "p.m")
prefix-clash = refl
