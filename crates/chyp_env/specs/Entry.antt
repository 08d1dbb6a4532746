-- What contracts see of an entry of an environment.
use Rattle.chyp_term.specs.Term.{morphism_of}
use Rattle.chyp_env.specs.declared.entry.Entry.{Entry}
use Rattle.chyp_env.specs.declared.meaning.Meaning.{Meaning}
use Rattle.chyp_env.specs.declared.meaning.Meaning.TheVariants.{Generator, Abbrev, Law, Unproved, Broken}
use Rattle.chyp_env.specs.Environment.{Sense, generator, abbreviation, equation, unproved, broken, Binding}

-- what a meaning stands for, however its terms are shared
abbrev pub sense_of : Meaning → Sense
sense_of (Generator name shape) = generator name shape.dom shape.cod
sense_of (Abbrev term) = abbreviation term
sense_of (Law sides) = equation (morphism_of sides.left) (morphism_of sides.right)
sense_of Unproved = unproved
sense_of Broken = broken

-- the binding that an entry is
abbrev pub entry_of : Entry → Binding
entry_of entry = record {
  name = entry.name;
  origin = record { home = entry.origin.module; number = entry.origin.index };
  sense = sense_of entry.meaning;
}
