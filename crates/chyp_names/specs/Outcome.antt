-- What the name of a statement stands for, by its keyword, its terms and its verdict. No public clause cites this.
use Rattle.std.specs.Prelude.{◌≡◌, ◌-◌, ◌<◌, List, [], length, get_or, Option, None, Some}
use Rattle.chyp_base.specs.declared.verdict.Verdict.{Verdict}
use Rattle.chyp_base.specs.declared.verdict.Verdict.TheVariants.{Accepted, Proved}
use Rattle.chyp_lex.specs.declared.token.TokenKind.{TokenKind}
use Rattle.chyp_lex.specs.declared.token.TokenKind.TheVariants.{WordGen, WordLet, WordRewrite}
use Rattle.chyp_term.specs.Derivation.{empty}
use Rattle.chyp_term.specs.Morphism.{Morphism, generator as a_generator}
use Rattle.chyp_env.specs.Environment.{Sense, generator, abbreviation, equation, unproved, broken}
use Rattle.chyp_names.specs.declared.body.Body.{Body}

-- the terms of a body, none where there is no body
abbrev pub terms_in : Option Body → List Morphism
terms_in None = []
terms_in (Some body) = body.terms

-- the first and the last of some terms
abbrev pub first_of : List Morphism → Morphism
first_of terms = get_or terms 0 empty

abbrev pub last_of : List Morphism → Morphism
last_of terms = get_or terms (length terms - 1) empty

-- the term is a generator
abbrev pub IsGenerator : Morphism → Type 0
IsGenerator (a_generator name dom cod) = Unit {0}
IsGenerator _ = ⊥

-- what a generator stands for
abbrev pub generator_sense : Morphism → Sense
generator_sense (a_generator name dom cod) = generator name dom cod
generator_sense _ = broken

-- what an accepted statement stands for
abbrev pub accepted_sense : Option TokenKind → List Morphism → Sense
accepted_sense (Some WordGen) terms = generator_sense (first_of terms)
accepted_sense (Some WordLet) terms = abbreviation (first_of terms)
accepted_sense _ terms = equation (first_of terms) (last_of terms)

-- what a statement stands for that is neither accepted nor proved
abbrev pub refused_sense : Option TokenKind → Sense
refused_sense (Some WordRewrite) = unproved
refused_sense _ = broken

-- what a statement stands for
abbrev pub sense_for : Option TokenKind → List Morphism → Verdict → Sense
sense_for keyword terms Accepted = accepted_sense keyword terms
sense_for keyword terms Proved = equation (first_of terms) (last_of terms)
sense_for keyword terms _ = refused_sense keyword

-- a statement that is good has a term, and that of a `gen` is a generator
abbrev pub HasTermsFor : Option TokenKind → List Morphism → Verdict → Type 0
HasTermsFor keyword terms Accepted = (0 < length terms) × (keyword ≡ Some WordGen → IsGenerator (first_of terms))
HasTermsFor keyword terms Proved = 0 < length terms
HasTermsFor keyword terms _ = Unit {0}
