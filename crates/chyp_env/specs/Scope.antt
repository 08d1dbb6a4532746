-- What the names, the types and the terms of a statement rest on: its words, and what names stand for in front of it.
use Rattle.std.specs.Prelude.{ℕ, Bool, false, List, Option}
use Rattle.std.specs.Option.{option_map_or}
use Rattle.chyp_syntax.specs.Heading.{declared_name}
use Rattle.chyp_syntax.specs.Words.{Word, bytes_at}
use Rattle.chyp_term.specs.Morphism.{Morphism, generator as a_generator}
use Rattle.chyp_term.specs.Derivation.{empty}
use Rattle.chyp_env.specs.Environment.{Sense, generator, abbreviation, Binding, binding_of, is_bound}

-- a statement by its words, and what names stand for in front of it
pub record Scope : Type 0 where
  pub words : List Word
  pub env : List Binding

-- the binding of the name that the word of this number is
abbrev pub binding_at : Scope → ℕ → Option Binding
binding_at scope token = binding_of scope.env (bytes_at scope.words token)

-- the statement would bind a name that is bound already
abbrev pub is_declared : Scope → Bool
is_declared scope = option_map_or (is_bound scope.env) (declared_name scope.words) false

-- the term of a sense; only generators and abbreviations stand for terms, and a statement that uses another name in a term
-- is refused, whatever term it would have
abbrev pub term_of : Sense → Morphism
term_of (generator name dom cod) = a_generator name dom cod
term_of (abbreviation m) = m
term_of _ = empty

-- the term that the name of this word stands for
abbrev pub term_at : Scope → ℕ → Morphism
term_at scope token = option_map_or (λ binding. term_of binding.sense) (binding_at scope token) empty
