-- How a statement uses names, and the first use that is at fault.
use Rattle.std.specs.Prelude.{ℕ, List, [], ◌∷◌, ◌++◌, map, flat_map, Option, None, Some, slice_get}
use Rattle.std.specs.List.{filter_map}
use Rattle.chyp_base.specs.declared.verdict.Verdict.{Verdict}
use Rattle.chyp_base.specs.declared.verdict.Verdict.TheVariants.{Unknown, Broken, Kind}
use Rattle.chyp_syntax.specs.declared.step.ReasonAst.{ReasonAst}
use Rattle.chyp_syntax.specs.declared.step.ReasonAst.TheVariants.{Plain, Rule, Simp}
use Rattle.chyp_syntax.specs.Statement.{StatementTree, showing}
use Rattle.chyp_syntax.specs.Step.{StepTree}
use Rattle.chyp_syntax.specs.Term.{TermTree, TermTrees, named, wire, empty, swap, chain, beside, no_terms, term}
use Rattle.chyp_env.specs.Environment.{Sense, generator, abbreviation, equation, unproved, broken, Binding}
use Rattle.chyp_env.specs.Scope.{Scope, binding_at}
use Rattle.chyp_names.specs.Trees.{first_tree, steps_of}

-- a name that is used, by the number of its token: in a term, behind a `by`, or behind a `show`
pub data Use : Type 0 where
  in_term : (token : ℕ) → Use
  in_reason : (token : ℕ) → Use
  in_show : (token : ℕ) → Use

abbrev mutual
  -- the names in a term, in the order of the text
  pub names_in : TermTree → List ℕ
  names_in (named token) = token ∷ []
  names_in wire = []
  names_in empty = []
  names_in (swap token places) = []
  names_in (chain parts semis) = names_in_all parts
  names_in (beside parts) = names_in_all parts

  -- those in some terms
  pub names_in_all : TermTrees → List ℕ
  names_in_all no_terms = []
  names_in_all (term first rest) = names_in first ++ names_in_all rest

-- the names behind a `by`
abbrev pub names_of_reason : ReasonAst → List ℕ
names_of_reason Plain = []
names_of_reason (Rule signed) = signed.name ∷ []
names_of_reason (Simp rules) = map (λ signed. signed.name) rules

-- the names in a term, as they are used
abbrev pub uses_in : TermTree → List Use
uses_in tree = map in_term (names_in tree)

-- the names in a tree, if there is one
abbrev pub uses_in_goal : Option TermTree → List Use
uses_in_goal None = []
uses_in_goal (Some tree) = uses_in tree

-- the names in a step
abbrev pub uses_in_step : StepTree → List Use
uses_in_step step = uses_in_goal step.goal ++ map in_reason (names_of_reason step.reason)

-- the names that a statement uses, in the order of the text; its own name and those of an import are none of them
abbrev pub uses_of : StatementTree → List Use
uses_of (showing name) = in_show name ∷ []
uses_of tree = uses_in_goal (first_tree tree) ++ flat_map uses_in_step (steps_of tree)

-- what is wrong with a name of this sense in a term
abbrev pub fault_in_term : Sense → ℕ → Option Verdict
fault_in_term (generator name dom cod) token = None
fault_in_term (abbreviation m) token = None
fault_in_term broken token = Some (Broken token)
fault_in_term (equation first last) token = Some (Kind token)
fault_in_term unproved token = Some (Kind token)

-- what is wrong with a name of this sense behind a `by`
abbrev pub fault_in_reason : Sense → ℕ → Option Verdict
fault_in_reason (equation first last) token = None
fault_in_reason unproved token = None
fault_in_reason broken token = Some (Broken token)
fault_in_reason (generator name dom cod) token = Some (Kind token)
fault_in_reason (abbreviation m) token = Some (Kind token)

-- where a name has a binding, what is wrong with its sense; else it is unknown
abbrev pub fault_or_unknown : (Sense → ℕ → Option Verdict) → Option Binding → ℕ → Option Verdict
fault_or_unknown fault None token = Some (Unknown token)
fault_or_unknown fault (Some binding) token = fault binding.sense token

-- what is wrong with the use of a name, None where it is in order; a name that is shown only has to be known
abbrev pub fault_of : Scope → Use → Option Verdict
fault_of scope (in_term token) = fault_or_unknown fault_in_term (binding_at scope token) token
fault_of scope (in_reason token) = fault_or_unknown fault_in_reason (binding_at scope token) token
fault_of scope (in_show token) = fault_or_unknown (λ sense at. None) (binding_at scope token) token

-- what is wrong with the first use of a name that is at fault, None where all are in order
abbrev pub first_fault : Scope → StatementTree → Option Verdict
first_fault scope tree = slice_get (filter_map (fault_of scope) (uses_of tree)) 0

-- the token of a name behind a `by` whose rewrite is not proved
abbrev pub unproved_token : Option Binding → ℕ → Option ℕ
unproved_token None token = None
unproved_token (Some binding) token = go binding.sense
  where
    go : Sense → Option ℕ
    go unproved = Some token
    go _ = None

-- the token of a use that rests on a rewrite which is not proved
abbrev pub unproved_use : Scope → Use → Option ℕ
unproved_use scope (in_reason token) = unproved_token (binding_at scope token) token
unproved_use scope _ = None

-- the first name behind a `by` whose rewrite is not proved
abbrev pub first_unproved : Scope → StatementTree → Option ℕ
first_unproved scope tree = slice_get (filter_map (unproved_use scope) (uses_of tree)) 0
