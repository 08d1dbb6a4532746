-- The texts of a project give what the main text gives over its modules.
use Rattle.std.proofs.Common.{◌≡◌, ℕ, ◌+◌, ◌<◌, List, [], ◌∷◌, length, sym, ◌∙◌, ap, subst, arith}
use Rattle.std.specs.List.{filter_map}
use Rattle.chyp_base.specs.declared.verdict.Verdict.{Verdict}
use Rattle.chyp_load.specs.Loading.{names_of}
use Rattle.chyp_modules.proofs.Agreeing.{AgreeFrom, agree-back, checks-agree, verdicts-agree}
use Rattle.chyp_modules.specs.Checking.{AreDistinct, HasChecks, HaveStatements, of_more, of_none}
use Rattle.chyp_modules.specs.Library.{Library, Module, library_of, with_main}
use Rattle.chyp_modules.specs.Modules.{AreVerdicts}
use Rattle.chyp_check.specs.Order.{HaveModules}
use Rattle.chyp_check.specs.Project.{Node, library_in, name_at, node_of, text_at}
use Rattle.chyp_check.proofs.Nodes.{nodes-agree}

-- these are the nodes of a main text with modules
abbrev pub AreNodes : List Node → List ℕ → List Module → Type 0
AreNodes nodes text modules = nodes ≡ ([], text) ∷ filter_map node_of modules

pub some-node : (nodes : List Node) (text : List ℕ) (modules : List Module) → AreNodes nodes text modules → 0 < length nodes
some-node nodes text modules e = subst (λ (ns : List Node). 0 < length ns) (sym e) (omega arith)

pub main-first : (nodes : List Node) (text : List ℕ) (modules : List Module) → AreNodes nodes text modules → name_at nodes 0 ≡ []
main-first nodes text modules e = ap (λ (ns : List Node). name_at ns 0) e

pub main-text : (nodes : List Node) (text : List ℕ) (modules : List Module) → AreNodes nodes text modules → text_at nodes 0 ≡ text
main-text nodes text modules e = ap (λ (ns : List Node). text_at ns 0) e

agrees : (nodes : List Node) (text : List ℕ) (modules : List Module) → AreNodes nodes text modules → AreDistinct (names_of modules) → (name : List ℕ)
    → library_in nodes name ≡ with_main (library_of modules) text name
agrees nodes text modules e d name = ap (λ (ns : List Node). library_in ns name) e ∙ nodes-agree modules text d name

agree : (nodes : List Node) (text : List ℕ) (modules : List Module) → AreNodes nodes text modules → AreDistinct (names_of modules)
    → AgreeFrom (library_in nodes) (with_main (library_of modules) text) []
agree nodes text modules e d = record { here = agrees nodes text modules e d []; below = λ next r. agrees nodes text modules e d next }

pub main-verdicts : (nodes : List Node) (text : List ℕ) (modules : List Module) (verdicts : List Verdict) → AreNodes nodes text modules → AreDistinct (names_of modules)
    → AreVerdicts (library_in nodes) (name_at nodes 0) verdicts → AreVerdicts (with_main (library_of modules) text) [] verdicts
main-verdicts nodes text modules verdicts e d are =
    verdicts-agree (library_in nodes) (with_main (library_of modules) text) [] verdicts (agree nodes text modules e d)
    (subst (λ name. AreVerdicts (library_in nodes) name verdicts) (main-first nodes text modules e) are)

-- the statements are those of the modules, and those of the main text
pub record AreParts (library : Library) (main : List ℕ) (n : ℕ) : Type 0 where
  pub wanted : ℕ
  pub own : ℕ
  pub have : HaveModules library wanted
  pub have_own : HaveStatements library (main ∷ []) own
  pub sum : n ≡ wanted + own

apart : (library : Library) (n : ℕ) → HasChecks library n → AreParts library [] n
apart library n h = go h.have
  where
    go : {m : ℕ} → HaveStatements library ([] ∷ h.names) m → AreParts library [] m
    go (of_more {statements} {n = k} is rest) = record {
      wanted = k;
      own = length statements + 0;
      have = record { names = h.names; wanted = h.wanted; have = rest };
      have_own = of_more is of_none;
      sum = omega arith;
    }

pub parts : (nodes : List Node) (text : List ℕ) (modules : List Module) (n : ℕ) → AreNodes nodes text modules → AreDistinct (names_of modules)
    → HasChecks (with_main (library_of modules) text) n → AreParts (library_in nodes) (name_at nodes 0) n
parts nodes text modules n e d h =
    let W = with_main (library_of modules) text in
    subst (λ name. AreParts (library_in nodes) name n) (sym (main-first nodes text modules e))
    (apart (library_in nodes) n (checks-agree W (library_in nodes) n (agree-back (library_in nodes) W [] (agree nodes text modules e d)) h))
