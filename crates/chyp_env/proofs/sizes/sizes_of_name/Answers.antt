use Rattle.std.proofs.Common.{[], refl, sym}
use Rattle.chyp_env.specs.Entry.{entry_of, sense_of}
use Rattle.chyp_env.specs.Scope.{term_of, term_at}
use Rattle.chyp_term.specs.Derivation.{empty}
use Rattle.chyp_env.proofs.Envs.{bound_term, unbound_term}
use Rattle.chyp_env.proofs.Measures.{sizes_is}
use Rattle.chyp_env.proofs.sizes.sizes_of_name.Goals as goal

pub returns-in-Some : goal.returns-in-Some
returns-in-Some c =
    let meaning = term_at c.args.scope.now in
    let some = bound_term c.args.scope.now c.args.token (entry_of c.in-Some.entry.now) c.in-Some.ensures.some in
    sizes_is c.sizes_of_meaning.result (term_of (sense_of c.in-Some.entry.now.meaning)) (meaning c.args.token) some c.sizes_of_meaning.ensures

pub returns-in-None : goal.returns-in-None
returns-in-None c =
    let meaning = term_at c.args.scope.now in
    let none = unbound_term c.args.scope.now c.args.token c.in-None.ensures.none in
    sizes_is c.sizes_of_permutation.result empty (meaning c.args.token) none (c.sizes_of_permutation.ensures [] [] refl)
