use Rattle.std.proofs.Common.{IfOk, subst}
use Rattle.chyp_term.specs.declared.shape.Shape.{Shape}
use Rattle.chyp_term.specs.Morphism.{Morphism}
use Rattle.chyp_env.specs.Entry.{entry_of}
use Rattle.chyp_env.specs.Shape.{IsShape}
use Rattle.chyp_env.proofs.Envs.{bound_term, unbound_term}
use Rattle.chyp_env.proofs.typing.shape_of_name.Goals as goal

pub returns-in-Some : goal.returns-in-Some
returns-in-Some c =
    let some = bound_term c.args.scope.now c.args.token (entry_of c.in-Some.entry.now) c.in-Some.ensures.some in
    subst (λ (m : Morphism). IfOk c.shape_of_meaning.result (λ (shape : Shape). IsShape shape m)) some c.shape_of_meaning.ensures

pub returns-in-None : goal.returns-in-None
returns-in-None c = subst (IsShape c.no_wires.result) (unbound_term c.args.scope.now c.args.token c.in-None.ensures.none) c.no_wires.ensures
