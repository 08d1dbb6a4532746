use Rattle.std.proofs.Common.{◌∙◌, ap₂, ◌++◌, length}
use Rattle.chyp_term.specs.Perm.{shifted}
use Rattle.chyp_term.proofs.Closure.{stood_beside}
use Rattle.chyp_term.proofs.perm.Perm.beside.Goals as goal

pub invariant_of-result : goal.invariant_of-result
invariant_of-result c =
    stood_beside c.args.self.now c.args.other.now _ c.places.ensures.permutation c.places-2.ensures.permutation
    (c.from_vec.ensures ∙ c.in_ok-places.ensures ∙ ap₂ (λ p q. p ++ shifted (length p) q) c.places.ensures.value c.places-2.ensures.value)
