use Rattle.std.proofs.Common.{◌∙◌, ap₂}
use Rattle.chyp_term.specs.Perm.{permuted}
use Rattle.chyp_term.proofs.Closure.{composed}
use Rattle.chyp_term.proofs.perm.Perm.compose.Goals as goal

pub invariant_of-result : goal.invariant_of-result
invariant_of-result c =
    composed c.args.self.now c.args.next.now _ c.requires c.places.ensures.permutation c.places-2.ensures.permutation
    (c.from_vec.ensures ∙ c.in_ok-places.ensures ∙ ap₂ (λ p q. permuted p q) c.places.ensures.value c.places-2.ensures.value)
