use Rattle.std.proofs.Common.{◌<◌, ◌^◌, List, ℕ, length, subst}
use Rattle.chyp_print.proofs.Back.{places-small}
use Rattle.chyp_print.proofs.places.small.Goals as goal

pub returns : goal.returns
returns c =
    let short = subst (λ (p : List ℕ). length p < 2 ^ 64) c.places.ensures.value c.places.type_inv.0 in
    places-small c.args.perm.now c.places.ensures.permutation short
