use Rattle.std.proofs.Common.{◌≡◌, flat_map, subst, sym, take}
use Rattle.chyp_svg.specs.Drawing.{escaped}
use Rattle.chyp_svg.proofs.Escapes.{escaped-prefix}
use Rattle.chyp_svg.proofs.label.front.Goals as goal

pub returns-else-count-eq0-clause-same : goal.returns-else-count-eq0-clause-same
returns-else-count-eq0-clause-same c =
    subst (λ n. take n c.args.text.now ≡ flat_map escaped (take n c.args.text.now)) (sym c.plain_len-count.ensures.same) (sym (escaped-prefix c.args.text.now))
