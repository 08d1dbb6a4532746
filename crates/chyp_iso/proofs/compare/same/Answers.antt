use Rattle.std.proofs.Common.{ℕ, ◌∙◌, refl, ap₂}
use Rattle.chyp_iso.specs.IsIsomorphism.{IsIsomorphism}
use Rattle.chyp_iso.specs.Scratch.{Sizes}
use Rattle.chyp_iso.proofs.Finishing.{is-isomorphic}
use Rattle.chyp_iso.proofs.Steps.{when-true}
use Rattle.chyp_iso.proofs.compare.same.Goals as goal

sizes : ℕ → ℕ → Sizes
sizes e w = record { edges = e; wires = w }

pub returns : goal.returns
unfolding sizes
returns c =
    let o = when-true c.find.result _ _ c.find.ensures.outcome c.if-not-find.false in
    let iso : IsIsomorphism c.args.a.now c.args.b.now c.iso.result.edges.now c.iso.result.wires.now = rw (c.iso.ensures.edges, c.iso.ensures.wires) o in (
      (
        refl,
        λ v. tt,
        ap₂ sizes c.find.ensures.sizes.0 c.find.ensures.sizes.1
            ∙ c.scratch.view_is,
      ),
      record { some = iso; isomorphic = λ _. is-isomorphic c.args.a.now c.args.b.now _ _ iso; none = tt; after = tt },
    )
