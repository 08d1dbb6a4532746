use Rattle.std.proofs.Common.{◌≡◌, None, ap, subst, ◌∙◌}
use Rattle.chyp_check.specs.Project.{library_in}
use Rattle.chyp_check.proofs.Nodes.{none-then}
use Rattle.chyp_check.proofs.Reached.{library-none}
use Rattle.chyp_check.proofs.project.Project.place_of.Goals as goal

pub returns-clause-none : goal.returns-clause-none
returns-clause-none c =
    none-then c.place_of.result c.place_of.ensures.none (λ no'.
    subst (λ nodes. library_in nodes c.args.name.now ≡ None) (c.deref.ensures.value ∙ ap (λ p. p.nodes) c.self.view_is) (library-none c.deref.result.now c.args.name.now no'))
