use Rattle.std.proofs.Common.{List, [], ◌∷◌, sym, subst}
use Rattle.std.proofs.lemmas.List.{map-append}
use Rattle.std.proofs.lemmas.List.Elements.{All-append, All-cons, All-nil}
use Rattle.chyp_term.specs.Equation.{equation_of, equations_of}
use Rattle.chyp_term.specs.declared.equation.Equation.{Equation}
use Rattle.chyp_simp.specs.Laws.{AreUsable, IsUsable}
use Rattle.chyp_simp_tests.proofs.words.add.Goals as goal

pub loop-sides-preserved : goal.loop-sides-preserved
loop-sides-preserved c =
    subst (λ (es : List Equation). AreUsable (equations_of es)) (sym c.in_ok-push.ensures.items)
    (subst AreUsable (sym (map-append equation_of c.loop-sides.equations.items (c.in_ok-next.next ∷ [])))
    (All-append IsUsable (equations_of c.loop-sides.equations.items) (equation_of c.in_ok-next.next ∷ []) c.loop-sides.invariant
    (All-cons IsUsable (equation_of c.in_ok-next.next) [] c.in_ok-next.ensures (All-nil IsUsable))))
