-- Two wires have no generator, so all their names are there.
use Rattle.std.proofs.Common.{[], ◌∷◌, ◌≡◌, List, refl, sym, subst, arith}
use Rattle.chyp_base.specs.Sort.{plain}
use Rattle.chyp_term.specs.Morphism.{Morphism, IsTyped, permutation}
use Rattle.chyp_env.specs.Environment.{Binding}
use Rattle.chyp_print.specs.Environments.{CanBePrintedIn}
use Rattle.chyp_extract_tests.proofs.printing.printed_in.Goals as goal

can-be-printed : (env : List Binding) (t : Morphism) → t ≡ permutation (plain ∷ plain ∷ []) (1 ∷ 0 ∷ []) → IsTyped t → CanBePrintedIn env t
can-be-printed env t e typed = subst (CanBePrintedIn env) (sym e) (record { typed = subst IsTyped e typed; plain = refl; bound = tt; shallow = omega arith })

pub print_term-requires : goal.print_term-requires
print_term-requires c = can-be-printed c.args.env.now _ c.in_ok-term.ensures (c.if-not-is_good.ensures.typed refl)
