use Rattle.std.proofs.Common.{[], refl, sym, subst, ⊎_elim}
use Rattle.chyp_env.specs.declared.meaning.Meaning.{Meaning}
use Rattle.chyp_env.specs.Entry.{sense_of}
use Rattle.chyp_env.specs.Scope.{term_of}
use Rattle.chyp_env.specs.Sizes.{AreSizes}
use Rattle.chyp_env.proofs.sizes.sizes_of_meaning.Goals as goal

pub returns-in-Generator : goal.returns-in-Generator
returns-in-Generator c =
    subst (λ (meaning : Meaning). AreSizes c.sizes_of_generator.result (term_of (sense_of meaning))) (sym c.in-Generator.is) (c.sizes_of_generator.ensures c.in-Generator.field-0)

pub returns-in-Law : goal.returns-in-Law
returns-in-Law c =
    let P : Meaning → Type 0 = λ meaning. AreSizes c.sizes_of_permutation.result (term_of (sense_of meaning)) in
    let none = c.sizes_of_permutation.ensures [] [] refl in
    ⊎_elim (λ law. subst P (sym law.1) none) (⊎_elim (λ is. subst P (sym is) none) (λ is. subst P (sym is) none)) c.in-Law.is
