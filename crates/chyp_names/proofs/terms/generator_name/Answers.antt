use Rattle.std.proofs.Common.{◌≡◌, ℕ, List, ◌∷◌, ◌++◌, ◌∙◌, ap, ap₂, length, ◌==◌}
use Rattle.std.proofs.lemmas.Result.{IfOk-weaker}
use Rattle.chyp_names.specs.Elaboration.{generator_name}
use Rattle.chyp_names.proofs.Made.{in_module}
use Rattle.chyp_names.proofs.terms.generator_name.Goals as goal

pub returns : goal.returns
returns c =
    let whole : c.deref.result.now ≡ generator_name c.args.module.now c.args.identifier.now =
    c.deref.ensures ∙ c.in_ok-name.ensures.ok
    ∙ ap₂ (λ (a b : List ℕ). a ++ 47 ∷ b) c.as_str-module.ensures c.in-Ok.ensures.cases.0
    ∙ in_module c.args.module.now c.args.identifier.now (c.if-is_empty.ensures ∙ ap (λ (bs : List ℕ). length bs == 0) c.as_str-module.ensures) in
    IfOk-weaker c.new-2.result (λ (name : List ℕ). name ≡ c.deref.result.now) (λ (name : List ℕ). name ≡ generator_name c.args.module.now c.args.identifier.now)
    (λ name is. is ∙ whole) c.new-2.ensures
