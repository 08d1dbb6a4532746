use Rattle.std.proofs.Common.{sym, ap, ◌∙◌}
use Rattle.chyp_env.specs.Expansion.{plain_wires}
use Rattle.chyp_env.proofs.Typed.{plain_typed, plain_cod}
use Rattle.chyp_env.proofs.typing.plain_shape.Goals as goal

pub returns : goal.returns
returns c = λ places size permutes. record {
  dom = c.in_ok-dom.ensures ∙ ap plain_wires (sym size);
  cod = c.in_ok-cod.ensures ∙ c.in_ok-dom.ensures ∙ ap plain_wires (sym size) ∙ sym (plain_cod places permutes);
  typed = plain_typed places permutes;
}
