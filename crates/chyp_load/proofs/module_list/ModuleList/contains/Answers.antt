use Rattle.std.proofs.Common.{subst, ◌↔◌, IsTrue}
use Rattle.std.specs.Prelude.{Contains}
use Rattle.chyp_load.specs.Loading.{names_of}
use Rattle.chyp_load.proofs.Lists.{found}
use Rattle.chyp_load.proofs.module_list.ModuleList.contains.Goals as goal

pub returns : goal.returns
returns c =
    subst (λ ms. IsTrue c.contains_key.result ↔ Contains (names_of ms) c.args.name.now) c.self.view_is
    (found c.self.inside.modules.entries c.args.name.now c.contains_key.result c.contains_key.ensures)
