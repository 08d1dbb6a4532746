use Rattle.std.proofs.Common.{◌≡◌, List, ℕ, Option, IfSome, sym, subst}
use Rattle.chyp_load.proofs.Lists.{one-more, one-too-many}
use Rattle.chyp_load.proofs.loading.load_module.Goals as goal

pub returns-clause-long : goal.returns-clause-long
returns-clause-long g c is =
    let told = g.L.Library.texts c.args.library.now in
    let text = c.in_ok-text.text in
    let as_told = subst (λ (t : Option (List ℕ)). IfSome told (λ texts. t ≡ texts c.args.name)) (sym c.in_ok-text.ensures) c.in_ok-found.ensures.told in
    one-too-many told c.args.name c.args.modules.now text as_told c.sound.ensures.few (c.push.ensures.many.0 is)

pub returns-clause-more : goal.returns-clause-more
returns-clause-more g c =
    one-more c.push.result (g.L.Library.texts c.args.library.now) c.args.name c.in_ok-found.found c.in_ok-text.text c.args.modules.now c.push.new.self
    c.args.wanted.now.items c.want_imports.new.wanted.items c.in_ok-text.ensures c.in_ok-found.ensures.short c.in_ok-found.ensures.told
    c.in_ok-want_imports.ensures c.push.ensures.ok
