use Rattle.std.proofs.Common.{List, ℕ, ◌≡◌, IfSome, Some, sym, subst, arith}
use Rattle.chyp_base.specs.Library.{Answers}
use Rattle.chyp_load.proofs.Lists.{told-long, told-there}
use Rattle.chyp_load.proofs.loading.read_module.Goals as goal

pub returns-in-Ok-There-clause-long : goal.returns-in-Ok-There-clause-long
returns-in-Ok-There-clause-long g c is =
    let long = c.if-len-gt-MAX_TEXT_LEN.true in
    let told = g.L.Library.texts c.args.library.now in
    let found = subst (λ f. Answers told c.args.name.now f c.read.new.into.items) c.in-Ok-There.field-0-is (rw c.as_str.ensures at c.in-Ok-There.ensures.found) in
    told-long told c.args.name.now c.read.new.into.items found (omega (arith, c.len.ensures))

pub returns-in-Ok-There-2-clause-told : goal.returns-in-Ok-There-2-clause-told
returns-in-Ok-There-2-clause-told g c =
    let short = c.if-len-gt-MAX_TEXT_LEN.false in
    let told = g.L.Library.texts c.args.library.now in
    let found = subst (λ f. Answers told c.args.name.now f c.read.new.into.items) c.in-Ok-There.field-0-is (rw c.as_str.ensures at c.in-Ok-There.ensures.found) in
    subst (λ (bytes : List ℕ). IfSome told (λ texts. Some bytes ≡ texts c.args.name.now)) (sym c.from_vec.ensures)
    (told-there told c.args.name.now c.read.new.into.items found (omega (arith, c.len.ensures)))
