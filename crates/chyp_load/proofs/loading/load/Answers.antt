use Rattle.std.proofs.Common.{rules, ◌≡◌, ◌≤◌, List, ℕ, length, sym, ◌∙◌, subst, arith}
use Rattle.std.proofs.lemmas.Result.{err_from_is_err_and}
use Rattle.std.specs.Prelude.{Contains}
use Rattle.chyp_lex.specs.Tokens.{text_limit}
use Rattle.chyp_modules.specs.Checking.{AreDistinct, most_modules}
use Rattle.chyp_modules.specs.Library.{Module}
use Rattle.chyp_load.specs.Imports.{AreImports}
use Rattle.chyp_load.specs.Loading.{AreRead, AreShort, ListsAll, CausedBy, LoadHasCause, count_there, names_of}
use Rattle.chyp_load.specs.Statements.{CutText}
use Rattle.chyp_load.proofs.Reading.{IsUnderway, done, fewer, underway-fits, underway-long, underway-more, underway-read, underway-skip, underway-some, underway-start, at-place}
use Rattle.chyp_load.proofs.loading.load.Goals as goal

pub loop-next-init : goal.loop-next-init
loop-next-init g c =
    let told = g.L.Library.texts c.args.library.now in
    let faults = g.L.Library.faults c.args.library.now in
    subst (λ (ms : List Module). IsUnderway told told faults faults c.args.main.now.text ms c.in_ok-wanted.wanted.items 0) (sym c.new-modules.ensures)
    (underway-start told faults c.args.main.now.text c.in_ok-wanted.wanted.items
    (subst (AreImports c.args.main.now.text) (sym c.in_ok-wanted.ensures) c.imports.ensures.imports))

pub returns-in_err-name-clause-same : goal.returns-in_err-name-clause-same
returns-in_err-name-clause-same g c = c.loop-next.invariant.same

pub returns-in_err-name-clause-cause : goal.returns-in_err-name-clause-cause
returns-in_err-name-clause-cause g c = rw c.loop-next.invariant.no_fault (search rules)

pub load_module-requires-clause-faults : goal.load_module-requires-clause-faults
load_module-requires-clause-faults g c = rw c.loop-next.invariant.no_fault c.requires.faults

pub loop-next-smaller-in_ok-load_module : goal.loop-next-smaller-in_ok-load_module
loop-next-smaller-in_ok-load_module g c =
    let told = g.L.Library.texts c.args.library.now in
    let told_now = g.L.Library.texts c.loop-next.library in
    let faults = g.L.Library.faults c.args.library.now in
    let faults_now = g.L.Library.faults c.loop-next.library in
    let wanted = c.loop-next.wanted.items in
    let modules : List Module = c.loop-next.modules in
    let next = c.loop-next.next in
    let name : List ℕ = c.in_ok-name.name in
    let at = at-place wanted next name c.index.result.now (let t = c.loop-next-test.true in omega (arith, c.len.ensures)) c.index.ensures c.in_ok-name.ensures in
    let inside = c.modules-then-not-contains in
    let few : count_there c.load_module.new.modules ≤ most_modules =
    subst (λ (ms : List Module). count_there ms ≤ most_modules) inside.view_is (omega (arith, inside.invariant.1, inside.invariant.2)) in
    fewer told told_now faults faults_now c.args.main.now.text modules wanted next name c.loop-next.invariant at
    c.load_module.new.modules c.load_module.new.wanted.items c.in_ok-load_module.ensures.more few

pub loop-next-preserved-in_ok-load_module : goal.loop-next-preserved-in_ok-load_module
loop-next-preserved-in_ok-load_module g c =
    let told = g.L.Library.texts c.args.library.now in
    let told_now = g.L.Library.texts c.loop-next.library in
    let faults = g.L.Library.faults c.args.library.now in
    let faults_now = g.L.Library.faults c.loop-next.library in
    let wanted = c.loop-next.wanted.items in
    let modules : List Module = c.loop-next.modules in
    let next = c.loop-next.next in
    let name : List ℕ = c.in_ok-name.name in
    let at = at-place wanted next name c.index.result.now (let t = c.loop-next-test.true in omega (arith, c.len.ensures)) c.index.ensures c.in_ok-name.ensures in
    let after = c.in_ok-load_module.ensures in
    underway-more told told_now faults faults_now c.args.main.now.text modules wanted next name c.loop-next.invariant at
    (g.L.Library.texts c.load_module.new.library) (g.L.Library.faults c.load_module.new.library) c.load_module.new.modules c.load_module.new.wanted.items after.same after.cause after.more

pub returns-in_err-load_module-clause-same : goal.returns-in_err-load_module-clause-same
returns-in_err-load_module-clause-same g c = c.in_err-load_module.ensures.same ∙ c.loop-next.invariant.same

pub returns-in_err-load_module-clause-long : goal.returns-in_err-load_module-clause-long
returns-in_err-load_module-clause-long g c is =
    let told = g.L.Library.texts c.args.library.now in
    let told_now = g.L.Library.texts c.loop-next.library in
    let faults = g.L.Library.faults c.args.library.now in
    let faults_now = g.L.Library.faults c.loop-next.library in
    let wanted = c.loop-next.wanted.items in
    let modules : List Module = c.loop-next.modules in
    let next = c.loop-next.next in
    let name : List ℕ = c.in_ok-name.name in
    let at = at-place wanted next name c.index.result.now (let t = c.loop-next-test.true in omega (arith, c.len.ensures)) c.index.ensures c.in_ok-name.ensures in
    let p = err_from_is_err_and c.from_residual-in_err-load_module.result c.from_residual-in_err-load_module.ensures.1 in
    let inside = c.modules-in-loop-next in
    let distinct = subst (λ (ms : List Module). AreDistinct (names_of ms)) inside.view_is inside.invariant.0 in
    let fresh : ¬ Contains (names_of modules) name = λ h. let y = c.contains.ensures.1 h in let f = c.if-not-contains.true in cc in
    let short = subst (λ (cut : CutText). length cut.text ≤ text_limit) c.statements.ensures c.cut.ensures.short in
    underway-long told told_now faults faults_now c.args.main.now.text modules wanted next name c.loop-next.invariant at short fresh distinct
    (c.in_err-load_module.ensures.long cc)

pub returns-in_err-load_module-clause-wanted : goal.returns-in_err-load_module-clause-wanted
returns-in_err-load_module-clause-wanted g c is =
    let told = g.L.Library.texts c.args.library.now in
    let told_now = g.L.Library.texts c.loop-next.library in
    let faults = g.L.Library.faults c.args.library.now in
    let faults_now = g.L.Library.faults c.loop-next.library in
    let wanted = c.loop-next.wanted.items in
    let modules : List Module = c.loop-next.modules in
    let next = c.loop-next.next in
    let name : List ℕ = c.in_ok-name.name in
    let at = at-place wanted next name c.index.result.now (let t = c.loop-next-test.true in omega (arith, c.len.ensures)) c.index.ensures c.in_ok-name.ensures in
    underway-some told told_now faults faults_now c.args.main.now.text modules wanted next name c.loop-next.invariant at

pub returns-in_err-load_module-clause-cause : goal.returns-in_err-load_module-clause-cause
returns-in_err-load_module-clause-cause g c =
    let before = g.L.Library.faults c.args.library.now in
    let now = g.L.Library.faults c.load_module.new.library in
    let p = err_from_is_err_and c.from_residual-in_err-load_module.result c.from_residual-in_err-load_module.ensures.1 in
    let error : c.in_err-load_module.field-0.0 ≡ p.0 = cc in
    let mine = subst (λ b. CausedBy b now c.in_err-load_module.field-0.0) c.loop-next.invariant.no_fault c.in_err-load_module.ensures.cause in
    subst (λ r. LoadHasCause before now r) (sym p.1) (subst (CausedBy before now) error mine)

pub loop-next-smaller : goal.loop-next-smaller
loop-next-smaller g c = let t = c.loop-next-test.true in let l = c.len.ensures in omega arith

pub loop-next-preserved : goal.loop-next-preserved
loop-next-preserved g c =
    let told = g.L.Library.texts c.args.library.now in
    let told_now = g.L.Library.texts c.loop-next.library in
    let faults = g.L.Library.faults c.args.library.now in
    let faults_now = g.L.Library.faults c.loop-next.library in
    let wanted = c.loop-next.wanted.items in
    let modules : List Module = c.loop-next.modules in
    let next = c.loop-next.next in
    let name : List ℕ = c.in_ok-name.name in
    let at = at-place wanted next name c.index.result.now (let t = c.loop-next-test.true in omega (arith, c.len.ensures)) c.index.ensures c.in_ok-name.ensures in
    let has : Contains (names_of modules) name = c.contains.ensures.0 (let f = c.if-not-contains.false in cc) in
    underway-skip told told_now faults faults_now c.args.main.now.text modules wanted next name c.loop-next.invariant at has

pub returns-in_err-into_vec-clause-same : goal.returns-in_err-into_vec-clause-same
returns-in_err-into_vec-clause-same g c = c.loop-next.invariant.same

pub returns-in_err-into_vec-clause-cause : goal.returns-in_err-into_vec-clause-cause
returns-in_err-into_vec-clause-cause g c = rw c.loop-next.invariant.no_fault (search rules)

pub returns-clause-same : goal.returns-clause-same
returns-clause-same g c = c.loop-next.invariant.same

pub returns-clause-cause : goal.returns-clause-cause
returns-clause-cause g c = c.loop-next.invariant.no_fault

pub returns-clause-within : goal.returns-clause-within
returns-clause-within g c = subst AreShort (sym c.in_ok-into_vec.ensures) c.loop-next.invariant.loaded.short

pub returns-clause-whole : goal.returns-clause-whole
returns-clause-whole g c =
    subst (ListsAll c.args.main.now.text) (sym c.in_ok-into_vec.ensures)
    (done c.args.main.now.text c.loop-next.modules c.loop-next.wanted.items c.loop-next.next c.loop-next.invariant.loaded (let t = c.loop-next-test.false in omega (arith, c.len.ensures)))

pub returns-clause-read : goal.returns-clause-read
returns-clause-read g c =
    subst (AreRead (g.L.Library.texts c.args.library.now) c.args.main.now.text) (sym c.in_ok-into_vec.ensures)
    (underway-read (g.L.Library.texts c.args.library.now) c.args.main.now.text c.loop-next.modules c.loop-next.wanted.items c.loop-next.invariant.reading)

pub returns-clause-fits : goal.returns-clause-fits
returns-clause-fits g c =
    let told = g.L.Library.texts c.args.library.now in
    let modules : List Module = c.loop-next.modules in
    let u = c.loop-next.invariant in
    let listed : ListsAll c.args.main.now.text modules =
    done c.args.main.now.text modules c.loop-next.wanted.items c.loop-next.next u.loaded (let t = c.loop-next-test.false in omega (arith, c.len.ensures)) in
    let read = underway-read told c.args.main.now.text modules c.loop-next.wanted.items u.reading in
    let short = subst (λ (cut : CutText). length cut.text ≤ text_limit) c.statements.ensures c.cut.ensures.short in
    underway-fits told c.args.main.now.text modules short read listed u.loaded.short c.sound.ensures.few
