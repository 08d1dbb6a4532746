use Rattle.std.proofs.Common.{◌<◌, List, None, length, sym, subst, ◌∙◌, arith}
use Rattle.std.specs.Prelude.{IfNone, IfSome, Option}
use Rattle.chyp_env.specs.Environment.{Binding}
use Rattle.chyp_env.specs.ImportState.{imported_of}
use Rattle.chyp_modules.specs.Import.{Imports, ImportsNothing}
use Rattle.chyp_modules.specs.Modules.{no_import, of_none}
use Rattle.chyp_check.proofs.Fronts.{any-default, finds-cycle, finds-module, leads-reached, none-not-some}
use Rattle.chyp_check.proofs.import_state.import_state.Goals as goal

pub returns-in_default : goal.returns-in_default
unfolding imported_of
returns-in_default c = no_import (subst (λ o. IfNone o (ImportsNothing c.args.chunk.now)) c.in_default.is c.in_ok-name.ensures.none)

pub returns-in_default-place_of : goal.returns-in_default-place_of
unfolding imported_of
returns-in_default-place_of c =
    let i = subst (λ o. IfSome o (Imports c.args.chunk.now)) c.in-Some.is c.in_ok-name.ensures.some in
    of_none i c.in_default-place_of.ensures.none

pub returns-then-reaches : goal.returns-then-reaches
unfolding imported_of
returns-then-reaches c =
    let i = subst (λ o. IfSome o (Imports c.args.chunk.now)) c.in-Some.is c.in_ok-name.ensures.some in
    finds-cycle c.args.project.now c.args.chunk.now c.in-Some.name c.in-Some-place_of.place c.mapped.ensures c.in-Some-place_of.ensures.some c.in-Some-place_of.ensures.named
    (sym c.reaches.ensures ∙ c.if-reaches.true) i

pub unreachable-requires : goal.unreachable-requires
unreachable-requires c =
    let i = subst (λ o. IfSome o (Imports c.args.chunk.now)) c.in-Some.is c.in_ok-name.ensures.some in
    let place = c.in-Some-place_of.place in
    let p = c.args.project.now in
    let many = c.requires.made.many in
    let inside = c.in-Some-place_of.ensures.some in
    let here : place < length c.args.envs.now = omega arith in
    let none = any-default (Option (List Binding)) c.args.envs.now place None c.index-envs-place.result here ∙ sym c.index-envs-place.is ∙ c.in-None.is in
    let leads = c.requires.leads c.in-Some.name i in
    none-not-some _ none (c.requires.ready place
    (leads-reached p c.args.number place c.in-Some.name c.mapped.ensures c.requires.within inside c.in-Some-place_of.ensures.named leads)
    (sym c.reaches.ensures ∙ c.if-reaches.false))

pub returns : goal.returns
unfolding imported_of
returns c =
    let i = subst (λ o. IfSome o (Imports c.args.chunk.now)) c.in-Some.is c.in_ok-name.ensures.some in
    let place = c.in-Some-place_of.place in
    let many = c.requires.made.many in
    let inside = c.in-Some-place_of.ensures.some in
    let here : place < length c.args.envs.now = omega arith in
    let at = any-default (Option (List Binding)) c.args.envs.now place None c.index-envs-place.result here ∙ sym c.index-envs-place.is ∙ c.in-Some-envs.is in
    finds-module c.args.project.now c.args.envs.now c.args.chunk.now c.in-Some.name place c.in-Some-envs.env c.mapped.ensures c.requires.made inside c.in-Some-place_of.ensures.named
    (sym c.reaches.ensures ∙ c.if-reaches.false) at i
