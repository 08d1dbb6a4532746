use Rattle.std.proofs.Common.{option_copied, ◌∙◌}
use Rattle.chyp_env.specs.Entry.{sense_of}
use Rattle.chyp_env.specs.ImportState.{imported_of, site_of}
use Rattle.chyp_names.proofs.Closing.{accepted-takes, sense-fits}
use Rattle.chyp_names.proofs.Made.{declared_spelled}
use Rattle.chyp_names.proofs.Stands.{has_terms, sense_sound, sense_binds}
use Rattle.chyp_names.proofs.binding.bind.Goals as goal

pub meaning-requires : goal.meaning-requires
meaning-requires c =
    c.in_ok-terms.ensures.has c.keyword.result
    (has_terms c.args.module.now c.args.chunk.now c.args.env.now (imported_of c.args.import.now) (option_copied c.args.body)
    c.args.verdict.now c.in-Some-unbound.name.now c.requires.outcome c.in-Some-unbound.ensures.name c.keyword.result
    c.terms.result.now c.keyword.ensures c.terms.ensures)

pub bind_name-requires-clause-spelled : goal.bind_name-requires-clause-spelled
bind_name-requires-clause-spelled c = declared_spelled c.args.chunk.now c.in-Some-unbound.name.now c.spelled.ensures c.in-Some-unbound.ensures.name

pub bind_name-requires-clause-sound : goal.bind_name-requires-clause-sound
bind_name-requires-clause-sound c =
    sense_sound c.args.module.now c.args.chunk.now c.args.env.now (imported_of c.args.import.now) (option_copied c.args.body)
    c.args.verdict.now c.in-Some-unbound.name.now c.requires.outcome c.in-Some-unbound.ensures.name
    (sense_of c.in_ok-meaning.meaning) c.keyword.result c.terms.result.now c.keyword.ensures c.terms.ensures (c.in_ok-meaning.ensures ∙ c.in_ok-terms.ensures.same c.keyword.result) c.requires.typed

pub returns-clause-ok : goal.returns-clause-ok
returns-clause-ok c =
    sense_binds c.args.module.now c.args.chunk.now c.args.env.now (imported_of c.args.import.now) (option_copied c.args.body)
    c.args.verdict.now c.in-Some-unbound.name.now c.requires.outcome c.in-Some-unbound.ensures.name
    c.args.index (sense_of c.in_ok-meaning.meaning) c.keyword.result c.terms.result.now c.bind_name.new.env c.bind_name.result c.keyword.ensures c.terms.ensures
    (c.in_ok-meaning.ensures ∙ c.in_ok-terms.ensures.same c.keyword.result)
    c.in-Some-unbound.ensures.free c.bind_name.ensures.ok

pub bind_import-requires-clause-import : goal.bind_import-requires-clause-import
bind_import-requires-clause-import c =
    accepted-takes (site_of (record { words = c.args.chunk.now; env = c.args.env.now }) c.args.module.now c.args.import.now) (option_copied c.args.body)
    c.args.verdict.now c.in-Some.imported.now c.requires.state c.requires.outcome c.in-Some.ensures.accepted c.in-Some.ensures.there

pub bind_name-requires-clause-closed : goal.bind_name-requires-clause-closed
bind_name-requires-clause-closed c =
    sense-fits c.args.module.now c.args.chunk.now c.args.env.now (imported_of c.args.import.now) (option_copied c.args.body)
    c.args.verdict.now c.in-Some-unbound.name.now c.requires.outcome c.in-Some-unbound.ensures.name c.args.index
    (sense_of c.in_ok-meaning.meaning) c.keyword.result c.terms.result.now c.keyword.ensures c.terms.ensures
    (c.in_ok-meaning.ensures ∙ c.in_ok-terms.ensures.same c.keyword.result) c.closed.ensures c.named.ensures
