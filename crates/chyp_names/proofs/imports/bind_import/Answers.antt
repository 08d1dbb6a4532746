use Rattle.std.proofs.Common.{IfSome, option_copied, sym, ap, subst, ◌∙◌}
use Rattle.std.specs.Option.{option_map}
use Rattle.chyp_lex.specs.Names.{IsNameText}
use Rattle.chyp_syntax.specs.Words.{bytes_at}
use Rattle.chyp_names.proofs.Closing.{prefix-named}
use Rattle.chyp_names.proofs.Stands.{import_binds}
use Rattle.chyp_names.proofs.imports.bind_import.Goals as goal

pub returns-clause-ok : goal.returns-clause-ok
returns-clause-ok c =
    import_binds c.args.chunk.now c.args.env.now c.args.imported.now c.import.new.self c.requires.import.0 c.requires.import.1 c.prefix_token.result
    (option_copied c.prefix_at-prefix.result) c.import.result c.requires.import.2 (c.prefix_token.ensures c.requires.import.0 c.requires.import.1 c.requires.import.2)
    c.prefix_at-prefix.ensures c.import.ensures.ok

pub import-requires-clause-prefix : goal.import-requires-clause-prefix
import-requires-clause-prefix c =
    let i = c.requires.import in
    let is = c.prefix_at-prefix.ensures ∙ ap (option_map (bytes_at c.args.chunk.now)) (c.prefix_token.ensures i.0 i.1 i.2) in
    subst (λ p. IfSome p IsNameText) (sym is) (prefix-named c.args.chunk.now i.0 i.1 c.named.ensures i.2)
