use Rattle.std.proofs.Common.{sym, ap, ◌∙◌}
use Rattle.chyp_env.specs.Entry.{sense_of}
use Rattle.chyp_print.proofs.Firsts.{copied-none, noted-new}
use Rattle.chyp_print.proofs.first_names.note.Goals as goal

pub returns : goal.returns
returns c =
    let own = c.in-Generator.name in
    let bytes = c.as_bytes-name.ensures.value ∙ c.as_str.ensures in
    let none = copied-none own c.as_bytes-name.result.now c.get.result c.args.numbers.now.entries bytes (sym c.is_some.ensures ∙ c.if-is_some.false) c.get.ensures.value in
    noted-new (sense_of c.args.meaning.now) own c.in-Generator.field-1.dom c.in-Generator.field-1.cod c.args.number c.args.numbers.now.entries c.insert.new.self.entries c.in_ok-key.key
    (ap sense_of c.in-Generator.is) (c.in_ok-key.ensures.items ∙ bytes) none c.in_ok-insert.ensures.entries
