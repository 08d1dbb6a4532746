use Rattle.chyp_term.specs.Term.{morphism_of}
use Rattle.chyp_print.specs.Reading.{IsReadBack, IsReadBackItself}
use Rattle.chyp_print.proofs.Back.{if-printed}
use Rattle.chyp_print.proofs.printer.print.Goals as goal

pub returns-clause-back : goal.returns-clause-back
returns-clause-back g c =
    let naming = g.N.Names.naming c.args.names.now in
    let t = morphism_of c.args.term.now in
    if-printed naming t (IsReadBack naming t) c.written.result (λ small. (c.printed_terms_are_read_back.ensures.back naming t small).0) c.written.ensures.text c.written.ensures.small

pub returns-clause-itself : goal.returns-clause-itself
returns-clause-itself g c =
    let naming = g.N.Names.naming c.args.names.now in
    let t = morphism_of c.args.term.now in
    if-printed naming t (IsReadBackItself naming t) c.written.result (λ small. (c.printed_terms_are_read_back.ensures.back naming t small).1) c.written.ensures.text
    c.written.ensures.small
