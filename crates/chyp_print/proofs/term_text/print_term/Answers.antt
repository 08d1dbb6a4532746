use Rattle.std.proofs.Common.{◌≡◌, sym, subst}
use Rattle.std.proofs.lemmas.Result.{IfOk-weaker}
use Rattle.chyp_graph.specs.PlainGraph.{PlainGraph}
use Rattle.chyp_extract.specs.Extraction.{extracted}
use Rattle.chyp_extract.specs.Rehalving.{rehalved}
use Rattle.chyp_term.specs.Term.{morphism_of}
use Rattle.chyp_print.specs.Environments.{first_names, meaning_in}
use Rattle.chyp_print.specs.Reading.{CanBePrinted, IsReadBack, IsReadBackItself, ReadsAs}
use Rattle.chyp_print.proofs.term_text.print_term.Goals as goal

pub returns-clause-back : goal.returns-clause-back
returns-clause-back c =
    let t = morphism_of c.args.term.now in
    let env = c.args.env.now in
    let named : CanBePrinted (first_names c.in_ok-names.names) (meaning_in env) t =
    subst (λ e. CanBePrinted (first_names e) (meaning_in env) t) (sym c.in_ok-names.ensures) (c.printed_terms_are_read_back.ensures.names env t c.sound.ensures c.closed.ensures c.requires) in
    IfOk-weaker c.print.result (λ text. IsReadBack (first_names c.in_ok-names.names) t text) (λ text. ReadsAs (meaning_in env) text (rehalved t)) (λ text back. back (meaning_in env) named)
    c.print.ensures.back

pub returns-clause-itself : goal.returns-clause-itself
returns-clause-itself c =
    let t = morphism_of c.args.term.now in
    let env = c.args.env.now in
    let named : CanBePrinted (first_names c.in_ok-names.names) (meaning_in env) t =
    subst (λ e. CanBePrinted (first_names e) (meaning_in env) t) (sym c.in_ok-names.ensures) (c.printed_terms_are_read_back.ensures.names env t c.sound.ensures c.closed.ensures c.requires) in
    IfOk-weaker c.print.result (λ text. IsReadBackItself (first_names c.in_ok-names.names) t text) (λ text. (g : PlainGraph) → t ≡ extracted g → ReadsAs (meaning_in env) text t)
    (λ text itself g e. itself (meaning_in env) g e named) c.print.ensures.itself
