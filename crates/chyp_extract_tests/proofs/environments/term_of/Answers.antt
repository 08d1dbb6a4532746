use Rattle.std.proofs.Common.{ap}
use Rattle.chyp_env.specs.Entry.{entry_of, sense_of}
use Rattle.chyp_extract_tests.proofs.Fitting.{found-bound}
use Rattle.chyp_extract_tests.proofs.environments.term_of.Goals as goal

pub returns-in-Abbrev : goal.returns-in-Abbrev
returns-in-Abbrev c =
    found-bound c.args.env.now c.as_bytes.result.now (entry_of c.in-Some.entry.now) c.in-Abbrev.known c.closed.ensures c.in-Some.ensures.some (ap sense_of c.in-Abbrev.is)
