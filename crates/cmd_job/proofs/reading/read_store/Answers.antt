use Rattle.std.proofs.Common.{sym}
use Rattle.std.specs.Prelude.{map, string_bytes}
use Rattle.cmd_job.proofs.JobsNamed.{no_store}
use Rattle.cmd_job.proofs.reading.read_store.Goals as goal

pub returns-in_default-clause-usage : goal.returns-in_default-clause-usage
returns-in_default-clause-usage c = λ store h. c.in_default.ensures.none h.0 h.1

pub returns-in_default-value-clause-usage : goal.returns-in_default-value-clause-usage
returns-in_default-value-clause-usage c =
    no_store (map string_bytes c.args.words.now) c.in-Some.values c.args.command c.in-Some.ensures.some
    (sym c.in_default-value.ensures)
