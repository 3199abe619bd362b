use Rattle.std.proofs.Common.{subst}
use Rattle.cmd_job.specs.Jobs.{NamesJob}
use Rattle.cmd_job.specs.declared.job.Job.{Job}
use Rattle.serve_call.proofs.ServeEnds.{no_serve}
use Rattle.serve_call.proofs.serve_call.asks_to_serve.Goals as goal

pub returns-in-Ok-Serve-clause-asks : goal.returns-in-Ok-Serve-clause-asks
returns-in-Ok-Serve-clause-asks c =
    let w = c.in-Ok-Serve in (
      w.field-0-0,
      w.field-0-1,
      w.field-0-2,
      w.field-0-3,
      subst (λ (job : Job). NamesJob c.args.words.now job) w.field-0-is w.ensures.job,
    )

pub returns-clause-usage : goal.returns-clause-usage
returns-clause-usage c = no_serve c.in-Err.fail c.args.words.now c.in-Err.ensures.usage
