use Rattle.cmd_tidy.proofs.Steps.{last_put}
use Rattle.cmd_tidy.proofs.putting.put_last.Goals as goal

pub returns-clause-put : goal.returns-clause-put
returns-clause-put c = λ taken base games ends due.
    last_put taken base games c.in_ok-step.step c.args.reader.now c.finish.new.self c.args.out.now.items
    c.put_step.new.out.items c.put_step.result ends due
    c.in_ok-step.ensures.last c.put_step.ensures
