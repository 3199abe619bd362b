use Rattle.cmd_tidy.proofs.Steps.{next_put}
use Rattle.cmd_tidy.proofs.putting.put_next.Goals as goal

pub returns-clause-put : goal.returns-clause-put
returns-clause-put c = λ taken base games given due.
    next_put taken base games c.in_ok-step.step c.args.reader.now c.next.new.self c.args.out.now.items
    c.put_step.new.out.items c.put_step.result given due
    c.in_ok-step.ensures.next c.put_step.ensures
