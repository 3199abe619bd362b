use Rattle.std.proofs.Common.{◌≡◌}
use Rattle.turn_workers.specs.Many.{MadeMany}
use Rattle.turn_workers.proofs.workers.work.Given as goal

abbrev pub invariant-acts : goal.invariant-acts
invariant-acts g l = record {
  here : l.pass.home ≡ l.fn.pass.home;
  made : MadeMany l.act l.counter l.fn.pass.view l.pass.view;
}
