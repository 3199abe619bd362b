use Rattle.std.proofs.lemmas.Result.{on_ok_weaker}
use Rattle.cmd_demo.proofs.Going.{all_go}
use Rattle.cmd_demo.proofs.steps.Demo.go.Goals as goal

pub returns : goal.returns
returns c =
    on_ok_weaker c.all_quit.result
    (λ quit.
    all_go c.args.self.now c.all_enter.new.self c.all_turns.new.self c.all_quit.new.self c.in_ok-all_enter.ensures.gone
    c.in_ok-all_turns.ensures.gone quit)
    c.all_quit.ensures
