use Rattle.std.proofs.Common.{◌∙◌}
use Rattle.cmd_replay.proofs.ActsMade.{made_last, made_then}
use Rattle.cmd_replay.proofs.seating.enter_four.Goals as goal

pub returns : goal.returns
returns c =
    let two = made_then _ _ _ _ _ c.in_ok-enter.ensures.made c.in_ok-enter-2.ensures.made in
    let three = made_then _ _ _ _ _ two c.in_ok-enter-3.ensures.made in
    record {
      opening =
          c.enter-4.ensures.opening ∙ c.enter-3.ensures.opening ∙ c.enter-2.ensures.opening ∙ c.enter.ensures.opening;
      made = made_last c.enter-4.result _ _ _ _ _ three c.enter-4.ensures.made;
    }
