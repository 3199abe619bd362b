use Rattle.std.proofs.Common.{◌∙◌}
use Rattle.cmd_replay.proofs.ActsMade.{made_last, made_then}
use Rattle.cmd_replay.proofs.seating.link_four.Goals as goal

pub returns : goal.returns
returns c =
    let two = made_then _ _ _ _ _ c.in_ok-ask.ensures.made c.in_ok-ask-2.ensures.made in
    let three = made_then _ _ _ _ _ two c.in_ok-ask-3.ensures.made in
    record {
      opening = c.ask-4.ensures.opening ∙ c.ask-3.ensures.opening ∙ c.ask-2.ensures.opening ∙ c.ask.ensures.opening;
      made = made_last c.ask-4.result _ _ _ _ _ three c.ask-4.ensures.made;
    }
