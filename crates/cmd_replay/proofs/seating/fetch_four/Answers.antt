use Rattle.std.proofs.Common.{◌∙◌}
use Rattle.cmd_replay.proofs.ActsMade.{made_last, made_then}
use Rattle.cmd_replay.proofs.seating.fetch_four.Goals as goal

pub returns : goal.returns
returns c =
    let two = made_then _ _ _ _ _ c.in_ok-fetch.ensures.made c.in_ok-fetch-2.ensures.made in
    let three = made_then _ _ _ _ _ two c.in_ok-fetch-3.ensures.made in
    record {
      opening =
          c.fetch-4.ensures.opening ∙ c.fetch-3.ensures.opening ∙ c.fetch-2.ensures.opening ∙ c.fetch.ensures.opening;
      made = made_last c.fetch-4.result _ _ _ _ _ three c.fetch-4.ensures.made;
    }
