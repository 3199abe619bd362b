use Rattle.std.proofs.Common.{◌≡◌, ◌++◌, take}
use Rattle.lobby_state.specs.Pending.{side_lines}
use Rattle.lobby_state.proofs.roster.Roster.put_side.Given as goal

abbrev pub invariant-loop-challenge : goal.invariant-loop-challenge
invariant-loop-challenge l =
    l.lines ≡ l.initial.lines ++ side_lines l.self l.session l.side (take l.challenge-index l.challenge-items)
