use Rattle.std.proofs.Common.{◌≡◌, ◌++◌, drop}
use Rattle.game_board.specs.Board.{made}
use Rattle.desk_boards.specs.Halves.{halves_from}
use Rattle.desk_boards.proofs.halves.halves_from.Given as goal

-- the half-moves so far, and those that are still to come with what is left of the lists
abbrev pub invariant-loop-half : goal.invariant-loop-half
invariant-loop-half l =
    l.halves ++ halves_from l.one l.two (made (drop l.half-index l.all)) ≡ halves_from l.fn.one l.fn.two (made l.all)
