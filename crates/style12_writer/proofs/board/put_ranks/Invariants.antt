use Rattle.std.proofs.Common.{◌≡◌, ◌+◌, ◌*◌, ◌++◌, length, map, take}
use Rattle.style12_writer.specs.Board.{rank_text}
use Rattle.style12_writer.specs.Spaced.{spaced}
use Rattle.style12_writer.proofs.board.put_ranks.Given as goal

abbrev pub invariant-loop-rank : goal.invariant-loop-rank
invariant-loop-rank l =
    (l.line ≡ l.initial.line ++ spaced (map (rank_text l.men) (take l.rank-index l.rank-items)))
    × (length l.line ≡ length l.initial.line + 9 * l.rank-index)
