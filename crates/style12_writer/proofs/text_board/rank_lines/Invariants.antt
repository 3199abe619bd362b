use Rattle.std.proofs.Common.{◌≡◌, map, take}
use Rattle.style12_writer.specs.Board.{rank_text}
use Rattle.style12_writer.proofs.text_board.rank_lines.Given as goal

abbrev pub invariant-loop-rank : goal.invariant-loop-rank
invariant-loop-rank l = l.lines ≡ map (rank_text l.men) (take l.rank-index l.rank-items)
