use Rattle.std.proofs.Common.{arith}
use Rattle.style12_writer.specs.Board.{rank_text}
use Rattle.style12_writer.proofs.Spacing.{line_more}
use Rattle.style12_writer.proofs.board.put_ranks.Goals as goal

pub loop-rank-preserved : goal.loop-rank-preserved
loop-rank-preserved c = (
  line_more (rank_text c.args.men.now) _ c.loop-rank.rank-index c.args.line.now c.loop-rank.line c.put_rank.new.line
      c.loop-rank-test.true c.loop-rank.invariant.0 c.put_rank.ensures.text,
  omega (arith, c.put_rank.ensures.len),
)
