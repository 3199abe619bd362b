use Rattle.cmd_tourney.proofs.RowTexts.{row_more}
use Rattle.cmd_tourney.proofs.texts.put_rows.Goals as goal

pub loop-index-preserved : goal.loop-index-preserved
loop-index-preserved c =
    row_more c.args.tourney.now.players c.args.rows.now c.loop-index.index _ c.args.out.now.items c.loop-index.out.items
    c.put_row.new.out.items c.loop-index-test.true c.loop-index.invariant c.in_ok-put_row.ensures
