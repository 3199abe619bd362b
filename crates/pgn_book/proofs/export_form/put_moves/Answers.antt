use Rattle.pgn_book.proofs.Laying.{allowed_next, laid_next}
use Rattle.pgn_book.proofs.export_form.put_moves.Goals as goal

pub put_next-requires-clause-allowed : goal.put_next-requires-clause-allowed
put_next-requires-clause-allowed c =
    allowed_next c.args.page.now c.loop-place.page c.loop-place.position c.as_slice-moves.result.now c.args.g.now.moves
    c.loop-place.place
    c.index-moves-place.result c.requires.legal c.as_slice-moves.ensures c.loop-place.invariant c.loop-place-test.true
    c.index-moves-place.is

pub loop-place-preserved : goal.loop-place-preserved
loop-place-preserved c =
    laid_next c.args.page.now c.loop-place.page c.put_next.new.page c.loop-place.position c.put_next.new.position
    c.as_slice-moves.result.now
    c.loop-place.place c.index-moves-place.result c.loop-place.invariant c.loop-place-test.true c.index-moves-place.is
    c.in_ok-put_next.ensures.lays
    c.in_ok-put_next.ensures.variant c.in_ok-put_next.ensures.stands
