use Rattle.std.proofs.Common.{◌≤◌, List, length, sym, subst}
use Rattle.offer_book.specs.declared.offer.StandingOffer.{StandingOffer}
use Rattle.offer_book.proofs.Few.{room_for_kept}
use Rattle.offer_book.proofs.rows.Rows.retain.Goals as goal

pub push_if-requires : goal.push_if-requires
push_if-requires g c =
    let most : length c.as_slice-rows.result.now ≤ 16 =
    subst (λ (rows : List StandingOffer). length rows ≤ 16) (sym c.as_slice-rows.ensures.rows)
    c.as_slice-rows.ensures.most in
    room_for_kept (g.P.Predicate.passes c.args.test.now) c.as_slice-rows.result.now c.loop-row.kept c.loop-row.row-index
    c.loop-row-test.true most
    c.loop-row.invariant
