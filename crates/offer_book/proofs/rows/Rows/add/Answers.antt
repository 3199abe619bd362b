use Rattle.std.proofs.Common.{List, ◌<◌, length, sym, subst}
use Rattle.offer_book.specs.declared.offer.StandingOffer.{StandingOffer}
use Rattle.offer_book.proofs.Few.{room_for_last}
use Rattle.offer_book.proofs.rows.Rows.add.Goals as goal

pub push-requires : goal.push-requires
push-requires c =
    subst (λ (rows : List StandingOffer). length rows < 16) (sym c.retain.ensures)
    (room_for_last _ (record { seat = c.args.seat; offer = c.args.offer }) c.requires)
