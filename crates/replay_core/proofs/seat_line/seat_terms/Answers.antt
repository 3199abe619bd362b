use Rattle.std.proofs.Common.{arith, sym, ◌∙◌, ap}
use Rattle.replay_core.specs.SeatLine.{players_wanted}
use Rattle.replay_core.proofs.Seats.{one_terms}
use Rattle.replay_core.proofs.seat_line.seat_terms.Goals as goal

-- the names would be as many as the variant has players
pub returns-then-names-players-clause-none : goal.returns-then-names-players-clause-none
returns-then-names-players-clause-none c terms h e =
    let same =
    one_terms c.in_ok-terms.terms terms c.in_ok-terms.ensures.in_range h.in_range
    (sym c.in_ok-terms.ensures.spelled ∙ e) in
    let count = h.count ∙ sym (ap (λ t. players_wanted t.variant) same) in
    omega (arith, count, c.players.ensures, c.if-names-players.true)
