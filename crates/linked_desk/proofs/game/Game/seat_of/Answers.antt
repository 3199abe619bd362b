use Rattle.std.proofs.Common.{◌≡◌, ◌<◌, ℕ, length, List, Option, IfSome, sym, subst, ap, ◌∙◌}
use Rattle.fics_words.specs.declared.player.Player.{Player}
use Rattle.fics_words.specs.Seats.{seat_list}
use Rattle.linked_desk.specs.Desk.{GameState}
use Rattle.linked_desk.proofs.SeatNumbers.{seat_number-below}
use Rattle.linked_desk.proofs.game.Game.seat_of.Goals as goal

pub returns-clause-seated : goal.returns-clause-seated
returns-clause-seated c =
    let players : List Player = seat_list c.self.inside.seats in
    let seats : length players ≡ c.args.self.now.offers.seats =
    sym c.self.invariant.seated ∙ ap (λ (g : GameState). g.offers.seats) c.self.view_is in
    let below : IfSome c.number.result (λ seat. seat < length players) =
    subst (λ (o : Option ℕ). IfSome o (λ seat. seat < length players)) (sym c.number.ensures)
    (seat_number-below c.args.session players) in
    subst (λ (n : ℕ). IfSome c.number.result (λ seat. seat < n)) seats below
