-- What leaving means to players.
use Rattle.std.specs.Prelude.{◌≡◌, ℕ, true, false, Option, Some, None}
use Rattle.chess_model.specs.declared.man.Colour.{Colour}
use Rattle.chess_model.specs.declared.why.Why.{Why}
use Rattle.chess_model.specs.declared.why.Why.TheVariants.{Adjourned, Left}
use Rattle.chess_model.specs.Placement.{opposite}
use Rattle.linked_desk.specs.Desk.{GameState, are_registered, is_pair, seat_of}
use Rattle.linked_desk.specs.Leave.{leave_effect}
use Rattle.linked_desk.specs.Seats.{board_of, colour_at}

-- the running game of who leaves from that seat ends so
abbrev pub LeavingEnds : GameState → ℕ → Why → Option Colour → Type 0
LeavingEnds g seat why winner =
    (desk session moment : ℕ) → seat_of g session ≡ Some seat → g.ended ≡ None →
    (leave_effect desk g session moment).after.ended
    ≡ Some (record { why = why; board = board_of seat; winner = winner })

-- a game of one board between players with accounts is adjourned, and nobody wins; where somebody is a guest, and at a
-- pair, who leaves has lost
pub record LeavingAdjournsOrLoses : Type 0 where
  pub adjourns : (g : GameState) (seat : ℕ) → is_pair g ≡ false → are_registered g ≡ true →
      LeavingEnds g seat Adjourned None
  pub loses_with_guests : (g : GameState) (seat : ℕ) → are_registered g ≡ false →
      LeavingEnds g seat Left (Some (opposite (colour_at seat)))
  pub loses_a_pair : (g : GameState) (seat : ℕ) → is_pair g ≡ true →
      LeavingEnds g seat Left (Some (opposite (colour_at seat)))
