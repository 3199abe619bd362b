-- A game between a member that offers one and a member that accepts: why it can't start, and its plan. This server's
-- own.
use Rattle.std.specs.Prelude.{ℕ, ◌+◌, ◌%◌, ◌==◌, Bool, true, false, ◌||◌, nat_le, List, [], ◌∷◌, Option, None, Some, is_none, option_map}
use Rattle.chess_model.specs.declared.man.Colour.{Colour}
use Rattle.chess_model.specs.declared.man.Colour.TheVariants.{White, Black}
use Rattle.fics_words.specs.Effect.{Cause, Effect}
use Rattle.fics_words.specs.declared.account.Account.{Account}
use Rattle.fics_words.specs.declared.player.Player.{Player}
use Rattle.fics_words.specs.declared.refusal.Refusal.TheVariants.{Playing, SimulFull, NoDesk, ShelfFull}
use Rattle.fics_words.specs.Seats as sitting
use Rattle.fics_words.specs.Seats.{facing}
use Rattle.fics_words.specs.declared.seats.Opponents.{Opponents}
use Rattle.fics_words.specs.declared.seats.Seats.{Seats}
use Rattle.lobby_state.specs.declared.acts.Plan.{Plan}
use Rattle.lobby_state.specs.declared.acts.Plan.TheVariants.{Start, Clear}
use Rattle.lobby_state.specs.declared.member.Member.{Member}
use Rattle.lobby_state.specs.Holds.{holds}
use Rattle.lobby_state.specs.Lobby.{LobbyState, most_games, gives, is_registered, free_slot}
use Rattle.lobby_state.specs.Pairing.{Pairing, are_crowded, are_playing, beside_accepting, beside_offering}
use Rattle.lobby_state.specs.ShelfRoom.{is_shelf_full}

-- whether the offering player has White where neither gives a simul, or both do, in a game of this serial: by the
-- colour that it asked for, and else where the serial is odd
abbrev pub offers_white : Option Colour → ℕ → Bool
offers_white (Some White) serial = true
offers_white (Some Black) serial = false
offers_white None serial = serial % 2 == 1

-- whether the offering player has White: where exactly one of the two gives a simul the giver has it, whatever colour
-- was asked for
abbrev pub has_white : Bool → Bool → Option Colour → ℕ → Bool
has_white true false colour serial = true
has_white false true colour serial = false
has_white true true colour serial = offers_white colour serial
has_white false false colour serial = offers_white colour serial

-- a member as a player, which is registered where the handle has one of these accounts
abbrev pub player_of : List Account → Member → Player
player_of accounts member =
    record { session = member.session; name = member.name; registered = is_registered accounts member }

-- two at their board: the first of them has White, or the second
abbrev pub opponents_of : List Account → Bool → Member → Member → Opponents
opponents_of accounts white one another = facing white (player_of accounts one) (player_of accounts another)

-- two at the second board, where both are there
abbrev pub second_pair : List Account → Bool → Option Member → Option Member → Option Opponents
second_pair accounts white one another =
    sitting.second_board white (option_map (player_of accounts) one) (option_map (player_of accounts) another)

-- who sits where: the two at the first board, and in bughouse their partners at the second, each with the colour that
-- its partner doesn't have
abbrev pub seats_of : LobbyState → ℕ → Pairing → Seats
seats_of lobby serial pairing =
    let white = has_white (gives pairing.offering) (gives pairing.accepting) pairing.terms.colour serial in
    record {
      first = opponents_of lobby.accounts white pairing.offering pairing.accepting;
      second = second_pair lobby.accounts white (beside_accepting lobby pairing) (beside_offering lobby pairing);
    }

-- what stands for the plan where one of its parts is missing; such an act is refused
abbrev pub no_plan : Plan
no_plan = Clear 0 0 0

-- the plan of a game under the next serial, at the desk that is free
abbrev pub start_plan : LobbyState → Option Pairing → Option ℕ → Plan
start_plan lobby (Some pairing) (Some slot) =
    Start (slot + 1) (lobby.started + 1) pairing.terms (seats_of lobby (lobby.started + 1) pairing)
start_plan _ _ _ = no_plan

-- there is no desk for another game: all are in use, or 2^62 games were started
abbrev pub has_no_desk : LobbyState → Bool
has_no_desk lobby = is_none (free_slot lobby) || nat_le most_games lobby.started

-- no game starts where one of those who would be seated is busy; where one of them is crowded; where there is no desk
-- for it; and where there would be no place for it on the shelf
abbrev pub start_causes : LobbyState → Option Pairing → List Cause
start_causes lobby pairing =
    (holds (are_playing lobby) pairing, Playing) ∷
    (holds (are_crowded lobby) pairing, SimulFull) ∷
    (has_no_desk lobby, NoDesk) ∷
    (is_shelf_full lobby, ShelfFull) ∷ []

-- a game of two members that are there, at the least free desk
abbrev pub start_planned : LobbyState → Pairing → Effect LobbyState Plan
start_planned lobby pairing = record {
  causes = start_causes lobby (Some pairing);
  memory = false;
  reply = start_plan lobby (Some pairing) (free_slot lobby);
  after = lobby;
}
