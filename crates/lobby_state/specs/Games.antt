-- Games: a member asks which games there are. This server's own.
use Rattle.std.specs.Prelude.{ℕ, ◌+◌, ◌-◌, ◌*◌, zero, suc, true, List, [], ◌∷◌, ◌++◌, Option, None, Some, is_none, codes, decimal}
use Rattle.chess_model.specs.declared.variant.Terms.{Terms}
use Rattle.fics_words.specs.Effect.{Effect}
use Rattle.fics_words.specs.declared.refusal.Refusal.TheVariants.{NotIn}
use Rattle.fics_words.specs.declared.seats.Opponents.{Opponents}
use Rattle.lobby_state.specs.declared.acts.LobbyReply.{LobbyReply}
use Rattle.lobby_state.specs.declared.acts.LobbyReply.TheVariants.{Lines}
use Rattle.lobby_state.specs.declared.game.ListedGame.{ListedGame}
use Rattle.lobby_state.specs.Desks.{desks}
use Rattle.lobby_state.specs.Lobby.{LobbyState, game_at, member_of}
use Rattle.lobby_state.specs.TermsText.{terms_words}

-- the number of a game, by its desk and its board there
abbrev pub game_number : ℕ → ℕ → ℕ
game_number desk board = 2 * (desk - 1) + board

-- the line of a board: the game's number, who has White and who has Black, and the terms without a colour
abbrev pub board_words : ℕ → List ℕ → List ℕ → Terms → List ℕ
board_words number white black terms =
    decimal number ++ codes " " ++ white ++ codes " " ++ black ++ codes " "
    ++ terms_words (record terms { colour = None })

-- the line of the board with these players
abbrev pub board_line : ℕ → Terms → Opponents → List ℕ
board_line number terms opponents = board_words number opponents.white.name opponents.black.name terms

-- the line of a second board, where there is one
abbrev pub second_line : ℕ → Terms → Option Opponents → List (List ℕ)
second_line number terms None = []
second_line number terms (Some opponents) = board_line number terms opponents ∷ []

-- the lines of a desk, one a board, where it is in use
abbrev pub lines_at : ℕ → Option ListedGame → List (List ℕ)
lines_at desk None = []
lines_at desk (Some game) =
    board_line (game_number desk 1) game.terms game.seats.first
    ∷ second_line (game_number desk 2) game.terms game.seats.second

-- the lines of the desks from 1 up to this number
abbrev pub lines_to : LobbyState → ℕ → List (List ℕ)
lines_to lobby zero = []
lines_to lobby (suc desk) = lines_to lobby desk ++ lines_at (desk + 1) (game_at lobby (desk + 1))

-- the lines of all desks, in the order of the games' numbers. A game that has ended is there as long as its desk is in
-- use
unfoldable pub games_lines : LobbyState → List (List ℕ)
games_lines lobby = lines_to lobby desks

-- a Games is refused where the session isn't a member
abbrev pub games_effect : LobbyState → ℕ → Effect LobbyState LobbyReply
games_effect lobby session = record {
  causes = (is_none (member_of lobby session), NotIn) ∷ [];
  memory = true;
  reply = Lines (games_lines lobby);
  after = lobby;
}
