-- Stored: a member asks which adjourned games of its own wait to be resumed. This server's own.
use Rattle.std.specs.Prelude.{ℕ, true, List, [], ◌∷◌, ◌++◌, map, Option, None, Some, is_none, codes, decimal}
use Rattle.std.specs.List.{filter, flat_map}
use Rattle.chess_model.specs.declared.variant.Terms.{Terms}
use Rattle.fics_words.specs.Effect.{Effect}
use Rattle.fics_words.specs.Handle.{key_of}
use Rattle.fics_words.specs.declared.refusal.Refusal.TheVariants.{NotIn}
use Rattle.lobby_shelf.specs.Players.{has_player}
use Rattle.lobby_shelf.specs.declared.shelved.Shelved.{Shelved}
use Rattle.lobby_state.specs.declared.acts.LobbyReply.{LobbyReply}
use Rattle.lobby_state.specs.declared.acts.LobbyReply.TheVariants.{Lines}
use Rattle.lobby_state.specs.declared.member.Member.{Member}
use Rattle.lobby_state.specs.Lobby.{LobbyState, member_of}
use Rattle.lobby_state.specs.TermsText.{terms_words}

-- the names, each behind a blank
abbrev pub names_words : List (List ℕ) → List ℕ
names_words names = flat_map (λ name. codes " " ++ name) names

-- the line of a stored game: its number, its players in the order of their seats, and its terms
abbrev pub stored_words : ℕ → List (List ℕ) → Terms → List ℕ
stored_words number names terms = decimal number ++ names_words names ++ codes " " ++ terms_words terms

-- the line of this game
abbrev pub stored_line : Shelved → List ℕ
stored_line row = stored_words row.number row.game.names row.game.terms

-- the lines of the games that the handle with this key plays in, in the order of their numbers
abbrev pub lines_for : List Shelved → List ℕ → List (List ℕ)
lines_for games key = map stored_line (filter (λ row. has_player key row.game) games)

-- the same of a member, and none for nobody
abbrev pub lines_stored : List Shelved → Option Member → List (List ℕ)
lines_stored games None = []
lines_stored games (Some member) = lines_for games (key_of member.name)

-- the lines of the session's own games
abbrev pub stored_lines : LobbyState → ℕ → List (List ℕ)
stored_lines lobby session = lines_stored lobby.shelf.games (member_of lobby session)

-- a Stored is refused where the session isn't a member
abbrev pub stored_effect : LobbyState → ℕ → Effect LobbyState LobbyReply
stored_effect lobby session = record {
  causes = (is_none (member_of lobby session), NotIn) ∷ [];
  memory = true;
  reply = Lines (stored_lines lobby session);
  after = lobby;
}
