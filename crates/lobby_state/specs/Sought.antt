-- Sought: a member asks which seeks stand. This server's own.
use Rattle.std.specs.Prelude.{ℕ, true, List, [], ◌∷◌, ◌++◌, map, Option, None, Some, is_none, codes, decimal}
use Rattle.fics_words.specs.Effect.{Effect}
use Rattle.fics_words.specs.declared.refusal.Refusal.TheVariants.{NotIn}
use Rattle.lobby_state.specs.declared.acts.LobbyReply.{LobbyReply}
use Rattle.lobby_state.specs.declared.acts.LobbyReply.TheVariants.{Lines}
use Rattle.lobby_state.specs.declared.member.Member.{Member}
use Rattle.lobby_state.specs.Lobby.{LobbyState, member_of}
use Rattle.lobby_state.specs.TermsText.{terms_words}
use Rattle.seek_match.specs.declared.seek.Seek.{Seek}

-- the handle of the member that a seek is by, which is there in every lobby
abbrev pub name_in : Option Member → List ℕ
name_in None = []
name_in (Some member) = member.name

-- the line of a seek by the player of this name: its number, whose it is, and on which terms
abbrev pub sought_words : List ℕ → Seek → List ℕ
sought_words name seek = decimal seek.number ++ codes " " ++ name ++ codes " " ++ terms_words seek.terms

-- the line of a seek in this lobby
abbrev pub sought_line : LobbyState → Seek → List ℕ
sought_line lobby seek = sought_words (name_in (member_of lobby seek.by)) seek

-- the lines of all seeks, in the order of their numbers
abbrev pub sought_lines : LobbyState → List (List ℕ)
sought_lines lobby = map (sought_line lobby) lobby.seeks

-- a Sought is refused where the session isn't a member
abbrev pub sought_effect : LobbyState → ℕ → Effect LobbyState LobbyReply
sought_effect lobby session = record {
  causes = (is_none (member_of lobby session), NotIn) ∷ [];
  memory = true;
  reply = Lines (sought_lines lobby);
  after = lobby;
}
