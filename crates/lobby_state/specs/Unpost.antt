-- Unpost: a member takes back a seek, or all its seeks. This server's own.
use Rattle.std.specs.Prelude.{ℕ, false, ◌∷◌, Option, is_none}
use Rattle.fics_words.specs.Effect.{Effect}
use Rattle.fics_words.specs.declared.refusal.Refusal.TheVariants.{NotIn}
use Rattle.lobby_state.specs.declared.acts.LobbyReply.{LobbyReply}
use Rattle.lobby_state.specs.declared.acts.LobbyReply.TheVariants.{Done}
use Rattle.lobby_state.specs.Lobby.{LobbyState, member_of}
use Rattle.seek_match.specs.Seeks.{withdrawing}

-- an Unpost is refused where the session isn't a member, and where it has no seek of that number, or without a number
-- no seek at all; else that seek goes, or all of them
abbrev pub unpost_effect : LobbyState → ℕ → Option ℕ → Effect LobbyState LobbyReply
unpost_effect lobby session number =
    let removal = withdrawing lobby.seeks session number in
    record {
      causes = (is_none (member_of lobby session), NotIn) ∷ removal.causes;
      memory = false;
      reply = Done;
      after = record lobby { seeks = removal.after };
    }
