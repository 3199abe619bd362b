-- Play: a seek is taken, and the plan of its game is told. This server's own.
use Rattle.std.specs.Prelude.{ℕ, false, ◌∷◌, Option, None, Some, is_none}
use Rattle.chess_model.specs.declared.variant.Terms.{Terms}
use Rattle.fics_words.specs.Effect.{Effect}
use Rattle.fics_words.specs.declared.refusal.Refusal.TheVariants.{NotIn, NoSuchSeek, BadOpponent, Playing, Refuses}
use Rattle.lobby_state.specs.declared.acts.Plan.{Plan}
use Rattle.lobby_state.specs.declared.member.Member.{Member}
use Rattle.lobby_state.specs.Holds.{holds}
use Rattle.lobby_state.specs.Lobby.{LobbyState, free_slot, is_session, member_of}
use Rattle.lobby_state.specs.NameList.{avoids}
use Rattle.lobby_state.specs.Pairing.{are_playing, pairing_of}
use Rattle.lobby_state.specs.StartPlan.{start_causes, start_plan}
use Rattle.seek_match.specs.declared.seek.Seek.{Seek}
use Rattle.seek_match.specs.Seeks.{seek_of}

-- the member that posted the seek, if there are both
abbrev pub seeking_in : LobbyState → Option Seek → Option Member
seeking_in lobby None = None
seeking_in lobby (Some seek) = member_of lobby seek.by

-- the terms of the seek, if there is one
abbrev pub terms_sought : Option Seek → Option Terms
terms_sought None = None
terms_sought (Some seek) = Some seek.terms

-- a Play is refused where the session isn't a member; where no seek has the number; where the seek is its own; where
-- one of the two is busy; where the seek's player has the member on one of its lists; and where no game of the two can
-- start, of which the seek's player is the one that offers. No seek is of bughouse, so nobody sits beside the two
abbrev pub play_effect : LobbyState → ℕ → ℕ → Effect LobbyState Plan
play_effect lobby session number =
    let accepting = member_of lobby session in
    let seek = seek_of lobby.seeks number in
    let offering = seeking_in lobby seek in
    let pairing = pairing_of offering accepting (terms_sought seek) in
    record {
      causes =
          (is_none accepting, NotIn) ∷
          (is_none offering, NoSuchSeek) ∷
          (holds (is_session session) offering, BadOpponent) ∷
          (holds (are_playing lobby) pairing, Playing) ∷
          (holds (avoids accepting) offering, Refuses) ∷
          start_causes lobby pairing;
      memory = false;
      reply = start_plan lobby pairing (free_slot lobby);
      after = lobby;
    }
