-- Pending: a member asks which challenges to it and by it stand. This server's own.
use Rattle.std.specs.Prelude.{ℕ, ◌==◌, Bool, true, List, [], ◌∷◌, ◌++◌, filter, map, is_none, codes}
use Rattle.chess_model.specs.declared.variant.Terms.{Terms}
use Rattle.fics_words.specs.Effect.{Effect}
use Rattle.fics_words.specs.declared.refusal.Refusal.TheVariants.{NotIn}
use Rattle.lobby_state.specs.declared.acts.LobbyReply.{LobbyReply}
use Rattle.lobby_state.specs.declared.acts.LobbyReply.TheVariants.{Lines}
use Rattle.seek_match.specs.declared.challenge.Challenge.{Challenge}
use Rattle.lobby_state.specs.declared.acts.pending.ChallengeSide.{ChallengeSide}
use Rattle.lobby_state.specs.declared.acts.pending.ChallengeSide.TheVariants.{FromOthers, ToOthers}
use Rattle.lobby_state.specs.Lobby.{LobbyState, member_of}
use Rattle.lobby_state.specs.Sought.{name_in}
use Rattle.lobby_state.specs.TermsText.{terms_words}

-- the challenge is from another to the session, or by the session to another
abbrev pub is_on_side : ChallengeSide → ℕ → Challenge → Bool
is_on_side FromOthers session challenge = challenge.to == session
is_on_side ToOthers session challenge = challenge.from == session

-- the session of the other
abbrev pub other_of : ChallengeSide → Challenge → ℕ
other_of FromOthers challenge = challenge.from
other_of ToOthers challenge = challenge.to

-- how the line of such a challenge begins
abbrev pub side_words : ChallengeSide → List ℕ
side_words FromOthers = codes "from "
side_words ToOthers = codes "to "

-- the line of a challenge with the other of this name: from whom or to whom, and on which terms
abbrev pub pending_words : ChallengeSide → List ℕ → Terms → List ℕ
pending_words side name terms = side_words side ++ name ++ codes " " ++ terms_words terms

-- the line of a challenge in this lobby
abbrev pub pending_line : LobbyState → ChallengeSide → Challenge → List ℕ
pending_line lobby side challenge =
    pending_words side (name_in (member_of lobby (other_of side challenge))) challenge.terms

-- the lines of those of these challenges that are on this side of the session, in their order
abbrev pub side_lines : LobbyState → ℕ → ChallengeSide → List Challenge → List (List ℕ)
side_lines lobby session side challenges =
    map (pending_line lobby side) (filter (is_on_side side session) challenges)

-- the lines of the challenges from others and then of those to others, both in the order in which they were made
abbrev pub pending_lines : LobbyState → ℕ → List (List ℕ)
pending_lines lobby session =
    side_lines lobby session FromOthers lobby.challenges ++ side_lines lobby session ToOthers lobby.challenges

-- a Pending is refused where the session isn't a member
abbrev pub pending_effect : LobbyState → ℕ → Effect LobbyState LobbyReply
pending_effect lobby session = record {
  causes = (is_none (member_of lobby session), NotIn) ∷ [];
  memory = true;
  reply = Lines (pending_lines lobby session);
  after = lobby;
}
