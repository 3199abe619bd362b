-- Accept: a challenge is accepted, and the plan of its game is told. This server's own.
use Rattle.std.specs.Prelude.{ℕ, false, List, ◌∷◌, Option, None, Some, is_none}
use Rattle.chess_model.specs.declared.variant.Terms.{Terms}
use Rattle.fics_words.specs.Effect.{Effect}
use Rattle.fics_words.specs.declared.refusal.Refusal.TheVariants.{NotIn, NoChallenge, BadOpponent, NotInVariant, NoPartner}
use Rattle.lobby_state.specs.declared.acts.Plan.{Plan}
use Rattle.lobby_state.specs.declared.member.Member.{Member}
use Rattle.lobby_state.specs.Holds.{holds}
use Rattle.lobby_state.specs.Lobby.{LobbyState, member_of, named, free_slot}
use Rattle.lobby_state.specs.Pairing.{are_partners, is_simul_of_four, lack_partner, pairing_of}
use Rattle.lobby_state.specs.StartPlan.{start_causes, start_plan}
use Rattle.seek_match.specs.declared.challenge.Challenge.{Challenge}
use Rattle.seek_match.specs.Matches.{challenge_to}

-- the challenge by this player to the session, if there are both
abbrev pub offer_from : LobbyState → ℕ → Option Member → Option Challenge
offer_from lobby session None = None
offer_from lobby session (Some other) = challenge_to lobby.challenges (Some other.session) session

-- the challenge that an acceptance means: the named player's, and without a name the oldest to the session
abbrev pub offer_of : LobbyState → ℕ → Option (List ℕ) → Option Challenge
offer_of lobby session None = challenge_to lobby.challenges None session
offer_of lobby session (Some key) = offer_from lobby session (named lobby key)

-- the member that made the challenge, if there are both
abbrev pub offering_in : LobbyState → Option Challenge → Option Member
offering_in lobby None = None
offering_in lobby (Some offer) = member_of lobby offer.from

-- the terms of the challenge, if there is one
abbrev pub terms_in : Option Challenge → Option Terms
terms_in None = None
terms_in (Some offer) = Some offer.terms

-- an acceptance is refused where the session isn't a member; where there is no such challenge; in bughouse where the
-- two are partners by now, where one of them gives a simul, and where one has no partner; and where no game of theirs
-- can start. The partners who play are those of the moment of the acceptance
abbrev pub accept_effect : LobbyState → ℕ → Option (List ℕ) → Effect LobbyState Plan
accept_effect lobby session name =
    let accepting = member_of lobby session in
    let offer = offer_of lobby session name in
    let offering = offering_in lobby offer in
    let pairing = pairing_of offering accepting (terms_in offer) in
    record {
      causes =
          (is_none accepting, NotIn) ∷
          (is_none offering, NoChallenge) ∷
          (holds (are_partners lobby) pairing, BadOpponent) ∷
          (holds is_simul_of_four pairing, NotInVariant) ∷
          (holds (lack_partner lobby) pairing, NoPartner) ∷
          start_causes lobby pairing;
      memory = false;
      reply = start_plan lobby pairing (free_slot lobby);
      after = lobby;
    }
