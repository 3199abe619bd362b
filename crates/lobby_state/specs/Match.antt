-- Match: a member challenges another to a game. This server's own.
use Rattle.std.specs.Prelude.{ℕ, Bool, true, not, ◌||◌, List, [], ◌∷◌, ◌++◌, Option, None, Some, is_none, codes}
use Rattle.channel_feed.specs.Waiting.{is_full as are_full, with_line as with_one_more}
use Rattle.chess_model.specs.declared.variant.Terms.{Terms}
use Rattle.fics_words.specs.Effect.{Cause, Effect}
use Rattle.fics_words.specs.declared.refusal.Refusal.TheVariants.{NotIn, NoSuchPlayer, BadOpponent, Playing, Refuses, NotInVariant, NoPartner, QueueFull}
use Rattle.tables.specs.Rows.{change_first}
use Rattle.lobby_state.specs.declared.acts.LobbyReply.{LobbyReply}
use Rattle.lobby_state.specs.declared.acts.LobbyReply.TheVariants.{Done}
use Rattle.lobby_state.specs.declared.member.Member.{Member}
use Rattle.lobby_state.specs.Holds.{holds}
use Rattle.lobby_state.specs.Lobby.{LobbyState, is_session, is_named, is_busy, member_of, named}
use Rattle.lobby_state.specs.NameList.{avoids}
use Rattle.lobby_state.specs.Pairing.{are_partners, is_simul_of_four, lack_partner, paired, pairing_of}
use Rattle.lobby_state.specs.TermsText.{terms_words}
use Rattle.seek_match.specs.declared.challenge.Challenge.{Challenge}
use Rattle.seek_match.specs.Matches.{with_challenge}

-- the line that a challenge sends: who challenges, and on which terms
abbrev pub challenge_words : List ℕ → Terms → List ℕ
challenge_words name terms = codes "Challenge: " ++ name ++ codes " " ++ terms_words terms

-- the member doesn't want to be challenged
abbrev pub is_closed : Member → Bool
is_closed member = not member.wants.matches

-- no more lines can wait for the member
abbrev pub is_queue_full : Member → Bool
is_queue_full member = are_full member.waiting

-- the member with one more line that waits for it, where fewer than 512 do
abbrev pub member_with_line : List ℕ → Member → Member
member_with_line line member = record member { waiting = with_one_more line member.waiting }

-- the lobby where the member of that name has made this challenge, and whom the key names is told
abbrev pub challenged_by : LobbyState → List ℕ → List ℕ → Challenge → LobbyState
challenged_by lobby name to challenge = record lobby {
  members = change_first (is_named to) (member_with_line (challenge_words name challenge.terms)) lobby.members;
  challenges = with_challenge challenge lobby.challenges;
}

-- the lobby where the first of two members has challenged the second
abbrev pub challenged : LobbyState → Option Member → Option Member → List ℕ → Terms → LobbyState
challenged lobby None other to terms = lobby
challenged lobby (Some caller) None to terms = lobby
challenged lobby (Some caller) (Some other) to terms =
    challenged_by lobby caller.name to (record { from = caller.session; to = other.session; terms = terms })

-- why the first of two members, who are there, can't challenge the second
abbrev pub match_causes : LobbyState → ℕ → Member → Member → Terms → List Cause
match_causes lobby session caller other terms =
    let pairing = paired caller other terms in
    (is_session session other || are_partners lobby pairing, BadOpponent) ∷
    (is_busy caller || is_busy other, Playing) ∷
    (is_closed other || avoids (Some caller) other, Refuses) ∷
    (is_simul_of_four pairing, NotInVariant) ∷
    (lack_partner lobby pairing, NoPartner) ∷
    (is_queue_full other, QueueFull) ∷ []

-- a challenge is refused where the session isn't a member; where nobody has the handle, or that member is going; where
-- it is the session itself, or in bughouse its partner; where one of the two has a place and gives no simul, whatever
-- their partners do; where the other doesn't want to be challenged, or has the member on one of its lists; in bughouse
-- where one of the two gives a simul, and where one of them has no partner; and where 512 lines wait for the other
abbrev pub match_effect : LobbyState → ℕ → List ℕ → Terms → Effect LobbyState LobbyReply
match_effect lobby session to terms =
    let pairing = pairing_of (member_of lobby session) (named lobby to) (Some terms) in
    record {
      causes =
          (is_none (member_of lobby session), NotIn) ∷
          (is_none (named lobby to), NoSuchPlayer) ∷
          (holds (is_session session) (named lobby to) || holds (are_partners lobby) pairing, BadOpponent) ∷
          (holds is_busy (member_of lobby session) || holds is_busy (named lobby to), Playing) ∷
          (holds is_closed (named lobby to) || holds (avoids (member_of lobby session)) (named lobby to), Refuses) ∷
          (holds is_simul_of_four pairing, NotInVariant) ∷
          (holds (lack_partner lobby) pairing, NoPartner) ∷
          (holds is_queue_full (named lobby to), QueueFull) ∷ [];
      memory = true;
      reply = Done;
      after = challenged lobby (member_of lobby session) (named lobby to) to terms;
    }
