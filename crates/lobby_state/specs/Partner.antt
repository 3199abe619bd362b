-- Partner: a member asks another to be its partner, or parts with the one it has. This server's own, and the command is
-- FICS's.
use Rattle.std.specs.Prelude.{◌≡◌, ℕ, Bool, true, false, ◌||◌, List, [], ◌∷◌, ◌++◌, Option, None, Some, is_none, is_some, codes, refl}
use Rattle.fics_words.specs.Effect.{Cause, Effect}
use Rattle.fics_words.specs.declared.refusal.Refusal.TheVariants.{NotIn, NoSuchPlayer, BadOpponent, HasPartner, NoPartner, QueueFull}
use Rattle.partner_link.specs.Partners.{asking, has_asked, parted}
use Rattle.lobby_state.specs.declared.acts.LobbyReply.{LobbyReply}
use Rattle.lobby_state.specs.declared.acts.LobbyReply.TheVariants.{Asked, Done}
use Rattle.lobby_state.specs.declared.member.Member.{Member}
use Rattle.lobby_state.specs.Broadcast.{broadcast}
use Rattle.lobby_state.specs.Holds.{holds}
use Rattle.lobby_state.specs.Lobby.{LobbyState, is_session, member_of, named, partner_in}
use Rattle.lobby_state.specs.Match.{is_queue_full}
use Rattle.lobby_state.specs.Said.{spoken_line}

-- the member has a partner
abbrev pub has_partner : LobbyState → Member → Bool
has_partner lobby member = is_some (partner_in lobby member.session)

-- the other has asked the session to be its partner
abbrev pub is_asked_by : LobbyState → ℕ → Member → Bool
is_asked_by lobby session other = has_asked lobby.partners.requests other.session session

-- what an ask is answered: `Done` where the two are partners from then on, else `Asked`
abbrev pub asked_reply : Bool → LobbyReply
asked_reply true = Done
asked_reply false = Asked

-- the line that an ask by the player of this name sends: where the two are partners from then on, and else
abbrev pub partner_words : Bool → List ℕ → List ℕ
partner_words true name = codes "You are now the partner of " ++ name ++ codes "."
partner_words false name = spoken_line name (codes " offers to be your partner.") []

-- the lobby where the member of this name has asked another: they are partners where the other has asked before, and
-- else the request stands; and the other is told
abbrev pub partnered_with : LobbyState → ℕ → List ℕ → ℕ → LobbyState
partnered_with lobby session name other = record lobby {
  members = broadcast (is_session other)
      (partner_words (has_asked lobby.partners.requests other session) name) lobby.members;
  partners = (asking lobby.partners session other).after;
}

-- the same of the members, where both are there
abbrev pub partnered : LobbyState → ℕ → Option Member → Option Member → LobbyState
partnered lobby session None other = lobby
partnered lobby session (Some caller) None = lobby
partnered lobby session (Some caller) (Some other) = partnered_with lobby session caller.name other.session

-- an ask of another who is there is refused where one of the two has a partner
abbrev pub asking_effect : LobbyState → ℕ → List ℕ → ℕ → Effect LobbyState LobbyReply
asking_effect lobby session name other = record {
  causes = (asking lobby.partners session other).causes;
  memory = true;
  reply = asked_reply (has_asked lobby.partners.requests other session);
  after = partnered_with lobby session name other;
}

-- why the session can't ask this member
abbrev pub ask_causes : LobbyState → ℕ → Member → List Cause
ask_causes lobby session other =
    (is_session session other, BadOpponent) ∷
    (is_some (partner_in lobby session) || has_partner lobby other, HasPartner) ∷
    (is_queue_full other, QueueFull) ∷ []

-- an ask is refused where the session isn't a member; where nobody has the handle, or that member is going; where it is
-- the session itself; where one of the two has a partner; and where 512 lines wait for the other
abbrev pub ask_effect : LobbyState → ℕ → List ℕ → Effect LobbyState LobbyReply
ask_effect lobby session to = record {
  causes =
      (is_none (member_of lobby session), NotIn) ∷
      (is_none (named lobby to), NoSuchPlayer) ∷
      (holds (is_session session) (named lobby to), BadOpponent) ∷
      (is_some (partner_in lobby session) || holds (has_partner lobby) (named lobby to), HasPartner) ∷
      (holds is_queue_full (named lobby to), QueueFull) ∷ [];
  memory = true;
  reply = asked_reply (holds (is_asked_by lobby session) (named lobby to));
  after = partnered lobby session (member_of lobby session) (named lobby to);
}

-- the line that a parting by the player of this name sends
abbrev pub parting_words : List ℕ → List ℕ
parting_words name = spoken_line name (codes " is no longer your partner.") []

-- the lobby where a member has parted with its partner, who is told, if there is room for a line
abbrev pub single : LobbyState → ℕ → Option Member → Option ℕ → LobbyState
single lobby session None partner = lobby
single lobby session (Some caller) None = lobby
single lobby session (Some caller) (Some partner) = record lobby {
  members =
      broadcast (is_session partner) (parting_words caller.name) lobby.members;
  partners = parted lobby.partners session;
}

-- a parting is refused where the session isn't a member, and where it has no partner
abbrev pub part_effect : LobbyState → ℕ → Effect LobbyState LobbyReply
part_effect lobby session = record {
  causes =
      (is_none (member_of lobby session), NotIn) ∷
      (is_none (partner_in lobby session), NoPartner) ∷ [];
  memory = true;
  reply = Done;
  after = single lobby session (member_of lobby session) (partner_in lobby session);
}

-- with a name a Partner asks, and without one it parts
abbrev pub partner_effect : LobbyState → ℕ → Option (List ℕ) → Effect LobbyState LobbyReply
partner_effect lobby session None = part_effect lobby session
partner_effect lobby session (Some to) = ask_effect lobby session to

example_asked : partner_words false (codes "Bob") ≡ codes "Bob offers to be your partner."
example_asked = refl

example_linked : partner_words true (codes "Bob") ≡ codes "You are now the partner of Bob."
example_linked = refl
