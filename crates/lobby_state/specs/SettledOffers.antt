-- What the start of a game leaves of the seeks and challenges that stand. This server's own.
use Rattle.std.specs.Prelude.{◌≡◌, true, false, List, All, Contains}
use Rattle.fics_words.specs.declared.seats.Seats.{Seats}
use Rattle.seek_match.specs.declared.challenge.Challenge.{Challenge}
use Rattle.lobby_state.specs.declared.member.Member.{Member}
use Rattle.lobby_state.specs.Lobby.{LobbyState}
use Rattle.lobby_state.specs.Start.{is_giver, is_seated}
use Rattle.seek_match.specs.declared.seek.Seek.{Seek}

-- whichever of the two plays in the game gives a simul, and the other doesn't play in it
pub record IsGiversWithOthers (members : List Member) (seats : Seats) (challenge : Challenge) : Type 0 where
  pub from : is_seated seats challenge.from ≡ true
      → (is_giver members challenge.from ≡ true) × (is_seated seats challenge.to ≡ false)
  pub to : is_seated seats challenge.to ≡ true
      → (is_giver members challenge.to ≡ true) × (is_seated seats challenge.from ≡ false)

-- no player of the game has a seek, and no challenge but a giver's with others; and those who don't play in it have the
-- seeks and challenges that they had
pub record SettleOffers (before : LobbyState) (seats : Seats) (after : LobbyState) : Type 0 where
  pub seeks : All (λ seek. is_seated seats seek.by ≡ false) after.seeks
  pub challenges : All (IsGiversWithOthers before.members seats) after.challenges
  pub other_seeks : (seek : Seek) → Contains before.seeks seek → is_seated seats seek.by ≡ false
      → Contains after.seeks seek
  pub other_challenges : (challenge : Challenge) → Contains before.challenges challenge
      → is_seated seats challenge.from ≡ false → is_seated seats challenge.to ≡ false
      → Contains after.challenges challenge
