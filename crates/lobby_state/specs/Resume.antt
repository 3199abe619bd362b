-- Resume: a member asks to go on with the adjourned game of least number that it and the named player both play in, and
-- the game starts where all its other players have asked before. This server's own, and the command is FICS's.
use Rattle.std.specs.Prelude.{ℕ, ◌+◌, Bool, false, ◌&&◌, ◌||◌, cond, List, [], ◌∷◌, Option, None, Some, is_none, bytes_eq, slice_index_or}
use Rattle.std.specs.List.{list_all, list_any}
use Rattle.chess_model.specs.declared.variant.Variant.{Variant}
use Rattle.chess_model.specs.declared.variant.Variant.TheVariants.{Bughouse}
use Rattle.fics_words.specs.Effect.{Cause, Effect}
use Rattle.fics_words.specs.Handle.{key_of}
use Rattle.fics_words.specs.declared.account.Account.{Account}
use Rattle.fics_words.specs.declared.player.Player.{Player}
use Rattle.fics_words.specs.declared.refusal.Refusal.TheVariants.{NotIn, NoSuchPlayer, BadOpponent, NoStored, Playing, SimulFull, NoDesk, QueueFull}
use Rattle.fics_words.specs.declared.seats.Opponents.{Opponents}
use Rattle.fics_words.specs.declared.seats.Seats.{Seats}
use Rattle.lobby_shelf.specs.Players.{least_of}
use Rattle.lobby_shelf.specs.Shelf.{asks}
use Rattle.lobby_shelf.specs.declared.shelved.Shelved.{Shelved}
use Rattle.lobby_state.specs.declared.acts.Plan.{Plan}
use Rattle.lobby_state.specs.declared.acts.Plan.TheVariants.{Resume, Ask}
use Rattle.lobby_state.specs.declared.member.Member.{Member}
use Rattle.lobby_state.specs.Holds.{holds}
use Rattle.lobby_state.specs.Lobby.{LobbyState, free_slot, gives, holder_of, is_busy, is_registered, is_session, member_of, named}
use Rattle.lobby_state.specs.Match.{is_queue_full}
use Rattle.lobby_state.specs.Pairing.{is_crowded, needs_partners}
use Rattle.lobby_state.specs.StartPlan.{has_no_desk, no_plan}

-- who asks, whom it names, and which game is meant
pub record Resuming : Type 0 where
  pub caller : Member
  pub other : Member
  pub row : Shelved

-- the stored game of least number that the member and the named player both play in
abbrev pub meant : LobbyState → Option Member → List ℕ → Option Shelved
meant lobby None key = None
meant lobby (Some caller) key = least_of lobby.shelf.games (key_of caller.name) key

-- the three, where all are there
abbrev pub resuming_of : Option Member → Option Member → Option Shelved → Option Resuming
resuming_of (Some caller) (Some other) (Some row) = Some (record { caller = caller; other = other; row = row })
resuming_of _ _ _ = None

-- the member that plays under this name
abbrev pub playing_as : LobbyState → List ℕ → Option Member
playing_as lobby name = holder_of lobby (key_of name)

-- the player of this name is there and asks to resume the game of that number
abbrev pub has_asked_for : LobbyState → ℕ → List ℕ → Bool
has_asked_for lobby number name = holds (λ member. asks lobby.shelf member.session number) (playing_as lobby name)

-- all players of the game but the caller ask to resume it, so that it starts
abbrev pub would_start : LobbyState → Member → Shelved → Bool
would_start lobby caller row =
    list_all (λ name. bytes_eq (key_of name) (key_of caller.name) || has_asked_for lobby row.number name) row.game.names

-- a player can't begin such a game now: it is busy, or gives a simul, whose games are of two
abbrev pub is_held : Variant → Member → Bool
is_held variant member = is_busy member || (needs_partners variant && gives member)

-- one of those who play under these names can't begin such a game now
abbrev pub are_held : LobbyState → Variant → List (List ℕ) → Bool
are_held lobby variant names = list_any (λ name. holds (is_held variant) (playing_as lobby name)) names

-- one of them has 32 places
abbrev pub are_full_up : LobbyState → List (List ℕ) → Bool
are_full_up lobby names = list_any (λ name. holds is_crowded (playing_as lobby name)) names

-- a player in the seat of this name, which is registered where the name has an account by now; nobody sits where the
-- player isn't there
abbrev pub seated_as : List Account → List ℕ → Option Member → Player
seated_as accounts name None = record { session = 0; name = name; registered = false }
seated_as accounts name (Some member) =
    record { session = member.session; name = name; registered = is_registered accounts member }

-- the player of the seat of that number, from 0 on
abbrev pub seat_numbered : LobbyState → List (List ℕ) → ℕ → Player
seat_numbered lobby names number =
    let name = slice_index_or names number [] in seated_as lobby.accounts name (playing_as lobby name)

-- the players of the board whose White has the seat of this number
abbrev pub seats_at_board : LobbyState → List (List ℕ) → ℕ → Opponents
seats_at_board lobby names number =
    record { white = seat_numbered lobby names number; black = seat_numbered lobby names (number + 1) }

-- the second board of a pair
abbrev pub second_of : LobbyState → List (List ℕ) → Variant → Option Opponents
second_of lobby names Bughouse = Some (seats_at_board lobby names 2)
second_of lobby names _ = None

-- the players as they sat
abbrev pub as_they_sat : LobbyState → List (List ℕ) → Variant → Seats
as_they_sat lobby names variant =
    record { first = seats_at_board lobby names 0; second = second_of lobby names variant }

-- the plan of the game at this desk under the next serial
abbrev pub resume_at : LobbyState → Shelved → Option ℕ → Plan
resume_at lobby row None = no_plan
resume_at lobby row (Some slot) =
    Resume (slot + 1) (lobby.started + 1) row.number row.game.terms
    (as_they_sat lobby row.game.names row.game.terms.variant)

-- the game starts at the least free desk: refused where one of its players can't begin it now; where one of them has 32
-- places; and where there is no desk for it
abbrev pub resuming_at : LobbyState → Shelved → Effect LobbyState Plan
resuming_at lobby row = record {
  causes =
      (are_held lobby row.game.terms.variant row.game.names, Playing) ∷
      (are_full_up lobby row.game.names, SimulFull) ∷
      (has_no_desk lobby, NoDesk) ∷ [];
  memory = false;
  reply = resume_at lobby row (free_slot lobby);
  after = lobby;
}

-- the caller asks the other: refused where one of the two can't begin the game now, and where 512 lines wait for the
-- other
abbrev pub asking_to_resume : LobbyState → Member → Member → Shelved → Effect LobbyState Plan
asking_to_resume lobby caller other row = record {
  causes =
      (is_held row.game.terms.variant caller || is_held row.game.terms.variant other, Playing) ∷
      (is_queue_full other, QueueFull) ∷ [];
  memory = false;
  reply = Ask caller.session other.session row.number;
  after = lobby;
}

-- the game of these three: it starts where all its players but the caller ask for it, and else the caller asks the
-- other
abbrev pub resuming : LobbyState → Resuming → Effect LobbyState Plan
resuming lobby r =
    cond (would_start lobby r.caller r.row) (resuming_at lobby r.row) (asking_to_resume lobby r.caller r.other r.row)

-- why these three can't resume, and the plan, where all are there
abbrev pub resuming_causes : LobbyState → Option Resuming → List Cause
resuming_causes lobby None = []
resuming_causes lobby (Some r) = (resuming lobby r).causes

abbrev pub resuming_plan : LobbyState → Option Resuming → Plan
resuming_plan lobby None = no_plan
resuming_plan lobby (Some r) = (resuming lobby r).reply

-- a Resume is refused where the session isn't a member; where nobody has the handle, or that member is going; where it
-- is the session itself; where no stored game has both among its players; and where the game can't start, or the other
-- can't be asked. Whether it would start is decided first
abbrev pub resume_effect : LobbyState → ℕ → List ℕ → Effect LobbyState Plan
resume_effect lobby session key =
    let caller = member_of lobby session in
    let other = named lobby key in
    let row = meant lobby caller key in
    let r = resuming_of caller other row in
    record {
      causes =
          (is_none caller, NotIn) ∷
          (is_none other, NoSuchPlayer) ∷
          (holds (is_session session) other, BadOpponent) ∷
          (is_none row, NoStored) ∷
          resuming_causes lobby r;
      memory = false;
      reply = resuming_plan lobby r;
      after = lobby;
    }
