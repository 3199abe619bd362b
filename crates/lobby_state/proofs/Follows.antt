-- What a lobby that acts of members lead to has of the one before: steps of one kind, one after the other.
use Rattle.std.proofs.Common.{◌≡◌, ℕ, Bool, List, Option, None, Some, filter, refl, sym, ap, subst, ◌∙◌}
use Rattle.std.specs.Prelude.{All}
use Rattle.channel_feed.specs.declared.channels.Membership.{Membership}
use Rattle.fics_words.specs.declared.account.Account.{Account}
use Rattle.lobby_shelf.specs.declared.order.Order.{Order}
use Rattle.lobby_shelf.specs.declared.shelved.Shelved.{Shelved}
use Rattle.tables.specs.Rows.{change_first}
use Rattle.lobby_state.specs.declared.member.Member.{Member}
use Rattle.lobby_state.specs.Broadcast.{broadcast}
use Rattle.lobby_state.specs.Lobby.{LobbyState}
use Rattle.lobby_state.specs.Match.{member_with_line}
use Rattle.lobby_state.specs.Places.{PlaceList}
use Rattle.lobby_state.specs.WaitingLines.{BeginsWith}
use Rattle.lobby_state.specs.WellFormed.{AreChallengesOf, ArePartnersOf, AreSeeksOf, IsSeatOf, IsWellFormed, sessions_in}
use Rattle.lobby_state.proofs.Broadcasting.{IsWellFormed-broadcast}
use Rattle.lobby_state.proofs.ChallengeRows.{AreChallengesOf-filter}
use Rattle.lobby_state.proofs.LinesKept.{Kept, begins_same, begins_then, kept_broadcast, kept_change, one_line}
use Rattle.lobby_state.proofs.WellFormed.{member_changed, with_challenges, with_channels, with_partners, with_seeks}
use Rattle.partner_link.specs.Partners.{PartnerLists}
use Rattle.seek_match.specs.declared.challenge.Challenge.{Challenge}
use Rattle.seek_match.specs.declared.seek.Seek.{Seek}

-- what a store is to hold, which are the accounts and the stored games, and the orders that stand
abbrev pub ForStore : Type 0
ForStore = List Account × List Shelved × List Order

abbrev pub for_store : LobbyState → ForStore
for_store lobby = (lobby.accounts, lobby.shelf.games, lobby.shelf.orders)

-- under these conditions the new lobby is well-formed where the old one is; each desk is in use for the game for which
-- it was; the lines that waited for a member are the first that do; and where nothing is said to a store it is to hold
-- the same
pub record Follows (conditions silent : Type 0) (old new : LobbyState) : Type 0 where
  pub formed : conditions → IsWellFormed old → IsWellFormed new
  pub games : new.games ≡ old.games
  pub lines : (session : ℕ) → Kept session old.members new.members
  pub store : silent → for_store new ≡ for_store old

-- nothing changes
pub stays : {conditions silent : Type 0} {lobby : LobbyState} → Follows conditions silent lobby lobby
stays = record { formed = λ _ h. h; games = refl; lines = λ _. begins_same _; store = λ _. refl }

-- one step is made after the other
pub and_then : {conditions silent : Type 0} {one two three : LobbyState} → Follows conditions silent one two
    → Follows conditions silent two three
    → Follows conditions silent one three
and_then first second = record {
  formed = λ fits h. second.formed fits (first.formed fits h);
  games = second.games ∙ first.games;
  lines = λ session. begins_then _ _ _ (first.lines session) (second.lines session);
  store = λ quiet. second.store quiet ∙ first.store quiet;
}

-- what is done with somebody or something that is looked for isn't done where there is none
pub if_there : {conditions silent : Type 0} {lobby : LobbyState} {X : Type 0} (after : Option X → LobbyState)
    (found : Option X)
    → Follows conditions silent lobby (after None)
    → ((x : X) → found ≡ Some x → Follows conditions silent lobby (after (Some x)))
    → Follows conditions silent lobby (after found)
if_there after None none some = none
if_there after (Some x) none some = some x refl

-- ---- members

-- what the other lists of a lobby know of a member
abbrev pub KnownAs : Type 0
KnownAs = ℕ × List ℕ × PlaceList

abbrev pub known : Member → KnownAs
known member = (member.session, member.name, member.places)

-- the member is known as it was, and its lines begin with those that it had
pub record Alike (old new : Member) : Type 0 where
  pub same : known new ≡ known old
  pub lines : BeginsWith old.waiting new.waiting

-- one member is changed
pub changed : {conditions silent : Type 0} (lobby : LobbyState) (test : Member → Bool) (change : Member → Member)
    → ((m : Member) → Alike m (change m))
    → Follows conditions silent lobby (record lobby { members = change_first test change lobby.members })
changed lobby test change alike = record {
  formed = λ _ h.
      member_changed lobby test change (λ m. ap (λ (k : KnownAs). k.0) (alike m).same)
      (λ m. ap (λ (k : KnownAs). k.1) (alike m).same)
      (λ m seats. subst (λ (k : KnownAs). All (IsSeatOf lobby.games k.0) k.2.rows) (sym (alike m).same) seats) h;
  games = refl;
  lines = λ session.
      kept_change test change
      (λ m. record { session = ap (λ (k : KnownAs). k.0) (alike m).same; lines = (alike m).lines }) session
      lobby.members;
  store = λ _. refl;
}

-- one member is told a line
pub one_told : {conditions silent : Type 0} {lobby : LobbyState} (test : Member → Bool) (line : List ℕ)
    → Follows conditions silent lobby
    (record lobby { members = change_first test (member_with_line line) lobby.members })
one_told test line =
    changed _ test (member_with_line line) (λ m. record { same = refl; lines = (one_line line m).lines })

-- all are who pass a test
pub all_told : {conditions silent : Type 0} {lobby : LobbyState} (test : Member → Bool) (line : List ℕ)
    → Follows conditions silent lobby (record lobby { members = broadcast test line lobby.members })
all_told test line = record {
  formed = λ _ h. IsWellFormed-broadcast _ test line h;
  games = refl;
  lines = λ session. kept_broadcast test line session _;
  store = λ _. refl;
}

-- ---- the other lists

module _ {conditions silent : Type 0} (lobby : LobbyState) where
  pub other_challenges : (challenges : List Challenge)
      → (conditions → IsWellFormed lobby → AreChallengesOf (sessions_in lobby.members) challenges)
      → Follows conditions silent lobby (record lobby { challenges = challenges })
  other_challenges challenges are =
      record {
        formed = λ fits h. with_challenges lobby challenges (are fits h) h;
        games = refl;
        lines = λ _. begins_same _;
        store = λ _. refl;
      }

  pub fewer_challenges : (test : Challenge → Bool)
      → Follows conditions silent lobby (record lobby { challenges = filter test lobby.challenges })
  fewer_challenges test =
      other_challenges (filter test lobby.challenges)
      (λ _ h. AreChallengesOf-filter (sessions_in lobby.members) test lobby.challenges h.challenges)

  pub other_seeks : (seeks : List Seek)
      → (conditions → IsWellFormed lobby → AreSeeksOf (sessions_in lobby.members) seeks)
      → Follows conditions silent lobby (record lobby { seeks = seeks })
  other_seeks seeks are =
      record {
        formed = λ fits h. with_seeks lobby seeks (are fits h) h;
        games = refl;
        lines = λ _. begins_same _;
        store = λ _. refl;
      }

  pub other_partners : (partners : PartnerLists)
      → (conditions → IsWellFormed lobby → ArePartnersOf (sessions_in lobby.members) partners)
      → Follows conditions silent lobby (record lobby { partners = partners })
  other_partners partners are =
      record {
        formed = λ fits h. with_partners lobby partners (are fits h) h;
        games = refl;
        lines = λ _. begins_same _;
        store = λ _. refl;
      }

  pub other_channels : (channels : List Membership)
      → Follows conditions silent lobby (record lobby { channels = channels })
  other_channels channels =
      record {
        formed = λ _ h. with_channels lobby channels h;
        games = refl;
        lines = λ _. begins_same _;
        store = λ _. refl;
      }
