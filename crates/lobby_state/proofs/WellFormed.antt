-- What leaves a lobby well-formed that was.
use Rattle.std.proofs.Common.{◌≡◌, ℕ, ◌+◌, ◌^◌, ◌<◌, ◌≤◌, Bool, List, [], ◌∷◌, Option, None, Some, length, map, filter, refl, sym, ap, subst, ◌∙◌, inl, inr, arith}
use Rattle.std.specs.Prelude.{All, Contains}
use Rattle.std.specs.List.{find}
use Rattle.std.proofs.lemmas.List.{length-map}
use Rattle.std.proofs.lemmas.List.Elements.{All-nil, All-replicate, All-weaker, All-head, All-tail}
use Rattle.channel_feed.specs.declared.channels.Membership.{Membership}
use Rattle.fics_words.specs.Handle.{key_of}
use Rattle.seek_match.specs.declared.challenge.Challenge.{Challenge}
use Rattle.tables.specs.Rows.{change_first}
use Rattle.lobby_state.specs.declared.game.ListedGame.{ListedGame}
use Rattle.lobby_state.specs.declared.member.Member.{Member}
use Rattle.lobby_state.specs.Places.{AreAtDesks}
use Rattle.lobby_state.specs.Desks.{IsDesk, desks}
use Rattle.lobby_state.specs.Lobby.{LobbyState, most_members, opening, is_session, member_of, places_in, places_of}
use Rattle.lobby_state.specs.WellFormed.{IsWellFormed, IsBetweenMembers, AreChallengesOf, IsByMember, AreSeeksOf, AreCounted, IsShelfOf, IsAskedByMember, IsLinkOfMembers, ArePartnersOf, IsSeatOf, IsStarted, HasSeats, sessions_in}
use Rattle.lobby_state.proofs.Lists.{map-change_first_same, All-change_first, AllPairs-same, find-step}
use Rattle.lobby_state.proofs.ChallengeRows.{AreChallengesOf-filter}
use Rattle.lobby_state.proofs.SeekRows.{AreSeeksOf-filter, has_numbers_left}
use Rattle.seek_match.specs.declared.seek.Seek.{Seek}
use Rattle.partner_link.specs.Partners.{PartnerLists}
use Rattle.lobby_shelf.specs.Shelf.{ShelfState}
use Rattle.lobby_shelf.specs.declared.request.Request.{Request}
use Rattle.lobby_shelf.proofs.Keeping.{IsShelf-empty}
use Rattle.lobby_state.proofs.ShelfRows.{IsShelfOf-fewer}

-- lists that show the same are of one length
length-kept : {X Y : Type 0} (g : X → Y) (xs ys : List X) → map g xs ≡ map g ys → length xs ≡ length ys
length-kept g xs ys e = sym (length-map xs g) ∙ ap length e ∙ length-map ys g

-- the lobby has other members and challenges, where sessions and handles are those of before
pub kept : (lobby : LobbyState) (members : List Member) (challenges : List Challenge) (games : List (Option ListedGame))
    (started : ℕ) (shelf : ShelfState)
    → map (λ m. m.session) members ≡ map (λ m. m.session) lobby.members
    → map (λ m. key_of m.name) members ≡ map (λ m. key_of m.name) lobby.members
    → AreChallengesOf (sessions_in lobby.members) challenges
    → length games ≡ desks → All (IsStarted started) games → All (HasSeats games) members
    → IsShelfOf (sessions_in lobby.members) shelf → AreCounted lobby.accounts games started shelf
    → IsWellFormed lobby
    → IsWellFormed
    (record lobby { members = members; challenges = challenges; games = games; started = started; shelf = shelf })
kept lobby members challenges games started shelf sessions keys stand long serials places stored counted h = record {
  accounts = h.accounts;
  sessions = AllPairs-same (λ m. m.session) lobby.members members sessions h.sessions;
  handles = AllPairs-same (λ m. key_of m.name) lobby.members members keys h.handles;
  hall = subst (λ (n : ℕ). n ≤ most_members) (sym (length-kept (λ m. m.session) members lobby.members sessions)) h.hall;
  challenges = subst (λ (ss : List ℕ). AreChallengesOf ss challenges) (sym sessions) stand;
  seeks = subst (λ (ss : List ℕ). AreSeeksOf ss lobby.seeks) (sym sessions) h.seeks;
  partners = subst (λ (ss : List ℕ). ArePartnersOf ss lobby.partners) (sym sessions) h.partners;
  games = long;
  serials = serials;
  places = places;
  shelf = subst (λ (ss : List ℕ). IsShelfOf ss shelf) (sym sessions) stored;
  counted = counted;
}

-- one member changes, but not its session nor its name, and what places it has then are seats
pub member_changed : (lobby : LobbyState) (test : Member → Bool) (change : Member → Member)
    → ((m : Member) → (change m).session ≡ m.session) → ((m : Member) → (change m).name ≡ m.name)
    → ((m : Member) → HasSeats lobby.games m → HasSeats lobby.games (change m))
    → IsWellFormed lobby → IsWellFormed (record lobby { members = change_first test change lobby.members })
member_changed lobby test change session name seats h =
    kept lobby (change_first test change lobby.members) lobby.challenges lobby.games lobby.started lobby.shelf
    (map-change_first_same (λ m. m.session) test change session lobby.members)
    (map-change_first_same (λ m. key_of m.name) test change (λ m. ap key_of (name m)) lobby.members)
    h.challenges h.games h.serials
    (All-change_first (HasSeats lobby.games) test change seats lobby.members h.places) h.shelf h.counted h

-- there are other challenges
pub with_challenges : (lobby : LobbyState) (challenges : List Challenge)
    → AreChallengesOf (sessions_in lobby.members) challenges → IsWellFormed lobby
    → IsWellFormed (record lobby { challenges = challenges })
with_challenges lobby challenges are h = assumption (are, h)

-- some challenges go
pub challenges_gone : (lobby : LobbyState) (test : Challenge → Bool) → IsWellFormed lobby
    → IsWellFormed (record lobby { challenges = filter test lobby.challenges })
challenges_gone lobby test h =
    with_challenges lobby (filter test lobby.challenges)
    (AreChallengesOf-filter (sessions_in lobby.members) test lobby.challenges h.challenges) h

-- there are at most as many sessions as members
pub members_few : (lobby : LobbyState) → IsWellFormed lobby → length (sessions_in lobby.members) ≤ 256
members_few lobby h = omega (arith, length-map lobby.members (λ (m : Member). m.session), h.hall)

-- there is always a number left for a seek
pub has_number_left : (lobby : LobbyState) → IsWellFormed lobby → length lobby.seeks < 65535
has_number_left lobby h = has_numbers_left (sessions_in lobby.members) lobby.seeks (members_few lobby h) h.seeks

-- there are other seeks
pub with_seeks : (lobby : LobbyState) (seeks : List Seek) → AreSeeksOf (sessions_in lobby.members) seeks
    → IsWellFormed lobby
    → IsWellFormed (record lobby { seeks = seeks })
with_seeks lobby seeks are h = assumption (are, h)

-- some seeks go
pub seeks_gone : (lobby : LobbyState) (test : Seek → Bool) → IsWellFormed lobby
    → IsWellFormed (record lobby { seeks = filter test lobby.seeks })
seeks_gone lobby test h =
    with_seeks lobby (filter test lobby.seeks) (AreSeeksOf-filter (sessions_in lobby.members) test lobby.seeks h.seeks)
    h

-- others are in the channels
pub with_channels : (lobby : LobbyState) (channels : List Membership) → IsWellFormed lobby
    → IsWellFormed (record lobby { channels = channels })
with_channels lobby channels h = assumption h

-- there are other requests and links of partners
pub with_partners : (lobby : LobbyState) (partners : PartnerLists) → ArePartnersOf (sessions_in lobby.members) partners
    → IsWellFormed lobby
    → IsWellFormed (record lobby { partners = partners })
with_partners lobby partners are h = assumption (are, h)

-- some requests to resume go
pub resumes_gone : (lobby : LobbyState) (test : Request → Bool) → IsWellFormed lobby
    → IsWellFormed (record lobby { shelf = record lobby.shelf { requests = filter test lobby.shelf.requests } })
resumes_gone lobby test h = assumption (IsShelfOf-fewer (sessions_in lobby.members) lobby.shelf test h.shelf, h)

-- another save order can be made
pub one_more_order : (lobby : LobbyState) → IsWellFormed lobby → lobby.shelf.made + 1 < 2 ^ 64
one_more_order lobby h =
    let most = h.accounts.1 in
    let started = h.counted.few in
    let orders = h.counted.orders in
    omega (arith, most, started, orders)

pub IsWellFormed-opening : IsWellFormed opening
IsWellFormed-opening = record {
  accounts = (tt, omega arith);
  hall = omega arith;
  sessions = λ i j d before inside. absurd (omega arith);
  handles = λ i j d before inside. absurd (omega arith);
  challenges = record { pairs = tt; members = All-nil (IsBetweenMembers []) };
  seeks = record { numbers = tt; members = All-nil (IsByMember []); few = λ session. omega arith };
  partners = record { requests = All-nil (IsAskedByMember []); links = All-nil (IsLinkOfMembers []); apart = tt };
  games = refl;
  serials = All-replicate (IsStarted 0) 128 None tt;
  places = All-nil (HasSeats opening.games);
  shelf = record { sound = IsShelf-empty; members = All-nil (λ request. Contains [] request.by) };
  counted = record { few = omega arith; room = omega arith; orders = omega arith };
}

-- what was found in a list has what each item has
pub find-has : {X : Type 0} (P : X → Type 0) (p : X → Bool) (xs : List X) (y : X) → All P xs → find p xs ≡ Some y → P y
find-has P p [] y h e = cc
find-has P p (x ∷ xs) y h e = elim (find-step (p x) x y (find p xs) e) [
  | inl here ↦ subst P here.1 (All-head P x xs h)
  | inr later ↦ find-has P p xs y (All-tail P x xs h) later
]

-- the places of a member are at desks, and nobody has no places
found_at_desks : (lobby : LobbyState) (session : ℕ) (found : Option Member) → member_of lobby session ≡ found
    → IsWellFormed lobby
    → AreAtDesks (places_in found).rows
found_at_desks lobby session None is h = All-nil (λ place. IsDesk place.desk)
found_at_desks lobby session (Some member) is h =
    All-weaker (IsSeatOf lobby.games member.session) (λ place. IsDesk place.desk) (λ place seat. seat.desk)
    member.places.rows
    (find-has (HasSeats lobby.games) (is_session session) lobby.members member h.places is)

pub places_at_desks : (lobby : LobbyState) (session : ℕ) → IsWellFormed lobby
    → AreAtDesks (places_of lobby session).rows
places_at_desks lobby session h = found_at_desks lobby session (member_of lobby session) refl h
