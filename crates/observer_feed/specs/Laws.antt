-- What looking on means to viewers.
use Rattle.std.specs.Prelude.{◌≡◌, ◌≢◌, ℕ, ◌==◌, true, false, if◌then◌else◌, List, [], ◌∷◌, ◌++◌}
use Rattle.fics_words.specs.Effect.{state_of}
use Rattle.observer_feed.specs.declared.cursor.Backlog.{Backlog}
use Rattle.observer_feed.specs.declared.cursor.Backlog.TheVariants.{FromStart, FromNow}
use Rattle.observer_feed.specs.Feed.{FeedState, ahead, with_viewer, fetching, forgotten, is_viewer, unwatching, watching, with_item}

-- what is done to a feed: an item is added, or a session begins to look on, ceases to, or fetches
pub data Deed (T : Type 0) : Type 0 where
  Adds : T → Deed T
  Begins : ℕ → Backlog → Deed T
  Ceases : ℕ → Deed T
  Fetches : ℕ → Deed T

-- the feed after it: as it was, where it is refused
abbrev pub after_one : {T : Type 0} → FeedState T → Deed T → FeedState T
after_one feed (Adds x) = with_item x feed
after_one feed (Begins session told) = state_of feed (watching feed session told)
after_one feed (Ceases session) = state_of feed (unwatching feed session)
after_one feed (Fetches session) = state_of feed (fetching feed session)

-- the items that a viewer is given by it
abbrev pub given_by : {T : Type 0} → ℕ → FeedState T → Deed T → List T
given_by viewer feed (Fetches session) = if session == viewer then ahead feed.items feed.viewers session else []
given_by viewer feed _ = []

-- the items that it adds
abbrev pub added_by : {T : Type 0} → Deed T → List T
added_by (Adds x) = x ∷ []
added_by _ = []

-- and so for what is done one after another
abbrev pub after_all : {T : Type 0} → FeedState T → List (Deed T) → FeedState T
after_all feed [] = feed
after_all feed (deed ∷ deeds) = after_all (after_one feed deed) deeds

abbrev pub given_to : {T : Type 0} → ℕ → FeedState T → List (Deed T) → List T
given_to viewer feed [] = []
given_to viewer feed (deed ∷ deeds) = given_by viewer feed deed ++ given_to viewer (after_one feed deed) deeds

abbrev pub added : {T : Type 0} → List (Deed T) → List T
added [] = []
added (deed ∷ deeds) = added_by deed ++ added deeds

-- the viewer doesn't cease to look on
abbrev pub KeepsWatching : {T : Type 0} → ℕ → List (Deed T) → Type 0
KeepsWatching viewer [] = Unit {0}
KeepsWatching viewer (Ceases session ∷ deeds) = (session ≢ viewer) × KeepsWatching viewer deeds
KeepsWatching viewer (_ ∷ deeds) = KeepsWatching viewer deeds

-- a viewer is given each item exactly once and in order, whatever is done and however often it fetches: what it is
-- given, one fetch after another, and what it hasn't been given at the end, are what it hadn't been given at the
-- beginning and then every item that was added
abbrev pub MissesNothing : {T : Type 0} → FeedState T → ℕ → Type 0
MissesNothing {T} feed viewer =
    (deeds : List (Deed T)) → is_viewer feed.viewers viewer ≡ true → KeepsWatching viewer deeds →
    given_to viewer feed deeds ++ ahead (after_all feed deeds).items (after_all feed deeds).viewers viewer
    ≡ ahead feed.items feed.viewers viewer ++ added deeds

-- who begins to look on is a viewer, and is to be given all items or none of those that are there; who ceases is none,
-- and every other session is a viewer exactly where it was
pub record BeginsAndEnds {T : Type 0} (feed : FeedState T) (session : ℕ) : Type 0 where
  pub begins : (told : Backlog) → is_viewer (with_viewer session told feed).viewers session ≡ true
  pub all : is_viewer feed.viewers session ≡ false
      → ahead feed.items (with_viewer session FromStart feed).viewers session ≡ feed.items
  pub none : is_viewer feed.viewers session ≡ false
      → ahead feed.items (with_viewer session FromNow feed).viewers session ≡ []
  pub ends : is_viewer (forgotten session feed).viewers session ≡ false
  pub others_begin : (told : Backlog) (other : ℕ) → other ≢ session
      → is_viewer (with_viewer session told feed).viewers other ≡ is_viewer feed.viewers other
  pub others_end : (other : ℕ) → other ≢ session
      → is_viewer (forgotten session feed).viewers other ≡ is_viewer feed.viewers other
