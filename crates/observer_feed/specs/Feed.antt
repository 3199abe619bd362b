-- A feed: what viewers are told is a list of items, and each viewer has a place in it. This server's own.
use Rattle.std.specs.Prelude.{◌≡◌, ℕ, ◌-◌, ◌≤◌, ◌==◌, Bool, true, false, not, if◌then◌else◌, max, List, [], ◌∷◌, ◌++◌, All, drop, length, map, Option, None, Some, is_some, refl}
use Rattle.std.specs.List.{filter, find}
use Rattle.fics_words.specs.Effect.{Effect}
use Rattle.fics_words.specs.declared.refusal.Refusal.TheVariants.{AlreadyWatching, NotWatching}
use Rattle.observer_feed.specs.declared.cursor.Cursor.{Cursor}
use Rattle.observer_feed.specs.declared.cursor.Backlog.{Backlog}
use Rattle.observer_feed.specs.declared.cursor.Backlog.TheVariants.{FromStart, FromNow}

pub record FeedState (T : Type 0) : Type 0 where
  -- what viewers are told, the oldest first
  pub items : List T
  -- the viewers in the order in which they came, each with the number of items that it has been given
  pub viewers : List Cursor
  -- how many items can be added without taking memory
  pub room : ℕ

-- nothing has been told, and there is nobody to be told
abbrev pub empty_feed : {T : Type 0} → FeedState T
empty_feed = record { items = []; viewers = []; room = 0 }

-- the cursor of a session
abbrev pub cursor_of : List Cursor → ℕ → Option Cursor
cursor_of viewers session = find (λ c. c.session == session) viewers

-- whether a session is a viewer
abbrev pub is_viewer : List Cursor → ℕ → Bool
is_viewer viewers session = is_some (cursor_of viewers session)

-- nobody looks on
abbrev pub is_left : List Cursor → Bool
is_left viewers = length viewers == 0

-- the items past a cursor
abbrev pub past : {T : Type 0} → List T → Option Cursor → List T
past items None = []
past items (Some c) = drop c.seen items

-- the items that a session hasn't been given yet
abbrev pub ahead : {T : Type 0} → List T → List Cursor → ℕ → List T
ahead items viewers session = past items (cursor_of viewers session)

-- the place in a feed of so many items at which a viewer begins
abbrev pub first_place : Backlog → ℕ → ℕ
first_place FromStart count = 0
first_place FromNow count = count

-- a cursor, where it is that of this session, moves to a place of the feed
abbrev pub caught_up : ℕ → ℕ → Cursor → Cursor
caught_up session seen c = if c.session == session then record { session = c.session; seen = seen } else c

-- the viewers but this session
abbrev pub without_viewer : ℕ → List Cursor → List Cursor
without_viewer session viewers = filter (λ c. not (c.session == session)) viewers

-- the feed with room for so many items
abbrev pub with_room : {T : Type 0} → ℕ → FeedState T → FeedState T
with_room more feed = record feed { room = max feed.room more }

-- the feed with one item more, which takes one place of the room
abbrev pub with_item : {T : Type 0} → T → FeedState T → FeedState T
with_item x feed = record feed { items = feed.items ++ x ∷ []; room = feed.room - 1 }

-- the feed with what is told of each board of a game: of the first one, and where there is one of the second
abbrev pub with_both : {T : Type 0} → T → Option T → FeedState T → FeedState T
with_both first None feed = with_item first feed
with_both first (Some second) feed = with_item second (with_item first feed)

-- the feed with one viewer more
abbrev pub with_viewer : {T : Type 0} → ℕ → Backlog → FeedState T → FeedState T
with_viewer session told feed =
    record feed
    { viewers = feed.viewers ++ record { session = session; seen = first_place told (length feed.items) } ∷ [] }

-- the feed without that viewer
abbrev pub forgotten : {T : Type 0} → ℕ → FeedState T → FeedState T
forgotten session feed = record feed { viewers = without_viewer session feed.viewers }

-- the feed once that viewer has been given all items
abbrev pub with_all : {T : Type 0} → ℕ → FeedState T → FeedState T
with_all session feed = record feed { viewers = map (caught_up session (length feed.items)) feed.viewers }

-- a session begins to look on: refused where it does
abbrev pub watching : {T : Type 0} → FeedState T → ℕ → Backlog → Effect (FeedState T) (Unit {0})
watching feed session told = record {
  causes = (is_viewer feed.viewers session, AlreadyWatching) ∷ [];
  memory = true;
  reply = tt;
  after = with_viewer session told feed;
}

-- a session ceases to look on: refused where it doesn't look on
abbrev pub unwatching : {T : Type 0} → FeedState T → ℕ → Effect (FeedState T) (Unit {0})
unwatching feed session = record {
  causes = (not (is_viewer feed.viewers session), NotWatching) ∷ [];
  memory = false;
  reply = tt;
  after = forgotten session feed;
}

-- a viewer is given the items that it hasn't been given yet: refused where the session is none
abbrev pub fetching : {T : Type 0} → FeedState T → ℕ → Effect (FeedState T) (List T)
fetching feed session = record {
  causes = (not (is_viewer feed.viewers session), NotWatching) ∷ [];
  memory = true;
  reply = ahead feed.items feed.viewers session;
  after = with_all session feed;
}

-- no session is two viewers
abbrev pub AreOnce : List Cursor → Type 0
AreOnce [] = Unit {0}
AreOnce (c ∷ viewers) = (is_viewer viewers c.session ≡ false) × AreOnce viewers

-- what holds of the viewers of every feed of so many items
pub record ArePlaces (count : ℕ) (viewers : List Cursor) : Type 0 where
  pub once : AreOnce viewers
  -- nobody has been given more items than there are
  pub within : All (λ c. c.seen ≤ count) viewers

-- session 7 came when there was one item, and hasn't been given the two that came later
example_ahead : ahead {T = ℕ} (10 ∷ 20 ∷ 30 ∷ [])
    (record { session = 4; seen = 3 } ∷ record { session = 7; seen = 1 } ∷ []) 7
    ≡ 20 ∷ 30 ∷ []
example_ahead = refl
