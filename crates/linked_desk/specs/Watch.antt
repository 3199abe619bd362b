-- How a session becomes a viewer of a game, and how an observer ceases to be one. This server's own.
use Rattle.std.specs.Prelude.{ℕ, true, false, not, is_some, [], ◌∷◌, ◌++◌, length}
use Rattle.fics_words.specs.Effect.{Effect}
use Rattle.fics_words.specs.declared.refusal.Refusal.TheVariants.{AlreadyWatching, NotWatching}
use Rattle.linked_desk.specs.declared.acts.DeskReply.{DeskReply}
use Rattle.linked_desk.specs.declared.acts.DeskReply.TheVariants.{Done, Items}
use Rattle.observer_feed.specs.declared.cursor.Cursor.{Cursor}
use Rattle.linked_desk.specs.Desk.{GameState, is_watching, moment_at, seat_of}
use Rattle.linked_desk.specs.Leave.{unwatched}
use Rattle.linked_desk.specs.Present.{present_boards}

-- a viewer who is told what comes from now on
abbrev pub from_now : GameState → ℕ → Cursor
from_now g session = record { session = session; seen = length g.feed }

-- makes the session a viewer and gives it the boards as they stand: refused where it is one
abbrev pub watch_effect : ℕ → GameState → ℕ → ℕ → Effect GameState DeskReply
watch_effect desk g session moment = record {
  causes = (is_watching g session, AlreadyWatching) ∷ [];
  memory = true;
  reply = Items (present_boards desk g) false;
  after = record g { viewers = g.viewers ++ from_now g session ∷ []; last = moment_at g moment };
}

-- an observer is no viewer any more: refused where the session is none, and where it plays
abbrev pub unwatch_effect : GameState → ℕ → ℕ → Effect GameState DeskReply
unwatch_effect g session moment = record {
  causes = (not (is_watching g session), NotWatching) ∷ (is_some (seat_of g session), NotWatching) ∷ [];
  memory = false;
  reply = Done;
  after = unwatched g session moment;
}
