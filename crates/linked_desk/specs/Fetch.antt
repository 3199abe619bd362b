-- How a viewer is given the items of a game.
use Rattle.std.specs.Prelude.{ℕ, true, not, is_some, if◌then◌else◌, List, [], ◌∷◌, length, map}
use Rattle.fics_words.specs.Effect.{Effect}
use Rattle.fics_words.specs.declared.refusal.Refusal.TheVariants.{NotWatching}
use Rattle.observer_feed.specs.declared.cursor.Cursor.{Cursor}
use Rattle.observer_feed.specs.Feed.{caught_up, without_viewer}
use Rattle.linked_desk.specs.declared.acts.DeskReply.{DeskReply}
use Rattle.linked_desk.specs.declared.acts.DeskReply.TheVariants.{Items}
use Rattle.linked_desk.specs.Desk.{GameState, is_watching, ahead_of, moment_at}

-- the viewers afterwards: the session has all items, and after the end it is no viewer any more
abbrev pub viewers_after : GameState → ℕ → List Cursor
viewers_after g session =
    if is_some g.ended then without_viewer session g.viewers else map (caught_up session (length g.feed)) g.viewers

-- gives the items past the session's cursor, and says whether the game has ended: refused where it is no viewer
abbrev pub fetch_effect : GameState → ℕ → ℕ → Effect GameState DeskReply
fetch_effect g session moment = record {
  causes = (not (is_watching g session), NotWatching) ∷ [];
  memory = true;
  reply = Items (ahead_of g session) (is_some g.ended);
  after = record g { viewers = viewers_after g session; last = moment_at g moment };
}
