-- What a visit keeps.
use Rattle.std.proofs.Common.{ℕ, true, List, Option, Some, None, All, refl}
use Rattle.std.proofs.lemmas.List.Elements.{All-nil, All-drop}
use Rattle.style12_writer.specs.declared.item.Item.{Item}
use Rattle.observer_feed.specs.declared.cursor.Cursor.{Cursor}
use Rattle.observer_feed.specs.Feed.{cursor_of, past}
use Rattle.linked_desk.specs.Desk.{GameState}
use Rattle.linked_desk.specs.Fetch.{fetch_effect, viewers_after}
use Rattle.linked_desk.specs.Sound.{NamesWinner}
use Rattle.linked_desk.proofs.Keeps.{Keeps, viewers_follow}

names_past : (feed : List Item) (cursor : Option Cursor) → All NamesWinner feed → All NamesWinner (past feed cursor)
names_past feed None h = All-nil NamesWinner
names_past feed (Some cursor) h = All-drop NamesWinner cursor.seen feed h

pub Keeps-fetch_effect : (g : GameState) (session moment : ℕ)
    → Keeps g moment (Unit {0}) true (fetch_effect g session moment)
Keeps-fetch_effect g session moment = record {
  step = viewers_follow g moment (λ c. c.0) (viewers_after g session);
  tells = λ s. names_past g.feed (cursor_of g.viewers session) s.winners;
  memory = refl;
}
