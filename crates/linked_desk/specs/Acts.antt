-- All acts at a desk in one table: what each does, by the desk before, the session, the moment, the serial that the act
-- names, and the act. This server's own.
use Rattle.std.specs.Prelude.{ℕ, ◌==◌, true, false, Bool, if◌then◌else◌, IfSome, List, [], ◌∷◌, Option, Some, None, Result}
use Rattle.clock_ledger.specs.Span.{IsStamp}
use Rattle.fics_words.specs.Effect.{Cause, Effect, answer_of, state_of}
use Rattle.fics_words.specs.declared.refusal.Refusal.{Refusal}
use Rattle.fics_words.specs.declared.refusal.Refusal.TheVariants.{NoSuchGame, NotPlaying, NotWatching}
use Rattle.style12_writer.specs.declared.item.Item.{Item}
use Rattle.linked_desk.specs.declared.acts.DeskAct.{DeskAct}
use Rattle.linked_desk.specs.declared.acts.DeskAct.TheVariants as act
use Rattle.linked_desk.specs.declared.acts.DeskReply.{DeskReply}
use Rattle.linked_desk.specs.declared.acts.DeskReply.TheVariants.{Done, Items}
use Rattle.linked_desk.specs.Acked.{acked_effect}
use Rattle.linked_desk.specs.AcceptOffer.{accept_effect}
use Rattle.linked_desk.specs.DeclineOffer.{decline_effect}
use Rattle.linked_desk.specs.Desk.{GameState, DeskState}
use Rattle.linked_desk.specs.Fetch.{fetch_effect}
use Rattle.linked_desk.specs.Flag.{flag_effect}
use Rattle.linked_desk.specs.Leave.{leave_effect}
use Rattle.linked_desk.specs.Make.{make_effect}
use Rattle.linked_desk.specs.Playing.{move_effect}
use Rattle.linked_desk.specs.Remark.{remark_effect}
use Rattle.linked_desk.specs.Resign.{resign_effect}
use Rattle.linked_desk.specs.Show.{show_effect}
use Rattle.linked_desk.specs.Watch.{unwatch_effect, watch_effect}

-- the condition on the numbers of an act: a client's stamp is below 10,000,000
abbrev pub FitsDeskAct : DeskAct → Type 0
FitsDeskAct (act.Move word stamp) = IfSome stamp IsStamp
FitsDeskAct (act.Acked stamp) = IsStamp stamp
FitsDeskAct _ = Unit {0}

-- what an act does at a game
abbrev pub game_effect : ℕ → GameState → ℕ → ℕ → DeskAct → Effect GameState DeskReply
game_effect desk g session moment (act.Move word stamp) = move_effect desk g session moment word stamp
game_effect desk g session moment (act.Acked stamp) = acked_effect g session moment stamp
game_effect desk g session moment (act.Make offer) = make_effect desk g session moment offer
game_effect desk g session moment act.Accept = accept_effect desk g session moment
game_effect desk g session moment act.Decline = decline_effect g session moment
game_effect desk g session moment act.Resign = resign_effect desk g session moment
game_effect desk g session moment act.Flag = flag_effect desk g session moment
game_effect desk g session moment act.Fetch = fetch_effect g session moment
game_effect desk g session moment act.Leave = leave_effect desk g session moment
game_effect desk g session moment act.Watch = watch_effect desk g session moment
game_effect desk g session moment act.Unwatch = unwatch_effect g session moment
game_effect desk g session moment act.Show = show_effect desk g moment
game_effect desk g session moment (act.Remark text) = remark_effect g session moment text

-- why an act is refused that names a game which isn't at the desk: there a session neither plays nor watches, and
-- has left, and who wants to look on finds no such game
abbrev pub missing_causes : DeskAct → List Cause
missing_causes act.Fetch = (true, NotWatching) ∷ []
missing_causes act.Leave = []
missing_causes act.Watch = (true, NoSuchGame) ∷ []
missing_causes act.Unwatch = (true, NotWatching) ∷ []
missing_causes act.Show = (true, NoSuchGame) ∷ []
missing_causes (act.Remark text) = (true, NoSuchGame) ∷ []
missing_causes _ = (true, NotPlaying) ∷ []

-- what such an act does: nothing
abbrev pub missing_effect : DeskState → DeskAct → Effect DeskState DeskReply
missing_effect d a = record { causes = missing_causes a; memory = false; reply = Done; after = d }

-- what happens at the game of a desk, as it happens at the desk
abbrev pub at_desk : DeskState → Effect GameState DeskReply → Effect DeskState DeskReply
at_desk d effect =
    record {
      causes = effect.causes;
      memory = effect.memory;
      reply = effect.reply;
      after = record d { game = Some effect.after };
    }

-- what an act does where this game, or none, is at the desk
abbrev pub effect_by : DeskState → Option GameState → ℕ → ℕ → ℕ → DeskAct → Effect DeskState DeskReply
effect_by d None session moment serial a = missing_effect d a
effect_by d (Some g) session moment serial a =
    if g.serial == serial then at_desk d (game_effect d.number g session moment a) else missing_effect d a

-- what an act does at a desk
abbrev pub desk_effect : DeskState → ℕ → ℕ → ℕ → DeskAct → Effect DeskState DeskReply
desk_effect d session moment serial a = effect_by d d.game session moment serial a

-- the answer of a desk to an act
abbrev pub desk_answer : DeskState → ℕ → ℕ → ℕ → DeskAct → Result DeskReply Refusal
desk_answer d session moment serial a = answer_of (desk_effect d session moment serial a)

-- the desk after an act
abbrev pub desk_after : DeskState → ℕ → ℕ → ℕ → DeskAct → DeskState
desk_after d session moment serial a = state_of d (desk_effect d session moment serial a)

-- whether an act may run out of memory: a move, whose board is told, a visit, whose items are copied, what is told of
-- offers, and what shows boards or adds a viewer or an item
abbrev pub needs_memory : DeskAct → Bool
needs_memory (act.Move word stamp) = true
needs_memory (act.Make offer) = true
needs_memory act.Accept = true
needs_memory act.Decline = true
needs_memory act.Fetch = true
needs_memory act.Watch = true
needs_memory act.Show = true
needs_memory (act.Remark text) = true
needs_memory _ = false

-- the items that a reply gives
abbrev pub items_told : DeskReply → List Item
items_told (Items items over) = items
items_told Done = []
