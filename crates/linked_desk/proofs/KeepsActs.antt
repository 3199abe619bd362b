-- What each act at a desk keeps, in one table; and what follows for a desk, whatever the act.
use Rattle.std.proofs.Common.{◌≡◌, ◌≢◌, ◌≤◌, ◌^◌, ℕ, ◌==◌, Bool, true, false, if◌then◌else◌, [], Option, Some, None, refl, sym, ap, ◌∙◌}
use Rattle.fics_words.specs.Effect.{Effect, NoneHolds, first_cause, answered, state_of, unless}
use Rattle.fics_words.specs.declared.refusal.Refusal.{Refusal}
use Rattle.linked_desk.specs.declared.acts.DeskAct.{DeskAct}
use Rattle.linked_desk.specs.declared.acts.DeskAct.TheVariants as act
use Rattle.linked_desk.specs.declared.acts.DeskReply.{DeskReply}
use Rattle.linked_desk.specs.Acts.{FitsDeskAct, game_effect, missing_effect, at_desk, effect_by, desk_effect, desk_answer, desk_after, needs_memory, items_told}
use Rattle.linked_desk.specs.Desk.{GameState, DeskState, occupant_of}
use Rattle.linked_desk.specs.Sound.{HasSoundGame, TellsWinners, AnswersSoundly}
use Rattle.fics_words.proofs.Causes.{none_holds}
use Rattle.linked_desk.proofs.Keeps.{Keeps}
use Rattle.linked_desk.proofs.KeepsAcceptOffer.{Keeps-accept_effect}
use Rattle.linked_desk.proofs.KeepsAcked.{Keeps-acked_effect}
use Rattle.linked_desk.proofs.KeepsDeclineOffer.{Keeps-decline_effect}
use Rattle.linked_desk.proofs.KeepsFetch.{Keeps-fetch_effect}
use Rattle.linked_desk.proofs.KeepsFlag.{Keeps-flag_effect}
use Rattle.linked_desk.proofs.KeepsLeave.{Keeps-leave_effect}
use Rattle.linked_desk.proofs.KeepsMake.{Keeps-make_effect}
use Rattle.linked_desk.proofs.KeepsMove.{Keeps-move_effect}
use Rattle.linked_desk.proofs.KeepsRemark.{Keeps-remark_effect}
use Rattle.linked_desk.proofs.KeepsResign.{Keeps-resign_effect}
use Rattle.linked_desk.proofs.KeepsShow.{Keeps-show_effect}
use Rattle.linked_desk.proofs.KeepsWatch.{Keeps-watch_effect, Keeps-unwatch_effect}

-- the table of the acts
pub Keeps-game_effect : (desk : ℕ) (g : GameState) (session moment : ℕ) (a : DeskAct)
    → Keeps g moment (FitsDeskAct a) (needs_memory a) (game_effect desk g session moment a)
Keeps-game_effect desk g session moment (act.Move word stamp) = Keeps-move_effect desk g session moment word stamp
Keeps-game_effect desk g session moment (act.Acked stamp) = Keeps-acked_effect g session moment stamp
Keeps-game_effect desk g session moment (act.Make offer) = Keeps-make_effect desk g session moment offer
Keeps-game_effect desk g session moment act.Accept = Keeps-accept_effect desk g session moment
Keeps-game_effect desk g session moment act.Decline = Keeps-decline_effect g session moment
Keeps-game_effect desk g session moment act.Resign = Keeps-resign_effect desk g session moment
Keeps-game_effect desk g session moment act.Flag = Keeps-flag_effect desk g session moment
Keeps-game_effect desk g session moment act.Fetch = Keeps-fetch_effect g session moment
Keeps-game_effect desk g session moment act.Leave = Keeps-leave_effect desk g session moment
Keeps-game_effect desk g session moment act.Watch = Keeps-watch_effect desk g session moment
Keeps-game_effect desk g session moment act.Unwatch = Keeps-unwatch_effect g session moment
Keeps-game_effect desk g session moment act.Show = Keeps-show_effect desk g moment
Keeps-game_effect desk g session moment (act.Remark text) = Keeps-remark_effect g session moment text

-- what an act keeps of a desk: its number, who plays there, a sound game, and what it tells
pub record KeepsDesk (d : DeskState) (moment : ℕ) (fits : Type 0) (needs : Bool)
    (effect : Effect DeskState DeskReply) : Type 0 where
  pub number : effect.after.number ≡ d.number
  pub players : occupant_of effect.after ≡ occupant_of d
  pub sound : moment ≤ 2 ^ 48 → fits → NoneHolds effect.causes → HasSoundGame d → HasSoundGame effect.after
  pub tells : HasSoundGame d → TellsWinners effect.reply
  pub memory : effect.memory ≡ true → needs ≡ true

KeepsDesk-missing : (d : DeskState) (moment : ℕ) (fits : Type 0) (memory : Bool) (a : DeskAct)
    → KeepsDesk d moment fits memory (missing_effect d a)
KeepsDesk-missing d moment fits memory a =
    record { number = refl; players = refl; sound = λ t f p s. s; tells = λ s. tt; memory = λ e. absurd cc }

KeepsDesk-at_desk : (number : ℕ) (g : GameState) (moment : ℕ) (fits : Type 0) (memory : Bool)
    (effect : Effect GameState DeskReply)
    → Keeps g moment fits memory effect →
    KeepsDesk (record {
      number = number;
      game = Some g;
    }) moment fits memory (at_desk (record { number = number; game = Some g }) effect)
KeepsDesk-at_desk number g moment fits memory effect k = record {
  number = refl;
  players = ap Some k.step.players;
  sound = λ timely fits passed s. k.step.sound (timely, fits, passed) s;
  tells = k.tells;
  memory = λ e. sym k.memory ∙ e;
}

KeepsDesk-either : (b : Bool) (d : DeskState) (moment : ℕ) (fits : Type 0) (memory : Bool)
    (one another : Effect DeskState DeskReply)
    → KeepsDesk d moment fits memory one →
    KeepsDesk d moment fits memory another → KeepsDesk d moment fits memory (if b then one else another)
KeepsDesk-either true d moment fits memory one another k l = k
KeepsDesk-either false d moment fits memory one another k l = l

KeepsDesk-effect_by : (number : ℕ) (game : Option GameState) (session moment serial : ℕ) (a : DeskAct) →
    KeepsDesk (record {
      number = number;
      game = game;
    }) moment (FitsDeskAct a) (needs_memory a)
    (effect_by (record { number = number; game = game }) game session moment serial a)
KeepsDesk-effect_by number None session moment serial a =
    KeepsDesk-missing (record { number = number; game = None }) moment (FitsDeskAct a) (needs_memory a) a
KeepsDesk-effect_by number (Some g) session moment serial a =
    let d : DeskState = record { number = number; game = Some g } in
    KeepsDesk-either (g.serial == serial) d moment (FitsDeskAct a) (needs_memory a)
    (at_desk d (game_effect number g session moment a)) (missing_effect d a)
    (KeepsDesk-at_desk number g moment (FitsDeskAct a) (needs_memory a) (game_effect number g session moment a)
    (Keeps-game_effect number g session moment a))
    (KeepsDesk-missing d moment (FitsDeskAct a) (needs_memory a) a)

pub KeepsDesk-desk_effect : (d : DeskState) (session moment serial : ℕ) (a : DeskAct)
    → KeepsDesk d moment (FitsDeskAct a) (needs_memory a) (desk_effect d session moment serial a)
KeepsDesk-desk_effect d session moment serial a = KeepsDesk-effect_by d.number d.game session moment serial a

-- what stands after an act is parted into refused and carried out here alone
after_by : (P : DeskState → Type 0) (refused : Option Refusal) (old new : DeskState) → P old → (refused ≡ None → P new)
    → P (unless refused old new)
after_by P None old new h step = step refl
after_by P (Some cause) old new h step = h

holds_after : (P : DeskState → Type 0) (d : DeskState) (effect : Effect DeskState DeskReply) → P d
    → (NoneHolds effect.causes → P effect.after) → P (state_of d effect)
holds_after P d effect h step =
    after_by P (first_cause effect.causes) d effect.after h (λ none. step (none_holds effect.causes none))

soundly-answered : (refused : Option Refusal) (reply : DeskReply) → TellsWinners reply
    → AnswersSoundly (answered refused reply)
soundly-answered None reply h = h
soundly-answered (Some cause) reply h = tt

-- after an act the desk has its number
pub number-desk_after : (d : DeskState) (session moment serial : ℕ) (a : DeskAct)
    → (desk_after d session moment serial a).number ≡ d.number
number-desk_after d session moment serial a =
    holds_after (λ (e : DeskState). e.number ≡ d.number) d (desk_effect d session moment serial a) refl
    (λ _. (KeepsDesk-desk_effect d session moment serial a).number)

-- those who play there
pub players-desk_after : (d : DeskState) (session moment serial : ℕ) (a : DeskAct)
    → occupant_of (desk_after d session moment serial a) ≡ occupant_of d
players-desk_after d session moment serial a =
    holds_after (λ (e : DeskState). occupant_of e ≡ occupant_of d) d (desk_effect d session moment serial a) refl
    (λ _. (KeepsDesk-desk_effect d session moment serial a).players)

-- and a sound game, if it had one
pub sound-desk_after : (d : DeskState) (session moment serial : ℕ) (a : DeskAct) → moment ≤ 2 ^ 48 → FitsDeskAct a
    → HasSoundGame d →
    HasSoundGame (desk_after d session moment serial a)
sound-desk_after d session moment serial a timely fits s =
    holds_after HasSoundGame d (desk_effect d session moment serial a) s
    (λ none. (KeepsDesk-desk_effect d session moment serial a).sound timely fits none s)

-- the ends that it answers have their winners
pub sound-desk_answer : (d : DeskState) (session moment serial : ℕ) (a : DeskAct) → HasSoundGame d
    → AnswersSoundly (desk_answer d session moment serial a)
sound-desk_answer d session moment serial a s =
    let effect = desk_effect d session moment serial a in
    soundly-answered (first_cause effect.causes) effect.reply
    ((KeepsDesk-desk_effect d session moment serial a).tells s)

-- an act but a visit, and one that shows boards, is answered without items
pub no_items_at : (desk : ℕ) (g : GameState) (session moment : ℕ) (a : DeskAct) → a ≢ act.Fetch → a ≢ act.Watch
    → a ≢ act.Show →
    items_told (game_effect desk g session moment a).reply ≡ []
no_items_at desk g session moment act.Fetch h k l = absurd (h refl)
no_items_at desk g session moment act.Watch h k l = absurd (k refl)
no_items_at desk g session moment act.Show h k l = absurd (l refl)
no_items_at desk g session moment _ h k l = refl
