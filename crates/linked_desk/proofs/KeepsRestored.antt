-- A game that is restored is sound.
use Rattle.std.proofs.Common.{◌≡◌, ◌≤◌, ◌^◌, ℕ, List, Option, Some, None, IfSome, refl, sym, ap, subst}
use Rattle.std.specs.Prelude.{slice_get}
use Rattle.std.specs.Option.{option_map}
use Rattle.fics_words.specs.declared.seats.Seats.{Seats}
use Rattle.game_board.specs.Board.{Board}
use Rattle.game_records.specs.declared.stored_game.StoredGame.{StoredGame}
use Rattle.game_records.specs.Replays.{Replays}
use Rattle.fics_words.specs.Boards.{board_place}
use Rattle.desk_boards.specs.Boards.{latest}
use Rattle.fics_words.specs.declared.board_number.BoardNumber.{BoardNumber}
use Rattle.desk_boards.specs.Halves.{last_board}
use Rattle.desk_boards.specs.Replaying.{replayed}
use Rattle.desk_boards.specs.Sound.{AreSoundBoards, GoOn}
use Rattle.linked_desk.specs.declared.ended.Ended.{Ended}
use Rattle.linked_desk.specs.declared.occasion.Occasion.TheVariants.{Resumption}
use Rattle.linked_desk.specs.Desk.{DeskState, GameState, occupant, occupant_of}
use Rattle.linked_desk.specs.Finish.{end_at}
use Rattle.linked_desk.specs.Restore.{finished_at, restored, game_resumed}
use Rattle.linked_desk.specs.Seating.{AllDiffer, HasPairsFor, MayPlay, game_begun, names_of}
use Rattle.linked_desk.specs.Sound.{HasSoundGame, IsSoundGame, FitsWhy}
use Rattle.linked_desk.proofs.Finishing.{IsSound-with_end, end_on-names, goes_on_at, occupant-finished}
use Rattle.linked_desk.proofs.KeepsStart.{IsSound-begun}
use Rattle.linked_desk.proofs.Restored.{order_replayed}
use Rattle.desk_boards.proofs.Replayed.{replayed_at}
use Rattle.linked_desk.proofs.GoesOnAgain.{GoesOnAt, replayed_go_on}

boards_go_on : (g : StoredGame) (moment : ℕ) (boards : List Board) → Replays g
    → replayed g.terms g.halves moment ≡ Some boards → GoesOnAt boards (last_board g.halves) →
    GoOn boards
boards_go_on g moment boards r is here =
    let at = replayed_at g.terms g.halves moment boards r.spelled.halves.each is in
    replayed_go_on g.terms g.halves boards r.spelled.halves.each r.played at.sound at.made here

-- the terms and players of a stored game
pub may_play : (g : StoredGame) (seats : Seats) → Replays g → HasPairsFor g.terms seats → AllDiffer (names_of seats)
    → MayPlay g.terms seats
may_play g seats r pairs names = record {
  pairs = pairs;
  names = names;
  fit =
      record {
        minutes = r.spelled.terms.minutes;
        increment = r.spelled.terms.increment;
        array = r.spelled.terms.array;
        colour = refl;
      };
}

module _ (desk serial : ℕ) (g : StoredGame) (seats : Seats) (moment : ℕ) (boards : List Board)
    (may : MayPlay g.terms seats) (sound : AreSoundBoards g.terms boards)
    (order : latest boards ≤ moment) (timely : moment ≤ 2 ^ 48) where
  abbrev start : GameState
  start = game_begun Resumption desk serial g.terms seats boards moment

  sound_finished_at : (board : Option BoardNumber) → (GoesOnAt boards board → GoOn boards)
      → IsSoundGame (finished_at desk start moment board)
  sound_finished_at None go =
      IsSound-begun Resumption desk serial g.terms seats boards moment None may sound order timely tt (λ runs. go tt)
  sound_finished_at (Some board) go =
      let end : Option Ended = end_at start board in
      let names : IfSome end (λ e. FitsWhy e.why e.winner) =
      end_on-names board (slice_get boards (board_place board)) in
      IsSound-with_end desk start moment end names timely refl
      (IsSound-begun Resumption desk serial g.terms seats boards moment end may sound order timely names
      (λ none. go (goes_on_at board (slice_get boards (board_place board)) none)))

pub IsSound-resumed : (desk serial : ℕ) (g : StoredGame) (seats : Seats) (moment : ℕ) (boards : List Board) → Replays g
    → HasPairsFor g.terms seats → AllDiffer (names_of seats) →
    moment ≤ 2 ^ 48 → replayed g.terms g.halves moment ≡ Some boards
    → IsSoundGame (game_resumed desk serial g seats moment boards)
IsSound-resumed desk serial g seats moment boards r pairs names timely is =
    sound_finished_at desk serial g seats moment boards (may_play g seats r pairs names)
    (replayed_at g.terms g.halves moment boards r.spelled.halves.each is).sound (order_replayed g moment boards r is)
    timely (last_board g.halves)
    (boards_go_on g moment boards r is)

-- the desk with a game at these boards, if there are any
abbrev with_boards : DeskState → ℕ → StoredGame → Seats → ℕ → Option (List Board) → Option DeskState
with_boards d serial g seats moment found =
    option_map (λ (boards : List Board). record d { game = Some (game_resumed d.number serial g seats moment boards) })
    found

sound_if : (d : DeskState) (serial : ℕ) (g : StoredGame) (seats : Seats) (moment : ℕ) (found : Option (List Board))
    → replayed g.terms g.halves moment ≡ found →
    Replays g → HasPairsFor g.terms seats → AllDiffer (names_of seats) → moment ≤ 2 ^ 48
    → IfSome (restored d serial g seats moment) HasSoundGame
sound_if d serial g seats moment None is r pairs names timely =
    subst (λ (o : Option (List Board)). IfSome (with_boards d serial g seats moment o) HasSoundGame) (sym is) tt
sound_if d serial g seats moment (Some boards) is r pairs names timely =
    subst (λ (o : Option (List Board)). IfSome (with_boards d serial g seats moment o) HasSoundGame) (sym is)
    (IsSound-resumed d.number serial g seats moment boards r pairs names timely is)

pub sound_restored : (d : DeskState) (serial : ℕ) (g : StoredGame) (seats : Seats) (moment : ℕ) → Replays g
    → HasPairsFor g.terms seats → AllDiffer (names_of seats) →
    moment ≤ 2 ^ 48 → IfSome (restored d serial g seats moment) HasSoundGame
sound_restored d serial g seats moment = sound_if d serial g seats moment (replayed g.terms g.halves moment) refl

occupant-finished_at : (desk : ℕ) (g : GameState) (moment : ℕ) (board : Option BoardNumber)
    → occupant (finished_at desk g moment board) ≡ occupant g
occupant-finished_at desk g moment None = refl
occupant-finished_at desk g moment (Some board) = occupant-finished desk g moment board

players_if : (d : DeskState) (serial : ℕ) (g : StoredGame) (seats : Seats) (moment : ℕ) (found : Option (List Board)) →
    IfSome (with_boards d serial g seats moment found)
    (λ e. occupant_of e ≡ Some (record { serial = serial; terms = g.terms; seats = seats }))
players_if d serial g seats moment None = tt
players_if d serial g seats moment (Some boards) =
    ap Some
    (occupant-finished_at d.number (game_begun Resumption d.number serial g.terms seats boards moment) moment
    (last_board g.halves))

pub players_restored : (d : DeskState) (serial : ℕ) (g : StoredGame) (seats : Seats) (moment : ℕ) →
    IfSome (restored d serial g seats moment)
    (λ e. occupant_of e ≡ Some (record { serial = serial; terms = g.terms; seats = seats }))
players_restored d serial g seats moment = players_if d serial g seats moment (replayed g.terms g.halves moment)
