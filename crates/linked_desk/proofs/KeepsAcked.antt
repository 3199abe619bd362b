-- What an acknowledgement at a desk keeps.
use Rattle.std.proofs.Common.{◌≡◌, ℕ, ◌≤◌, ◌^◌, Bool, true, false, if◌then◌else◌, List, Option, Some, None, refl, arith}
use Rattle.std.specs.Prelude.{is_some}
use Rattle.chess_model.specs.declared.man.Colour.{Colour}
use Rattle.clock_ledger.specs.Span.{IsStamp}
use Rattle.game_board.specs.Acked.{acknowledged}
use Rattle.game_board.specs.Board.{Board}
use Rattle.linked_desk.specs.Acked.{acked_by, acked_effect}
use Rattle.fics_words.specs.Boards.{board_place}
use Rattle.desk_boards.specs.Boards.{latest, boards_acked}
use Rattle.fics_words.specs.declared.board_number.BoardNumber.{BoardNumber}
use Rattle.linked_desk.specs.Desk.{GameState, seat_of, moment_at}
use Rattle.linked_desk.specs.Seats.{board_of, colour_at}
use Rattle.linked_desk.specs.Sound.{IsSoundGame}
use Rattle.desk_boards.proofs.BoardLists.{latest-changed_at}
use Rattle.linked_desk.proofs.Keeps.{Keeps, IsSound-later, timely_at}
use Rattle.desk_boards.proofs.StaySound.{sound_acked, same_acknowledged}
use Rattle.desk_boards.proofs.GoingOn.{go_acked}

-- the game with these boards
abbrev with_boards : GameState → ℕ → List Board → GameState
with_boards g moment boards = record g { boards = boards; last = moment_at g moment }

IsSound-same : (g : GameState) (moment : ℕ) → moment ≤ 2 ^ 48 → IsSoundGame g
    → IsSoundGame (with_boards g moment g.boards)
IsSound-same g moment timely s =
    IsSound-later g g.feed g.viewers g.remarks (moment_at g moment) g.offers g.tally (omega arith)
    (timely_at g moment timely s) s.winners s

IsSound-acked : (g : GameState) (moment : ℕ) (board : BoardNumber) (colour : Colour) (stamp : ℕ) → IsStamp stamp
    → moment ≤ 2 ^ 48 → IsSoundGame g →
    IsSoundGame (with_boards g moment (boards_acked g.boards board colour stamp))
IsSound-acked g moment board colour stamp stamped timely s =
    let after : Board → Board = λ b. acknowledged b colour stamp in
    let early : latest g.boards ≤ moment_at g moment = omega (arith, s.order) in
    record {
      seated = s.seated;
      boards = sound_acked g.terms g.boards board colour stamp s.boards stamped;
      going = λ runs. go_acked g.boards board colour stamp (s.going runs);
      order = latest-changed_at g.boards (board_place board) (moment_at g moment) after
          (λ b h.
          let same : (acknowledged b colour stamp).begin ≡ b.begin =
          same_acknowledged (λ c. c.begin) b colour stamp refl in
          omega arith)
          early;
      moment = timely_at g moment timely s;
      winners = s.winners;
      ended = s.ended;
    }

sound_either : (over : Bool) (g : GameState) (moment : ℕ) (boards : List Board)
    → IsSoundGame (with_boards g moment g.boards) → IsSoundGame (with_boards g moment boards) →
    IsSoundGame (with_boards g moment (if over then g.boards else boards))
sound_either true g moment boards s t = s
sound_either false g moment boards s t = t

sound_acked_by : (g : GameState) (moment : ℕ) (seat : Option ℕ) (stamp : ℕ) → moment ≤ 2 ^ 48 → IsStamp stamp
    → IsSoundGame g →
    IsSoundGame (with_boards g moment (acked_by g seat stamp))
sound_acked_by g moment None stamp timely stamped s = IsSound-same g moment timely s
sound_acked_by g moment (Some seat) stamp timely stamped s =
    sound_either (is_some g.ended) g moment (boards_acked g.boards (board_of seat) (colour_at seat) stamp)
    (IsSound-same g moment timely s)
    (IsSound-acked g moment (board_of seat) (colour_at seat) stamp stamped timely s)

pub Keeps-acked_effect : (g : GameState) (session moment stamp : ℕ)
    → Keeps g moment (IsStamp stamp) false (acked_effect g session moment stamp)
Keeps-acked_effect g session moment stamp = record {
  step = record { players = refl; sound = λ c. sound_acked_by g moment (seat_of g session) stamp c.0 c.1 };
  tells = λ s. tt;
  memory = refl;
}
