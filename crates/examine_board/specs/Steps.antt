-- To and fro along the half-moves of an exam, and back to the stored game. This server's own, after FICS's commands
-- `forward`, `backward` and `revert`.
use Rattle.std.specs.Prelude.{ℕ, ◌+◌, ◌-◌, nat_lt, if◌then◌else◌, length, Result, Ok, Err}
use Rattle.fics_words.specs.declared.refusal.Refusal.{Refusal}
use Rattle.fics_words.specs.declared.refusal.Refusal.TheVariants.{NoMoreMoves, NoEarlierMoves}
use Rattle.examine_board.specs.Exam.{ExamState, present}
use Rattle.examine_board.specs.Same.{shared_length}

-- n half-moves on, where so many follow
abbrev pub forwarded : ExamState → ℕ → Result ExamState Refusal
forwarded e n =
    if nat_lt (length e.list - e.point) n then Err NoMoreMoves else Ok (record e { point = e.point + n })

-- n half-moves back, where so many are on the boards
abbrev pub backed : ExamState → ℕ → Result ExamState Refusal
backed e n = if nat_lt e.point n then Err NoEarlierMoves else Ok (record e { point = e.point - n })

-- at the stored half-moves again, behind the most of them that are on the boards from the first one on
abbrev pub reverted : ExamState → ExamState
reverted e = record e { list = e.stored; point = shared_length (present e) e.stored }
