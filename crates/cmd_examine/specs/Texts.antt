-- What `examine` writes for a line, and what the line makes of the exam.
use Rattle.std.specs.Prelude.{ℕ, List, [], ◌++◌, codes, Option, None, Result, Ok, Err, option_map}
use Rattle.std.specs.List.{flat_map}
use Rattle.chess_model.specs.declared.variant.Variant.TheVariants.{Chess}
use Rattle.fics_words.specs.declared.refusal.Refusal.{Refusal}
use Rattle.cmd_lines.specs.LineCommand.{LineCommand}
use Rattle.cmd_lines.specs.Words.{refusal_text}
use Rattle.examine_board.specs.Answers.{answer, exam_left_by}
use Rattle.examine_board.specs.Exam.{ExamState}
use Rattle.examine_board.specs.Lines.{exam_lines}
use Rattle.examine_board.specs.Play.{played}
use Rattle.examine_board.specs.Steps.{backed, forwarded, reverted}
use Rattle.cmd_examine.specs.Lines.{exam_line_of}
use Rattle.cmd_examine.specs.declared.line.ExamLine.{ExamLine}
use Rattle.cmd_examine.specs.declared.line.ExamLine.TheVariants.{Forward, Back, Revert, Play}

-- lines, each ended by a line feed
abbrev pub lines_text : List (List ℕ) → List ℕ
lines_text lines = flat_map (λ line. line ++ codes "\n") lines

-- the lines that show where an exam is
abbrev pub shown_text : ExamState → List ℕ
shown_text e = lines_text (exam_lines e)

-- the text of an answer, by where it leaves the exam: the lines that show it, or the refusal
abbrev pub exam_told : ExamState → Result Unit Refusal → List ℕ
exam_told e (Ok exam_done) = shown_text e
exam_told e (Err cause) = refusal_text cause

-- what a line may make of an exam
abbrev pub exam_made : ExamState → ExamLine → Result ExamState Refusal
exam_made e (Forward n) = forwarded e n
exam_made e (Back n) = backed e n
exam_made e Revert = Ok (reverted e)
exam_made e (Play word) = played e word

-- where it leaves the exam, and what is written for it
abbrev pub exam_done : ExamState → ExamLine → ExamState × List ℕ
exam_done e line =
    (exam_left_by e (exam_made e line), exam_told (exam_left_by e (exam_made e line)) (answer (exam_made e line)))

-- what a line that isn't empty makes of the exam, and what is written for it; nothing where it is outside the grammar
unfoldable pub answer_line : ExamState → List ℕ → Option (ExamState × List ℕ)
answer_line e line = option_map (exam_done e) (exam_line_of line)

-- `examine` as a function of where its exam is and a line, from this exam on
abbrev pub examine_lines : ExamState → LineCommand ExamState
examine_lines e = record { start = e; answer = answer_line; ending = codes "\n" }

-- an exam of nothing
abbrev pub no_exam : ExamState
no_exam = record {
  terms = record { minutes = 0; increment = 0; variant = Chess; colour = None };
  names = [];
  stored = [];
  list = [];
  point = 0;
}
