-- The answer of a line, opened.
use Rattle.std.proofs.Common.{◌≡◌, ℕ, List, ap, Some, None}
use Rattle.std.specs.Prelude.{option_map}
use Rattle.examine_board.specs.Exam.{ExamState}
use Rattle.cmd_examine.specs.declared.line.ExamLine.{ExamLine}
use Rattle.cmd_examine.specs.Lines.{exam_line_of}
use Rattle.cmd_examine.specs.Texts.{answer_line, exam_done}

-- a line outside the grammar
pub answer_line-none : (e : ExamState) (bytes : List ℕ) → exam_line_of bytes ≡ None → answer_line e bytes ≡ None
unfolding answer_line
answer_line-none e bytes is = ap (option_map (exam_done e)) is

-- any other
pub answer_line-some : (e : ExamState) (bytes : List ℕ) (line : ExamLine) → exam_line_of bytes ≡ Some line
    → answer_line e bytes ≡ Some (exam_done e line)
unfolding answer_line
answer_line-some e bytes line is = ap (option_map (exam_done e)) is
