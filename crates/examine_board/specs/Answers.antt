-- What a call on an exam answers, and what it leaves: a refusal leaves the exam as it was.
use Rattle.std.specs.Prelude.{Result, Ok, Err}
use Rattle.fics_words.specs.declared.refusal.Refusal.{Refusal}
use Rattle.examine_board.specs.Exam.{ExamState}

abbrev pub answer : Result ExamState Refusal → Result Unit Refusal
answer (Ok after) = Ok tt
answer (Err cause) = Err cause

abbrev pub exam_left_by : ExamState → Result ExamState Refusal → ExamState
exam_left_by e (Ok after) = after
exam_left_by e (Err cause) = e
