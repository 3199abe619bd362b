-- How `examine` ends: what was read and what was written by then, by the table of the keeper, where the keeper tells
-- it.
use Rattle.std.specs.Prelude.{◌≡◌, ◌⊎◌, ℕ, List, [], codes, IfSome, None, Some, Result, Ok, Err, ⊤}
use Rattle.std.specs.declared.option.Option.{Option}
use Rattle.std.specs.Io.KnownBytes.{Appends}
use Rattle.edge_traits.specs.Pairs.{Records}
use Rattle.edge_traits.specs.Sink.{AppendsFront}
use Rattle.game_records.specs.Keys.{game_key}
use Rattle.game_records.specs.Replays.{Replays}
use Rattle.game_records.specs.Spelling.{IsSpelled}
use Rattle.game_records.specs.declared.records.Record.TheVariants.{Game}
use Rattle.game_records.specs.declared.stored_game.StoredGame.{StoredGame}
use Rattle.cmd_lines.specs.LineCommandEnds.{LineCommandEnds}
use Rattle.cmd_lines.specs.declared.end.End.{End}
use Rattle.cmd_lines.specs.declared.end.End.TheVariants.{Done, ReadFault, WriteFault, Memory, BadLine, Spent}
use Rattle.lobby_load.specs.BadRows.{IsGoodStore}
use Rattle.lobby_load.specs.Telling.{IsFirstBad, bad_record_line}
use Rattle.lobby_store.specs.Carrying.{held}
use Rattle.cmd_store.specs.declared.outcome.Outcome.{Outcome}
use Rattle.cmd_store.specs.declared.outcome.Outcome.TheVariants.{Read, BadRecord, KeeperFault, NoGame}
use Rattle.examine_board.specs.Exam.{ExamState, exam_opened}
use Rattle.cmd_examine.specs.Texts.{examine_lines, shown_text}

-- the line that tells that there is no such game
abbrev pub no_such_game : List ℕ
no_such_game = codes "no such game\n"

-- the game stands in the table under its number's key
pub record StandsUnder (number : ℕ) (game : StoredGame) (table : Records) : Type 0 where
  pub bytes : List ℕ
  pub there : held table (game_key number) ≡ Some bytes
  pub spelled : IsSpelled (Game game) bytes

-- the store is good, and the game is its game of that number
pub record IsGameOf (table : Option Records) (number : ℕ) (game : StoredGame) : Type 0 where
  pub good : IfSome table IsGoodStore
  pub stands : IfSome table (StandsUnder number game)
  pub replays : Replays game

-- the store is good, and has no game of that number
pub record HasNone (table : Option Records) (number : ℕ) : Type 0 where
  pub good : IfSome table IsGoodStore
  pub none : IfSome table (λ told. held told (game_key number) ≡ None)

-- the lines that show the exam were written, and then the lines of the input were read and answered, with this end
pub record AreShown (e : ExamState) (left left' written written' : Option (List ℕ)) (end : End) : Type 0 where
  pub shown : Option (List ℕ)
  pub opening : Appends written shown (shown_text e)
  pub answers : LineCommandEnds (examine_lines e) left left' shown written' end

-- nothing was read, and a beginning of this text was written
pub record IsShownInPart (due : List ℕ) (left left' written written' : Option (List ℕ)) : Type 0 where
  pub unread : left' ≡ left
  pub text : AppendsFront written written' due

-- how an exam ends that begins with writing the lines that show it
abbrev pub AnswersFrom : ExamState → Option (List ℕ) → Option (List ℕ) → Option (List ℕ) → Option (List ℕ) → End
    → Type 0
AnswersFrom e left left' written written' Done = AreShown e left left' written written' Done
AnswersFrom e left left' written written' ReadFault = AreShown e left left' written written' ReadFault
AnswersFrom e left left' written written' WriteFault =
    AreShown e left left' written written' WriteFault ⊎ IsShownInPart (shown_text e) left left' written written'
AnswersFrom e left left' written written' Memory =
    AreShown e left left' written written' Memory ⊎ IsShownInPart (shown_text e) left left' written written'
AnswersFrom e left left' written written' BadLine = AreShown e left left' written written' BadLine
AnswersFrom e left left' written written' Spent = AreShown e left left' written written' Spent

-- how an exam ends that was opened
abbrev pub ExaminesExam : ExamState → Option (List ℕ) → Option (List ℕ) → Option (List ℕ) → Option (List ℕ) → Outcome
    → Type 0
ExaminesExam e left left' written written' (Read end) = AnswersFrom e left left' written written' end
ExaminesExam e left left' written written' _ = ⊥

-- that there is no such game was told, or a beginning of that where the write failed or memory ran out at it
abbrev pub TellsNone : Option (List ℕ) → Option (List ℕ) → Outcome → Type 0
TellsNone written written' NoGame = Appends written written' no_such_game
TellsNone written written' (Read WriteFault) = AppendsFront written written' no_such_game
TellsNone written written' (Read Memory) = AppendsFront written written' no_such_game
TellsNone written written' _ = ⊥

-- what examining comes to, by what opening the game of that number gave: its exam, none, or want of memory, with which
-- it ends at once
abbrev pub ExaminesOpened : {E : Type 0} → Result (Option ExamState) E → Option (List ℕ) → Option (List ℕ)
    → Option (List ℕ) → Option (List ℕ) → Outcome → Type 0
ExaminesOpened (Ok (Some e)) left left' written written' end = ExaminesExam e left left' written written' end
ExaminesOpened (Ok None) left left' written written' end = (left' ≡ left) × TellsNone written written' end
ExaminesOpened (Err want) left left' written written' end =
    (left' ≡ left) × (written' ≡ written) × (end ≡ Read Memory)

-- the store's game of that number was examined, with this end
pub record IsExamined (table : Option Records) (number : ℕ) (left left' written written' : Option (List ℕ)) (end : End)
    : Type 0 where
  pub game : StoredGame
  pub stored : IsGameOf table number game
  pub answers : AreShown (exam_opened game) left left' written written' end

-- this text is due before anything is read: none yet, the line that tells of the least bad record, the line that tells
-- that there is no such game, or the lines that show the game before its first half-move
abbrev pub IsDueFirst : Option Records → ℕ → List ℕ → Type 0
IsDueFirst table number due =
    (due ≡ []) ⊎ (((key : List ℕ) × IsFirstBad table key × (due ≡ bad_record_line key))
    ⊎ ((HasNone table number × (due ≡ no_such_game))
    ⊎ ((game : StoredGame) × IsGameOf table number game × (due ≡ shown_text (exam_opened game)))))

-- nothing was read, and a beginning was written of what is due before
pub record IsCutOffFirst (table : Option Records) (number : ℕ)
    (left left' written written' : Option (List ℕ)) : Type 0 where
  pub due : List ℕ
  pub is_due : IsDueFirst table number due
  pub cut : IsShownInPart due left left' written written'

-- a record is bad: nothing was read, and the line that tells of the least bad key was written
pub record IsBadStoreTold (table : Option Records) (left left' written written' : Option (List ℕ)) : Type 0 where
  pub unread : left' ≡ left
  pub key : List ℕ
  pub bad : IsFirstBad table key
  pub text : Appends written written' (bad_record_line key)

-- the store is good and has no game of the number: nothing was read, and that was told
pub record IsNoneTold (table : Option Records) (number : ℕ)
    (left left' written written' : Option (List ℕ)) : Type 0 where
  pub unread : left' ≡ left
  pub none : HasNone table number
  pub text : Appends written written' no_such_game

-- how `examine` ends. Where all of the input was read and answered, exactly the lines that show the game before its
-- first half-move were written, and then the answers of the lines
abbrev pub ExamineEnds : Option Records → ℕ → Option (List ℕ) → Option (List ℕ) → Option (List ℕ) → Option (List ℕ)
    → Outcome → Type 0
ExamineEnds table number left left' written written' (Read Done) =
    IsExamined table number left left' written written' Done
ExamineEnds table number left left' written written' (Read ReadFault) =
    IsExamined table number left left' written written' ReadFault
ExamineEnds table number left left' written written' (Read WriteFault) =
    IsExamined table number left left' written written' WriteFault
    ⊎ IsCutOffFirst table number left left' written written'
ExamineEnds table number left left' written written' (Read Memory) =
    IsExamined table number left left' written written' Memory
    ⊎ IsCutOffFirst table number left left' written written'
ExamineEnds table number left left' written written' (Read BadLine) =
    IsExamined table number left left' written written' BadLine
ExamineEnds table number left left' written written' (Read Spent) =
    IsExamined table number left left' written written' Spent
ExamineEnds table number left left' written written' BadRecord = IsBadStoreTold table left left' written written'
ExamineEnds table number left left' written written' KeeperFault = (left' ≡ left) × Appends written written' []
ExamineEnds table number left left' written written' NoGame = IsNoneTold table number left left' written written'

-- it ended before the input was reached: the keeper failed, a record is bad, or there is no such game
abbrev pub EndsBeforeInput : Outcome → Type 0
EndsBeforeInput (Read end) = ⊥
EndsBeforeInput BadRecord = ⊤
EndsBeforeInput KeeperFault = ⊤
EndsBeforeInput NoGame = ⊤
