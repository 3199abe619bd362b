-- How a run ends, by its status and the command that its words name.
use Rattle.std.proofs.Common.{◌≡◌, ℕ, ◌^◌, ◌<◌, List, [], ◌∷◌, length, refl, sym, ap, subst, ◌∙◌, arith, inl, inr, None, Some}
use Rattle.std.specs.Prelude.{◌⊎◌, ◌==◌, if◌then◌else◌, Option, IfSome, Contains, String}
use Rattle.std.specs.declared.alloc.Global.{Global}
use Rattle.std.specs.Io.KnownBytes.{Keeps}
use Rattle.std.proofs.KnownBytes.{Appends-nil}
use Rattle.edge_traits.specs.Calls.{Calls}
use Rattle.edge_traits.specs.Keeper.{Stays}
use Rattle.edge_traits.specs.declared.keeper.Kept.{Kept}
use Rattle.edge_traits.specs.declared.keeper.Kept.TheVariants.{Failed}
use Rattle.lobby_load.specs.Calling.{LoadsOnce}
use Rattle.edge_traits.specs.Pairs.{Records}
use Rattle.cmd_lines.specs.Ends as read
use Rattle.cmd_job.specs.Usage.{UsageEnds}
use Rattle.cmd_check.specs.CheckEnds.{CheckEnds}
use Rattle.cmd_run.specs.RunEnds.{CommandEnds, IsGood, IsToldGood, WritesPart}
use Rattle.cmd_run.specs.Words.{Does, IsCommand, IsOverStore, NamesCommand}
use Rattle.cmd_run.proofs.Named.{is_command, one_command}
use Rattle.cmd_lines.specs.declared.end.End.{End}
use Rattle.cmd_lines.specs.declared.end.End.TheVariants.{Done, ReadFault, WriteFault, Memory, BadLine, Spent}
use Rattle.cmd_store.specs.Outcomes.{AsRead, EndsAt, OnKeeperFault, OnReadFault, OnWriteFault, status_of_outcome}
use Rattle.cmd_store.specs.declared.outcome.Outcome.{Outcome}
use Rattle.cmd_store.specs.declared.outcome.Outcome.TheVariants.{Read, BadRecord, KeeperFault, NoGame}
use Rattle.cmd_run.specs.declared.command.RunCommand.{RunCommand}
use Rattle.cmd_run.specs.declared.command.RunCommand.TheVariants.{Board, Replay, Tourney, Tidy, Bot, Demo, Check, Pgn, Examine}
use Rattle.cmd_board.specs.Transcript.{board_lines}
use Rattle.cmd_bot.specs.BotLines.{bot_answer, bot_lines}
use Rattle.cmd_demo.proofs.Told.{nothing_told, told_or_cut}
use Rattle.cmd_lines.proofs.ClosingEnds.{AnswersOrClosesPart-none}
use Rattle.cmd_lines.proofs.Completeness.{is_complete, is_complete-closing}
use Rattle.cmd_lines.proofs.LineCommandEnds.{AnswersPart-none}
use Rattle.cmd_pgn.specs.PgnEnds.{PgnEnds}
use Rattle.examine_board.specs.Exam.{exam_opened}
use Rattle.cmd_examine.specs.ExamineEnds.{EndsBeforeInput, ExamineEnds, StandsUnder}
use Rattle.cmd_examine.specs.Texts.{examine_lines}
use Rattle.game_records.proofs.ReadBack.{one_spelled}
use Rattle.game_records.specs.declared.records.Record.TheVariants.{Game}
use Rattle.game_records.specs.declared.stored_game.StoredGame.{StoredGame}
use Rattle.cmd_lines.specs.LineCommand.{bad_in}
use Rattle.cmd_lines.specs.Lines.{lines_of}
use Rattle.game_records.specs.Spelling.{IsSpelled}
use Rattle.cmd_tourney.specs.Texts.{tourney_lines}
use Rattle.cmd_tidy.proofs.Steps.{cut_at_once}
use Rattle.cmd_tidy.proofs.Completeness.{is_complete-tidied}
use Rattle.cmd_replay.proofs.ReplayEnds.{ReplayEnds-none, is_complete-replayed}

-- ---- statuses

-- the outcome that a status tells
outcome_at : ℕ → Outcome
outcome_at n =
    if n == 0 then Read Done else if n == 2 then Read ReadFault else if n == 3 then Read WriteFault else if n == 4
    then KeeperFault
    else if n == 5 then BadRecord else if n == 6 then Read Memory else if n == 7 then Read BadLine else if n == 9
    then Read Spent else NoGame

outcome_at-status : (outcome : Outcome) → outcome_at (status_of_outcome outcome) ≡ outcome
unfolding outcome_at
outcome_at-status (Read Done) = refl
outcome_at-status (Read ReadFault) = refl
outcome_at-status (Read WriteFault) = refl
outcome_at-status (Read Memory) = refl
outcome_at-status (Read BadLine) = refl
outcome_at-status (Read Spent) = refl
outcome_at-status BadRecord = refl
outcome_at-status KeeperFault = refl
outcome_at-status NoGame = refl

-- a status has one outcome
one_outcome : (outcome wanted : Outcome) (status : ℕ) → status ≡ status_of_outcome outcome
    → status ≡ status_of_outcome wanted → outcome ≡ wanted
one_outcome outcome wanted status is told =
    sym (outcome_at-status outcome) ∙ ap outcome_at (sym is ∙ told) ∙ outcome_at-status wanted

-- the statuses that there are
abbrev statuses : List ℕ
statuses = 0 ∷ 1 ∷ 2 ∷ 3 ∷ 4 ∷ 5 ∷ 6 ∷ 7 ∷ 9 ∷ 10 ∷ []

status-read : (end : End) → Contains statuses (read.status_of end)
status-read Done = (0, omega arith, refl)
status-read ReadFault = (2, omega arith, refl)
status-read WriteFault = (3, omega arith, refl)
status-read Memory = (6, omega arith, refl)
status-read BadLine = (7, omega arith, refl)
status-read Spent = (8, omega arith, refl)

-- a command ends in one of them
status-listed : (command : RunCommand) (table : Option Records) (left left' written written' : Option (List ℕ))
    (outcome : Outcome)
    → CommandEnds table left left' written written' outcome command → Contains statuses (status_of_outcome outcome)
status-listed command table left left' written written' (Read end) h = status-read end
status-listed command table left left' written written' KeeperFault h = (4, omega arith, refl)
status-listed command table left left' written written' BadRecord h = (5, omega arith, refl)
status-listed Board table left left' written written' NoGame h = absurd h
status-listed Replay table left left' written written' NoGame h = absurd h
status-listed Tourney table left left' written written' NoGame h = absurd h
status-listed Tidy table left left' written written' NoGame h = absurd h
status-listed (Bot depth) table left left' written written' NoGame h = absurd h
status-listed (Demo number) table left left' written written' NoGame h = absurd h.1
status-listed Check table left left' written written' NoGame h = absurd h.1
status-listed Pgn table left left' written written' NoGame h = absurd h.1
status-listed (Examine game) table left left' written written' NoGame h = (9, omega arith, refl)

pub listed_as : (status : ℕ) (command : RunCommand) (table : Option Records)
    (left left' written written' : Option (List ℕ)) (outcome : Outcome)
    → CommandEnds table left left' written written' outcome command → status ≡ status_of_outcome outcome
    → Contains statuses status
listed_as status command table left left' written written' outcome ends is =
    subst (Contains statuses) (sym is) (status-listed command table left left' written written' outcome ends)

-- and those with which the usage line is written
pub usage_listed : (written written' : Option (List ℕ)) (status : ℕ) → UsageEnds written written' status
    → Contains statuses status
usage_listed written written' status (inl p) = subst (Contains statuses) (sym p.0) (1, omega arith, refl)
usage_listed written written' status (inr (inl e, front)) = subst (Contains statuses) (sym e) (3, omega arith, refl)
usage_listed written written' status (inr (inr e, front)) = subst (Contains statuses) (sym e) (6, omega arith, refl)

-- ---- what a status tells

module _ (words : List (String Global)) (command : RunCommand) (names : NamesCommand words command)
    (table : Option Records)
    (left left' written written' : Option (List ℕ)) (outcome : Outcome)
    (ends : CommandEnds table left left' written written' outcome command) where
  -- a status tells how the command ended
  pub does_at : (wanted : Outcome) (status : ℕ) → status ≡ status_of_outcome outcome → status ≡ status_of_outcome wanted
      → Does words (CommandEnds table left left' written written' wanted)
  does_at wanted status is told = (
    command,
    names,
    subst (λ (e : Outcome). CommandEnds table left left' written written' e command)
        (one_outcome outcome wanted status is told) ends,
  )

  -- or which front it wrote
  pub writes_at : (wanted : Outcome) (status : ℕ) → status ≡ status_of_outcome outcome
      → status ≡ status_of_outcome wanted → WritesPart words table left left' written written' wanted
  writes_at wanted status is told = (
    λ other n.
        subst (λ (j : RunCommand). CommandEnds table left left' written written' wanted j)
        (sym (one_command words command other names n))
        (subst (λ (e : Outcome). CommandEnds table left left' written written' e command)
        (one_outcome outcome wanted status is told) ends),
    λ none. absurd (none (is_command words command names)),
  )

-- a fault that a status tells
pub read_fault_at : (outcome : Outcome) (P : Type 0) (status : ℕ) → status ≡ status_of_outcome outcome
    → OnReadFault outcome P → status ≡ 2 → P
read_fault_at outcome P status is cause told =
    subst (λ (e : Outcome). OnReadFault e P) (one_outcome outcome (Read ReadFault) status is told) cause

pub write_fault_at : (outcome : Outcome) (P : Type 0) (status : ℕ) → status ≡ status_of_outcome outcome
    → OnWriteFault outcome P → status ≡ 3 → P
write_fault_at outcome P status is cause told =
    subst (λ (e : Outcome). OnWriteFault e P) (one_outcome outcome (Read WriteFault) status is told) cause

pub keeper_fault_at : (outcome : Outcome) (P : Type 0) (status : ℕ) → status ≡ status_of_outcome outcome
    → OnKeeperFault outcome P → status ≡ 4 → P
keeper_fault_at outcome P status is cause told =
    subst (λ (e : Outcome). OnKeeperFault e P) (one_outcome outcome KeeperFault status is told) cause

-- a command ends with no status of the usage line
pub not_usage : (outcome : Outcome) (status : ℕ) → status ≡ status_of_outcome outcome → status ≡ 1 → ⊥
not_usage (Read Done) status is told = let bad : 1 ≡ 0 = sym told ∙ is in absurd (omega (arith, bad))
not_usage (Read ReadFault) status is told = let bad : 1 ≡ 2 = sym told ∙ is in absurd (omega (arith, bad))
not_usage (Read WriteFault) status is told = let bad : 1 ≡ 3 = sym told ∙ is in absurd (omega (arith, bad))
not_usage (Read Memory) status is told = let bad : 1 ≡ 6 = sym told ∙ is in absurd (omega (arith, bad))
not_usage (Read BadLine) status is told = let bad : 1 ≡ 7 = sym told ∙ is in absurd (omega (arith, bad))
not_usage (Read Spent) status is told = let bad : 1 ≡ 9 = sym told ∙ is in absurd (omega (arith, bad))
not_usage BadRecord status is told = let bad : 1 ≡ 5 = sym told ∙ is in absurd (omega (arith, bad))
not_usage KeeperFault status is told = let bad : 1 ≡ 4 = sym told ∙ is in absurd (omega (arith, bad))
not_usage NoGame status is told = let bad : 1 ≡ 10 = sym told ∙ is in absurd (omega (arith, bad))

-- running out of memory before anything was read or written
pub Keeps-same : (left : Option (List ℕ)) → Keeps left left
Keeps-same None = tt
Keeps-same (Some bytes) = refl

out_of_memory : (table : Option Records) (left written : Option (List ℕ)) (command : RunCommand)
    → CommandEnds table left left written written (Read Memory) command
out_of_memory table left written Board = AnswersPart-none board_lines left written
out_of_memory table left written Replay = ReplayEnds-none left written
out_of_memory table left written Tourney = AnswersPart-none tourney_lines left written
out_of_memory table left written Tidy = cut_at_once left written
out_of_memory table left written (Bot depth) =
    AnswersOrClosesPart-none (bot_lines depth) (bot_answer depth) left written
out_of_memory table left written (Demo number) = (Keeps-same left, nothing_told number written)
out_of_memory table left written Check = (Keeps-same left, inl (Appends-nil written))
out_of_memory table left written Pgn = (Keeps-same left, inl (Appends-nil written))
out_of_memory table left written (Examine game) =
    inr (record { due = []; is_due = inl refl; cut = record { unread = refl; text = (0, Appends-nil written) } })

pub memory_at_once : (words : List (String Global)) (table : Option Records) (left written : Option (List ℕ))
    → WritesPart words table left left written written (Read Memory)
memory_at_once words table left written =
    (λ command names. out_of_memory table left written command, λ none. (Keeps-same left, (0, Appends-nil written)))

-- a beginning of the usage line was written
pub usage_part : (words : List (String Global)) (table : Option Records) (left written written' : Option (List ℕ))
    (outcome : Outcome) (status : ℕ)
    → (IsCommand words → ⊥)
    → UsageEnds written written' status → (status ≡ 1 → ⊥) → WritesPart words table left left written written' outcome
usage_part words table left written written' outcome status none (inl whole) not_whole = absurd (not_whole whole.0)
usage_part words table left written written' outcome status none (inr front) not_whole =
    (λ command names. absurd (none (command, names)), λ none. (Keeps-same left, front.1))

-- ---- what stays

-- what stays unless the command is of this kind
pub stays_unless : (words : List (String Global)) (command : RunCommand) (Kind : RunCommand → Type 0) (P : Type 0)
    → NamesCommand words command → ((Kind command → ⊥) → P) → (Does words Kind → ⊥) → P
stays_unless words command Kind P names stays none = stays (λ of. none (command, names, of))

-- the statuses that tell that the input wasn't reached
pub unread_at : (outcome : Outcome) (P : Type 0) (status : ℕ) → status ≡ status_of_outcome outcome
    → (EndsBeforeInput outcome → P) → (status ≡ 4) ⊎ ((status ≡ 5) ⊎ (status ≡ 10)) → P
unread_at outcome P status is stays (inl told) =
    stays (subst EndsBeforeInput (sym (one_outcome outcome KeeperFault status is told)) tt)
unread_at outcome P status is stays (inr (inl told)) =
    stays (subst EndsBeforeInput (sym (one_outcome outcome BadRecord status is told)) tt)
unread_at outcome P status is stays (inr (inr told)) =
    stays (subst EndsBeforeInput (sym (one_outcome outcome NoGame status is told)) tt)

-- the one load of a command over a store; another doesn't call the keeper
failed_told : (outcome : Outcome) (answer : Kept) → EndsAt outcome answer → answer ≡ Failed
    → status_of_outcome outcome ≡ 4
failed_told (Read end) answer at failed = absurd (at failed)
failed_told BadRecord answer at failed = absurd (at failed)
failed_told KeeperFault answer at failed = refl
failed_told NoGame answer at failed = absurd (at failed)

over_store : (command : RunCommand) → IsOverStore command ⊎ (IsOverStore command → ⊥)
over_store Board = inr (λ bad. bad)
over_store Replay = inr (λ bad. bad)
over_store Tourney = inr (λ bad. bad)
over_store Tidy = inr (λ bad. bad)
over_store (Bot depth) = inr (λ bad. bad)
over_store (Demo number) = inr (λ bad. bad)
over_store Check = inl tt
over_store Pgn = inl tt
over_store (Examine game) = inl tt

loads_by : (old new : Calls) (command : RunCommand) (outcome : Outcome) (status : ℕ)
    → status ≡ status_of_outcome outcome → (IsOverStore command → LoadsOnce old new (EndsAt outcome))
    → ((IsOverStore command → ⊥) → new ≡ old)
    → IsOverStore command ⊎ (IsOverStore command → ⊥)
    → (new ≡ old) ⊎ LoadsOnce old new (λ answer. answer ≡ Failed → status ≡ 4)
loads_by old new command outcome status is loads stays (inl over) =
    let p = loads over in
    inr (p.0, p.1, λ failed. is ∙ failed_told outcome p.0 p.2 failed)
loads_by old new command outcome status is loads stays (inr other) = inl (stays other)

pub loads_at : (old new : Calls) (command : RunCommand) (outcome : Outcome) (status : ℕ)
    → status ≡ status_of_outcome outcome → (IsOverStore command → LoadsOnce old new (EndsAt outcome))
    → ((IsOverStore command → ⊥) → new ≡ old)
    → (new ≡ old) ⊎ LoadsOnce old new (λ answer. answer ≡ Failed → status ≡ 4)
loads_at old new command outcome status is loads stays =
    loads_by old new command outcome status is loads stays (over_store command)

-- a fault of the keeper is told of a command over a store
fault_over : (table : Option Records) (left left' written written' : Option (List ℕ)) (command : RunCommand)
    → CommandEnds table left left' written written' KeeperFault command → IsOverStore command
fault_over table left left' written written' Board h = h
fault_over table left left' written written' Replay h = h
fault_over table left left' written written' Tourney h = h
fault_over table left left' written written' Tidy h = h
fault_over table left left' written written' (Bot depth) h = h
fault_over table left left' written written' (Demo number) h = h.1
fault_over table left left' written written' Check h = tt
fault_over table left left' written written' Pgn h = tt
fault_over table left left' written written' (Examine game) h = tt

pub failed_at : (old new : Calls) (command : RunCommand) (table : Option Records)
    (left left' written written' : Option (List ℕ)) (outcome : Outcome)
    → CommandEnds table left left' written written' outcome command → (status : ℕ)
    → status ≡ status_of_outcome outcome → (IsOverStore command → LoadsOnce old new (EndsAt outcome)) → status ≡ 4
    → LoadsOnce old new (λ answer. answer ≡ Failed)
failed_at old new command table left left' written written' outcome ends status is loads told =
    let same = one_outcome outcome KeeperFault status is told in
    subst (λ (e : Outcome). LoadsOnce old new (EndsAt e)) same
    (loads (fault_over table left left' written written' command
    (subst (λ (e : Outcome). CommandEnds table left left' written written' e command) same ends)))

-- a table that isn't touched stays
pub Stays-same : (table : Option Records) → Stays table table
Stays-same None = tt
Stays-same (Some held) = refl

-- ---- runs without faults

-- what holds of the status of a command of lines, by how the reading of its lines ended
lines_well : (Ends : End → Type 0) (W : ℕ → Type 0) (P Q : Type 0) (outcome : Outcome) → AsRead Ends outcome
    → OnReadFault outcome P → OnWriteFault outcome Q
    → ((end : End) → Ends end → read.OnReadFault end P → read.OnWriteFault end Q → W (read.status_of end))
    → W (status_of_outcome outcome)
lines_well Ends W P Q (Read end) h p q well = well end h p q
lines_well Ends W P Q BadRecord h p q well = absurd h
lines_well Ends W P Q KeeperFault h p q well = absurd h
lines_well Ends W P Q NoGame h p q well = absurd h

-- a check of a good store
is_complete-check : (table : Option Records) (written written' : Option (List ℕ)) (Q R : Type 0) (outcome : Outcome)
    → IsToldGood table → CheckEnds table written written' outcome
    → OnWriteFault outcome Q → OnKeeperFault outcome R → (Q → ⊥) → (R → ⊥)
    → (status_of_outcome outcome ≡ 0) ⊎ (status_of_outcome outcome ≡ 6)
is_complete-check table written written' Q R (Read Done) good h q r no_write no_keeper = inl refl
is_complete-check table written written' Q R (Read ReadFault) good h q r no_write no_keeper = absurd h
is_complete-check table written written' Q R (Read WriteFault) good h q r no_write no_keeper = absurd (no_write q)
is_complete-check table written written' Q R (Read Memory) good h q r no_write no_keeper = inr refl
is_complete-check table written written' Q R (Read BadLine) good h q r no_write no_keeper = absurd h
is_complete-check table written written' Q R (Read Spent) good h q r no_write no_keeper = absurd h
is_complete-check None written written' Q R BadRecord good h q r no_write no_keeper = absurd good
is_complete-check (Some told) written written' Q R BadRecord good h q r no_write no_keeper =
    absurd (good.none_bad h.key h.first.bad)
is_complete-check table written written' Q R KeeperFault good h q r no_write no_keeper = absurd (no_keeper r)
is_complete-check table written written' Q R NoGame good h q r no_write no_keeper = absurd h

-- a pgn of a good store
is_complete-pgn : (table : Option Records) (written written' : Option (List ℕ)) (Q R : Type 0) (outcome : Outcome)
    → IsToldGood table → PgnEnds table written written' outcome
    → OnWriteFault outcome Q → OnKeeperFault outcome R → (Q → ⊥) → (R → ⊥)
    → (status_of_outcome outcome ≡ 0) ⊎ (status_of_outcome outcome ≡ 6)
is_complete-pgn table written written' Q R (Read Done) good h q r no_write no_keeper = inl refl
is_complete-pgn table written written' Q R (Read ReadFault) good h q r no_write no_keeper = absurd h
is_complete-pgn table written written' Q R (Read WriteFault) good h q r no_write no_keeper = absurd (no_write q)
is_complete-pgn table written written' Q R (Read Memory) good h q r no_write no_keeper = inr refl
is_complete-pgn table written written' Q R (Read BadLine) good h q r no_write no_keeper = absurd h
is_complete-pgn table written written' Q R (Read Spent) good h q r no_write no_keeper = absurd h
is_complete-pgn None written written' Q R BadRecord good h q r no_write no_keeper = absurd good
is_complete-pgn (Some told) written written' Q R BadRecord good h q r no_write no_keeper =
    absurd (good.none_bad h.key h.first.bad)
is_complete-pgn table written written' Q R KeeperFault good h q r no_write no_keeper = absurd (no_keeper r)
is_complete-pgn table written written' Q R NoGame good h q r no_write no_keeper = absurd h

-- under a number stands one game
one_under : (number : ℕ) (one other : StoredGame) (told : Records) → StandsUnder number one told
    → StandsUnder number other told → one ≡ other
one_under number one other told h k =
    let bytes : Some h.bytes ≡ Some k.bytes = sym h.there ∙ k.there in
    let same : k.bytes ≡ h.bytes = sym cc in
    let spelled : Game one ≡ Game other =
    one_spelled (Game one) (Game other) h.bytes h.spelled
    (subst (λ (b : List ℕ). IsSpelled (Game other) b) same k.spelled) in
    cc

-- the run of this command went well
abbrev WentWell : Option Records → Option (List ℕ) → RunCommand → ℕ → Type 0
WentWell table left command status =
    IfSome left (λ text. length text < 2 ^ 40 → IsGood table text command → (status ≡ 0) ⊎ (status ≡ 6))

-- whatever the input
any_input : (table : Option Records) (left : Option (List ℕ)) (command : RunCommand) (status : ℕ)
    → ((text : List ℕ) → IsGood table text command → (status ≡ 0) ⊎ (status ≡ 6)) → WentWell table left command status
any_input table None command status f = tt
any_input table (Some text) command status f = λ short good. f text good

-- the run of `examine` went well whose lines were read well
from_lines : (game : StoredGame) (table : Option Records) (number : ℕ) (left : Option (List ℕ)) (status : ℕ)
    → IfSome table (StandsUnder number game)
    → IfSome left
    (λ text.
    length text < 2 ^ 40 → bad_in (examine_lines (exam_opened game)) (lines_of text) ≡ None
    → (status ≡ 0) ⊎ (status ≡ 6))
    → WentWell table left (Examine number) status
from_lines game None number None status stands f = tt
from_lines game None number (Some text) status stands f = λ short good. absurd good
from_lines game (Some told) number None status stands f = tt
from_lines game (Some told) number (Some text) status stands f = λ short good.
    f short
    (subst (λ (g : StoredGame). bad_in (examine_lines (exam_opened g)) (lines_of text) ≡ None)
    (one_under number good.game game told good.stands stands) good.lines)

-- an examination of a game that is there
module _ (number : ℕ) (left left' written written' : Option (List ℕ)) (P Q R : Type 0) (no_read : P → ⊥)
    (no_write : Q → ⊥) (no_keeper : R → ⊥) where
  is_complete-examine : (table : Option Records) (outcome : Outcome)
      → ExamineEnds table number left left' written written' outcome → OnReadFault outcome P → OnWriteFault outcome Q
      → OnKeeperFault outcome R → WentWell table left (Examine number) (status_of_outcome outcome)
  is_complete-examine table (Read Done) h p q r = any_input table left (Examine number) 0 (λ text good. inl refl)
  is_complete-examine table (Read ReadFault) h p q r = absurd (no_read p)
  is_complete-examine table (Read WriteFault) h p q r = absurd (no_write q)
  is_complete-examine table (Read Memory) h p q r = any_input table left (Examine number) 6 (λ text good. inr refl)
  is_complete-examine table (Read BadLine) h p q r = from_lines h.game table number left 7 h.stored.stands
      (is_complete (examine_lines (exam_opened h.game)) left left' h.answers.shown written' P Q BadLine
      h.answers.answers p q
      no_read no_write)
  is_complete-examine table (Read Spent) h p q r = from_lines h.game table number left 9 h.stored.stands
      (is_complete (examine_lines (exam_opened h.game)) left left' h.answers.shown written' P Q Spent h.answers.answers
      p q
      no_read no_write)
  is_complete-examine None BadRecord h p q r = any_input None left (Examine number) 5 (λ text good. absurd good)
  is_complete-examine (Some told) BadRecord h p q r =
      any_input (Some told) left (Examine number) 5 (λ text good. absurd (good.good.none_bad h.key h.bad.bad))
  is_complete-examine table KeeperFault h p q r = absurd (no_keeper r)
  is_complete-examine None NoGame h p q r = any_input None left (Examine number) 10 (λ text good. absurd good)
  is_complete-examine (Some told) NoGame h p q r = any_input (Some told) left (Examine number) 10 (λ text good.
      let wrong : None ≡ Some good.stands.bytes = sym h.none.none ∙ good.stands.there in
      absurd cc)

module _ (table : Option Records) (left left' written written' : Option (List ℕ)) (P Q R : Type 0) (no_read : P → ⊥)
    (no_write : Q → ⊥) where
  -- what the status is where nothing goes wrong, for each command
  is_complete-command : (command : RunCommand) (outcome : Outcome)
      → CommandEnds table left left' written written' outcome command → OnReadFault outcome P → OnWriteFault outcome Q
      → OnKeeperFault outcome R
      → (IsOverStore command → R → ⊥) → WentWell table left command (status_of_outcome outcome)
  is_complete-command Board outcome h p q r no_keeper = lines_well _ (WentWell table left Board) P Q outcome h p q
      (λ end h p q. is_complete board_lines left left' written written' P Q end h p q no_read no_write)
  is_complete-command Replay outcome h p q r no_keeper = lines_well _ (WentWell table left Replay) P Q outcome h p q
      (λ end h p q. is_complete-replayed left left' written written' P Q end h p q no_read no_write)
  is_complete-command Tourney outcome h p q r no_keeper = lines_well _ (WentWell table left Tourney) P Q outcome h p q
      (λ end h p q. is_complete tourney_lines left left' written written' P Q end h p q no_read no_write)
  is_complete-command Tidy outcome h p q r no_keeper = lines_well _ (WentWell table left Tidy) P Q outcome h p q
      (λ end h p q. is_complete-tidied left left' written written' P Q end h p q no_read no_write)
  is_complete-command (Bot depth) outcome h p q r no_keeper =
      lines_well _ (WentWell table left (Bot depth)) P Q outcome h p q
      (λ end h p q.
      is_complete-closing (bot_lines depth) (bot_answer depth) left left' written written' P Q end h p q no_read
      no_write)
  is_complete-command (Demo number) outcome h p q r no_keeper =
      lines_well _ (WentWell table left (Demo number)) P Q outcome h.1 p q
      (λ end h p q.
      any_input table left (Demo number) (read.status_of end)
      (λ text good. told_or_cut number written written' Q end h q no_write))
  is_complete-command Check outcome h p q r no_keeper =
      any_input table left Check (status_of_outcome outcome)
      (λ text good. is_complete-check table written written' Q R outcome good h.1 q r no_write (no_keeper tt))
  is_complete-command Pgn outcome h p q r no_keeper =
      any_input table left Pgn (status_of_outcome outcome)
      (λ text good. is_complete-pgn table written written' Q R outcome good h.1 q r no_write (no_keeper tt))
  is_complete-command (Examine number) outcome h p q r no_keeper =
      is_complete-examine number left left' written written' P Q R no_read no_write (no_keeper tt) table outcome h p q r

  pub complete_at : (words : List (String Global)) (command other : RunCommand) (outcome : Outcome) (status : ℕ)
      → NamesCommand words command → NamesCommand words other → status ≡ status_of_outcome outcome
      → CommandEnds table left left' written written' outcome command → OnReadFault outcome P → OnWriteFault outcome Q
      → OnKeeperFault outcome R → (IsOverStore other → R → ⊥)
      → WentWell table left other status
  complete_at words command other outcome status names n is h p q r no_keeper =
      let same : other ≡ command = one_command words command other names n in
      subst (WentWell table left other) (sym is)
      (subst (λ (j : RunCommand). WentWell table left j (status_of_outcome outcome)) (sym same)
      (is_complete-command command outcome h p q r (subst (λ (j : RunCommand). IsOverStore j → R → ⊥) same no_keeper)))
