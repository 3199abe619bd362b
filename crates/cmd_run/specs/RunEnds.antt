-- How a run of the program ends, by the command that its words name.
use Rattle.std.specs.Prelude.{◌≡◌, ℕ, List, None, Some, Option, String, ⊤}
use Rattle.std.specs.Io.KnownBytes.{Keeps}
use Rattle.std.specs.declared.alloc.Global.{Global}
use Rattle.cmd_board.specs.BoardEnds.{BoardEnds}
use Rattle.cmd_bot.specs.BotEnds.{BotEnds}
use Rattle.cmd_bot.specs.BotLines.{bot_lines}
use Rattle.cmd_check.specs.CheckEnds.{CheckEnds}
use Rattle.cmd_demo.specs.DemoEnds.{DemoEnds}
use Rattle.edge_traits.specs.Pairs.{Records}
use Rattle.examine_board.specs.Exam.{exam_opened}
use Rattle.cmd_examine.specs.ExamineEnds.{ExamineEnds, StandsUnder}
use Rattle.cmd_examine.specs.Texts.{examine_lines}
use Rattle.game_records.specs.declared.stored_game.StoredGame.{StoredGame}
use Rattle.cmd_replay.specs.ReplayEnds.{AreEvening, ReplayEnds}
use Rattle.cmd_board.specs.Transcript.{bad_line_in}
use Rattle.cmd_lines.specs.LineCommand as each
use Rattle.cmd_lines.specs.Lines.{lines_of}
use Rattle.lobby_load.specs.BadRows.{IsGoodStore}
use Rattle.pgn_book.specs.declared.game.PgnGame.{PgnGame}
use Rattle.pgn_book.specs.Games.{ReadsGames}
use Rattle.cmd_pgn.specs.PgnEnds.{PgnEnds}
use Rattle.cmd_store.specs.Outcomes.{AsRead}
use Rattle.cmd_store.specs.declared.outcome.Outcome.{Outcome}
use Rattle.cmd_tidy.specs.TidyEnds.{TidyEnds}
use Rattle.cmd_tourney.specs.Texts.{tourney_lines}
use Rattle.cmd_tourney.specs.TourneyEnds.{TourneyEnds}
use Rattle.cmd_run.specs.Words.{IsCommand, NamesCommand, UsagePart}
use Rattle.cmd_run.specs.declared.command.RunCommand.{RunCommand}
use Rattle.cmd_run.specs.declared.command.RunCommand.TheVariants.{Board, Replay, Tourney, Tidy, Bot, Demo, Check, Pgn, Examine}

-- how a command ends over this table, where it is told; `demo`, `check` and `pgn` leave the input as it was
abbrev pub CommandEnds : Option Records → Option (List ℕ) → Option (List ℕ) → Option (List ℕ) → Option (List ℕ)
    → Outcome
    → RunCommand → Type 0
CommandEnds table left left' written written' outcome Board = AsRead (BoardEnds left left' written written') outcome
CommandEnds table left left' written written' outcome Replay = AsRead (ReplayEnds left left' written written') outcome
CommandEnds table left left' written written' outcome Tourney =
    AsRead (TourneyEnds left left' written written') outcome
CommandEnds table left left' written written' outcome Tidy = AsRead (TidyEnds left left' written written') outcome
CommandEnds table left left' written written' outcome (Bot depth) =
    AsRead (BotEnds depth left left' written written') outcome
CommandEnds table left left' written written' outcome (Demo number) =
    Keeps left left' × AsRead (DemoEnds number written written') outcome
CommandEnds table left left' written written' outcome Check =
    Keeps left left' × CheckEnds table written written' outcome
CommandEnds table left left' written written' outcome Pgn =
    Keeps left left' × PgnEnds table written written' outcome
CommandEnds table left left' written written' outcome (Examine game) =
    ExamineEnds table game left left' written written' outcome

-- a prefix of what would have been written, at a fault of writing or when out of memory: of a command's text, or of the
-- usage line
abbrev pub WritesPart : List (String Global) → Option Records → Option (List ℕ) → Option (List ℕ) → Option (List ℕ)
    → Option (List ℕ) → Outcome → Type 0
WritesPart words table left left' written written' outcome =
    ((command : RunCommand) → NamesCommand words command
    → CommandEnds table left left' written written' outcome command)
    × (¬ (IsCommand words) → UsagePart left left' written written')

-- the table is told, and each of its records is good
abbrev pub IsToldGood : Option Records → Type 0
IsToldGood None = ⊥
IsToldGood (Some table) = IsGoodStore table

-- the table is good and has the game of that number, of which each line of the text is good
pub record CanBeExamined (number : ℕ) (text : List ℕ) (table : Records) : Type 0 where
  pub good : IsGoodStore table
  pub game : StoredGame
  pub stands : StandsUnder number game table
  pub lines : each.bad_in (examine_lines (exam_opened game)) (lines_of text) ≡ None

-- the table is told, and this holds of it
abbrev pub IsExaminable : Option Records → ℕ → List ℕ → Type 0
IsExaminable None number text = ⊥
IsExaminable (Some table) number text = CanBeExamined number text table

-- the input is in the command's grammar: none of its lines is bad, or they are those of an evening, or games are read
-- in its text; `demo` reads none, `check` and `pgn` read a good store, and `examine` one with the game
abbrev pub IsGood : Option Records → List ℕ → RunCommand → Type 0
IsGood table text Board = bad_line_in (lines_of text) ≡ None
IsGood table text Replay = AreEvening (lines_of text)
IsGood table text Tourney = each.bad_in tourney_lines (lines_of text) ≡ None
IsGood table text Tidy = (games : List PgnGame) × ReadsGames text games
IsGood table text (Bot depth) = each.bad_in (bot_lines depth) (lines_of text) ≡ None
IsGood table text (Demo number) = ⊤
IsGood table text Check = IsToldGood table
IsGood table text Pgn = IsToldGood table
IsGood table text (Examine game) = IsExaminable table game text
