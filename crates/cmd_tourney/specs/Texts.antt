-- What `tourney` writes for a line, and what the line makes of the tourney.
use Rattle.std.specs.Prelude.{ℕ, ◌+◌, List, [], ◌∷◌, ◌++◌, codes, decimal, Option, Result, Ok, Err, option_map}
use Rattle.std.specs.List.{flat_map, slice_index_or}
use Rattle.fics_words.specs.Effect.{Effect, answer_of, state_of}
use Rattle.fics_words.specs.Handle.{key_of}
use Rattle.fics_words.specs.declared.refusal.Refusal.{Refusal}
use Rattle.cmd_lines.specs.LineCommand.{LineCommand}
use Rattle.cmd_lines.specs.Words.{refusal_text}
use Rattle.tourney_desk.specs.declared.score.ScoreRow.{ScoreRow}
use Rattle.tourney_desk.specs.Tourney.{TourneyState, joining_tourney, no_tourney, pairs_told, reporting, starting_tourney, table_told}
use Rattle.cmd_tourney.specs.Lines.{tourney_line}
use Rattle.cmd_tourney.specs.declared.line.TourneyLine.{TourneyLine}
use Rattle.cmd_tourney.specs.declared.line.TourneyLine.TheVariants.{Join, Start, Round, Report, Table}

-- the line of what was done
abbrev pub done_text : Unit {0} → List ℕ
done_text done = codes "Ok.\n"

-- the line of a start: the number of rounds
abbrev pub rounds_text : ℕ → List ℕ
rounds_text rounds = codes "rounds " ++ decimal rounds ++ codes "\n"

-- the name of the player of this number
abbrev pub name_at : List (List ℕ) → ℕ → List ℕ
name_at names player = slice_index_or names player []

-- the line of a pair: White, and Black
abbrev pub pair_text : List (List ℕ) → ℕ × ℕ → List ℕ
pair_text names pair = name_at names pair.0 ++ codes " - " ++ name_at names pair.1 ++ codes "\n"

-- the line of a row of the table: its place, the player, the results that stand for that player, and the half-points
abbrev pub row_text : List (List ℕ) → ℕ → ScoreRow → List ℕ
row_text names place row =
    decimal place ++ codes " " ++ name_at names row.player ++ codes " " ++ decimal row.games ++ codes " "
    ++ decimal row.halves ++ codes "\n"

-- the lines of rows, the first of which has this place
abbrev pub rows_text : List (List ℕ) → ℕ → List ScoreRow → List ℕ
rows_text names place [] = []
rows_text names place (row ∷ rows) = row_text names place row ++ rows_text names (place + 1) rows

-- the text of an answer: of what was asked for, or of the refusal
abbrev pub told_text : {T : Type 0} → (T → List ℕ) → Result T Refusal → List ℕ
told_text text (Ok value) = text value
told_text text (Err cause) = refusal_text cause

-- an act on the tourney: what stands afterwards, and the text of its answer
abbrev pub acted : {T : Type 0} → (T → List ℕ) → TourneyState → Effect TourneyState T → TourneyState × List ℕ
acted text t effect = (state_of t effect, told_text text (answer_of effect))

-- what a line makes of the tourney, and what is written for it
abbrev pub line_done : TourneyState → TourneyLine → TourneyState × List ℕ
line_done t (Join name) = acted done_text t (joining_tourney t name)
line_done t Start = acted rounds_text t (starting_tourney t)
line_done t (Round round) = (t, told_text (flat_map (pair_text t.players)) (pairs_told t round))
line_done t (Report white black score) = acted done_text t (reporting t (key_of white) (key_of black) score)
line_done t Table = (t, told_text (rows_text t.players 1) (table_told t))

-- what a line that isn't empty makes of the tourney, and what is written for it; nothing where it is outside the
-- grammar
unfoldable pub answer_line : TourneyState → List ℕ → Option (TourneyState × List ℕ)
answer_line t line = option_map (line_done t) (tourney_line line)

-- `tourney` as a function of where its tourney stands and a line
abbrev pub tourney_lines : LineCommand TourneyState
tourney_lines = record { start = no_tourney; answer = answer_line; ending = codes "\n" }
