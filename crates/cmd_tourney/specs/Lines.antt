-- The lines of `tourney`: `start` and `table`; `join` and a handle; `round` and a decimal from 1 to 255; `result`, two
-- handles, White's first, and the score. One blank stands between two words. This program's own.
use Rattle.std.specs.Prelude.{ℕ, if◌then◌else◌, bytes_eq, codes, decimal, List, Option, Some, None, option_map}
use Rattle.std.specs.List.{after_first, before_first, find, range_with_len}
use Rattle.fics_words.specs.HandleTest.{handle_of}
use Rattle.tourney_desk.specs.declared.score.Score.{Score}
use Rattle.tourney_desk.specs.declared.score.Score.TheVariants as score
use Rattle.fics_words.specs.Blank.{is_blank}
use Rattle.cmd_tourney.specs.declared.line.TourneyLine.{TourneyLine}
use Rattle.cmd_tourney.specs.declared.line.TourneyLine.TheVariants as line

-- the number from 1 to 255 of which the bytes are the decimal
unfoldable pub round_of : List ℕ → Option ℕ
round_of bytes = find (λ n. bytes_eq (decimal n) bytes) (range_with_len 1 255)

-- the score that the bytes spell
abbrev pub score_of : List ℕ → Option Score
score_of bytes =
    if bytes_eq bytes (codes "1-0") then Some score.White
    else (if bytes_eq bytes (codes "0-1") then Some score.Black
    else (if bytes_eq bytes (codes "1/2-1/2") then Some score.Draw else None))

-- a result, where its three words are good
abbrev pub scored : Option (List ℕ) → Option (List ℕ) → Option Score → Option TourneyLine
scored None black result = None
scored (Some white) None result = None
scored (Some white) (Some black) None = None
scored (Some white) (Some black) (Some result) = Some (line.Report white black result)

-- what stands behind `result`
abbrev pub result_of : List ℕ → Option TourneyLine
result_of rest =
    let behind = after_first is_blank rest in
    scored (handle_of (before_first is_blank rest)) (handle_of (before_first is_blank behind))
    (score_of (after_first is_blank behind))

-- a line by its first word, and what stands behind the blank
abbrev pub worded : List ℕ → List ℕ → Option TourneyLine
worded word rest =
    if bytes_eq word (codes "join") then option_map line.Join (handle_of rest)
    else (if bytes_eq word (codes "round") then option_map line.Round (round_of rest)
    else (if bytes_eq word (codes "result") then result_of rest else None))

-- what the line asks for, where it is in the grammar
abbrev pub tourney_line : List ℕ → Option TourneyLine
tourney_line bytes =
    if bytes_eq bytes (codes "start") then Some line.Start
    else (if bytes_eq bytes (codes "table") then Some line.Table
    else worded (before_first is_blank bytes) (after_first is_blank bytes))
