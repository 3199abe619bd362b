-- The lines of `examine`: `forward` and `back`, each alone or with a blank and a decimal from 1 to 2,400; `revert`; and
-- move words. This program's own.
use Rattle.std.specs.Prelude.{ℕ, if◌then◌else◌, bytes_eq, codes, decimal, List, Option, Some, option_map}
use Rattle.std.specs.List.{after_first, before_first, find, range_with_len}
use Rattle.move_reader.specs.Reading as word
use Rattle.fics_words.specs.Blank.{is_blank}
use Rattle.cmd_examine.specs.declared.line.ExamLine.{ExamLine}
use Rattle.cmd_examine.specs.declared.line.ExamLine.TheVariants.{Forward, Back, Revert, Play}

-- the number from 1 to 2,400 of which the bytes are the decimal
unfoldable pub count_of : List ℕ → Option ℕ
count_of bytes = find (λ n. bytes_eq (decimal n) bytes) (range_with_len 1 2400)

-- a line by its first word, and what stands behind the blank
abbrev pub worded : List ℕ → List ℕ → List ℕ → Option ExamLine
worded first rest bytes =
    if bytes_eq first (codes "forward") then option_map Forward (count_of rest)
    else (if bytes_eq first (codes "back") then option_map Back (count_of rest)
    else option_map Play (word.reading bytes))

-- what the line asks for, where it is in the grammar
abbrev pub exam_line_of : List ℕ → Option ExamLine
exam_line_of bytes =
    if bytes_eq bytes (codes "forward") then Some (Forward 1)
    else (if bytes_eq bytes (codes "back") then Some (Back 1)
    else (if bytes_eq bytes (codes "revert") then Some Revert
    else worded (before_first is_blank bytes) (after_first is_blank bytes) bytes))
