-- Bytes that show are printable, and none of them is a blank.
use Rattle.std.proofs.Common.{ℕ, ◌<◌, ◌≤◌, List, length, arith, rules, tests}
use Rattle.std.specs.Prelude.{All, IsTrue}
use Rattle.std.specs.List.{list_all}
use Rattle.std.proofs.lemmas.List.Sums.{list_all-from_AllPass}
use Rattle.chess_model.specs.MoveText.{IsMoveText, is_printable}
use Rattle.move_writer.specs.Blanks.{Shows, HasNoBlank}

pub list_all-from_shows : (text : List ℕ) → All Shows text → IsTrue (list_all is_printable text)
list_all-from_shows text h =
    list_all-from_AllPass is_printable text (λ k d within. let shows = h k d within in search (rules, tests))

pub HasNoBlank-from_shows : (text : List ℕ) → All Shows text → HasNoBlank text
HasNoBlank-from_shows text h k d within = let shows = h k d within in λ blank. omega arith

-- a text of bytes that show is that of a move, where it has 1 to 12
pub IsMoveText-from_shows : (text : List ℕ) → 0 < length text → length text ≤ 12 → All Shows text → IsMoveText text
IsMoveText-from_shows text some most h = record { some = some; most = most; printable = list_all-from_shows text h }
