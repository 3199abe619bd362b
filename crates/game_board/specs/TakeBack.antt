-- What taking half-moves back does to a board.
use Rattle.std.specs.Prelude.{ℕ, ◌-◌, ◌||◌, nat_eq, nat_lt, if◌then◌else◌, Bool, List, length, min, take, None, Result, Ok, Err}
use Rattle.fics_words.specs.declared.refusal.Refusal.{Refusal}
use Rattle.fics_words.specs.declared.refusal.Refusal.TheVariants.{TooFewMoves}
use Rattle.game_board.specs.Board.{Board}

-- whether so many half-moves can't be taken back: none at all, or more than the list has
abbrev pub has_too_few : Board → ℕ → Bool
has_too_few b n = nat_eq n 0 || nat_lt (length b.list) n

-- a list without as many items at its end as another has
abbrev pub without_end : {X : Type 0} → List X → List X → List X
without_end end list = take (length list - length end) list

-- the board without its last n half-moves and their charges, where it is the only one of its game; of those that came
-- with their charges it has what is left
abbrev pub board_without_last : Board → ℕ → Board
board_without_last b n = record b {
  list = take (length b.list - n) b.list;
  all = take (length b.all - n) b.all;
  resumed = min b.resumed (length b.list - n);
}

-- the board after the last n half-moves were taken back at that moment: who is to move is thinking since then, and
-- hasn't acknowledged it; the half-moves that were taken back still count as played
abbrev pub board_taken_back : Board → ℕ → ℕ → Board
board_taken_back b n moment = record (board_without_last b n) {
  begin = moment;
  kept = None;
}

-- the reply to taking n half-moves back
abbrev pub take_back_reply : Board → ℕ → Result Unit Refusal
take_back_reply b n = if has_too_few b n then Err TooFewMoves else Ok tt

-- and the board after it
abbrev pub take_back_after : Board → ℕ → ℕ → Board
take_back_after b n moment = if has_too_few b n then b else board_taken_back b n moment
