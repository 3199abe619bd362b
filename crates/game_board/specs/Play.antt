-- What a move word does to a board.
use Rattle.std.specs.Prelude.{ℕ, ◌+◌, ◌==◌, ◌&&◌, not, if◌then◌else◌, [], ◌∷◌, ◌++◌, Option, Some, None, Result, Ok, Err}
use Rattle.std.specs.Option.{option_map_or, option_zip}
use Rattle.chess_model.specs.Limits.{most_halves}
use Rattle.chess_model.specs.declared.man.Colour.{Colour}
use Rattle.chess_model.specs.declared.man.Man.{Man}
use Rattle.chess_model.specs.declared.moves.Move.{Move}
use Rattle.chess_model.specs.declared.moves.MoveWord.{MoveWord}
use Rattle.chess_model.specs.MoveList.{taken}
use Rattle.chess_model.specs.Holdings.{same_colour}
use Rattle.fics_words.specs.Effect.{first_cause}
use Rattle.fics_words.specs.declared.refusal.Refusal.{Refusal}
use Rattle.fics_words.specs.declared.refusal.Refusal.TheVariants.{NotYourTurn, TooManyMoves}
use Rattle.clock_ledger.specs.declared.charges.Charge.{Charge}
use Rattle.game_board.specs.Board.{Board, to_move, position_of, has_moved}
use Rattle.game_board.specs.Causes.{in_words}
use Rattle.game_board.specs.Charges.{is_timed}
use Rattle.chess_model.specs.WordAnswer.{word_answer}

-- why a colour may make no half-move now
abbrev pub move_refused : Board → Colour → Option Refusal
move_refused b c =
    first_cause ((not (same_colour c (to_move b)), NotYourTurn) ∷ (b.played == most_halves, TooManyMoves) ∷ [])

-- the half-move that a word of a colour stands for now, or the refusal: what refuses the colour comes before the
-- rules' answer
unfoldable pub move_answer : Board → Colour → MoveWord → Result Move Refusal
move_answer b c w = option_map_or Err (move_refused b c) (in_words (word_answer (position_of b) w))

-- the charge of the next half-move, where it is made at that moment: the first one of each colour has none. It keeps
-- the client's stamps where both are there, that of the board's acknowledgement and the move's
abbrev pub next_charge : Board → ℕ → Option ℕ → Option Charge
next_charge b moment stamp =
    if is_timed b.terms && has_moved (to_move b) b.list
    then Some (record { begin = b.begin; end = moment; client = option_zip b.kept stamp })
    else None

-- the board after a half-move at that moment; who is to move then hasn't acknowledged it
abbrev pub with_half_move : Board → Move → ℕ → Option ℕ → Board
with_half_move b m moment stamp = record b {
  list = b.list ++ record { what = m; charge = next_charge b moment stamp } ∷ [];
  all = b.all ++ record { board = b.number; what = m } ∷ [];
  begin = moment;
  kept = None;
  played = b.played + 1;
}

-- the man that a half-move captures
abbrev pub captured_in : Board → Move → Option Man
captured_in b m = taken (position_of b).men m

-- the reply to a word: the captured man, or the refusal
abbrev pub play_reply : Board → Result Move Refusal → Result (Option Man) Refusal
play_reply b (Ok m) = Ok (captured_in b m)
play_reply b (Err r) = Err r

-- the board after a word: one half-move more, or as it was
abbrev pub play_after : Board → ℕ → Option ℕ → Result Move Refusal → Board
play_after b moment stamp (Ok m) = with_half_move b m moment stamp
play_after b moment stamp (Err r) = b
