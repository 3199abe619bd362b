-- A half-move that is put on a board with the charge that it has already, as where a game is played again.
use Rattle.std.specs.Prelude.{◌+◌, Bool, not, ◌&&◌, nat_lt, is_some, [], ◌∷◌, ◌++◌, length, None}
use Rattle.std.specs.Bool.{beq}
use Rattle.chess_model.specs.Result.{is_end}
use Rattle.chess_model.specs.Tests.{is_allowed}
use Rattle.variant_rules.specs.States.{state_in}
use Rattle.game_board.specs.declared.played.Played.{Played}
use Rattle.game_board.specs.Board.{Board, half_move, to_move, position_of, has_moved}
use Rattle.game_board.specs.Charges.{is_timed}
use Rattle.chess_model.specs.Limits.{most_halves}

-- whether the next half-move is charged: the game is timed, and it isn't the first one of its colour
abbrev pub next_is_charged : Board → Bool
next_is_charged b = is_timed b.terms && has_moved (to_move b) b.list

-- whether a board takes a half-move with the charge that it has, if it has one: the game hasn't ended by mate or
-- stalemate (it ends by the last half-move, if at all), there is room, the half-move is allowed, and the charge is
-- there exactly where one belongs
unfoldable pub takes_played : Board → Played → Bool
takes_played b p =
    not (is_end (state_in (position_of b))) && nat_lt b.played most_halves && is_allowed (position_of b) p.what
    && beq (is_some p.charge) (next_is_charged b)

-- the board with one half-move more, since when nobody has acknowledged it
abbrev pub with_played : Board → Played → Board
with_played b p = record b {
  list = b.list ++ p ∷ [];
  all = b.all ++ half_move b.number p ∷ [];
  kept = None;
  played = b.played + 1;
}

-- the board with one half-move more that came with its charge. Those before it are taken to have come so too: a game is
-- resumed on a new board, before any half-move is made there
abbrev pub with_put : Board → Played → Board
with_put b p = record (with_played b p) { resumed = length b.list + 1 }
