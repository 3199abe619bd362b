-- What contracts see of a game on one board: its half-moves with their charges, and the counts beside them.
use Rattle.std.specs.Prelude.{ℕ, Bool, nat_lt, List, [], length, map, Option, None}
use Rattle.chess_model.specs.declared.man.Colour.{Colour}
use Rattle.chess_model.specs.declared.man.Colour.TheVariants.{White, Black}
use Rattle.chess_model.specs.declared.variant.Terms.{Terms}
use Rattle.chess_model.specs.MoveList.{HalfMove, side_from}
use Rattle.chess_model.specs.Position.{Position, position_after}
use Rattle.fics_words.specs.Boards.{board_number}
use Rattle.game_board.specs.declared.played.Made.{Made}
use Rattle.game_board.specs.declared.played.Played.{Played}

-- a game on one board
pub record Board : Type 0 where
  -- 1, or 2 for the second board of a pair
  pub number : ℕ
  pub terms : Terms
  -- the half-moves from the start, each with its charge where it has one
  pub list : List Played
  -- the moment, in milliseconds, from which the player to move is thinking
  pub begin : ℕ
  -- the stamp with which the client of the player to move acknowledged the board, where it did so since then
  pub kept : Option ℕ
  -- how many half-moves were played on the board
  pub played : ℕ
  -- how many half-moves of the list, the first ones, came with their charges, as where an adjourned game is resumed;
  -- the others were made on this board
  pub resumed : ℕ
  -- the half-moves of all boards of the game in their order, those of the partner's board as this one learnt of them
  pub all : List HalfMove

-- the board at its start
abbrev pub new_board : ℕ → Terms → ℕ → Board
new_board number terms moment =
    record { number = number; terms = terms; list = []; begin = moment; kept = None; played = 0; resumed = 0; all = [] }

-- a half-move on the board of that number
abbrev pub half_move : ℕ → Played → HalfMove
half_move number p = record { board = number; what = p.what }

-- the half-moves on the board of that number
abbrev pub half_moves : ℕ → List Played → List HalfMove
half_moves number list = map (half_move number) list

-- who is to move after these half-moves; White begins, and the colours alternate (FIDE 1.1)
abbrev pub mover_after : List Played → Colour
mover_after list = side_from White (map (λ p. p.what) list)

-- the colour that is to move
abbrev pub to_move : Board → Colour
to_move b = mover_after b.list

-- the position on the board
unfoldable pub position_of : Board → Position
position_of b = position_after b.terms.variant b.all b.number

-- half-moves as they are kept, and what they are to the rules
abbrev pub made : List Made → List HalfMove
made all = map (λ h. record { board = board_number h.board; what = h.what }) all

-- how many half-moves stand before the first one of a colour
abbrev pub half_moves_before : Colour → ℕ
half_moves_before White = 0
half_moves_before Black = 1

-- whether a colour has made a half-move
abbrev pub has_moved : Colour → List Played → Bool
has_moved c list = nat_lt (half_moves_before c) (length list)
