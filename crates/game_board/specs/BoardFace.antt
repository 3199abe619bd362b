-- What a printed board shows of a game: the position, the last half-move and the time that it took.
use Rattle.std.specs.Prelude.{ℕ, ◌-◌, Bool, nat_eq, if◌then◌else◌, List, [], ◌∷◌, length, Option, Some, None, slice_get, option_and_then}
use Rattle.std.specs.List.{list_any}
use Rattle.std.specs.Option.{option_map}
use Rattle.chess_model.specs.declared.face.Face.{Face}
use Rattle.chess_model.specs.declared.states.Shown.{Shown}
use Rattle.chess_model.specs.declared.variant.Variant.{Variant}
use Rattle.chess_model.specs.MoveList.{HalfMove}
use Rattle.chess_model.specs.Position.{position_after}
use Rattle.clock_ledger.specs.declared.charges.Charge.{Charge}
use Rattle.clock_ledger.specs.Charges.{amount}
use Rattle.variant_rules.specs.Showing.{shown_of}
use Rattle.game_board.specs.Face.{face_of}
use Rattle.game_board.specs.declared.played.Played.{Played}
use Rattle.game_board.specs.Board.{Board, position_of}

-- the last half-move, if there is one
abbrev pub last_played : List Played → Option Played
last_played list = slice_get list (length list - 1)

-- whether one of the half-moves was made on the board of that number
abbrev pub has_own : ℕ → List HalfMove → Bool
has_own number T = list_any (λ h. nat_eq h.board number) T

-- the half-moves before the last one on the board of that number
abbrev pub before_own : ℕ → List HalfMove → List HalfMove
before_own number [] = []
before_own number (h ∷ T) = if has_own number T then h ∷ before_own number T else []

-- what is shown of the last half-move: it is read in the position before it
abbrev pub last_shown : Variant → ℕ → List HalfMove → List Played → Option Shown
last_shown v number all list =
    option_map (λ p. shown_of (position_after v (before_own number all) number) p.what) (last_played list)

-- all that a printed board shows of a game, names and clocks aside
unfoldable pub board_face : Board → Face
board_face b = face_of (position_of b) (length b.list) (last_shown b.terms.variant b.number b.all b.list)

-- what a charge amounts to, in milliseconds; no charge is nothing
abbrev pub charged_time : Option Charge → ℕ
charged_time None = 0
charged_time (Some c) = amount c

-- the time that the last half-move is charged with
abbrev pub last_taken : List Played → ℕ
last_taken list = charged_time (option_and_then (λ p. p.charge) (last_played list))
