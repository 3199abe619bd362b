-- All half-moves that there could be, in the order in which moves are listed, and those of them that are allowed.
use Rattle.std.specs.Prelude.{ℕ, ◌+◌, ◌*◌, true, false, List, [], ◌∷◌, ◌++◌, map, Option, Some, None}
use Rattle.std.specs.List.{filter, flat_map}
use Rattle.chess_model.specs.declared.man.Kind.{Kind}
use Rattle.chess_model.specs.declared.man.Kind.TheVariants.{Pawn, Knight, Bishop, Rook, Queen, King}
use Rattle.chess_model.specs.declared.moves.Move.{Move}
use Rattle.chess_model.specs.declared.moves.Move.TheVariants.{Plain, Castle, Drop}
use Rattle.chess_model.specs.Position.{Position}
use Rattle.chess_model.specs.Tests.{squares, is_allowed}

-- no promotion, and the four promotions in their order
abbrev pub promotions : List (Option Kind)
promotions = None ∷ Some Queen ∷ Some Rook ∷ Some Bishop ∷ Some Knight ∷ []

-- the kinds that are dropped, in their order
abbrev pub dropped_kinds : List Kind
dropped_kinds = Pawn ∷ Knight ∷ Bishop ∷ Rook ∷ Queen ∷ []

-- the plain moves from a square, by target and promotion
abbrev pub moves_from : ℕ → List Move
moves_from a = flat_map (λ b. map (Plain a b) promotions) squares

-- plain moves by origin, target and promotion, then short and long castling
unfoldable pub board_moves : List Move
board_moves = flat_map moves_from squares ++ Castle false ∷ Castle true ∷ []

-- drops by kind and square
unfoldable pub drop_moves : List Move
drop_moves = flat_map (λ k. map (Drop k) squares) dropped_kinds

-- the allowed half-moves of a position, in order
unfoldable pub allowed_moves : Position → List Move
allowed_moves p = filter (is_allowed p) (board_moves ++ drop_moves)

-- the place of a promotion in the order of promotions
abbrev pub promotion_place : Option Kind → ℕ
promotion_place None = 0
promotion_place (Some Queen) = 1
promotion_place (Some Rook) = 2
promotion_place (Some Bishop) = 3
promotion_place (Some Knight) = 4
promotion_place (Some k) = 5

-- the place of a kind of man, as drops and sets of men are ordered
abbrev pub kind_place : Kind → ℕ
kind_place Pawn = 0
kind_place Knight = 1
kind_place Bishop = 2
kind_place Rook = 3
kind_place Queen = 4
kind_place King = 5

-- the place of a half-move among all that there could be
abbrev pub move_place : Move → ℕ
move_place (Plain a b promo) = 5 * (64 * a + b) + promotion_place promo
move_place (Castle false) = 20480
move_place (Castle true) = 20481
move_place (Drop k to) = 20482 + (64 * kind_place k + to)
