-- What a position is worth to the player to move, and the move that makes it so. A definition without bounds or cuts:
-- every list of half-moves of the length counts.
use Rattle.std.specs.Prelude.{ℕ, zero, suc, ◌+◌, ◌*◌, pos, ◌-ℤ◌, neg_ℤ, List, [], ◌∷◌, map, fold, Option, Some, None, unwrap_or, ℤ}
use Rattle.std.specs.Int.{int_max}
use Rattle.std.specs.List.{find}
use Rattle.std.specs.Ordering.{int_eq}
use Rattle.chess_model.specs.declared.man.Colour.{Colour}
use Rattle.chess_model.specs.declared.man.Kind.TheVariants.{Pawn, Knight, Bishop, Rook, Queen}
use Rattle.chess_model.specs.declared.moves.Move.{Move}
use Rattle.chess_model.specs.declared.hand.Hand.{Hand}
use Rattle.chess_model.specs.declared.states.State.{State}
use Rattle.chess_model.specs.declared.states.State.TheVariants.{Safe, Check, Mate, Stalemate}
use Rattle.chess_model.specs.declared.variant.Variant.{Variant}
use Rattle.chess_model.specs.declared.variant.Variant.TheVariants.{Crazyhouse}
use Rattle.chess_model.specs.Placement.{opposite}
use Rattle.chess_model.specs.Material.{worth_of, material_of}
use Rattle.chess_model.specs.Position.{Position, hand_of_side}
use Rattle.chess_model.specs.Next.{next}
use Rattle.chess_model.specs.Result.{result}
use Rattle.chess_model.specs.AllMoves.{allowed_moves}

-- what the men in a hand count for, by the same numbers as on a board
abbrev pub hand_worth : Hand → ℕ
hand_worth h =
    worth_of Pawn * h.pawns + worth_of Knight * h.knights + worth_of Bishop * h.bishops + worth_of Rook * h.rooks
    + worth_of Queen * h.queens

-- what a hand adds to the material: in crazyhouse what its men count for
abbrev pub hand_material : Variant → Hand → ℕ
hand_material Crazyhouse h = hand_worth h
hand_material _ h = 0

-- the material of a colour, on the board and in hand
abbrev pub material : Position → Colour → ℕ
material p c = material_of c p.men + hand_material p.variant (hand_of_side p c)

-- the material of the player to move less that of the other
abbrev pub balance : Position → ℤ
balance p = pos (material p p.to_move) -ℤ pos (material p (opposite p.to_move))

-- the greatest of a list; of none, 0
abbrev pub greatest : List ℤ → ℤ
greatest [] = pos 0
greatest (x ∷ xs) = fold int_max x xs

-- what a game that has ended is worth to the player to move: a mate counts the more, the more half-moves were left to
-- look at, so the nearest is the greatest; a stalemate is worth nothing; none where the game goes on
abbrev pub end_value : State → ℕ → Option ℤ
end_value Mate d = Some (neg_ℤ (pos (100000 + d)))
end_value Stalemate d = Some (pos 0)
end_value Check d = None
end_value Safe d = None

-- the value of a position for the player to move, d half-moves ahead: where the game goes on it is the material in the
-- end, and before it the greatest value of the allowed moves, each the other player's value turned round
unfoldable pub value : ℕ → Position → ℤ
value zero p = unwrap_or (end_value (result p) zero) (balance p)
value (suc d) p =
    unwrap_or (end_value (result p) (suc d)) (greatest (map (λ m. neg_ℤ (value d (next p m))) (allowed_moves p)))

-- what a move is worth to the player who makes it, with d half-moves after it
abbrev pub move_value : ℕ → Position → Move → ℤ
move_value d p m = neg_ℤ (value d (next p m))

-- the first of the allowed moves, in their order, that reaches the value; with no half-move to look at, none
unfoldable pub best_move : ℕ → Position → Option Move
best_move zero p = None
best_move (suc d) p = find (λ m. int_eq (move_value d p m) (value (suc d) p)) (allowed_moves p)
