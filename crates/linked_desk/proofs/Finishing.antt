-- What an end by the position on a board keeps.
use Rattle.std.proofs.Common.{◌≡◌, ◌≤◌, ◌^◌, ℕ, false, Option, Some, None, IfSome, refl, sym, subst}
use Rattle.std.specs.Option.{option_and_then}
use Rattle.chess_model.specs.declared.man.Colour.{Colour}
use Rattle.chess_model.specs.declared.states.State.{State}
use Rattle.chess_model.specs.declared.states.State.TheVariants.{Safe, Check, Mate, Stalemate}
use Rattle.chess_model.specs.Result.{result, is_end}
use Rattle.game_board.specs.Board.{Board, to_move, position_of}
use Rattle.fics_words.specs.declared.board_number.BoardNumber.{BoardNumber}
use Rattle.linked_desk.specs.declared.ended.Ended.{Ended}
use Rattle.linked_desk.specs.Desk.{GameState, occupant}
use Rattle.linked_desk.specs.Finish.{end_in, end_on, end_at, with_end, finished}
use Rattle.linked_desk.specs.Sound.{FitsWhy, IsSoundGame}
use Rattle.linked_desk.proofs.Keeps.{IsSound-told_end}

-- mate names its winner, and stalemate none
end_in-names : (board : BoardNumber) (mover : Colour) (state : State)
    → IfSome (end_in board mover state) (λ e. FitsWhy e.why e.winner)
end_in-names board mover Mate = (λ e. e, λ e. e)
end_in-names board mover Stalemate = (λ e. e, λ e. e)
end_in-names board mover Safe = tt
end_in-names board mover Check = tt

pub end_on-names : (board : BoardNumber) (on : Option Board)
    → IfSome (option_and_then (end_on board) on) (λ e. FitsWhy e.why e.winner)
end_on-names board None = tt
end_on-names board (Some b) = end_in-names board (to_move b) (result (position_of b))

-- a game whose boards bring this end, or none
pub IsSound-with_end : (desk : ℕ) (g : GameState) (moment : ℕ) (end : Option Ended)
    → IfSome end (λ e. FitsWhy e.why e.winner) → moment ≤ 2 ^ 48 → g.ended ≡ None →
    IsSoundGame (record g { ended = end }) → IsSoundGame (with_end desk g moment end)
IsSound-with_end desk g moment None names timely runs s =
    subst (λ (e : Option Ended). IsSoundGame (record g { ended = e })) (sym runs) s
IsSound-with_end desk g moment (Some e) names timely runs s = IsSound-told_end desk g moment e names timely s

occupant-with_end : (desk : ℕ) (g : GameState) (moment : ℕ) (end : Option Ended)
    → occupant (with_end desk g moment end) ≡ occupant g
occupant-with_end desk g moment None = refl
occupant-with_end desk g moment (Some e) = refl

pub occupant-finished : (desk : ℕ) (g : GameState) (moment : ℕ) (board : BoardNumber)
    → occupant (finished desk g moment board) ≡ occupant g
occupant-finished desk g moment board = occupant-with_end desk g moment (end_at g board)

-- a state that brings no end is none
goes_on-in : (board : BoardNumber) (mover : Colour) (state : State) → end_in board mover state ≡ None
    → is_end state ≡ false
goes_on-in board mover Mate e = absurd cc
goes_on-in board mover Stalemate e = absurd cc
goes_on-in board mover Safe e = refl
goes_on-in board mover Check e = refl

pub goes_on_at : (board : BoardNumber) (on : Option Board) → option_and_then (end_on board) on ≡ None
    → IfSome on (λ b. is_end (result (position_of b)) ≡ false)
goes_on_at board None e = tt
goes_on_at board (Some b) e = goes_on-in board (to_move b) (result (position_of b)) e
