-- What a board keeps of each half-move beside it: what takes it back, and what a printed board shows of it.
use Rattle.std.specs.Prelude.{◌≡◌, ℕ, ◌+◌, List, length, take, Option, Some, slice_get}
use Rattle.std.specs.Option.{option_map}
use Rattle.chess_model.specs.declared.states.Shown.{Shown}
use Rattle.chess_model.specs.declared.variant.Variant.{Variant}
use Rattle.chess_model.specs.Position.{Position, position_after}
use Rattle.variant_rules.specs.Undos.{IsUndoOf}
use Rattle.variant_rules.specs.Showing.{shown_of}
use Rattle.game_board.specs.declared.played.Played.{Played}
use Rattle.game_board.specs.declared.played.Step.{Step}
use Rattle.game_board.specs.Board.{half_moves}

-- the position on the board of that number after the first k half-moves of a list
abbrev pub position_at : Variant → ℕ → List Played → ℕ → Position
position_at v number list k = position_after v (half_moves number (take k list)) number

-- what is shown of the k-th half-move, counted from 0: it is read in the position before it
abbrev pub shown_at : Variant → ℕ → List Played → ℕ → Option Shown
shown_at v number list k = option_map (λ p. shown_of (position_at v number list k) p.what) (slice_get list k)

-- what is kept of the k-th half-move of a list
pub record IsKeptStep (v : Variant) (number : ℕ) (list : List Played) (k : ℕ) (step : Step) : Type 0 where
  -- its undo takes the position after it back to that before it
  pub undo : IsUndoOf step.undo (position_at v number list k) (position_at v number list (k + 1))
  pub shown : shown_at v number list k ≡ Some step.shown

-- what is kept of the half-moves of a list
pub record AreSteps (v : Variant) (number : ℕ) (list : List Played) (steps : List Step) : Type 0 where
  pub each : length steps ≡ length list
  pub kept : (k : ℕ) (step : Step) → slice_get steps k ≡ Some step → IsKeptStep v number list k step
