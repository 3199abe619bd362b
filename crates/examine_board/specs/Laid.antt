-- Half-moves that can be laid on the boards of a game one after another. Unlike those of a stored game they may go on
-- without the charges that belong to them, as where somebody tries out another half-move.
use Rattle.std.specs.Prelude.{◌≡◌, ℕ, ◌<◌, ◌≤◌, List, length, take, Some, slice_get}
use Rattle.chess_model.specs.Limits.{most_halves}
use Rattle.chess_model.specs.declared.variant.Terms.{Terms}
use Rattle.chess_model.specs.Allowed.{Allowed}
use Rattle.game_records.specs.declared.stored_game.Half.{Half}
use Rattle.game_records.specs.Bounds.{IsCharge, boards}
use Rattle.game_records.specs.Replays.{position_on}
use Rattle.desk_boards.specs.Halves.{list_on}

-- a half-move may be laid behind these: it is of a board of the game, which has room for it, it is allowed there, and
-- its charge, if it has one, is one that a clock may have
pub record MayLie (t : Terms) (before : List Half) (h : Half) : Type 0 where
  pub first : 1 ≤ h.board
  pub last : h.board ≤ boards t.variant
  pub allowed : Allowed (position_on t.variant before h.board) h.what
  pub room : length (list_on h.board before) < most_halves
  pub charge : IsCharge h.charge

-- each may be laid behind those before it
pub record CanBeLaid (t : Terms) (halves : List Half) : Type 0 where
  pub each : (point : ℕ) (h : Half) → slice_get halves point ≡ Some h → MayLie t (take point halves) h
