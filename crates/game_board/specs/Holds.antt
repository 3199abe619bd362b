-- What the fields of every board keep: the position, the clocks and what is kept of each half-move follow the list.
use Rattle.std.specs.Prelude.{◌≡◌, ◌≢◌, ◌+◌, ◌-◌, ◌≤◌, length, map, IfSome, All, slice_get}
use Rattle.std.specs.Option.{option_map}
use Rattle.chess_model.specs.Limits.{most_halves}
use Rattle.chess_model.specs.declared.man.Colour.TheVariants.{White, Black}
use Rattle.chess_model.specs.declared.variant.Variant.TheVariants.{Bughouse}
use Rattle.chess_model.specs.MoveList.{moves_of}
use Rattle.chess_model.specs.Position.{Stands}
use Rattle.chess_model.specs.Allowed.{IsLegal}
use Rattle.fics_words.specs.Boards.{board_number}
use Rattle.game_board.specs.declared.game_board.GameBoard.TheInside.{Inside}
use Rattle.game_board.specs.Board.{half_moves, made}
use Rattle.game_board.specs.BoardFace.{last_shown}
use Rattle.clock_ledger.specs.Charges.{IsChargeable}
use Rattle.clock_ledger.specs.Span.{IsStamp}
use Rattle.game_board.specs.Charges.{clock_of}
use Rattle.game_board.specs.Steps.{AreSteps}

pub record HoldsBoard (g : Inside) : Type 0 where
  -- the position stands for the half-moves of all boards, each of which was allowed
  pub stands : Stands g.position (made g.all) (board_number g.number)
  pub variant : g.position.variant ≡ g.terms.variant
  pub legal : IsLegal g.terms.variant (made g.all)
  -- the list has those of this board, and but in bughouse there are no others
  pub own : moves_of (board_number g.number) (made g.all) ≡ map (λ p. p.what) g.list
  pub alone : g.terms.variant ≢ Bughouse → made g.all ≡ half_moves (board_number g.number) g.list
  pub others : length g.all ≤ length g.list + most_halves
  -- the clocks have the charges of the list
  pub white : g.white ≡ clock_of g.terms White g.list
  pub black : g.black ≡ clock_of g.terms Black g.list
  pub sound : All (λ p. IfSome p.charge IsChargeable) g.list
  pub kept : IfSome g.kept IsStamp
  pub each : length g.steps ≡ length g.list
  pub shown : option_map (λ s. s.shown) (slice_get g.steps (length g.steps - 1))
      ≡ last_shown g.terms.variant (board_number g.number) (made g.all) g.list
  -- half-moves are taken back where the board is the only one
  pub steps : g.terms.variant ≢ Bughouse → AreSteps g.terms.variant (board_number g.number) g.list g.steps
  pub counted : length g.list ≤ g.played
  pub most : g.played ≤ most_halves
  pub resumed : g.resumed ≤ length g.list
