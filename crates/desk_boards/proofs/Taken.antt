-- What the test of a half-move at a board says where it passes: there is a board, it has room, and the half-move is
-- allowed.
use Rattle.std.proofs.Common.{◌<◌, Option, Some, None, refl}
use Rattle.std.specs.Prelude.{IfSome, IsSome, IsTrue}
use Rattle.chess_model.specs.Allowed.{Allowed}
use Rattle.game_board.specs.declared.played.Played.{Played}
use Rattle.game_board.specs.Board.{Board, position_of}
use Rattle.game_board.proofs.Takes.{takes_played-parts}
use Rattle.desk_boards.specs.Replaying.{own_takes}

pub own_there : (o : Option Board) (p : Played) → IsTrue (own_takes o p) → IsSome o
own_there None p takes = cc
own_there (Some b) p takes = refl

pub own_allowed : (o : Option Board) (p : Played) → IsTrue (own_takes o p)
    → IfSome o (λ b. Allowed (position_of b) p.what)
own_allowed None p takes = tt
own_allowed (Some b) p takes = (takes_played-parts b p takes).allowed

pub own_room : (o : Option Board) (p : Played) → IsTrue (own_takes o p) → IfSome o (λ b. b.played < 1200)
own_room None p takes = tt
own_room (Some b) p takes = (takes_played-parts b p takes).room
