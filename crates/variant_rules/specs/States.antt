-- What there is to do for the player to move.
use Rattle.std.specs.Prelude.{ℕ, Option}
use Rattle.chess_model.specs.declared.man.Kind.{Kind}
use Rattle.chess_model.specs.declared.moves.Move.{Move}
use Rattle.chess_model.specs.declared.moves.Move.TheVariants.{Plain, Drop}
use Rattle.chess_model.specs.declared.states.State.{State}
use Rattle.chess_model.specs.Position.{Position}
use Rattle.chess_model.specs.Allowed.{Allowed}
use Rattle.chess_model.specs.Result as told
use Rattle.chess_model.specs.Result.{IsOnBoard, Shields}

-- what the position is for the player to move
abbrev pub state_in : Position → State
state_in p = told.result p

-- no move from a is allowed
pub record NoneFrom (p : Position) (a : ℕ) : Type 0 where
  pub none : (b : ℕ) (promo : Option Kind) → ¬ Allowed p (Plain a b promo)

-- some plain move or castling is allowed
unfoldable pub CanMove : Position → Type 0
CanMove p = (m : Move) × IsOnBoard m × Allowed p m

-- some drop is allowed
unfoldable pub CanDropAny : Position → Type 0
CanDropAny p = (k : Kind) × (to : ℕ) × Allowed p (Drop k to)

-- a man on some square would shield the king
unfoldable pub CanBeShielded : Position → Type 0
CanBeShielded p = (s : ℕ) × Shields p s
