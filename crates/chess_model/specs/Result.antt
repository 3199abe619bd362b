-- What a position is for the player to move: check, mate and stalemate (FIDE Laws 1.4.1, 3.9, 5.1.1, 5.2.1; FICS help
-- page `bughouse`).
use Rattle.std.specs.Prelude.{◌≡◌, ◌≢◌, ℕ, ◌<◌, ◌⊎◌, Bool, true, false, ◌&&◌, ◌||◌, not, is_none, None, slice_set, ⊤}
use Rattle.std.specs.List.{list_any}
use Rattle.chess_model.specs.declared.man.Kind.TheVariants.{Knight}
use Rattle.chess_model.specs.declared.moves.Move.{Move}
use Rattle.chess_model.specs.declared.moves.Move.TheVariants.{Plain, Castle, Drop}
use Rattle.chess_model.specs.declared.states.State.{State}
use Rattle.chess_model.specs.declared.states.State.TheVariants.{Safe, Check, Mate, Stalemate}
use Rattle.chess_model.specs.declared.variant.Variant.{Variant}
use Rattle.chess_model.specs.declared.variant.Variant.TheVariants.{Chess, Crazyhouse, Bughouse, Fischer}
use Rattle.chess_model.specs.Placement.{man_at, unpromoted}
use Rattle.chess_model.specs.Position.{Position}
use Rattle.chess_model.specs.Attacked.{IsKingSafe}
use Rattle.chess_model.specs.Allowed.{Allowed}
use Rattle.chess_model.specs.Tests.{squares, is_king_safe, is_allowed}
use Rattle.chess_model.specs.AllMoves.{board_moves, drop_moves}

-- whether the king of the player to move is attacked
abbrev pub is_in_check : Position → Bool
is_in_check p = not (is_king_safe p.men p.to_move)

-- whether some plain move or castling is allowed
abbrev pub can_move : Position → Bool
can_move p = list_any (is_allowed p) board_moves

-- whether some drop is allowed
abbrev pub can_drop_any : Position → Bool
can_drop_any p = list_any (is_allowed p) drop_moves

-- whether a square is empty, and a knight of the player to move put there would leave the king unattacked
abbrev pub shields : Position → ℕ → Bool
shields p s = is_none (man_at p.men s) && is_king_safe (slice_set p.men s (unpromoted p.to_move Knight)) p.to_move

-- whether the player isn't stuck: some half-move is allowed, or in bughouse, where men may come at any time, a man
-- on some square would shield the king
abbrev pub has_answer : Variant → Position → Bool
has_answer Chess p = can_move p || can_drop_any p
has_answer Crazyhouse p = can_move p || can_drop_any p
has_answer (Fischer number) p = can_move p || can_drop_any p
has_answer Bughouse p = can_move p || list_any (shields p) squares

-- what a stuck player is who isn't in check: in bughouse this one waits
abbrev pub stuck_unchecked : Variant → State
stuck_unchecked Chess = Stalemate
stuck_unchecked Crazyhouse = Stalemate
stuck_unchecked (Fischer number) = Stalemate
stuck_unchecked Bughouse = Safe

-- the state by the variant, whether the player is in check, and whether there is an answer
abbrev pub state_of : Variant → Bool → Bool → State
state_of v true true = Check
state_of v true false = Mate
state_of v false true = Safe
state_of v false false = stuck_unchecked v

-- what a position is for the player to move
unfoldable pub result : Position → State
result p = state_of p.variant (is_in_check p) (has_answer p.variant p)

-- a plain move or castling
abbrev pub IsOnBoard : Move → Type 0
IsOnBoard (Plain a b promo) = ⊤
IsOnBoard (Castle long) = ⊤
IsOnBoard (Drop k to) = ⊥

-- a square is empty, and a knight of the player to move put there would leave the king unattacked
pub record Shields (p : Position) (s : ℕ) : Type 0 where
  pub square : s < 64
  pub free : man_at p.men s ≡ None
  pub shielded : IsKingSafe (slice_set p.men s (unpromoted p.to_move Knight)) p.to_move

-- the player isn't stuck
abbrev pub HasAnswer : Variant → Position → Type 0
HasAnswer Chess p = (m : Move) × Allowed p m
HasAnswer Crazyhouse p = (m : Move) × Allowed p m
HasAnswer (Fischer number) p = (m : Move) × Allowed p m
HasAnswer Bughouse p = ((m : Move) × IsOnBoard m × Allowed p m) ⊎ ((s : ℕ) × Shields p s)

-- what each state says of a position
abbrev pub IsState : Position → State → Type 0
IsState p Check = (¬ IsKingSafe p.men p.to_move) × HasAnswer p.variant p
IsState p Mate = (¬ IsKingSafe p.men p.to_move) × (¬ HasAnswer p.variant p)
IsState p Stalemate = IsKingSafe p.men p.to_move × (¬ HasAnswer p.variant p) × (p.variant ≢ Bughouse)
IsState p Safe = IsKingSafe p.men p.to_move × (HasAnswer p.variant p ⊎ (p.variant ≡ Bughouse))

-- whether a game has ended in which the player to move is in that state
abbrev pub is_end : State → Bool
is_end Safe = false
is_end Check = false
is_end Mate = true
is_end Stalemate = true
