-- When a stored game replays: it could have been played as it is written.
use Rattle.std.specs.Prelude.{◌≡◌, ℕ, ◌+◌, ◌-◌, ◌<◌, ◌≤◌, ◌↔◌, false, IsSome, List, ◌∷◌, ◌++◌, map, length, bytes_eq, ⊤}
use Rattle.std.specs.List.{IsDistinct}
use Rattle.chess_model.specs.Limits.{most_halves}
use Rattle.chess_model.specs.declared.variant.Terms.{Terms}
use Rattle.chess_model.specs.declared.variant.Variant.{Variant}
use Rattle.chess_model.specs.declared.variant.Variant.TheVariants.{Chess, Crazyhouse, Bughouse, Fischer}
use Rattle.chess_model.specs.MoveList.{HalfMove, moves_of}
use Rattle.chess_model.specs.Position.{Position, position_after}
use Rattle.chess_model.specs.Allowed.{Allowed}
use Rattle.chess_model.specs.Result.{result, is_end}
use Rattle.fics_words.specs.Handle.{key_of}
use Rattle.game_records.specs.declared.stored_game.Half.{Half}
use Rattle.game_records.specs.declared.stored_game.StoredGame.{StoredGame}
use Rattle.game_records.specs.Bounds.{IsGame}

-- the half-moves without their charges
abbrev pub without_charges : List Half → List HalfMove
without_charges halves = map (λ h. record { board = h.board; what = h.what }) halves

-- the position of a board after these half-moves
abbrev pub position_on : Variant → List Half → ℕ → Position
position_on v halves board = position_after v (without_charges halves) board

-- how many half-moves a board has seen
abbrev pub made_on : List Half → ℕ → ℕ
made_on halves board = length (moves_of board (without_charges halves))

-- the game goes on in this position: it is neither mate nor stalemate
abbrev pub GoesOn : Position → Type 0
GoesOn p = is_end (result p) ≡ false

-- the terms give clocks
abbrev pub AreTimed : Terms → Type 0
AreTimed t = 0 < t.minutes + t.increment

-- a half-move may follow in a position to which so many half-moves of its board led: a charge is there exactly where
-- the game is timed and the half-move isn't the first of its colour
pub record MayFollow (at : Position) (t : Terms) (made : ℕ) (h : Half) : Type 0 where
  pub going : GoesOn at
  pub room : made < most_halves
  pub allowed : Allowed at h.what
  pub charged : IsSome h.charge ↔ (AreTimed t × (2 ≤ made))

-- no half-move of the other board has ended the game
abbrev pub OtherGoesOn : Variant → List Half → ℕ → Type 0
OtherGoesOn Chess before board = ⊤
OtherGoesOn Crazyhouse before board = ⊤
OtherGoesOn Bughouse before board = GoesOn (position_on Bughouse before (3 - board))
OtherGoesOn (Fischer number) before board = ⊤

-- a half-move may come after those before it
pub record MayCome (t : Terms) (before : List Half) (h : Half) : Type 0 where
  pub follows : MayFollow (position_on t.variant before h.board) t (made_on before h.board) h
  pub other : OtherGoesOn t.variant before h.board

-- each half-move may come after those before it
pub record CanBePlayed (t : Terms) (halves : List Half) : Type 0 where
  pub each : (before after : List Half) (h : Half) → halves ≡ before ++ h ∷ after → MayCome t before h

-- the players of a pair are four
abbrev pub AreFour : Variant → List (List ℕ) → Type 0
AreFour Chess names = ⊤
AreFour Crazyhouse names = ⊤
AreFour Bughouse names = IsDistinct bytes_eq (map key_of names)
AreFour (Fischer number) names = ⊤

-- a stored game replays: it has a spelling, a pair is played by four, and its half-moves can be played
pub record Replays (g : StoredGame) : Type 0 where
  pub spelled : IsGame g
  pub players : AreFour g.terms.variant g.names
  pub played : CanBePlayed g.terms g.halves
