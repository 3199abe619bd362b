-- What is kept to take a half-move back.
use Rattle.std.specs.Prelude.{◌≡◌, ◌≢◌, ℕ, ◌+◌, ◌≤◌, length, Option}
use Rattle.chess_model.specs.declared.man.Colour.{Colour}
use Rattle.chess_model.specs.declared.man.Man.{Man}
use Rattle.chess_model.specs.declared.moves.Move.{Move}
use Rattle.chess_model.specs.declared.moves.Move.TheVariants.{Plain, Castle, Drop}
use Rattle.chess_model.specs.declared.variant.Variant.{Variant}
use Rattle.chess_model.specs.declared.variant.Variant.TheVariants.{Bughouse}
use Rattle.chess_model.specs.Placement.{Placement, man_at, opposite, king_home, rook_home, king_end, rook_end}
use Rattle.chess_model.specs.MoveList.{taking_square}
use Rattle.chess_model.specs.Census.{men_on, men_in}
use Rattle.chess_model.specs.Position.{Position}
use Rattle.variant_rules.specs.declared.make.Squares.{Squares}
use Rattle.variant_rules.specs.declared.make.Stood.{Stood}
use Rattle.variant_rules.specs.declared.make.Undo.{Undo}

-- the squares that a half-move changes, some of them twice
abbrev pub changed_squares : Variant → Placement → Colour → Move → Squares
changed_squares v P c (Plain a b promo) = record { one = taking_square P a b; two = a; three = b; four = b }
changed_squares v P c (Castle long) =
    record { one = king_home v c; two = rook_home v c long; three = king_end c long; four = rook_end c long }
changed_squares v P c (Drop k to) = record { one = to; two = to; three = to; four = to }

-- what stood on a square
abbrev pub StoodIn : Placement → Stood → Type 0
StoodIn P stood = stood.man ≡ man_at P stood.on

-- the two placements have the same men on all squares but these four
pub record DifferOn (P Q : Placement) (a b c d : ℕ) : Type 0 where
  pub others : (s : ℕ) → s ≢ a → s ≢ b → s ≢ c → s ≢ d → man_at Q s ≡ man_at P s

-- what was kept takes the second position back to the first
pub record IsUndoOf (u : Undo) (p q : Position) : Type 0 where
  pub size : length p.men ≡ 64
  pub kept_size : length q.men ≡ 64
  pub few : p.variant ≢ Bughouse → men_on p.men + (men_in p.white + men_in p.black) ≤ 32
  pub others : DifferOn p.men q.men u.first.on u.second.on u.third.on u.fourth.on
  pub first : StoodIn p.men u.first
  pub second : StoodIn p.men u.second
  pub third : StoodIn p.men u.third
  pub fourth : StoodIn p.men u.fourth
  pub variant : q.variant ≡ p.variant
  pub to_move : q.to_move ≡ opposite p.to_move
  pub en_passant : u.en_passant ≡ p.en_passant
  pub rights : u.rights ≡ p.rights
  pub quiet : u.quiet ≡ p.quiet
  pub white : u.white ≡ p.white
  pub black : u.black ≡ p.black

-- what was kept takes the position back to some position
abbrev pub IsUndoneBy : Position → Undo → Type 0
IsUndoneBy q u = (p : Position) × IsUndoOf u p q

-- the man that the half-move took
abbrev pub captured_by : Undo → Option Man
captured_by u = u.captured
