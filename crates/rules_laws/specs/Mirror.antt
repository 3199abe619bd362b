-- Positions with the colours exchanged and the board turned over, and what the rules say of them.
use Rattle.std.specs.Prelude.{◌≡◌, ℕ, ◌-◌, ◌<◌, ◌↔◌, nat_lt, if◌then◌else◌, map, length, Option, Some, None}
use Rattle.std.specs.Option.{option_map}
use Rattle.chess_model.specs.declared.man.Colour.{Colour}
use Rattle.chess_model.specs.declared.man.Man.{Man}
use Rattle.chess_model.specs.declared.moves.Move.{Move}
use Rattle.chess_model.specs.declared.moves.Move.TheVariants.{Plain, Castle, Drop}
use Rattle.chess_model.specs.declared.rights.Rights.{Rights}
use Rattle.chess_model.specs.declared.variant.Variant.{Variant}
use Rattle.chess_model.specs.Squares.{file_of, rank_of, square_at}
use Rattle.chess_model.specs.Placement.{Placement, man_at, opposite, array_of}
use Rattle.chess_model.specs.Attacked.{IsAttacked, IsKingSafe}
use Rattle.chess_model.specs.Position.{Position}
use Rattle.chess_model.specs.Allowed.{Allowed}
use Rattle.chess_model.specs.Tests.{squares}

-- the square of the same file on the rank that is as far from the other end of the board; what is no square stays
unfoldable pub turned : ℕ → ℕ
turned s = if nat_lt s 64 then square_at (file_of s) (7 - rank_of s) else s

-- the man with the other colour
abbrev pub recoloured : Option Man → Option Man
recoloured None = None
recoloured (Some m) = Some (record { colour = opposite m.colour; kind = m.kind; promoted = m.promoted })

-- on each square the man of the turned square, with the other colour
unfoldable pub mirrored_men : Placement → Placement
mirrored_men P = map (λ s. recoloured (man_at P (turned s))) squares

-- each colour has the rights of the other
abbrev pub mirrored_rights : Rights → Rights
mirrored_rights r = record {
  white_short = r.black_short;
  white_long = r.black_long;
  black_short = r.white_short;
  black_long = r.white_long;
}

-- the position with the colours exchanged and the board turned over
abbrev pub mirrored : Position → Position
mirrored p = record {
  variant = p.variant;
  men = mirrored_men p.men;
  to_move = opposite p.to_move;
  en_passant = option_map turned p.en_passant;
  rights = mirrored_rights p.rights;
  quiet = p.quiet;
  white = p.black;
  black = p.white;
}

-- the half-move between the turned squares; castling stays what it is
abbrev pub mirrored_move : Move → Move
mirrored_move (Plain a b promo) = Plain (turned a) (turned b) promo
mirrored_move (Castle long) = Castle long
mirrored_move (Drop k to) = Drop k (turned to)

-- the rules know no colour: what is said of a position holds of its mirror, with the colours exchanged
pub record ColoursMayBeExchanged : Type 0 where
  -- each half-move is allowed exactly where it was
  pub allowed : (p : Position) (m : Move) → length p.men ≡ 64 → Allowed p m ↔ Allowed (mirrored p) (mirrored_move m)
  pub attacked : (P : Placement) (c : Colour) (s : ℕ) → s < 64 →
      IsAttacked P c s ↔ IsAttacked (mirrored_men P) (opposite c) (turned s)
  pub king_safe : (P : Placement) (c : Colour) → IsKingSafe P c ↔ IsKingSafe (mirrored_men P) (opposite c)
  -- the mirror of the mirror is the position, and that of a half-move the half-move
  pub position_back : (p : Position) → length p.men ≡ 64 → mirrored (mirrored p) ≡ p
  pub move_back : (m : Move) → mirrored_move (mirrored_move m) ≡ m
  -- the array is its own mirror
  pub array : (v : Variant) → mirrored_men (array_of v) ≡ array_of v
