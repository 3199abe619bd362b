-- The position after one more half-move of its board, from the position before it.
use Rattle.std.specs.Prelude.{ℕ, ◌+◌, ◌-◌, true, false, ◌&&◌, min, cond, if◌then◌else◌}
use Rattle.chess_model.specs.declared.man.Colour.{Colour}
use Rattle.chess_model.specs.declared.man.Colour.TheVariants.{White, Black}
use Rattle.chess_model.specs.declared.man.Kind.{Kind}
use Rattle.chess_model.specs.declared.moves.Move.{Move}
use Rattle.chess_model.specs.declared.hand.Hand.{Hand}
use Rattle.chess_model.specs.declared.rights.Rights.{Rights}
use Rattle.chess_model.specs.declared.variant.Variant.{Variant}
use Rattle.chess_model.specs.declared.variant.Variant.TheVariants.{Chess, Crazyhouse, Bughouse, Fischer}
use Rattle.chess_model.specs.Placement.{Placement, opposite}
use Rattle.chess_model.specs.MoveList.{Ply, place_after}
use Rattle.chess_model.specs.RightsAndCounts.{keeps_right, passed_over, is_quiet}
use Rattle.chess_model.specs.Holdings.{captures, drops, count_in, hand_of}
use Rattle.chess_model.specs.Position.{Position}

-- what is left of the rights
abbrev pub next_rights : Variant → Rights → Colour → Move → Rights
next_rights v r by m = record {
  white_short = r.white_short && keeps_right v White false by m;
  white_long = r.white_long && keeps_right v White true by m;
  black_short = r.black_short && keeps_right v Black false by m;
  black_long = r.black_long && keeps_right v Black true by m;
}

-- the quiet count
abbrev pub next_quiet : Placement → ℕ → Move → ℕ
next_quiet P quiet m = if is_quiet P m then min (quiet + 1) 65535 else 0

-- how many men of a kind a half-move of the own board brings into the hand of c
abbrev pub gain : Variant → Colour → Kind → Ply → ℕ
gain Chess c k h = 0
gain Crazyhouse c k h = cond (captures c k h) 1 0
gain Bughouse c k h = 0
gain (Fischer number) c k h = 0

-- the hand of c
abbrev pub next_hand : Variant → Hand → Colour → Ply → Hand
next_hand v hand c h = hand_of (λ k. count_in hand k + gain v c k h - cond (drops c k h) 1 0)

-- the next half-move in its setting
abbrev pub ply_of : Position → Move → Ply
ply_of p m = record { before = p.men; by = p.to_move; what = m }

-- the next position
abbrev pub next : Position → Move → Position
next p m = record {
  variant = p.variant;
  men = place_after p.variant p.men p.to_move m;
  to_move = opposite p.to_move;
  en_passant = passed_over p.men m;
  rights = next_rights p.variant p.rights p.to_move m;
  quiet = next_quiet p.men p.quiet m;
  white = next_hand p.variant p.white White (ply_of p m);
  black = next_hand p.variant p.black Black (ply_of p m);
}
