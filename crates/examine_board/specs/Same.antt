-- Half-moves that are the same, and how many two lists have in common. Whole half-moves are compared, their charges
-- too: one that was played again has none, and so differs in a timed game.
use Rattle.std.specs.Prelude.{◌≡◌, ℕ, suc, ◌≤◌, ◌==◌, ◌&&◌, Bool, true, false, if◌then◌else◌, List, [], ◌∷◌, length, take, Option, Some, None}
use Rattle.std.specs.Bool.{beq}
use Rattle.chess_model.specs.declared.man.Kind.{Kind}
use Rattle.chess_model.specs.declared.moves.Move.{Move}
use Rattle.chess_model.specs.declared.moves.Move.TheVariants.{Plain, Castle, Drop}
use Rattle.chess_model.specs.Men.{same_kind}
use Rattle.clock_ledger.specs.declared.charges.Charge.{Charge}
use Rattle.game_records.specs.declared.stored_game.Half.{Half}

abbrev pub same_promotion : Option Kind → Option Kind → Bool
same_promotion None None = true
same_promotion (Some k) (Some l) = same_kind k l
same_promotion _ _ = false

abbrev pub same_move : Move → Move → Bool
same_move (Plain a b promo) (Plain c d becomes) = a == c && b == d && same_promotion promo becomes
same_move (Castle long) (Castle other) = beq long other
same_move (Drop k a) (Drop l b) = same_kind k l && a == b
same_move _ _ = false

abbrev pub same_stamps : Option (ℕ × ℕ) → Option (ℕ × ℕ) → Bool
same_stamps None None = true
same_stamps (Some p) (Some q) = p.0 == q.0 && p.1 == q.1
same_stamps _ _ = false

abbrev pub same_spent : Charge → Charge → Bool
same_spent c d = c.begin == d.begin && c.end == d.end && same_stamps c.client d.client

abbrev pub same_charge : Option Charge → Option Charge → Bool
same_charge None None = true
same_charge (Some c) (Some d) = same_spent c d
same_charge _ _ = false

-- whether two half-moves are the same
abbrev pub same_half : Half → Half → Bool
same_half g h = g.board == h.board && same_move g.what h.what && same_charge g.charge h.charge

-- how many half-moves two lists have in common, from the first one on
abbrev pub shared_length : List Half → List Half → ℕ
shared_length [] others = 0
shared_length (g ∷ halves) [] = 0
shared_length (g ∷ halves) (h ∷ others) = if same_half g h then suc (shared_length halves others) else 0

-- two lists begin with the same n half-moves
pub record Share (halves others : List Half) (n : ℕ) : Type 0 where
  pub first : n ≤ length halves
  pub second : n ≤ length others
  pub same : take n halves ≡ take n others
