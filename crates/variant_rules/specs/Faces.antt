-- What a position shows, and a man that comes from the other board.
use Rattle.std.specs.Prelude.{◌≡◌, ◌+◌, cond, [], ◌∷◌}
use Rattle.std.specs.Option.{option_map}
use Rattle.chess_model.specs.declared.man.Colour.{Colour}
use Rattle.chess_model.specs.declared.man.Colour.TheVariants.{White, Black}
use Rattle.chess_model.specs.declared.man.Kind.{Kind}
use Rattle.chess_model.specs.declared.hand.Hand.{Hand}
use Rattle.chess_model.specs.Squares.{file_of}
use Rattle.chess_model.specs.Men.{same_kind}
use Rattle.chess_model.specs.Holdings.{count_in, hand_of}
use Rattle.chess_model.specs.Position.{Position, hand_of_side}
use Rattle.variant_rules.specs.declared.position.PositionView.{PositionView}

-- the men, the side to move, the file of the last double push, the rights and the quiet count
pub record LooksLike (p : Position) (look : PositionView) : Type 0 where
  pub men : look.men ≡ p.men
  pub to_move : look.to_move ≡ p.to_move
  pub push : look.push ≡ option_map file_of p.en_passant
  pub rights : look.rights
      ≡ p.rights.white_short ∷ p.rights.white_long ∷ p.rights.black_short ∷ p.rights.black_long ∷ []
  pub quiet : look.quiet ≡ p.quiet

-- the position with that hand of a colour
abbrev pub with_hand : Position → Colour → Hand → Position
with_hand p White hand = record p { white = hand }
with_hand p Black hand = record p { black = hand }

-- the hand of that colour has one man more of the kind, and all else is as before
abbrev pub Receives : Position → Position → Colour → Kind → Type 0
Receives old new c k = new ≡ with_hand old c (hand_of (λ j. count_in (hand_of_side old c) j + cond (same_kind k j) 1 0))
