-- Tests of men: of what colour and kind they are (FIDE Laws 2.2).
use Rattle.std.specs.Prelude.{Bool, true, false, ◌&&◌, Option, Some, None}
use Rattle.chess_model.specs.declared.man.Colour.{Colour}
use Rattle.chess_model.specs.declared.man.Colour.TheVariants.{White, Black}
use Rattle.chess_model.specs.declared.man.Kind.{Kind}
use Rattle.chess_model.specs.declared.man.Kind.TheVariants.{Pawn, Knight, Bishop, Rook, Queen, King}
use Rattle.chess_model.specs.declared.man.Man.{Man}

abbrev pub same_colour : Colour → Colour → Bool
same_colour White White = true
same_colour White Black = false
same_colour Black White = false
same_colour Black Black = true

abbrev pub same_kind : Kind → Kind → Bool
same_kind Pawn Pawn = true
same_kind Knight Knight = true
same_kind Bishop Bishop = true
same_kind Rook Rook = true
same_kind Queen Queen = true
same_kind King King = true
same_kind _ _ = false

-- whether a man of that colour stands there
abbrev pub is_held_by : Colour → Option Man → Bool
is_held_by c None = false
is_held_by c (Some m) = same_colour m.colour c

-- whether a man of that colour and kind stands there, promoted or not
abbrev pub is_held_as : Colour → Kind → Option Man → Bool
is_held_as c k None = false
is_held_as c k (Some m) = same_colour m.colour c && same_kind m.kind k
