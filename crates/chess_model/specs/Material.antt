-- What the men of a colour count for: a pawn 1, a knight or a bishop 3, a rook 5, a queen 9.
use Rattle.std.specs.Prelude.{◌≡◌, ℕ, if◌then◌else◌, [], ◌∷◌, sum_by, Option, Some, None, refl}
use Rattle.chess_model.specs.declared.man.Colour.{Colour}
use Rattle.chess_model.specs.declared.man.Colour.TheVariants.{White, Black}
use Rattle.chess_model.specs.declared.man.Kind.{Kind}
use Rattle.chess_model.specs.declared.man.Kind.TheVariants.{Pawn, Knight, Bishop, Rook, Queen, King}
use Rattle.chess_model.specs.declared.man.Man.{Man}
use Rattle.chess_model.specs.declared.variant.Variant.TheVariants.{Chess}
use Rattle.chess_model.specs.Men.{same_colour}
use Rattle.chess_model.specs.Placement.{Placement, array_of}

-- what a man counts for in the material
abbrev pub worth_of : Kind → ℕ
worth_of Pawn = 1
worth_of Knight = 3
worth_of Bishop = 3
worth_of Rook = 5
worth_of Queen = 9
worth_of King = 0

-- what a square adds to a colour's material: the kind that stands there counts, so a promoted queen counts 9
abbrev pub square_worth : Colour → Option Man → ℕ
square_worth colour None = 0
square_worth colour (Some man) = if same_colour man.colour colour then worth_of man.kind else 0

-- the material strength of a colour on a board
abbrev pub material_of : Colour → Placement → ℕ
material_of colour men = sum_by (square_worth colour) men

-- the start of a game, where each colour has eight pawns, four minor pieces, two rooks and a queen
example_material : material_of White (array_of Chess) ∷ material_of Black (array_of Chess) ∷ [] ≡ 39 ∷ 39 ∷ []
example_material = refl
