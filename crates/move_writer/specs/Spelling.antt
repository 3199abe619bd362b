-- A move spelled as players type it: its two squares, with what a pawn becomes in lower case; castling; a drop.
use Rattle.std.specs.Prelude.{◌≡◌, ℕ, ◌+◌, List, [], ◌∷◌, ◌++◌, true, false, Option, Some, None, codes, refl}
use Rattle.chess_model.specs.declared.man.Kind.{Kind}
use Rattle.chess_model.specs.declared.man.Kind.TheVariants.{Pawn, Knight, Queen}
use Rattle.chess_model.specs.declared.moves.Move.{Move}
use Rattle.chess_model.specs.declared.moves.Move.TheVariants.{Plain, Castle, Drop}
use Rattle.move_writer.specs.Letters.{letter_of, square_text}

-- what a pawn becomes on its last rank, its letter in lower case
abbrev pub lower_promotion : Option Kind → List ℕ
lower_promotion None = []
lower_promotion (Some kind) = codes "=" ++ (letter_of kind + 32) ∷ []

abbrev pub spelling_of : Move → List ℕ
spelling_of (Plain from to promo) = square_text from ++ square_text to ++ lower_promotion promo
spelling_of (Castle false) = codes "O-O"
spelling_of (Castle true) = codes "O-O-O"
spelling_of (Drop kind to) = letter_of kind ∷ codes "@" ++ square_text to

example_push : spelling_of (Plain 12 28 None) ≡ codes "e2e4"
example_push = refl

example_promotion : spelling_of (Plain 52 60 (Some Queen)) ≡ codes "e7e8=q"
example_promotion = refl

example_long : spelling_of (Castle true) ≡ codes "O-O-O"
example_long = refl

example_drops : (spelling_of (Drop Pawn 28) ++ spelling_of (Drop Knight 0)) ≡ codes "P@e4N@a1"
example_drops = refl
