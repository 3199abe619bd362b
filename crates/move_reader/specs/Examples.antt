-- Worked examples: what players type, and the words that it is read as.
use Rattle.std.specs.Prelude.{◌≡◌, true, Some, None, codes, refl}
use Rattle.chess_model.specs.declared.man.Kind.TheVariants.{Pawn, Knight, Bishop, Queen}
use Rattle.chess_model.specs.declared.moves.MoveWord.TheVariants.{Coordinate, Named, Castle, Drop}
use Rattle.move_reader.specs.Reading.{reading}

example_squares : reading (codes "e2e4") ≡ Some (Coordinate 12 28 None)
example_squares = refl

example_promotion : reading (codes "e7-e8=n") ≡ Some (Coordinate 52 60 (Some Knight))
example_promotion = refl

-- a coordinate word has no mark of check, so this is a pawn of the file e and the second rank
example_marked : reading (codes "e2e4+") ≡ Some (Named Pawn (Some 4) (Some 1) 28 None)
example_marked = refl

example_pawn : reading (codes "e4") ≡ Some (Named Pawn None None 28 None)
example_pawn = refl

example_knight : reading (codes "Nbd2") ≡ Some (Named Knight (Some 1) None 11 None)
example_knight = refl

-- a small b is a file
example_file : reading (codes "bxc3") ≡ Some (Named Pawn (Some 1) None 18 None)
example_file = refl

example_bishop : reading (codes "Bxc3+") ≡ Some (Named Bishop None None 18 None)
example_bishop = refl

example_mate : reading (codes "exd8=Q#") ≡ Some (Named Pawn (Some 4) None 59 (Some Queen))
example_mate = refl

example_castling : reading (codes "o-o-o+") ≡ Some (Castle true)
example_castling = refl

example_drop : reading (codes "n@f7#") ≡ Some (Drop Knight 53)
example_drop = refl

example_no_king_drop : reading (codes "K@f7") ≡ None
example_no_king_drop = refl

example_blank : reading (codes "e2e4 ") ≡ None
example_blank = refl
