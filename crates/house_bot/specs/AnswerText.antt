-- What the bot answers: `d8h4 100000`, or `none 0`.
use Rattle.std.specs.Prelude.{◌≡◌, ℕ, List, ◌∷◌, ◌++◌, Option, Some, None, codes, refl}
use Rattle.std.specs.Fmt.{signed_decimal}
use Rattle.chess_model.specs.declared.moves.Move.{Move}
use Rattle.chess_model.specs.declared.moves.Move.TheVariants.{Plain}
use Rattle.chess_model.specs.Position.{Position}
use Rattle.move_writer.specs.Spelling.{spelling_of}
use Rattle.house_bot.specs.Value.{value, best_move}

-- a move as players type it, or the word for none
abbrev pub found_text : Option Move → List ℕ
found_text None = codes "none"
found_text (Some m) = spelling_of m

-- the best move, a blank and the value
abbrev pub best_line : ℕ → Position → List ℕ
best_line d p = found_text (best_move d p) ++ 32 ∷ signed_decimal (value d p)

example_mate : found_text (Some (Plain 59 31 None)) ≡ codes "d8h4"
example_mate = refl

example_none : found_text None ≡ codes "none"
example_none = refl
