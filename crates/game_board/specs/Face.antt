-- What a board line shows of a position and of its last half-move.
use Rattle.std.specs.Prelude.{◌≡◌, ℕ, ◌+◌, ◌/◌, Bool, List, [], ◌∷◌, Option, Some, None, option_map, codes, refl}
use Rattle.chess_model.specs.declared.face.Face.{Face}
use Rattle.chess_model.specs.declared.rights.Rights.{Rights}
use Rattle.chess_model.specs.declared.states.Shown.{Shown}
use Rattle.chess_model.specs.Position.{Position}
use Rattle.chess_model.specs.Squares.{file_of}
use Rattle.move_writer.specs.Pretty.{pretty_of}
use Rattle.move_writer.specs.Verbose.{verbose_of}

-- the four rights in the order of a board line
abbrev pub rights_in_order : Rights → List Bool
rights_in_order r = r.white_short ∷ r.white_long ∷ r.black_short ∷ r.black_long ∷ []

-- the number of the move about to be made after so many half-moves: White's first and Black's first both have 1
abbrev pub move_number : ℕ → ℕ
move_number half_moves = half_moves / 2 + 1

-- the text of the last half-move, or `none` before the first
abbrev pub last_text : (Shown → List ℕ) → Option Shown → List ℕ
last_text write None = codes "none"
last_text write (Some shown) = write shown

-- what is shown of a position that so many half-moves led to
abbrev pub face_of : Position → ℕ → Option Shown → Face
face_of p half_moves last = record {
  men = p.men;
  to_move = p.to_move;
  push = option_map file_of p.en_passant;
  rights = rights_in_order p.rights;
  quiet = p.quiet;
  number = move_number half_moves;
  verbose = last_text verbose_of last;
  pretty = last_text pretty_of last;
}

example_numbers : move_number 0 ∷ move_number 1 ∷ move_number 2 ∷ move_number 3 ∷ [] ≡ 1 ∷ 1 ∷ 2 ∷ 2 ∷ []
example_numbers = refl
