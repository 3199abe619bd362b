-- A move's pretty text is read as that move: who writes down a game can play it again from what is written.
use Rattle.std.specs.Prelude.{◌≡◌, ℕ, List, Some, Ok}
use Rattle.chess_model.specs.declared.moves.Move.{Move}
use Rattle.chess_model.specs.declared.moves.MoveWord.{MoveWord}
use Rattle.chess_model.specs.declared.variant.Variant.{Variant}
use Rattle.chess_model.specs.MoveList.{HalfMove}
use Rattle.chess_model.specs.Position.{Position, position_after}
use Rattle.chess_model.specs.Allowed.{Allowed, IsLegal}
use Rattle.chess_model.specs.WordAnswer.{word_answer}
use Rattle.move_reader.specs.Reading.{reading}
use Rattle.move_writer.specs.Pretty.{pretty_of}
use Rattle.variant_rules.specs.Showing.{shown_of}

-- the text is read as a word, and in the position that word is answered by the move
pub record IsReadAs (p : Position) (text : List ℕ) (m : Move) : Type 0 where
  pub word : MoveWord
  pub read : reading text ≡ Some word
  pub answered : word_answer p word ≡ Ok m

-- the pretty text of a move in a position
abbrev pub pretty_in : Position → Move → List ℕ
pretty_in p m = pretty_of (shown_of p m)

-- after every legal list of half-moves, on each of its boards, the pretty text of an allowed move is read as that move
abbrev pub ReadsBack : Type 0
ReadsBack = (v : Variant) (T : List HalfMove) (b : ℕ) (m : Move) → IsLegal v T → Allowed (position_after v T b) m →
    IsReadAs (position_after v T b) (pretty_in (position_after v T b) m) m
