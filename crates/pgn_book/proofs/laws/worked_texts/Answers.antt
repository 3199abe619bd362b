use Rattle.std.proofs.Common.{refl}
use Rattle.chess_model.specs.Tests.{is_allowed, is_move, is_safe_after, is_king_safe, is_attacked}
use Rattle.chess_model.specs.WordAnswer.{word_answer, applies, matches}
use Rattle.pgn_book.specs.Bytes.{is_word_byte}
use Rattle.pgn_book.specs.Reading.{move_read, took, step}
use Rattle.pgn_book.proofs.laws.worked_texts.Goals as goal

pub returns : goal.returns
unfolding is_allowed is_move is_safe_after is_king_safe is_attacked word_answer applies matches is_word_byte move_read
    took step
returns c = record {
  comments = refl;
  illegal = refl;
  set_up = refl;
  tags = refl;
  percent = refl;
  late_percent = refl;
  no_result = refl;
  open_braces = refl;
  open_variation = refl;
  praised_result = refl;
  before = refl;
  line = refl;
  nothing = refl;
}
