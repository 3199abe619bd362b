use Rattle.std.proofs.Common.{refl}
use Rattle.chess_model.specs.Tests.{is_allowed, is_move, is_safe_after, is_king_safe, is_attacked}
use Rattle.chess_model.specs.WordAnswer.{word_answer, applies, matches}
use Rattle.chess_model.proofs.laws.worked_words.Goals as goal

pub returns : goal.returns
unfolding is_allowed is_move is_safe_after is_king_safe is_attacked word_answer applies matches
returns c = record {
  opening = refl;
  knight_out = refl;
  castles_long = refl;
  named_file = refl;
  queen_if_unsaid = refl;
  drops = refl;
  ambiguous = refl;
  leaves_king = refl;
  drop_leaves_king = refl;
  castle_forbidden = refl;
  castle_forbidden_squares = refl;
  no_drops = refl;
  not_in_hand = refl;
  occupied = refl;
  end_rank = refl;
  no_piece = refl;
  no_piece_on_file = refl;
  cannot_reach = refl;
}
