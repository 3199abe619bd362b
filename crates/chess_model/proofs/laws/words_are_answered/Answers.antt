use Rattle.chess_model.proofs.WordsDecide.{word_answer-holds}
use Rattle.chess_model.proofs.laws.words_are_answered.Goals as goal

pub returns : goal.returns
returns c = word_answer-holds
