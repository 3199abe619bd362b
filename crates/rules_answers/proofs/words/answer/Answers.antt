use Rattle.chess_model.proofs.WordsDecide.{word_answer-from}
use Rattle.rules_answers.proofs.words.answer.Goals as goal

pub returns-clause-value : goal.returns-clause-value
returns-clause-value g c =
    word_answer-from (g.B.AskedBoard.position c.args.board.now) c.args.word.now c.matched.result
    c.matched.ensures.answered c.matched.ensures.refused
