use Rattle.std.specs.Option.{option_map_or}
use Rattle.std.proofs.Common.{Option, Result, Ok, Err, ap, ◌∙◌, sym, subst}
use Rattle.chess_model.specs.declared.moves.Move.{Move}
use Rattle.chess_model.specs.declared.moves.Rejection.{Rejection}
use Rattle.fics_words.specs.declared.refusal.Refusal.{Refusal}
use Rattle.game_board.specs.Board.{position_of}
use Rattle.game_board.specs.Causes.{in_words}
use Rattle.game_board.specs.Play.{move_answer}
use Rattle.chess_model.specs.WordAnswer.{IsWordAnswer, word_answer}
use Rattle.chess_model.proofs.WordsDecide.{word_answer-holds, word_answer-is}
use Rattle.game_board.proofs.Sides.{move_refused-none, move_refused-mover, move_refused-full, in_words-ok}
use Rattle.game_board.proofs.laws.play_takes_exactly_the_answers.Goals as goal

pub returns-clause-own : goal.returns-clause-own
unfolding move_answer
returns-clause-own c = λ is_mover room m.
    let p = position_of c.args.board.now in
    let w = c.args.word.now in
    let unrefused =
    ap (λ (o : Option Refusal). option_map_or Err o (in_words (word_answer p w)))
    (move_refused-none c.args.board.now c.args.colour is_mover room) in (
      λ e.
          subst (λ (r : Result Move Rejection). IsWordAnswer p w r)
          (in_words-ok (word_answer p w) m (sym unrefused ∙ e))
          (word_answer-holds p w),
      λ a. unrefused ∙ ap in_words (sym (word_answer-is p w (Ok m) a)),
    )

pub returns-clause-other : goal.returns-clause-other
unfolding move_answer
returns-clause-other c = λ other.
    ap (λ (o : Option Refusal).
    option_map_or Err o (in_words (word_answer (position_of c.args.board.now) c.args.word.now)))
    (move_refused-mover c.args.board.now c.args.colour other)

pub returns-clause-full : goal.returns-clause-full
unfolding move_answer
returns-clause-full c = λ is_mover full.
    ap (λ (o : Option Refusal).
    option_map_or Err o (in_words (word_answer (position_of c.args.board.now) c.args.word.now)))
    (move_refused-full c.args.board.now c.args.colour is_mover full)
