use Rattle.std.proofs.Common.{◌≡◌, Some, sym, ◌∙◌, refl}
use Rattle.move_reader.specs.Reading.{reading}
use Rattle.cmd_board.proofs.LineAnswers.{answer_line-no_word, answer_line-made}
use Rattle.cmd_board.proofs.game.UntimedGame.answer_line.Goals as goal

pub returns-in_default : goal.returns-in_default
returns-in_default c =
    let e = answer_line-no_word c.args.self.now c.args.line.now (sym c.read_word.ensures.computed ∙ c.in_default.is) in
    rw e (record { made = (refl, refl) })

pub returns : goal.returns
returns c =
    let b = c.args.self.now in
    let w = c.in-Some.word in
    let read : reading c.args.line.now ≡ Some w = sym c.read_word.ensures.computed ∙ c.in-Some.is in
    let e = answer_line-made b c.args.line.now w read in
    let next = c.in_ok-play.ensures.board in
    let text = c.in_ok-play.ensures.text in
    rw e (record { made = (refl, next, text) })
