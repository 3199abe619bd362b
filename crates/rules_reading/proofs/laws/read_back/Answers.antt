use Rattle.std.proofs.Common.{◌≡◌, Some, None, Ok, ap, ◌∙◌}
use Rattle.std.specs.Result.{result_ok}
use Rattle.chess_model.specs.WordAnswer.{word_answer}
use Rattle.move_writer.specs.Pretty.{pretty_of}
use Rattle.rules_reading.proofs.ReadBack.{read_again}
use Rattle.rules_reading.proofs.laws.read_back.Goals as goal

pub returns-in_default : goal.returns-in_default
returns-in_default c =
    let t = read_again c.args.p.now c.args.m c.bytes.result.now c.read_word.result c.requires.sound c.requires.allowed
    (c.bytes.ensures.value ∙ c.pretty-text.ensures.text ∙ ap pretty_of c.shown.ensures) c.read_word.ensures.computed in
    let none : None ≡ Some t.0 = cc (c.in_default.is, t.1) in
    cc

pub returns : goal.returns
returns c =
    let t = read_again c.args.p.now c.args.m c.bytes.result.now c.read_word.result c.requires.sound c.requires.allowed
    (c.bytes.ensures.value ∙ c.pretty-text.ensures.text ∙ ap pretty_of c.shown.ensures) c.read_word.ensures.computed in
    let word : c.in-Some.word ≡ t.0 = cc (c.in-Some.is, t.1) in
    let answer : c.resolve.result ≡ Ok c.args.m = c.resolve.ensures.value ∙ ap (word_answer c.args.p.now) word ∙ t.2 in
    c.ok.ensures.value ∙ ap result_ok answer
