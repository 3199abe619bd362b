use Rattle.std.proofs.Common.{true, Some, None, cond, refl}
use Rattle.std.specs.Prelude.{◌==◌}
use Rattle.pgn_book.specs.declared.place.PlaceInText.TheVariants.{Start, AfterOne, AfterTwo, Between, InLine, InBraces, InWord, InQuotes, InStroke}
use Rattle.pgn_book.specs.Reading.{text_started, state_at, piece_begun, in_line, in_braces, in_quotes, in_stroke, step, step_in}
use Rattle.pgn_book.specs.Taking.{IsStepOfByte}
use Rattle.pgn_book.proofs.Walking.{step_silent, step_loud, step_back}
use Rattle.pgn_book.proofs.walk.Walk.step.Goals as goal
use Rattle.std.proofs.lemmas.Result.{IfOk-weaker, on_err_weaker}

pub returns-in-Start-clause-taken : goal.returns-in-Start-clause-taken
returns-in-Start-clause-taken c =
    step_silent c.self.inside.place Start c.self.inside.depth c.self.inside.book c.args.self.now c.start.new.self
    c.args.byte c.start.result c.silent.result
    (text_started c.self.inside.depth c.self.inside.book c.args.byte) c.self.view_is c.in-Start.ensures.value refl
    c.start.ensures c.silent.ensures

pub returns-in-AfterOne-clause-taken : goal.returns-in-AfterOne-clause-taken
returns-in-AfterOne-clause-taken c =
    step_silent c.self.inside.place AfterOne c.self.inside.depth c.self.inside.book c.args.self.now c.mark.new.self
    c.args.byte c.mark.result c.silent-in-AfterOne.result
    (cond (c.args.byte == 187) (Some (state_at AfterTwo c.self.inside.depth c.self.inside.book)) None) c.self.view_is
    c.in-AfterOne.ensures.value refl c.mark.ensures c.silent-in-AfterOne.ensures

pub returns-in-AfterTwo-clause-taken : goal.returns-in-AfterTwo-clause-taken
returns-in-AfterTwo-clause-taken c =
    step_silent c.self.inside.place AfterTwo c.self.inside.depth c.self.inside.book c.args.self.now
    c.mark-in-AfterTwo.new.self c.args.byte c.mark-in-AfterTwo.result c.silent-in-AfterTwo.result
    (cond (c.args.byte == 191) (Some (state_at (Between true) c.self.inside.depth c.self.inside.book)) None)
    c.self.view_is c.in-AfterTwo.ensures.value refl c.mark-in-AfterTwo.ensures c.silent-in-AfterTwo.ensures

pub returns-in-Between-clause-taken : goal.returns-in-Between-clause-taken
returns-in-Between-clause-taken c =
    step_silent c.self.inside.place (Between c.in-Between.fresh) c.self.inside.depth c.self.inside.book c.args.self.now
    c.begin.new.self c.args.byte c.begin.result c.silent-in-Between.result
    (piece_begun c.in-Between.fresh c.self.inside.depth c.self.inside.book c.args.byte) c.self.view_is
    c.in-Between.ensures.value refl c.begin.ensures c.silent-in-Between.ensures

pub returns-in-InLine-clause-taken : goal.returns-in-InLine-clause-taken
returns-in-InLine-clause-taken c =
    step_silent c.self.inside.place InLine c.self.inside.depth c.self.inside.book c.args.self.now c.pass_line.new.self
    c.args.byte c.pass_line.result c.silent-in-InLine.result
    (in_line c.self.inside.depth c.self.inside.book c.args.byte) c.self.view_is c.in-InLine.ensures.value refl
    c.pass_line.ensures c.silent-in-InLine.ensures

pub returns-in-InBraces-clause-taken : goal.returns-in-InBraces-clause-taken
returns-in-InBraces-clause-taken c =
    step_silent c.self.inside.place InBraces c.self.inside.depth c.self.inside.book c.args.self.now
    c.pass_braces.new.self c.args.byte c.pass_braces.result c.silent-in-InBraces.result
    (in_braces c.self.inside.depth c.self.inside.book c.args.byte) c.self.view_is c.in-InBraces.ensures.value refl
    c.pass_braces.ensures c.silent-in-InBraces.ensures

pub returns-in-InWord-clause-taken : goal.returns-in-InWord-clause-taken
returns-in-InWord-clause-taken c =
    IfOk-weaker c.go_on.result
    (λ read.
    IsStepOfByte read c.go_on.new.self
    (step_in (InWord c.in-InWord.glyph c.in-InWord.word) c.self.inside.depth c.self.inside.book c.args.byte))
    (λ read. IsStepOfByte read c.go_on.new.self (step c.args.self.now c.args.byte))
    (λ read h.
    step_loud c.self.inside.place (InWord c.in-InWord.glyph c.in-InWord.word) c.self.inside.depth c.self.inside.book
    c.args.self.now c.go_on.new.self c.args.byte read
    c.self.view_is c.in-InWord.ensures.value h)
    c.go_on.ensures.taken

pub returns-in-InWord-clause-unchanged : goal.returns-in-InWord-clause-unchanged
returns-in-InWord-clause-unchanged c =
    on_err_weaker c.go_on.result
    (step_back c.self.inside.place (InWord c.in-InWord.glyph c.in-InWord.word) c.self.inside.depth c.self.inside.book
    c.args.self.now c.go_on.new.self
    c.self.view_is c.in-InWord.ensures.value)
    c.go_on.ensures.unchanged

pub returns-in-InQuotes-clause-taken : goal.returns-in-InQuotes-clause-taken
returns-in-InQuotes-clause-taken c =
    step_silent c.self.inside.place (InQuotes c.in-InQuotes.text) c.self.inside.depth c.self.inside.book c.args.self.now
    c.quote.new.self c.args.byte c.quote.result
    c.silent-in-InQuotes.result (in_quotes c.in-InQuotes.text c.self.inside.depth c.self.inside.book c.args.byte)
    c.self.view_is c.in-InQuotes.ensures.value refl
    c.quote.ensures c.silent-in-InQuotes.ensures

pub returns-in-InStroke-clause-taken : goal.returns-in-InStroke-clause-taken
returns-in-InStroke-clause-taken c =
    step_silent c.self.inside.place (InStroke c.in-InStroke.text) c.self.inside.depth c.self.inside.book c.args.self.now
    c.stroke.new.self c.args.byte c.stroke.result c.silent-in-InStroke.result
    (in_stroke c.in-InStroke.text c.self.inside.depth c.self.inside.book c.args.byte) c.self.view_is
    c.in-InStroke.ensures.value refl c.stroke.ensures c.silent-in-InStroke.ensures
