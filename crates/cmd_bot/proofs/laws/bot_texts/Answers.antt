use Rattle.std.proofs.Common.{false}
use Rattle.cmd_bot.proofs.BotTexts.{AnswersGame-done, TellsBadLine-stopped, WritesNothing-before}
use Rattle.cmd_bot.proofs.laws.bot_texts.Goals as goal

pub returns-clause-answered : goal.returns-clause-answered
returns-clause-answered c = AnswersGame-done

pub returns-clause-bad_line : goal.returns-clause-bad_line
returns-clause-bad_line c = TellsBadLine-stopped

pub returns-clause-read_fault : goal.returns-clause-read_fault
returns-clause-read_fault c = λ depth left after written now h.
    WritesNothing-before depth left after written now false h

pub returns-clause-spent : goal.returns-clause-spent
returns-clause-spent c = λ depth left after written now h.
    WritesNothing-before depth left after written now false h.answers
