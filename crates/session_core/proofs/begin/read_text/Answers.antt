use Rattle.std.proofs.Common.{◌≡◌, ◌++◌, Result, Err, ap, subst, sym, ◌∙◌}
use Rattle.command_words.specs.Commands.{command_in}
use Rattle.command_words.specs.declared.command.Command.{Command}
use Rattle.fics_words.specs.declared.refusal.Refusal.{Refusal}
use Rattle.session_core.specs.declared.next.Next.{Next}
use Rattle.session_core.specs.Inputs.{asked_course}
use Rattle.session_core.specs.Texts.{refusal_line}
use Rattle.session_core.specs.Stages.{FitsWay, Settles, course_of, way_asks_places}
use Rattle.session_core.proofs.MatchTerms.{command_read}
use Rattle.session_core.proofs.OwnAnswers.{refused-answered}
use Rattle.session_core.proofs.Ways.{goes_as_usual}
use Rattle.session_core.proofs.begin.read_text.Goals as goal

pub begin_command-requires-clause-fits : goal.begin_command-requires-clause-fits
begin_command-requires-clause-fits c =
    subst FitsWay (sym c.way_of.ensures)
    (command_read c.aliases.result.now c.args.text.now c.in-Ok.command c.in-Ok.ensures)

pub begin_command-requires-clause-asks : goal.begin_command-requires-clause-asks
begin_command-requires-clause-asks c = ap way_asks_places c.way_of.ensures ∙ (goes_as_usual c.in-Ok.command).asks

pub returns-in_ok-put_refusal-in-Err-Refused-clause-settles :
    goal.returns-in_ok-put_refusal-in-Err-Refused-clause-settles
returns-in_ok-put_refusal-in-Err-Refused-clause-settles c =
    let read : command_in c.aliases.result.now c.args.text.now ≡ Err c.in-Err-Refused.cause =
    refused-answered (command_in c.aliases.result.now c.args.text.now) c.in-Err-Refused.field-0 c.in-Err-Refused.cause
    c.in-Err-Refused.field-0-is c.in-Err-Refused.ensures in
    let is : command_in c.args.memory.now.aliases c.args.text.now ≡ Err c.in-Err-Refused.cause =
    sym (ap (λ aliases. command_in aliases c.args.text.now) c.aliases.ensures) ∙ read in
    subst (λ (asked : Result Command Refusal). Settles (asked_course asked c.args.stamp c.args.memory.now)
    (course_of c.ask_round.result c.args.memory.now) c.args.out.now.items c.put_refusal.new.out.items) (sym is)
    (record {
      text =
          c.in_ok-put_refusal-in-Err-Refused.ensures
          ∙ ap (λ cause. c.args.out.now.items ++ refusal_line cause) c.in-Err-Refused.cause-is;
      goes = ap (λ (next : Next). course_of next c.args.memory.now) c.ask_round.ensures;
    })
