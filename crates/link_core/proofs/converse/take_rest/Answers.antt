use Rattle.std.proofs.Common.{◌≡◌, ℕ, Bool, true, Some, List, [], ◌∷◌, map, option_to_list, sym, subst, ◌∙◌}
use Rattle.std.specs.declared.option.Option.{Option}
use Rattle.edge_traits.specs.Link.{Sign}
use Rattle.line_reader.specs.declared.incoming.Incoming.{Incoming}
use Rattle.line_reader.specs.Reader.{LineReading, rest_to_come}
use Rattle.session_core.specs.declared.input.Input.TheVariants.{Line}
use Rattle.link_core.specs.Steps.{Halfway, Stand}
use Rattle.link_core.proofs.Stamps.{rest_given}
use Rattle.link_core.proofs.Stepping.{answered_one, stopped_one, stops_end, stops_memory}
use Rattle.link_core.proofs.converse.take_rest.Goals as goal

-- the line that is left comes next
due : {shows : ℕ → Bool} {start now : Stand} {taken : List Sign} (reader : LineReading) (line : Incoming)
    → Halfway shows start now taken true (map Line (option_to_list (rest_to_come reader [])))
    → Some line ≡ rest_to_come reader []
    → Halfway shows start now taken true (Line line ∷ [])
due {shows = shows} {start = start} {now = now} {taken = taken} reader line h is =
    subst (λ (o : Option Incoming). Halfway shows start now taken true (map Line (option_to_list o))) (sym is) h

pub answer-requires-clause-fits : goal.answer-requires-clause-fits
answer-requires-clause-fits g c =
    rest_given c.args.reader.now c.in-Ok-Some.line (sym c.in-Ok-Some.field-0-is ∙ c.in-Ok-Some.ensures)

pub returns-in-Ok-clause-stops : goal.returns-in-Ok-clause-stops
returns-in-Ok-clause-stops g c = λ start taken h.
    stops_end
    (answered_one
    (due c.args.reader.now c.in-Ok-Some.line h (sym c.in-Ok-Some.field-0-is ∙ c.in-Ok-Some.ensures))
    c.in-Ok.ensures.answered)

pub returns-in-Err-answer-clause-stops : goal.returns-in-Err-answer-clause-stops
returns-in-Err-answer-clause-stops g c = λ start taken h.
    stopped_one
    (due c.args.reader.now c.in-Ok-Some.line h (sym c.in-Ok-Some.field-0-is ∙ c.in-Ok-Some.ensures))
    c.in-Err-answer.end c.in-Err-answer.ensures.answered

pub returns-in-Err-clause-stops : goal.returns-in-Err-clause-stops
returns-in-Err-clause-stops g c = λ start taken h. stops_memory h
