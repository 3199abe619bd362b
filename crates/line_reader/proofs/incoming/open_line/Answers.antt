use Rattle.std.proofs.Common.{ℕ, List, sym, ap, ◌∙◌}
use Rattle.std.specs.Prelude.{Some}
use Rattle.stamp_codec.specs.Message.{is_message}
use Rattle.stamp_codec.specs.Sealed.{message, option_message}
use Rattle.stamp_codec.specs.declared.sealed.Sealed.{Sealed}
use Rattle.line_reader.specs.declared.incoming.Incoming.TheVariants.{Stamped}
use Rattle.line_reader.specs.Reading.{said}
use Rattle.line_reader.proofs.Printable.{line_found, line_not_missed}
use Rattle.line_reader.proofs.incoming.open_line.Goals as goal

pub returns-in-Ok-Some : goal.returns-in-Ok-Some
returns-in-Ok-Some c =
    ap (λ (line : List ℕ). Stamped line c.in-Some-Text.stamp)
    (line_found c.in-Ok-Some.field-0 c.in-Ok-Some.line c.in-Some-Text.text.now (c.in-Ok-Some.ensures {u = tt})
    c.in-Ok-Some.field-0-is)
    ∙ sym (ap (λ (s : Sealed). said (Some (message s))) c.in-Some-Text.field-0-is)
    ∙ sym (ap (λ s. said (option_message s)) c.in-Some-Text.is)
    ∙ ap said c.unseal.ensures.opened

pub returns-in-Ok-None : goal.returns-in-Ok-None
returns-in-Ok-None c =
    line_not_missed c.in-Ok-None.field-0 c.in-Some-Text.text.now c.in-Some-Text.stamp
    (sym (ap (λ (s : Sealed). is_message (message s)) c.in-Some-Text.field-0-is)
    ∙ (c.in-Some-Text.ensures {u = tt}).sealed.said)
    (c.in-Ok-None.ensures {u = tt}) c.in-Ok-None.field-0-is

pub returns-in-Some-Ack : goal.returns-in-Some-Ack
returns-in-Some-Ack c =
    sym (ap (λ (s : Sealed). said (Some (message s))) c.in-Some-Ack.field-0-is)
    ∙ sym (ap (λ s. said (option_message s)) c.in-Some-Ack.is)
    ∙ ap said c.unseal.ensures.opened

pub returns-in-None : goal.returns-in-None
returns-in-None c = sym (ap (λ s. said (option_message s)) c.in-None.is) ∙ ap said c.unseal.ensures.opened
