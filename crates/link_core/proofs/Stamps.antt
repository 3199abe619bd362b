-- The stamps of lines that are read.
use Rattle.std.proofs.Common.{◌≡◌, ℕ, Bool, true, false, if◌then◌else◌, List, [], ◌∷◌, map, length, refl, sym, ap, subst, arith, nat_lt}
use Rattle.std.specs.Prelude.{◌&&◌, bytes_eq}
use Rattle.std.specs.declared.option.Option.{Option}
use Rattle.std.specs.declared.option.Option.TheVariants.{None, Some}
use Rattle.std.specs.List.{list_all}
use Rattle.std.proofs.lemmas.Bool.{and_parts}
use Rattle.std.proofs.lemmas.Bool.Decides.{nat_tests}
use Rattle.clock_ledger.specs.Span.{IsStamp, stamp_cycle}
use Rattle.line_reader.specs.declared.incoming.Incoming.{Incoming}
use Rattle.line_reader.specs.declared.incoming.Incoming.TheVariants.{Plain, TooLong, BadByte}
use Rattle.fics_words.specs.Pieces.{but_last, last_of}
use Rattle.line_reader.specs.Reader.{GivesLine, LineReading, lines_to_come, parts_to_come, rest_to_come}
use Rattle.line_reader.specs.Reading.{is_stamped, plain_reading, incoming_of, rest_reading, said, stamped_reading}
use Rattle.session_core.specs.Inputs.{HasStamp}
use Rattle.stamp_codec.specs.Message.{Message, Text, Ack as Received, is_message, is_printable, is_text}
use Rattle.stamp_codec.specs.Opening.{candidate, opened}
use Rattle.stamp_codec.specs.Spelling.{stamped_line}

either_fits : (t : Bool) (one other : Incoming) → HasStamp one → HasStamp other → HasStamp (if t then one else other)
either_fits true one other p q = p
either_fits false one other p q = q

below : (stamp : ℕ) → nat_lt stamp stamp_cycle ≡ true → IsStamp stamp
below stamp e = grind (arith, nat_tests)

spelled_fits : (t : Bool) (line : List ℕ) (m : Message) → (is_message m && bytes_eq (stamped_line m) line) ≡ t
    → HasStamp (said (if t then Some m else None))
spelled_fits false line m e = tt
spelled_fits true line (Text text stamp) e =
    let message = and_parts (is_message (Text text stamp)) (bytes_eq (stamped_line (Text text stamp)) line) e in
    below stamp (and_parts (is_text text) (nat_lt stamp stamp_cycle) message.0).1
spelled_fits true line (Received stamp) e =
    below stamp (and_parts (is_message (Received stamp)) (bytes_eq (stamped_line (Received stamp)) line) e).0

reading_fits : (line : List ℕ) → HasStamp (incoming_of line)
reading_fits line =
    either_fits (is_stamped line) (stamped_reading line) (plain_reading line)
    (either_fits (nat_lt 1033 (length line)) TooLong (said (opened line)) tt
    (spelled_fits (is_message (candidate line) && bytes_eq (stamped_line (candidate line)) line) line (candidate line)
    refl))
    (either_fits (nat_lt 1023 (length line)) TooLong (if list_all is_printable line then Plain line else BadByte) tt
    (either_fits (list_all is_printable line) (Plain line) BadByte tt tt))

first_or : Incoming → List Incoming → Incoming
first_or line [] = line
first_or line (first ∷ lines) = first

head_fits : (texts : List (List ℕ)) (line : Incoming) (lines : List Incoming) → map incoming_of texts ≡ line ∷ lines
    → HasStamp line
unfolding first_or
head_fits [] line lines e = absurd cc
head_fits (text ∷ texts) line lines e = subst HasStamp (ap (first_or TooLong) e) (reading_fits text)

-- a line that a reader gives
pub given_fits : (one other : LineReading) (line : Incoming) → GivesLine one line other → HasStamp line
given_fits one other line gives = head_fits (but_last (parts_to_come one [])) line (lines_to_come other []) (gives []).0

some_or : Incoming → Option Incoming → Incoming
some_or line None = line
some_or line (Some found) = found

rest_fits : (text : List ℕ) (line : Incoming) → Some line ≡ rest_reading text → HasStamp line
unfolding some_or
rest_fits [] line e = absurd cc
rest_fits (b ∷ text) line e = subst HasStamp (sym (ap (some_or TooLong) e)) (reading_fits (b ∷ text))

-- what is left of a line
pub rest_given : (reader : LineReading) (line : Incoming) → Some line ≡ rest_to_come reader [] → HasStamp line
rest_given reader line e = rest_fits (last_of (parts_to_come reader [])) line e
