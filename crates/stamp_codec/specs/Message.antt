-- What a stamped line says: a text or an acknowledgement, and the moment on the client's clock.
use Rattle.std.specs.Prelude.{ℕ, Bool, ◌&&◌, nat_lt, nat_le, List, [], ◌∷◌, length, bytes_eq, if◌then◌else◌}
use Rattle.std.specs.List.{list_all}
use Rattle.fics_words.specs.Line.{most_line_bytes}
use Rattle.clock_ledger.specs.Span.{stamp_cycle}

-- a text or an acknowledgement, with its stamp in milliseconds
pub data Message : Type 0 where
  Text : List ℕ → ℕ → Message
  Ack : ℕ → Message

-- what an acknowledgement has in the place of a text: the byte 2 and a `9`
abbrev pub ack_text : List ℕ
ack_text = 0x02 ∷ 0x39 ∷ []

-- the bytes in the place of the text
abbrev pub text_of : Message → List ℕ
text_of (Text text stamp) = text
text_of (Ack stamp) = ack_text

abbrev pub stamp_of : Message → ℕ
stamp_of (Text text stamp) = stamp
stamp_of (Ack stamp) = stamp

-- a byte from the blank to the tilde
abbrev pub is_printable : ℕ → Bool
is_printable byte = nat_le 0x20 byte && nat_le byte 0x7E

-- a text is at most 1,023 such bytes
abbrev pub is_text : List ℕ → Bool
is_text text = nat_le (length text) most_line_bytes && list_all is_printable text

-- a message that a line can say
abbrev pub is_message : Message → Bool
is_message (Text text stamp) = is_text text && nat_lt stamp stamp_cycle
is_message (Ack stamp) = nat_lt stamp stamp_cycle

-- the message with these bytes in the place of the text
abbrev pub message_of : List ℕ → ℕ → Message
message_of text stamp = if bytes_eq text ack_text then Ack stamp else Text text stamp
