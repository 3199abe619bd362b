-- What a line is: plain, stamped, too long or bad.
use Rattle.std.specs.Prelude.{ℕ, ◌-◌, Bool, ◌==◌, nat_lt, if◌then◌else◌, List, [], ◌∷◌, length, slice_index, Option, Some, None}
use Rattle.std.specs.List.{list_all}
use Rattle.fics_words.specs.Line.{most_line_bytes}
use Rattle.stamp_codec.specs.Message.{Message, Text as Said, Ack as Received, is_printable}
use Rattle.stamp_codec.specs.Opening.{opened}
use Rattle.line_reader.specs.declared.incoming.Incoming.{Incoming}
use Rattle.line_reader.specs.declared.incoming.Incoming.TheVariants.{Plain, Stamped, Ack, TooLong, BadByte}

-- a stamped line ends in 0x80
abbrev pub is_stamped : List ℕ → Bool
is_stamped line = slice_index line (length line - 1) == 0x80

-- what a stamped line says
abbrev pub said : Option Message → Incoming
said None = BadByte
said (Some (Said text stamp)) = Stamped text stamp
said (Some (Received stamp)) = Ack stamp

-- a stamped line has at most 1,033 bytes
abbrev pub stamped_reading : List ℕ → Incoming
stamped_reading line = if nat_lt 1033 (length line) then TooLong else said (opened line)

-- another line has at most 1,023, and they are printable
abbrev pub plain_reading : List ℕ → Incoming
plain_reading line =
    if nat_lt most_line_bytes (length line) then TooLong
    else (if list_all is_printable line then Plain line else BadByte)

-- what a line is
abbrev pub incoming_of : List ℕ → Incoming
incoming_of line = if is_stamped line then stamped_reading line else plain_reading line

-- a rest that isn't empty counts as a line
abbrev pub rest_reading : List ℕ → Option Incoming
rest_reading [] = None
rest_reading (byte ∷ bytes) = Some (incoming_of (byte ∷ bytes))
