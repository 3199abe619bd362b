-- What a line says, if it is the spelling of a message.
use Rattle.std.specs.Prelude.{ℕ, ◌+◌, ◌-◌, ◌*◌, ◌%◌, ◌==◌, ◌&&◌, if◌then◌else◌, List, [], ◌∷◌, length, take, fold, bytes_eq, bit_xor, Option, Some, None}
use Rattle.stamp_codec.specs.Message.{Message, is_message, message_of}
use Rattle.stamp_codec.specs.Spelling.{key_at, by_place, swapped, stamped_line}

-- the byte that may stand so at a place of the line
abbrev pub decipher : ℕ → ℕ → ℕ
decipher place byte = bit_xor (bit_xor ((byte + 32) % 256) (key_at place)) 0x80

-- the bytes before the first mark, or all of them
abbrev pub before : ℕ → List ℕ → List ℕ
before mark [] = []
before mark (byte ∷ bytes) = if byte == mark then [] else (byte ∷ before mark bytes)

-- the bytes behind the first mark
abbrev pub behind_mark : ℕ → List ℕ → List ℕ
behind_mark mark [] = []
behind_mark mark (byte ∷ bytes) = if byte == mark then bytes else behind_mark mark bytes

-- the number that digits write
abbrev pub number : List ℕ → ℕ
number digits = fold (λ n digit. n * 10 + (digit - 48)) 0 digits

-- what a line says in the open, pads and all
abbrev pub plain : List ℕ → List ℕ
plain line = swapped (by_place decipher 0 (take (length line - 1) line))

-- the one message that a line may be the spelling of
abbrev pub candidate : List ℕ → Message
candidate line = message_of (before 0x18 (plain line)) (number (before 0x19 (behind_mark 0x18 (plain line))))

-- a message where it can be said and is spelled so
abbrev pub if_spelled : List ℕ → Message → Option Message
if_spelled line message = if (is_message message && bytes_eq (stamped_line message) line) then Some message else None

-- the message that a line is the spelling of, if there is one
abbrev pub opened : List ℕ → Option Message
opened line = if_spelled line (candidate line)
