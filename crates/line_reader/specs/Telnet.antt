-- Where a byte stands in what a telnet client sends, and which bytes are data (RFC 854).
use Rattle.std.specs.Prelude.{ℕ, Bool, false, not, ◌==◌, ◌&&◌, nat_le, if◌then◌else◌, List, [], ◌∷◌}
use Rattle.line_reader.specs.declared.telnet.Telnet.{Telnet}
use Rattle.line_reader.specs.declared.telnet.Telnet.TheVariants.{Data, Command, Choice, Block, BlockCommand}

-- WILL, WONT, DO or DONT
abbrev pub is_choice : ℕ → Bool
is_choice byte = nat_le 251 byte && nat_le byte 254

-- where the next byte stands
abbrev pub after : Telnet → ℕ → Telnet
after Data byte = if byte == 255 then Command else Data
after Command byte = if byte == 250 then Block else (if is_choice byte then Choice else Data)
after Choice byte = Data
after Block byte = if byte == 255 then BlockCommand else Block
after BlockCommand byte = if byte == 240 then Data else Block

-- whether a byte is data where it stands: any but IAC, and the second of two
abbrev pub is_data : Telnet → ℕ → Bool
is_data Data byte = not (byte == 255)
is_data Command byte = byte == 255
is_data Choice byte = false
is_data Block byte = false
is_data BlockCommand byte = false

-- the data bytes of what comes from such a place on
abbrev pub data_from : Telnet → List ℕ → List ℕ
data_from telnet [] = []
data_from telnet (byte ∷ bytes) =
    if is_data telnet byte then (byte ∷ data_from (after telnet byte) bytes) else data_from (after telnet byte) bytes
