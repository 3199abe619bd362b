-- How a message is spelled as a line (after the stamped lines of the openseal client; the numbers are the server's
-- own).
use Rattle.std.specs.Prelude.{◌≡◌, true, ℕ, ◌+◌, ◌-◌, ◌%◌, List, [], ◌∷◌, ◌++◌, length, replicate, decimal, slice_index, codes, bit_or, bit_xor}
use Rattle.stamp_codec.specs.Message.{Message, text_of, stamp_of, is_message}

-- the text, the byte 0x18, the stamp as a decimal without leading zeros, and the byte 0x19
abbrev pub body : List ℕ → ℕ → List ℕ
body text stamp = text ++ 0x18 ∷ (decimal stamp ++ 0x19 ∷ [])

-- how many bytes a length falls short of a multiple of 12
abbrev pub pads : ℕ → ℕ
pads n = (12 - n % 12) % 12

-- with as few `1` behind it as bring the length to a multiple of 12
abbrev pub padded : List ℕ → List ℕ
padded bytes = bytes ++ replicate (pads (length bytes)) 0x31

-- in each group of 12 the places 0 and 11, 2 and 9, and 4 and 7 are swapped
abbrev pub swapped : List ℕ → List ℕ
swapped (a ∷ b ∷ c ∷ d ∷ e ∷ f ∷ g ∷ h ∷ i ∷ j ∷ k ∷ l ∷ rest) =
    l ∷ b ∷ j ∷ d ∷ h ∷ f ∷ g ∷ e ∷ i ∷ c ∷ k ∷ a ∷ swapped rest
swapped short = short

-- the key of 50 bytes
abbrev pub key : List ℕ
key = codes "Timestamp (FICS) v1.0 - programmed by Henrik Gram."

-- the byte of the key at a place of the line
abbrev pub key_at : ℕ → ℕ
key_at place = slice_index key (place % 50)

-- how a byte stands at a place of the line: with its high bit set, xor the key, minus 32 modulo 256
abbrev pub cipher : ℕ → ℕ → ℕ
cipher place byte = (bit_xor (bit_or byte 0x80) (key_at place) + 224) % 256

-- each byte of a list by its place, which is counted from `place` on
abbrev pub by_place : (ℕ → ℕ → ℕ) → ℕ → List ℕ → List ℕ
by_place f place [] = []
by_place f place (byte ∷ bytes) = f place byte ∷ by_place f (place + 1) bytes

-- what the line says in the open
abbrev pub written : Message → List ℕ
written message = padded (body (text_of message) (stamp_of message))

-- the line: these bytes, swapped and each in its place, and the closing byte 0x80
abbrev pub stamped_line : Message → List ℕ
stamped_line message = by_place cipher 0 (swapped (written message)) ++ 0x80 ∷ []

-- a message that a line can say, and the line that says it
pub record IsStampedLine (message : Message) (bytes : List ℕ) : Type 0 where
  pub said : is_message message ≡ true
  pub line : bytes ≡ stamped_line message
