-- Handles: the names of players. This server's own grammar.
use Rattle.std.specs.Prelude.{◌≡◌, ℕ, ◌≤◌, ◌-◌, ◌++◌, List, length, map, take, replicate, All}
use Rattle.std.specs.Char.{IsAsciiAlphabetic, to_ascii_lowercase}

-- the most letters of a handle
abbrev pub most_handle_letters : ℕ
most_handle_letters = 17

-- a handle is 3 to 17 ASCII letters
abbrev pub IsHandle : List ℕ → Type 0
IsHandle bytes = (3 ≤ length bytes) × (length bytes ≤ most_handle_letters) × All IsAsciiAlphabetic bytes

-- the letters by which handles are compared: all in lower case
abbrev pub key_of : List ℕ → List ℕ
key_of letters = map to_ascii_lowercase letters

-- the letters in a field of 17 bytes: behind them stand zeros
abbrev pub padded : List ℕ → List ℕ
padded letters = letters ++ replicate (most_handle_letters - length letters) 0

-- the first len bytes of the field are a handle, and zeros stand behind them
abbrev pub HoldsHandle : List ℕ → ℕ → Type 0
HoldsHandle field len =
    let letters = take len field in IsHandle letters × (field ≡ padded letters) × (len ≡ length letters)
