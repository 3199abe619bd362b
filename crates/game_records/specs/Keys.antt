-- The keys under which the store has its records: this server's own.
use Rattle.std.specs.Prelude.{ℕ, List, ◌∷◌}
use Rattle.game_records.specs.Numbers.{eight_bytes}

-- an account: `a`, and the letters of the handle in lower case
abbrev pub account_key : List ℕ → List ℕ
account_key letters = 0x61 ∷ letters

-- a game: `g`, and the eight bytes of its number
abbrev pub game_key : ℕ → List ℕ
game_key number = 0x67 ∷ eight_bytes number
