-- Whether bytes are a handle, as a test. This server's own.
use Rattle.std.specs.Prelude.{ℕ, nat_le, ◌&&◌, ◌||◌, if◌then◌else◌, Bool, List, length, Option, Some, None}
use Rattle.std.specs.List.{list_all}
use Rattle.fics_words.specs.Handle.{most_handle_letters}

-- a handle is 3 to 17 ASCII letters
abbrev pub is_handle : List ℕ → Bool
is_handle bytes =
    nat_le 3 (length bytes) && (nat_le (length bytes) most_handle_letters
    && list_all (λ b. (nat_le 65 b && nat_le b 90) || (nat_le 97 b && nat_le b 122)) bytes)

-- the handle that the bytes spell
abbrev pub handle_of : List ℕ → Option (List ℕ)
handle_of bytes = if is_handle bytes then Some bytes else None
