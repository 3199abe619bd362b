-- Arguments: texts. This server's own.
use Rattle.std.specs.Prelude.{ℕ, nat_le, ◌&&◌, Bool, List, length}
use Rattle.std.specs.List.{list_all}
use Rattle.fics_words.specs.Line.{most_text_bytes}

-- a text is 1 to 800 printable bytes
abbrev pub is_message_text : List ℕ → Bool
is_message_text bytes =
    nat_le 1 (length bytes)
    && (nat_le (length bytes) most_text_bytes && list_all (λ b. nat_le 0x20 b && nat_le b 0x7E) bytes)
