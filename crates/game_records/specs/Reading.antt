-- The one record that a text may be the spelling of: what stands at each place, whatever it is. A byte that is missing
-- is read as 0.
use Rattle.std.specs.Prelude.{ℕ, zero, suc, ◌-◌, ◌/◌, ◌%◌, min, nat_eq, nat_lt, if◌then◌else◌, List, [], ◌∷◌, take, drop, slice_index, Option, Some, None}
use Rattle.std.specs.Int.{w16, w32, w64, from_be_bytes}
use Rattle.chess_model.specs.declared.man.Kind.{Kind}
use Rattle.chess_model.specs.declared.man.Kind.TheVariants.{Pawn, Knight, Bishop, Rook, Queen}
use Rattle.chess_model.specs.declared.moves.Move.{Move}
use Rattle.chess_model.specs.declared.moves.Move.TheVariants.{Plain, Castle, Drop}
use Rattle.chess_model.specs.declared.variant.Variant.{Variant}
use Rattle.chess_model.specs.declared.variant.Variant.TheVariants.{Chess, Crazyhouse, Bughouse, Fischer}
use Rattle.clock_ledger.specs.declared.charges.Charge.{Charge}
use Rattle.fics_words.specs.declared.account.Account.{Account}
use Rattle.game_records.specs.declared.stored_game.Half.{Half}
use Rattle.game_records.specs.declared.stored_game.StoredGame.{StoredGame}
use Rattle.game_records.specs.declared.records.Record.{Record}
use Rattle.game_records.specs.declared.records.Record.TheVariants as a
use Rattle.game_records.specs.Bounds.{seats}

-- the number of the first two bytes
unfoldable pub two_in : List ℕ → ℕ
two_in bytes = from_be_bytes w16 bytes

unfoldable pub four_in : List ℕ → ℕ
four_in bytes = from_be_bytes w32 bytes

unfoldable pub eight_in : List ℕ → ℕ
eight_in bytes = from_be_bytes w64 bytes

-- the letters behind the byte that says how many they are
abbrev pub name_in : List ℕ → List ℕ
name_in bytes = take (slice_index bytes 0) (drop 1 bytes)

abbrev pub behind_name : List ℕ → List ℕ
behind_name bytes = drop (slice_index bytes 0) (drop 1 bytes)

-- so many names
abbrev pub names_in : ℕ → List ℕ → List (List ℕ)
names_in zero bytes = []
names_in (suc n) bytes = name_in bytes ∷ names_in n (behind_name bytes)

abbrev pub behind_names : ℕ → List ℕ → List ℕ
behind_names zero bytes = bytes
behind_names (suc n) bytes = behind_names n (behind_name bytes)

-- what a pawn becomes, by its number
abbrev pub promotion_numbered : ℕ → Option Kind
promotion_numbered n =
    if nat_eq n 1 then Some Knight else (if nat_eq n 2 then Some Bishop else (if nat_eq n 3 then Some Rook
    else (if nat_eq n 4 then Some Queen else None)))

-- what is dropped, by its number
abbrev pub kind_of : ℕ → Kind
kind_of n =
    if nat_eq n 1 then Knight else (if nat_eq n 2 then Bishop else (if nat_eq n 3 then Rook
    else (if nat_eq n 4 then Queen else Pawn)))

-- the half-move of a code
unfoldable pub move_of : ℕ → Move
move_of code =
    if nat_lt code 0x8000 then Plain (code / 512 % 64) (code / 8 % 64) (promotion_numbered (code % 8))
    else (if nat_lt code 0x8100 then Castle (nat_eq code 0x8001)
    else Drop (kind_of ((code - 0x8100) / 64)) ((code - 0x8100) % 64))

-- the charge behind its mark
abbrev pub charge_behind : ℕ → List ℕ → Option Charge
charge_behind mark bytes =
    if nat_eq mark 0 then None
    else (if nat_eq mark 1 then Some (record { begin = eight_in bytes; end = eight_in (drop 8 bytes); client = None })
    else Some (record {
      begin = eight_in bytes;
      end = eight_in (drop 8 bytes);
      client = Some (four_in (drop 16 bytes), four_in (drop 20 bytes));
    }))

-- how many bytes a charge has behind its mark
abbrev pub charge_length : ℕ → ℕ
charge_length mark = if nat_eq mark 0 then 0 else (if nat_eq mark 1 then 16 else 24)

unfoldable pub charge_in : List ℕ → Option Charge
charge_in bytes = charge_behind (slice_index bytes 0) (drop 1 bytes)

unfoldable pub behind_charge : List ℕ → List ℕ
behind_charge bytes = drop (charge_length (slice_index bytes 0)) (drop 1 bytes)

-- the board of a half-move, which is written for a pair alone
abbrev pub board_in : Variant → List ℕ → ℕ
board_in Chess bytes = 1
board_in Crazyhouse bytes = 1
board_in Bughouse bytes = slice_index bytes 0
board_in (Fischer number) bytes = 1

abbrev pub behind_board : Variant → List ℕ → List ℕ
behind_board Chess bytes = bytes
behind_board Crazyhouse bytes = bytes
behind_board Bughouse bytes = drop 1 bytes
behind_board (Fischer number) bytes = bytes

abbrev pub half_in : Variant → List ℕ → Half
half_in v bytes = record {
  board = board_in v bytes;
  what = move_of (two_in (behind_board v bytes));
  charge = charge_in (drop 2 (behind_board v bytes));
}

abbrev pub behind_half : Variant → List ℕ → List ℕ
behind_half v bytes = behind_charge (drop 2 (behind_board v bytes))

-- so many half-moves
abbrev pub halves_in : Variant → ℕ → List ℕ → List Half
halves_in v zero bytes = []
halves_in v (suc n) bytes = half_in v bytes ∷ halves_in v n (behind_half v bytes)

-- the variant, by the first byte and what stands behind the second
abbrev pub variant_in : List ℕ → Variant
variant_in bytes =
    if nat_eq (slice_index bytes 0) 3 then Fischer (two_in (drop 2 bytes))
    else (if nat_eq (slice_index bytes 0) 2 then Bughouse
    else (if nat_eq (slice_index bytes 2) 1 then Crazyhouse else Chess))

abbrev pub behind_variant : List ℕ → List ℕ
behind_variant bytes = if nat_eq (slice_index bytes 0) 3 then drop 4 bytes else drop 3 bytes

-- a count, of which no more than 2,400 is taken, and so many half-moves
abbrev pub counted_halves : Variant → List ℕ → List Half
counted_halves v bytes = halves_in v (min (two_in bytes) 2400) (drop 2 bytes)

-- minutes, increment, names and half-moves
abbrev pub game_behind : Variant → List ℕ → StoredGame
game_behind v bytes = record {
  terms = record { minutes = two_in bytes; increment = two_in (drop 2 bytes); variant = v; colour = None };
  names = names_in (seats v) (drop 4 bytes);
  halves = counted_halves v (behind_names (seats v) (drop 4 bytes));
}

abbrev pub game_in : List ℕ → StoredGame
game_in bytes = game_behind (variant_in bytes) (behind_variant bytes)

abbrev pub account_in : List ℕ → Account
account_in bytes = record { name = name_in (drop 2 bytes); digest = take 32 (behind_name (drop 2 bytes)) }

-- an account or a game, by the second byte
abbrev pub record_in : List ℕ → Record
record_in bytes =
    if nat_eq (slice_index bytes 1) 0x41 then a.Account (account_in bytes) else a.Game (game_in bytes)
