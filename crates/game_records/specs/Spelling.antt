-- How a record is spelled: this server's own format. A person with a dump of the store can check it byte by byte.
use Rattle.std.specs.Prelude.{◌≡◌, ℕ, List, [], ◌∷◌, ◌++◌, length, Option, Some, None}
use Rattle.std.specs.List.{flat_map}
use Rattle.chess_model.specs.declared.variant.Variant.{Variant}
use Rattle.chess_model.specs.declared.variant.Variant.TheVariants.{Chess, Crazyhouse, Bughouse, Fischer}
use Rattle.clock_ledger.specs.declared.charges.Charge.{Charge}
use Rattle.fics_words.specs.declared.account.Account.{Account}
use Rattle.game_records.specs.declared.stored_game.Half.{Half}
use Rattle.game_records.specs.declared.stored_game.StoredGame.{StoredGame}
use Rattle.game_records.specs.declared.records.Record.{Record}
use Rattle.game_records.specs.declared.records.Record.TheVariants as a
use Rattle.game_records.specs.Numbers.{two_bytes, four_bytes, eight_bytes}
use Rattle.game_records.specs.Codes.{move_code}
use Rattle.game_records.specs.Bounds.{IsSpellable, IsTyped}

-- a name: how many letters it has, and the letters
abbrev pub name_text : List ℕ → List ℕ
name_text name = length name ∷ name

-- an account: the bytes 01 and 41, the name, and the 32 bytes of the digest
abbrev pub account_text : Account → List ℕ
account_text account = 0x01 ∷ 0x41 ∷ (name_text account.name ++ account.digest)

-- how a game begins: the byte 01 for one board, 02 for a pair, 03 for Fischer random; the byte 47; and the variant, or
-- the number of the array
abbrev pub variant_text : Variant → List ℕ
variant_text Chess = 0x01 ∷ 0x47 ∷ 0x00 ∷ []
variant_text Crazyhouse = 0x01 ∷ 0x47 ∷ 0x01 ∷ []
variant_text Bughouse = 0x02 ∷ 0x47 ∷ 0x02 ∷ []
variant_text (Fischer number) = 0x03 ∷ 0x47 ∷ two_bytes number

-- the board of a half-move, which is written for a pair alone
abbrev pub board_text : Variant → ℕ → List ℕ
board_text Chess board = []
board_text Crazyhouse board = []
board_text Bughouse board = board ∷ []
board_text (Fischer number) board = []

-- whether a charge has the client's stamps
abbrev pub charge_mark : Option (ℕ × ℕ) → ℕ
charge_mark None = 0x01
charge_mark (Some stamps) = 0x02

abbrev pub stamps_text : Option (ℕ × ℕ) → List ℕ
stamps_text None = []
stamps_text (Some stamps) = four_bytes stamps.0 ++ four_bytes stamps.1

-- a charge: the byte 00 for none; else 01 or 02, the moments of its begin and end, and behind 02 the client's stamps
abbrev pub charge_text : Option Charge → List ℕ
charge_text None = 0x00 ∷ []
charge_text (Some charge) =
    charge_mark charge.client ∷ (eight_bytes charge.begin ++ (eight_bytes charge.end ++ stamps_text charge.client))

-- a half-move: its board, its code and its charge
abbrev pub half_text : Variant → Half → List ℕ
half_text v h = board_text v h.board ++ (two_bytes (move_code h.what) ++ charge_text h.charge)

abbrev pub halves_text : Variant → List Half → List ℕ
halves_text v halves = flat_map (half_text v) halves

abbrev pub names_text : List (List ℕ) → List ℕ
names_text names = flat_map name_text names

-- a game: its variant, minutes, increment in seconds, the names in the order of the seats, how many half-moves it has,
-- and the half-moves
abbrev pub game_text : StoredGame → List ℕ
game_text game =
    variant_text game.terms.variant
    ++ (two_bytes game.terms.minutes
    ++ (two_bytes game.terms.increment
    ++ (names_text game.names
    ++ (two_bytes (length game.halves) ++ halves_text game.terms.variant game.halves))))

-- the bytes of a record
abbrev pub spelling : Record → List ℕ
spelling (a.Account account) = account_text account
spelling (a.Game game) = game_text game

-- the bytes are those of this record
pub record IsSpelled (r : Record) (bytes : List ℕ) : Type 0 where
  pub typed : IsTyped r
  pub bounds : IsSpellable r
  pub text : bytes ≡ spelling r
