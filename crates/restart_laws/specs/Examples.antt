-- Worked examples of two evenings: in the first, which begins with an empty store, Ann registers, and her game with Ben
-- is adjourned.
use Rattle.std.specs.Prelude.{◌≡◌, ℕ, if◌then◌else◌, List, [], ◌∷◌, ◌++◌, bytes_eq, codes, replicate, Some, None, refl}
use Rattle.chess_model.specs.declared.moves.Move.TheVariants.{Plain}
use Rattle.chess_model.specs.declared.variant.Variant.TheVariants.{Chess}
use Rattle.fics_words.specs.declared.account.Account.{Account}
use Rattle.game_records.specs.Numbers.{eight_bytes, two_bytes}
use Rattle.game_records.specs.declared.stored_game.StoredGame.{StoredGame}
use Rattle.lobby_load.specs.Loaded.{opening_with}
use Rattle.lobby_shelf.specs.Shelf.{account_order, empty, ordered, shelved, taken_off}
use Rattle.lobby_shelf.specs.Wanted.{StoreMap, table_with}
use Rattle.lobby_state.specs.Lobby.{LobbyState, opening}
use Rattle.lobby_store.specs.Agreeing.{wanted_by}

-- Ann, the digest of whose password is 32 bytes of 7, and her game with Ben, after e2e4
abbrev pub ann : Account
ann = record { name = codes "Ann"; digest = replicate 32 7 }

abbrev pub ann_and_ben : StoredGame
ann_and_ben = record {
  terms = record { minutes = 0; increment = 0; variant = Chess; colour = None };
  names = codes "Ann" ∷ codes "Ben" ∷ [];
  halves = record { board = 1; what = Plain 12 28 None; charge = None } ∷ [];
}

-- ---- the store

-- nothing stands in it; under this key stands this record, and all else as before
abbrev pub no_rows : StoreMap
no_rows key = None

abbrev pub with_row : List ℕ → List ℕ → StoreMap → StoreMap
with_row key bytes store other = if bytes_eq key other then Some bytes else store other

-- Ann's key and record, and those of the game
abbrev pub ann_key : List ℕ
ann_key = codes "aann"

abbrev pub ann_bytes : List ℕ
ann_bytes = 1 ∷ 0x41 ∷ 3 ∷ (codes "Ann" ++ replicate 32 7)

abbrev pub first_key : List ℕ
first_key = 0x67 ∷ 0 ∷ 0 ∷ 0 ∷ 0 ∷ 0 ∷ 0 ∷ 0 ∷ 1 ∷ []

abbrev pub first_bytes : List ℕ
first_bytes =
    1 ∷ 0x47 ∷ 0 ∷ 0 ∷ 0 ∷ 0 ∷ 0 ∷ (3 ∷ codes "Ann" ++ (3 ∷ codes "Ben" ++ 0 ∷ 1 ∷ 0x18 ∷ 0xE0 ∷ 0 ∷ []))

abbrev pub one_row : StoreMap
one_row = with_row ann_key ann_bytes no_rows

abbrev pub both_rows : StoreMap
both_rows = with_row first_key first_bytes one_row

-- under both keys stands the same
abbrev pub AreAlike : StoreMap → StoreMap → Type 0
AreAlike one other = (one ann_key ≡ other ann_key) × (one first_key ≡ other first_key)

-- ---- the first evening

-- the lobby at its end, where no order was carried out yet
abbrev pub last_lobby : LobbyState
last_lobby = record opening {
  accounts = ann ∷ [];
  shelf = shelved (ordered empty (account_order empty ann)) ann_and_ben;
}

-- two orders stand: to put Ann's record, and to put the game's
two_orders : last_lobby.shelf.orders
    ≡ record { number = 1; key = ann_key; bytes = Some ann_bytes }
    ∷ record { number = 2; key = first_key; bytes = Some first_bytes } ∷ []
unfolding two_bytes eight_bytes
two_orders = refl

-- with them an empty store becomes what it is to be for that lobby: it has both rows
carried_out : AreAlike (table_with no_rows last_lobby.shelf.orders) both_rows
    × AreAlike (wanted_by last_lobby) both_rows
unfolding two_bytes eight_bytes
carried_out = ((refl, refl), (refl, refl))

-- ---- the second evening

-- where both were carried out the next server opens with Ann and the game
opens_with_both :
    AreAlike (wanted_by (opening_with (ann ∷ []) (record { number = 1; game = ann_and_ben } ∷ []))) both_rows
unfolding two_bytes eight_bytes
opens_with_both = (refl, refl)

-- where the keeper failed behind the first it opens with Ann alone
opens_with_ann : AreAlike (wanted_by (opening_with (ann ∷ []) [])) one_row
unfolding two_bytes eight_bytes
opens_with_ann = (refl, refl)

-- and the two orders, the first of which is then carried out twice, make of that store what it was to be
carried_out_again : AreAlike (table_with one_row last_lobby.shelf.orders) both_rows
unfolding two_bytes eight_bytes
carried_out_again = (refl, refl)

-- ---- the game is resumed

-- a third order stands then, which removes the game's row
abbrev pub last_resumed : LobbyState
last_resumed = record last_lobby { shelf = taken_off last_lobby.shelf 1 }

resumed_row : (table_with both_rows last_resumed.shelf.orders first_key ≡ None)
    × AreAlike (wanted_by last_resumed) one_row
unfolding two_bytes eight_bytes
resumed_row = (refl, (refl, refl))
