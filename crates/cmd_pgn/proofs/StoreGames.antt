-- The games of a lobby that was loaded are those of the table.
use Rattle.std.proofs.Common.{arith, ◌≡◌, ℕ, true, false, cond, List, [], ◌∷◌, Option, None, Some, refl, sym, ap, subst, ◌∙◌, inl, inr}
use Rattle.std.specs.Prelude.{◌⊎◌, All, Contains, IfSome}
use Rattle.std.specs.List.{find}
use Rattle.std.proofs.lemmas.Slice.Eq.{bytes_eq-Decides}
use Rattle.edge_traits.specs.Pairs.{Records}
use Rattle.fics_words.specs.declared.account.Account.{Account}
use Rattle.game_records.specs.Keys.{game_key}
use Rattle.game_records.specs.Replays.{Replays}
use Rattle.game_records.specs.Spelling.{IsSpelled, spelling}
use Rattle.game_records.specs.declared.records.Record.TheVariants as a
use Rattle.game_records.specs.declared.stored_game.StoredGame.{StoredGame}
use Rattle.game_records.proofs.KeysBack.{one_game}
use Rattle.game_records.proofs.ReadBack.{one_spelled, same_game}
use Rattle.lobby_shelf.specs.declared.shelved.Shelved.{Shelved}
use Rattle.lobby_shelf.specs.Numbers.{RiseAbove}
use Rattle.lobby_shelf.specs.Wanted.{either_record, account_record, game_record, is_game_at, wanted}
use Rattle.lobby_load.specs.BadRows.{IsGoodStore}
use Rattle.lobby_load.specs.Loaded.{AreSpelled, HasLoaded}
use Rattle.lobby_state.specs.Lobby.{LobbyState}
use Rattle.lobby_state.specs.WellFormed.{IsWellFormed}
use Rattle.lobby_store.specs.Carrying.{held}
use Rattle.cmd_pgn.specs.Games.{AreGamesOf, AreStoreGames, HasGame}
use Rattle.cmd_pgn.proofs.Listed.{contains_above, contains_behind, contains_cases, contains_first, contains_none, contains_small}
use Rattle.lobby_shelf.proofs.Leading.{same_key, other_key, no_account}

-- ---- keys

-- under the key of a game stands the game of that number
wanted_game : (accounts : List Account) (games : List Shelved) (number : ℕ)
    → wanted accounts games (game_key number) ≡ game_record (find (is_game_at (game_key number)) games)
wanted_game accounts games number =
    ap (λ r. either_record (account_record r) (game_record (find (is_game_at (game_key number)) games)))
    (no_account accounts number)

-- ---- what is found under a key

-- the game of that key is found
found_there : (low : ℕ) (games : List Shelved) (row : Shelved) → RiseAbove low games → Contains games row
    → find (is_game_at (game_key row.number)) games ≡ Some row
found_there low [] row rise c = absurd (contains_none row c)
found_there low (first ∷ games) row rise c =
    by (contains_cases first row games c) (λ behind. found_there first.number games row rise.2 behind)
  where
    by : (first ≡ row) ⊎ Contains games row
        → (Contains games row → find (is_game_at (game_key row.number)) games ≡ Some row)
        → find (is_game_at (game_key row.number)) (first ∷ games) ≡ Some row
    by (inl e) rest =
        let own : is_game_at (game_key row.number) first ≡ true =
        (bytes_eq-Decides (game_key first.number) (game_key row.number)).1
        (ap (λ (x : Shelved). game_key x.number) e) in
        ap (λ t. cond t (Some first) (find (is_game_at (game_key row.number)) games)) own
        ∙ ap (λ (x : Shelved). Some x) e
    by (inr behind) rest =
        let above = contains_above first.number games row rise.2 behind in
        let small = contains_small first.number games row rise.2 behind in
        let other : is_game_at (game_key row.number) first ≡ false =
        other_key (game_key first.number) (game_key row.number)
        (λ e. let same = one_game first.number row.number rise.1 small e in omega (arith, above, same)) in
        ap (λ t. cond t (Some first) (find (is_game_at (game_key row.number)) games)) other ∙ rest behind

-- what is found is one of the games, under that key
pub record IsFound (games : List Shelved) (key : List ℕ) (row : Shelved) : Type 0 where
  pub there : Contains games row
  pub own : game_key row.number ≡ key

found_is : (games : List Shelved) (key : List ℕ) (row : Shelved) → find (is_game_at key) games ≡ Some row
    → IsFound games key row
found_is [] key row e = cc
found_is (first ∷ games) key row e =
    elim (is_game_at key first)
    as (λ t.
    is_game_at key first ≡ t → cond t (Some first) (find (is_game_at key) games) ≡ Some row
    → IsFound (first ∷ games) key row) [
      | true ↦ λ own is.
          let same : first ≡ row = cc in
          record {
            there = subst (λ (x : Shelved). Contains (first ∷ games) x) same (contains_first first games);
            own = ap (λ (x : Shelved). game_key x.number) (sym same) ∙ same_key (game_key first.number) key own;
          }
      | false ↦ λ _ rest.
          let found = found_is games key row rest in
          record { there = contains_behind first row games found.there; own = found.own }
    ] refl e

-- ---- the games of a table

same_row : (one other : Shelved) → one.number ≡ other.number → one.game ≡ other.game → one ≡ other
same_row one other e f =
    ap (λ (n : ℕ). record { number = n; game = one.game }) e
    ∙ ap (λ (g : StoredGame). record { number = other.number; game = g }) f

all_at : (P : Shelved → Type 0) (games : List Shelved) (row : Shelved) → All P games → Contains games row → P row
all_at P games row all c = subst P c.2 (all c.0 row c.1)

some_record : (found : Option Shelved) (bytes : List ℕ) → game_record found ≡ Some bytes
    → (row : Shelved) × (found ≡ Some row) × (spelling (a.Game row.game) ≡ bytes)
some_record None bytes e = cc
some_record (Some row) bytes e = (row, refl, cc)

module _ (table : Records) (lobby : LobbyState) (formed : IsWellFormed lobby) (spelled : AreSpelled lobby)
    (loaded : HasLoaded table lobby) where
  has_game : (row : Shelved) → Contains lobby.shelf.games row → HasGame table row
  has_game row c = record {
    pair = (game_key row.number, spelling (a.Game row.game));
    there = sym (loaded (game_key row.number)) ∙ wanted_game lobby.accounts lobby.shelf.games row.number
        ∙ ap game_record (found_there 0 lobby.shelf.games row formed.shelf.sound.numbers c);
    is = record {
      spelled =
          all_at (λ (x : Shelved). IsSpelled (a.Game x.game) (spelling (a.Game x.game))) lobby.shelf.games row
          spelled.games c;
      own = refl;
      positive =
          let above = contains_above 0 lobby.shelf.games row formed.shelf.sound.numbers c in omega (arith, above);
      small = contains_small 0 lobby.shelf.games row formed.shelf.sound.numbers c;
      replays = all_at (λ (x : Shelved). Replays x.game) lobby.shelf.games row formed.shelf.sound.replay c;
    };
  }

  has_row : (row : Shelved) → HasGame table row → Contains lobby.shelf.games row
  has_row row h =
      let key : List ℕ = game_key row.number in
      let under : game_record (find (is_game_at key) lobby.shelf.games) ≡ Some h.pair.1 =
      sym (wanted_game lobby.accounts lobby.shelf.games row.number) ∙ loaded key ∙ ap (held table) (sym h.is.own)
      ∙ h.there in
      let found = some_record (find (is_game_at key) lobby.shelf.games) h.pair.1 under in
      let one : Shelved = found.0 in
      let is = found_is lobby.shelf.games key one found.1 in
      let number : one.number ≡ row.number =
      one_game one.number row.number (contains_small 0 lobby.shelf.games one formed.shelf.sound.numbers is.there)
      h.is.small is.own in
      let own : IsSpelled (a.Game one.game) (spelling (a.Game one.game)) =
      all_at (λ (x : Shelved). IsSpelled (a.Game x.game) (spelling (a.Game x.game))) lobby.shelf.games one spelled.games
      is.there in
      let game : one.game ≡ row.game =
      same_game one.game row.game
      (one_spelled (a.Game one.game) (a.Game row.game) h.pair.1 (subst (IsSpelled (a.Game one.game)) found.2 own)
      h.is.spelled) in
      subst (λ (x : Shelved). Contains lobby.shelf.games x) (same_row one row number game) is.there

  are_games : AreGamesOf table lobby.shelf.games
  are_games = record { order = formed.shelf.sound.numbers; exactly = λ row. (has_game row, has_row row) }

pub store_games : (table : Option Records) (lobby : LobbyState) → IsWellFormed lobby → AreSpelled lobby
    → IfSome table (λ told. HasLoaded told lobby) → IfSome table IsGoodStore →
    AreStoreGames table lobby.shelf.games
store_games None lobby formed spelled loaded good =
    record { order = formed.shelf.sound.numbers; replay = formed.shelf.sound.replay }
store_games (Some table) lobby formed spelled loaded good = (good, are_games table lobby formed spelled loaded)
