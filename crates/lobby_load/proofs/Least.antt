-- Rows of which a lobby was made have no bad key, and the first one that a lobby can't take is the least bad one.
use Rattle.std.proofs.Common.{◌≡◌, ◌⊎◌, inl, inr, ℕ, ◌≤◌, Bool, true, false, List, [], ◌∷◌, ◌++◌, Some, All, length, sym, ap, subst, ◌∙◌, arith, append-nil}
use Rattle.std.specs.FinMap as map
use Rattle.std.specs.FinMap.{find, get-entries}
use Rattle.lobby_shelf.specs.Shelf.{most_stored}
use Rattle.edge_traits.specs.Pairs.{IsAscending, Pairs, Records, keys_order}
use Rattle.lobby_state.specs.Lobby.{LobbyState, most_accounts}
use Rattle.lobby_state.specs.ShelfRoom.{desks_used}
use Rattle.lobby_store.specs.Carrying.{held}
use Rattle.lobby_store.specs.Rows.{IsNoRow}
use Rattle.lobby_store.specs.declared.reading.StoreRow.TheVariants.{Account as AnAccount, Game as AGame}
use Rattle.lobby_load.specs.BadRows.{HasBefore, IsAccount, IsBeyond, IsRowOfGame, IsGoodStore, Row}
use Rattle.lobby_load.specs.Filling.{CannotTake, HasRows, IsLeastBadOf, count_of, is_of_account, is_of_game}
use Rattle.lobby_load.specs.Loaded.{HasCount, HasLoaded, HasSizes}
use Rattle.lobby_load.proofs.Counting.{enough, fewer}
use Rattle.lobby_load.proofs.RowsSorted.{find-before, find-itself, found_is}

-- the keys of accounts and of games begin with a byte of their own
account_begins : (row : Row) → IsAccount row → is_of_account row.0 ≡ true
account_begins row (account, is) = ap is_of_account is.own

game_begins : (row : Row) → IsRowOfGame row → is_of_game row.0 ≡ true
game_begins row (number, game, is) = ap is_of_game is.own

game_not_account : (row : Row) → IsRowOfGame row → is_of_account row.0 ≡ false
game_not_account row (number, game, is) = ap is_of_account is.own

account_not_game : (row : Row) → IsAccount row → is_of_game row.0 ≡ false
account_not_game row (account, is) = ap is_of_game is.own

not_both : (b : Bool) → b ≡ true → b ≡ false → ⊥
not_both b so other = let bad = sym so ∙ other in absurd cc

account_by_key : (row : Row) → IsAccount row ⊎ IsRowOfGame row → is_of_account row.0 ≡ true → IsAccount row
account_by_key row (inl is) so = is
account_by_key row (inr is) so = absurd (not_both (is_of_account row.0) so (game_not_account row is))

game_by_key : (row : Row) → IsAccount row ⊎ IsRowOfGame row → is_of_game row.0 ≡ true → IsRowOfGame row
game_by_key row (inl is) so = absurd (not_both (is_of_game row.0) so (account_not_game row is))
game_by_key row (inr is) so = is

-- a row is no pair that is none
row_is_row : (row : Row) → IsAccount row ⊎ IsRowOfGame row → IsNoRow row → ⊥
row_is_row row (inl (account, is)) none = none (AnAccount account) is
row_is_row row (inr (number, game, is)) none = none (AGame number game) is

-- more than there are can't come before a row
too_many : (IsOfKind : Row → Type 0) (kind : List ℕ → Bool) (most : ℕ) (done rest : Pairs) (row : Row)
    → IsAscending (done ++ rest)
    → find keys_order row.0 done ≡ Some row.1 → kind row.0 ≡ true → ((x : Row) → IsOfKind x → kind x.0 ≡ true)
    → count_of kind done ≤ most
    → HasBefore IsOfKind most (done ++ rest) row.0 → ⊥
too_many IsOfKind kind most done rest row rise found is begins few before =
    let short =
    fewer before.pick kind row.0 row.1 done rest rise found is (λ k d lt so. begins _ (before.kind k d lt so))
    before.before in
    let many = before.many in
    omega (arith, short, many, few)

-- no row is bad of those that a lobby was made of
not_bad : (done rest : Pairs) (lobby : LobbyState) (key bytes : List ℕ) → IsAscending (done ++ rest)
    → HasRows done lobby
    → find keys_order key done ≡ Some bytes → IsNoRow (key, bytes) ⊎ IsBeyond (done ++ rest) (key, bytes) → ⊥
not_bad done rest lobby key bytes rise h found (inl none) =
    row_is_row (key, bytes) (found_is (λ x. IsAccount x ⊎ IsRowOfGame x) key bytes done h.each found) none
not_bad done rest lobby key bytes rise h found (inr (inl (is, before))) =
    too_many IsAccount is_of_account most_accounts done rest (key, bytes) rise found (account_begins (key, bytes) is)
    account_begins
    (subst (λ n. n ≤ most_accounts) h.accounts h.few_accounts) before
not_bad done rest lobby key bytes rise h found (inr (inr (is, before))) =
    too_many IsRowOfGame is_of_game most_stored done rest (key, bytes) rise found (game_begins (key, bytes) is)
    game_begins
    (subst (λ n. n ≤ most_stored) h.games h.few_games) before

-- a lobby that was made of all pairs of a table has loaded it
pub made_loaded : (table : Records) (lobby : LobbyState) (rows : Pairs) → rows ≡ map.entries table → HasRows rows lobby
    → HasLoaded table lobby
made_loaded table lobby rows e h key =
    h.wanted key ∙ ap (find keys_order key) e ∙ sym (get-entries table key)

-- it has as many accounts and games
pub made_sized : (table : Records) (lobby : LobbyState) (rows : Pairs) → rows ≡ map.entries table → HasRows rows lobby
    → HasSizes table lobby
made_sized table lobby rows e h = record {
  accounts = subst (HasCount IsAccount (length lobby.accounts)) e (record {
    pick = λ row. is_of_account row.0;
    kind = λ k d lt. (account_by_key _ (h.each k d lt), account_begins _);
    many = sym h.accounts;
  });
  games = subst (HasCount IsRowOfGame (length lobby.shelf.games)) e (record {
    pick = λ row. is_of_game row.0;
    kind = λ k d lt. (game_by_key _ (h.each k d lt), game_begins _);
    many = sym h.games;
  });
}

-- and it is a good store
pub made_good : (table : Records) (lobby : LobbyState) (rows : Pairs) → IsAscending rows → rows ≡ map.entries table
    → HasRows rows lobby → IsGoodStore table
made_good table lobby rows rise e h = record {
  rows = subst (λ (x : Pairs). All (λ row. IsAccount row ⊎ IsRowOfGame row) x) e h.each;
  none_bad = λ key is.
      let whole : rows ++ [] ≡ map.entries table = append-nil rows ∙ e in
      let found : find keys_order key rows ≡ Some is.record_of =
      ap (find keys_order key) e ∙ sym (get-entries table key) ∙ is.stands in
      not_bad rows [] lobby key is.record_of (subst IsAscending (sym (append-nil rows)) rise) h found
      (subst (λ (x : Pairs). IsNoRow (key, is.record_of) ⊎ IsBeyond x (key, is.record_of)) (sym whole) is.bad);
}

-- at its opening no desk is in use
none_used : (lobby : LobbyState) (rows : Pairs) → HasRows rows lobby → desks_used lobby.games ≡ 0
none_used lobby rows h = ap desks_used h.opening.no_game

bad_here : (done rest : Pairs) (row : Row) (lobby : LobbyState) → IsAscending (done ++ row ∷ rest) → HasRows done lobby
    → CannotTake lobby row
    → IsNoRow row ⊎ IsBeyond (done ++ row ∷ rest) row
bad_here done rest row lobby rise h (inl none) = inl none
bad_here done rest row lobby rise h (inr (inl (is, full))) =
    let many = h.accounts in
    inr (inl (
      is,
      enough IsAccount is_of_account most_accounts done rest row rise (λ k d lt. account_by_key _ (h.each k d lt))
          (omega (arith, full, many)),
    ))
bad_here done rest row lobby rise h (inr (inr (is, full))) =
    let many = h.games in
    let none = none_used lobby done h in
    inr (inr (
      is,
      enough IsRowOfGame is_of_game most_stored done rest row rise (λ k d lt. game_by_key _ (h.each k d lt))
          (omega (arith, full, many, none)),
    ))

-- the first row that a lobby can't take has the least bad key
pub refused_least : (done rest : Pairs) (row : Row) (lobby : LobbyState) (rows : Pairs) → rows ≡ done ++ row ∷ rest
    → IsAscending rows
    → HasRows done lobby → CannotTake lobby row → IsLeastBadOf rows row.0
refused_least done rest row lobby rows parts rises h refused table e =
    let all : Pairs = done ++ row ∷ rest in
    let rise : IsAscending all = subst IsAscending parts rises in
    let same : all ≡ map.entries table = sym parts ∙ e in
    let at : (key : List ℕ) → find keys_order key all ≡ held table key = λ key.
    ap (find keys_order key) same ∙ sym (get-entries table key) in
    record {
      bad = record {
        record_of = row.1;
        stands = sym (at row.0) ∙ find-itself done rest row rise;
        bad = subst (λ (x : Pairs). IsNoRow row ⊎ IsBeyond x row) same (bad_here done rest row lobby rise h refused);
      };
      least = λ other less is.
          let found = sym (find-before other done rest row less rise) ∙ at other ∙ is.stands in
          not_bad done (row ∷ rest) lobby other is.record_of rise h found
          (subst (λ (x : Pairs). IsNoRow (other, is.record_of) ⊎ IsBeyond x (other, is.record_of)) (sym same) is.bad);
    }
