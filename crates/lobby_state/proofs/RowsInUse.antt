-- The rows that an InUse tells are the desks in use, each of them once, in ascending order.
use Rattle.std.proofs.Common.{◌≡◌, ℕ, ◌+◌, ◌<◌, ◌≤◌, zero, suc, List, [], ◌++◌, Option, None, Some, refl, sym, ap, subst, ◌∙◌, inl, inr, arith}
use Rattle.std.specs.Prelude.{All, Contains}
use Rattle.std.specs.List.{AllPairs}
use Rattle.std.proofs.lemmas.List.{append-nil}
use Rattle.std.proofs.lemmas.List.Elements.{All-nil, All-cons, All-append, All-contains, All-weaker, Contains-append_left, Contains-append_right}
use Rattle.std.proofs.lemmas.List.Quantifiers.{all_pairs_push}
use Rattle.lobby_state.specs.declared.desk_in_use.DeskInUse.{DeskInUse}
use Rattle.lobby_state.specs.declared.game.ListedGame.{ListedGame}
use Rattle.lobby_state.specs.InUse.{AreDesksInUse, IsInUse, desks_in_use, row_of, rows_to}
use Rattle.lobby_state.specs.Lobby.{LobbyState, game_at}
use Rattle.lobby_state.proofs.Lists.{Contains-here}
use Rattle.lobby_state.proofs.GamesFound.{last_or_before}

-- the row is of a desk up to this number
abbrev IsUpTo : ℕ → DeskInUse → Type 0
IsUpTo last row = row.desk ≤ last

row_up_to : (desk : ℕ) (game : Option ListedGame) → All (IsUpTo desk) (row_of desk game)
row_up_to desk None = All-nil (IsUpTo desk)
row_up_to desk (Some game) =
    All-cons (IsUpTo desk) (record { desk = desk; serial = game.serial }) [] (omega arith) (All-nil (IsUpTo desk))

rows_up_to : (lobby : LobbyState) (count : ℕ) → All (IsUpTo count) (rows_to lobby count)
rows_up_to lobby zero = All-nil (IsUpTo 0)
rows_up_to lobby (suc count) =
    All-append (IsUpTo (suc count)) (rows_to lobby count) (row_of (count + 1) (game_at lobby (count + 1)))
    (All-weaker (IsUpTo count) (IsUpTo (suc count)) (λ row low. omega (arith, low)) (rows_to lobby count)
    (rows_up_to lobby count))
    (subst (λ (n : ℕ). All (IsUpTo n) (row_of (count + 1) (game_at lobby (count + 1)))) (omega arith)
    (row_up_to (count + 1) (game_at lobby (count + 1))))

-- each row is of a desk in use
row_in_use : (lobby : LobbyState) (desk : ℕ) (game : Option ListedGame) → game_at lobby desk ≡ game
    → (1 ≤ desk) × (desk ≤ 128)
    → All (IsInUse lobby) (row_of desk game)
row_in_use lobby desk None e is = All-nil (IsInUse lobby)
row_in_use lobby desk (Some game) e is =
    All-cons (IsInUse lobby) (record {
      desk = desk;
      serial = game.serial;
    }) [] (record { is_desk = is; game = game; there = e; serial = refl }) (All-nil (IsInUse lobby))

rows_in_use : (lobby : LobbyState) (count : ℕ) → count ≤ 128 → All (IsInUse lobby) (rows_to lobby count)
rows_in_use lobby zero few = All-nil (IsInUse lobby)
rows_in_use lobby (suc count) few =
    All-append (IsInUse lobby) (rows_to lobby count) (row_of (count + 1) (game_at lobby (count + 1)))
    (rows_in_use lobby count (omega arith))
    (row_in_use lobby (count + 1) (game_at lobby (count + 1)) refl (omega arith, omega arith))

same_game : (one another : ListedGame) → Some one ≡ Some another → one ≡ another
same_game one another e = cc

-- each desk in use has its row
has_row : (lobby : LobbyState) (row : DeskInUse) (game : Option ListedGame) → game_at lobby row.desk ≡ game
    → IsInUse lobby row → Contains (row_of row.desk game) row
has_row lobby row None e h = absurd (let bad : None ≡ Some h.game = sym e ∙ h.there in cc)
has_row lobby row (Some game) e h =
    let same : game ≡ h.game = same_game game h.game (sym e ∙ h.there) in
    let serial : game.serial ≡ row.serial = ap (λ (g : ListedGame). g.serial) same ∙ h.serial in
    Contains-here row (record {
      desk = row.desk;
      serial = game.serial;
    }) [] (ap (λ (n : ℕ). record { desk = row.desk; serial = n }) serial)

has_rows : (lobby : LobbyState) (row : DeskInUse) (count : ℕ) → IsInUse lobby row → row.desk ≤ count
    → Contains (rows_to lobby count) row
has_rows lobby row zero h low = absurd (omega (arith, h.is_desk))
has_rows lobby row (suc count) h low = elim (last_or_before row.desk count low) [
  | inl before ↦
      Contains-append_left (rows_to lobby count) (row_of (count + 1) (game_at lobby (count + 1))) row
      (has_rows lobby row count h before)
  | inr last ↦ Contains-append_right (rows_to lobby count) (row_of (count + 1) (game_at lobby (count + 1))) row
      (subst (λ (n : ℕ). Contains (row_of n (game_at lobby n)) row) last
      (has_row lobby row (game_at lobby row.desk) refl h))
]

-- the rows ascend
ascending_by : (rows : List DeskInUse) (count : ℕ) (game : Option ListedGame) → All (IsUpTo count) rows
    → AllPairs (λ one another. one.desk < another.desk) rows
    → AllPairs (λ one another. one.desk < another.desk) (rows ++ row_of (count + 1) game)
ascending_by rows count None low h = subst (AllPairs (λ one another. one.desk < another.desk)) (sym (append-nil rows)) h
ascending_by rows count (Some game) low h =
    all_pairs_push (λ one another. one.desk < another.desk) rows (record { desk = count + 1; serial = game.serial }) h
    (λ k d inside. let bound = low k d inside in omega (arith, bound))

rows_ascend : (lobby : LobbyState) (count : ℕ) → AllPairs (λ one another. one.desk < another.desk) (rows_to lobby count)
rows_ascend lobby zero = λ i j d before inside. absurd (omega arith)
rows_ascend lobby (suc count) =
    ascending_by (rows_to lobby count) count (game_at lobby (count + 1)) (rows_up_to lobby count)
    (rows_ascend lobby count)

pub are_desks_in_use : (lobby : LobbyState) → AreDesksInUse lobby (desks_in_use lobby)
unfolding desks_in_use
are_desks_in_use lobby = record {
  listed = λ row. (
    λ there. All-contains (IsInUse lobby) (rows_to lobby 128) row (rows_in_use lobby 128 (omega arith)) there,
    λ used. has_rows lobby row 128 used used.is_desk.1,
  );
  ascending = rows_ascend lobby 128;
}
