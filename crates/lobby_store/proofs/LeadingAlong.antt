-- Each act of a lobby and each plan leads a store along.
use Rattle.std.proofs.Common.{◌≡◌, ℕ, ◌<◌, ◌^◌, arith, true, false, cond, List, [], ◌∷◌, ◌++◌, Option, None, Some, refl, sym, ap, subst, ◌∙◌, append-nil, append_assoc}
use Rattle.std.specs.Prelude.{Bool, bytes_eq, is_some}
use Rattle.std.proofs.lemmas.Bool.{eqb-true}
use Rattle.std.specs.List.{find}
use Rattle.fics_words.specs.Effect.{NoneHolds}
use Rattle.fics_words.specs.Handle.{key_of}
use Rattle.fics_words.specs.declared.account.Account.{Account}
use Rattle.game_records.specs.Keys.{account_key}
use Rattle.fics_words.specs.declared.seats.Seats.{Seats}
use Rattle.game_records.specs.declared.stored_game.StoredGame.{StoredGame}
use Rattle.lobby_shelf.specs.Numbers.{RiseAbove, row_game, has_number, stored_game}
use Rattle.lobby_shelf.specs.Shelf.{account_order, game_order, removal_order}
use Rattle.lobby_shelf.specs.Wanted.{is_account_at, table_with, wanted}
use Rattle.lobby_shelf.specs.declared.order.Order.{Order}
use Rattle.lobby_shelf.specs.declared.shelved.Shelved.{Shelved}
use Rattle.lobby_shelf.proofs.Leading.{orders-lead}
use Rattle.login_handles.specs.Accounts.{account_of}
use Rattle.lobby_state.specs.declared.acts.LobbyAct.{LobbyAct}
use Rattle.lobby_state.specs.declared.acts.LobbyAct.TheVariants.{Register, Saved}
use Rattle.lobby_state.specs.Acts.{lobby_after, lobby_effect}
use Rattle.lobby_state.specs.Lobby.{LobbyState, is_registered, member_of}
use Rattle.lobby_state.specs.declared.acts.Plan.{Plan}
use Rattle.lobby_state.specs.declared.acts.Plan.TheVariants.{Start, Clear, Resume, Ask}
use Rattle.lobby_state.specs.Planned.{CanResume, IsPlanned}
use Rattle.lobby_state.specs.Plans.{committed, put_away}
use Rattle.lobby_state.specs.Reserve.{CanShelve}
use Rattle.lobby_state.specs.Resumed.{lobby_resumed}
use Rattle.lobby_state.specs.WellFormed.{IsWellFormed}
use Rattle.lobby_state.proofs.Follows.{ForStore, for_store}
use Rattle.lobby_state.proofs.KeepsActs.{keeps_act}
use Rattle.lobby_state.proofs.KeepsClear.{place-left}
use Rattle.lobby_state.proofs.Refusals.{holds_after}
use Rattle.chess_model.specs.declared.variant.Terms.{Terms}
use Rattle.lobby_state.specs.declared.member.Member.{Member}
use Rattle.lobby_state.specs.Holds.{holds}
use Rattle.lobby_state.specs.Registration.{registered}
use Rattle.lobby_store.specs.Agreeing.{LeadsAlong, TellsSaved}

-- ---- acts

-- where a store is to hold the same, and the orders that stand are the same, it is led along
pub leads_same : (old new : LobbyState) → for_store new ≡ for_store old → LeadsAlong old new
leads_same old new same = record {
  agrees = λ table agreed.
      subst (λ (s : ForStore). (key : List ℕ) → table_with table s.2 key ≡ wanted s.0 s.1 key) (sym same) agreed;
  more = [];
  orders = ap (λ (s : ForStore). s.2) same ∙ sym (append-nil old.shelf.orders);
}

pub leads_nowhere : (lobby : LobbyState) → LeadsAlong lobby lobby
leads_nowhere lobby = leads_same lobby lobby refl

none_found : (accounts : List Account) (key : List ℕ) → is_some (account_of accounts key) ≡ false
    → find (is_account_at (account_key key)) accounts ≡ None
none_found [] key none = refl
none_found (account ∷ accounts) key none =
    elim (bytes_eq (key_of account.name) key) as (λ t. is_some (cond t (Some account) (account_of accounts key)) ≡ false
    → cond t (Some account) (find (is_account_at (account_key key)) accounts) ≡ None) [
      | true ↦ λ bad. cc
      | false ↦ λ rest. none_found accounts key rest
    ] none

leads_registered : (lobby : LobbyState) (member : Option Member) (digest : List ℕ)
    → holds (is_registered lobby.accounts) member ≡ false → LeadsAlong lobby (registered lobby member digest)
leads_registered lobby None digest unknown = leads_nowhere lobby
leads_registered lobby (Some member) digest unknown =
    let account : Account = record { name = member.name; digest = digest } in
    record {
      agrees = λ table agreed.
          orders-lead.account table lobby.accounts lobby.shelf account
          (none_found lobby.accounts (key_of member.name) unknown) agreed;
      more = account_order lobby.shelf account ∷ [];
      orders = refl;
    }

-- an act that changes what a store is to hold has a row of its own
leads_after : (lobby : LobbyState) (session : ℕ) (act : LobbyAct) → (TellsSaved act → ⊥)
    → NoneHolds (lobby_effect lobby session act).causes
    → LeadsAlong lobby (lobby_effect lobby session act).after
leads_after lobby session (Register digest) other none =
    leads_registered lobby (member_of lobby session) digest none.1.0
leads_after lobby session (Saved upto) other none = absurd (other tt)
leads_after lobby session act other none = leads_same lobby _ ((keeps_act lobby session act).store tt)

pub leads_act : (lobby : LobbyState) (session : ℕ) (act : LobbyAct) → (TellsSaved act → ⊥)
    → LeadsAlong lobby (lobby_after lobby session act)
leads_act lobby session act other =
    holds_after (LeadsAlong lobby) lobby (lobby_effect lobby session act) (leads_nowhere lobby)
    (leads_after lobby session act other)

-- ---- plans

-- the number of a stored game is below 2^64
small_number : (low : ℕ) (games : List Shelved) (number : ℕ) (game : StoredGame) → RiseAbove low games
    → stored_game games number ≡ Some game → number < 2 ^ 64
small_number low [] number game rise lies = cc
small_number low (row ∷ games) number game rise lies =
    elim (has_number number row)
    as (λ t.
    has_number number row ≡ t → row_game (cond t (Some row) (find (has_number number) games)) ≡ Some game
    → number < 2 ^ 64) [
      | true ↦ λ is here. let same = eqb-true row.number number is in let small = rise.1 in omega (arith, same, small)
      | false ↦ λ is rest. small_number row.number games number game rise.2 rest
    ] refl lies

leads_shelved : (lobby : LobbyState) (session desk serial : ℕ) (game : StoredGame) → IsWellFormed lobby
    → CanShelve lobby (Clear session desk serial) (Some game)
    → LeadsAlong lobby (put_away lobby desk (Some game))
leads_shelved lobby session desk serial game h can = record {
  agrees = λ table agreed.
      orders-lead.goes_on table lobby.accounts lobby.shelf game h.shelf.sound
      (place-left lobby session desk serial (Some game) can h) agreed;
  more = game_order lobby.shelf game ∷ [];
  orders = refl;
}

leads_resumed : (lobby : LobbyState) (desk serial number : ℕ) (terms : Terms) (seats : Seats) → IsWellFormed lobby
    → CanResume lobby desk serial number terms seats
    → LeadsAlong lobby (lobby_resumed lobby desk serial number terms seats)
leads_resumed lobby desk serial number terms seats h can = record {
  agrees = λ table agreed. orders-lead.comes_off table lobby.accounts lobby.shelf number h.shelf.sound
      (small_number 0 lobby.shelf.games number can.game h.shelf.sound.numbers can.lies) agreed;
  more = removal_order lobby.shelf number ∷ [];
  orders = refl;
}

pub leads_plan : (lobby : LobbyState) (plan : Plan) (game : Option StoredGame) (is_cleared : Bool) → IsWellFormed lobby
    → IsPlanned lobby plan → CanShelve lobby plan game
    → LeadsAlong lobby (committed lobby plan game is_cleared)
leads_plan lobby (Start desk serial terms seats) game is_cleared h can shelving = leads_same lobby _ refl
leads_plan lobby (Clear session desk serial) None true h can shelving = leads_same lobby _ refl
leads_plan lobby (Clear session desk serial) (Some game) true h can shelving =
    leads_shelved lobby session desk serial game h shelving
leads_plan lobby (Clear session desk serial) game false h can shelving = leads_same lobby _ refl
leads_plan lobby (Resume desk serial number terms seats) game is_cleared h can shelving =
    leads_resumed lobby desk serial number terms seats h can
leads_plan lobby (Ask from to number) game is_cleared h can shelving = leads_same lobby _ refl

pub leads_then : (old mid new : LobbyState) → LeadsAlong old mid → LeadsAlong mid new → LeadsAlong old new
leads_then old mid new p q = record {
  agrees = λ table agreed. q.agrees table (p.agrees table agreed);
  more = p.more ++ q.more;
  orders = q.orders ∙ ap (λ (l : List Order). l ++ q.more) p.orders ∙ append_assoc old.shelf.orders p.more q.more;
}
