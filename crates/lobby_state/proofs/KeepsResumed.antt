-- What the plans of a Resume keep.
use Rattle.std.proofs.Common.{◌≡◌, ℕ, ◌+◌, ◌-◌, ◌≤◌, zero, suc, Bool, true, false, not, cond, eqb, List, [], ◌∷◌, None, Some, length, refl, sym, ap, ◌∙◌, arith}
use Rattle.std.specs.Prelude.{All, Contains, ◌||◌}
use Rattle.std.specs.List.{find}
use Rattle.std.proofs.lemmas.List.Elements.{All-filter, All-push}
use Rattle.std.proofs.lemmas.List.Sums.{count_by-le-length, length-filter}
use Rattle.chess_model.specs.declared.variant.Terms.{Terms}
use Rattle.fics_words.specs.Handle.{key_of}
use Rattle.fics_words.specs.declared.seats.Seats.{Seats}
use Rattle.game_records.specs.declared.stored_game.StoredGame.{StoredGame}
use Rattle.lobby_shelf.specs.Numbers.{AreInOrder, row_game, has_number, is_used, stored_game, without_game}
use Rattle.lobby_shelf.specs.Shelf.{ShelfState, asked, asks, taken_off, with_request}
use Rattle.lobby_shelf.specs.declared.request.Request.{Request}
use Rattle.lobby_shelf.specs.declared.shelved.Shelved.{Shelved}
use Rattle.lobby_shelf.proofs.Keeping.{IsShelf-asked, IsShelf-taken_off}
use Rattle.lobby_shelf.proofs.Rising.{unused_above}
use Rattle.tables.specs.Rows.{change_first}
use Rattle.lobby_state.specs.declared.acts.Plan.TheVariants.{Resume, Ask}
use Rattle.lobby_state.specs.declared.member.Member.{Member}
use Rattle.lobby_state.specs.Keeps.{KeepsPlan}
use Rattle.lobby_state.specs.Lobby.{LobbyState, is_session, lines_in}
use Rattle.lobby_state.specs.Match.{member_with_line}
use Rattle.lobby_state.specs.Planned.{CanAsk, CanResume}
use Rattle.channel_feed.specs.Waiting.{with_line as with_one_more}
use Rattle.lobby_state.specs.Resumed.{ask_line, asked_of, lobby_resumed, with_lines}
use Rattle.lobby_state.specs.WellFormed.{HasSeats, IsShelfOf, IsWellFormed, sessions_in}
use Rattle.lobby_state.proofs.DesksUsed.{desks_used-taken}
use Rattle.lobby_state.proofs.KeepsStart.{formed_at, own_started}
use Rattle.lobby_state.proofs.Lists.{All-change_first, get-set_other, map-change_first_same}
use Rattle.lobby_state.proofs.WellFormed.{kept}
use Rattle.std.proofs.lemmas.Option.{same_Some}

-- a stored game that is found is there
used_by : (b : Bool) (row : Shelved) (games : List Shelved) (number : ℕ) (game : StoredGame)
    → (stored_game games number ≡ Some game → is_used games number ≡ true)
    → row_game (cond b (Some row) (find (has_number number) games)) ≡ Some game → (b || is_used games number) ≡ true
used_by true row games number game step e = refl
used_by false row games number game step e = step e

pub used-stored : (games : List Shelved) (number : ℕ) (game : StoredGame) → stored_game games number ≡ Some game
    → is_used games number ≡ true
used-stored [] number game e = cc
used-stored (row ∷ games) number game e =
    used_by (has_number number row) row games number game (λ k. used-stored games number game k) e

unused_by : (b : Bool) (row : Shelved) (games : List Shelved) (number : ℕ)
    → (stored_game games number ≡ None → is_used games number ≡ false)
    → row_game (cond b (Some row) (find (has_number number) games)) ≡ None → (b || is_used games number) ≡ false
unused_by true row games number step e = cc
unused_by false row games number step e = step e

-- and a number that no stored game has isn't used
pub unused-stored : (games : List Shelved) (number : ℕ) → stored_game games number ≡ None → is_used games number ≡ false
unused-stored [] number e = refl
unused-stored (row ∷ games) number e =
    unused_by (has_number number row) row games number (λ k. unused-stored games number k) e

-- one game less is left where one is taken off
fewer_by : (b : Bool) (row : Shelved) (games left : List Shelved) → length left ≤ length games
    → (b ≡ false → length left + 1 ≤ length games)
    → length (cond (not b) (row ∷ left) left) + 1 ≤ length (row ∷ games)
fewer_by true row games left few step = omega (arith, few)
fewer_by false row games left few step = let less = step refl in omega (arith, less)

rest_used : (b rest : Bool) → b || rest ≡ true → b ≡ false → rest ≡ true
rest_used true rest h e = cc
rest_used false rest h e = h

length-without : (number : ℕ) (games : List Shelved) → is_used games number ≡ true
    → length (without_game number games) + 1 ≤ length games
length-without number [] there = cc
length-without number (row ∷ games) there =
    let some = length-filter (λ r. not (has_number number r)) games in
    let most = count_by-le-length (λ r. not (has_number number r)) games in
    fewer_by (has_number number row) row games (without_game number games) (omega (arith, some, most))
    (λ other. length-without number games (rest_used (has_number number row) (is_used games number) there other))

IsShelfOf-taken_off : (sessions : List ℕ) (shelf : ShelfState) (number : ℕ) → IsShelfOf sessions shelf
    → IsShelfOf sessions (taken_off shelf number)
IsShelfOf-taken_off sessions shelf number h = record {
  sound = IsShelf-taken_off shelf number h.sound;
  members =
      All-filter (λ request. not (eqb request.game number)) (λ request. Contains sessions request.by) shelf.requests
      h.members;
}

formed_resumed : (lobby : LobbyState) (desk serial number : ℕ) (terms : Terms) (seats : Seats)
    → CanResume lobby desk serial number terms seats
    → IsWellFormed lobby → IsWellFormed (lobby_resumed lobby desk serial number terms seats)
formed_resumed lobby desk serial number terms seats can h =
    let more =
    desks_used-taken lobby.games (desk - 1) (record { serial = serial; terms = terms; seats = seats }) can.is_free in
    let less = length-without number lobby.shelf.games (used-stored lobby.shelf.games number can.game can.lies) in
    let few = can.few in
    let next = can.is_next in
    let room = h.counted.room in
    let orders = h.counted.orders in
    formed_at lobby (taken_off lobby.shelf number) desk serial terms seats can.is_desk can.is_free can.is_next
    can.are_terms can.boards
    (IsShelfOf-taken_off (sessions_in lobby.members) lobby.shelf number h.shelf)
    (record {
      few = omega (arith, few, next);
      room = omega (arith, more, less, room);
      orders = omega (arith, more, next, orders);
    }) h

pub keeps_resumed : (lobby : LobbyState) (desk serial number : ℕ) (terms : Terms) (seats : Seats)
    → CanResume lobby desk serial number terms seats
    → KeepsPlan lobby (Resume desk serial number terms seats)
keeps_resumed lobby desk serial number terms seats can = record {
  is_desk = can.is_desk;
  formed = λ _ _ _ h. formed_resumed lobby desk serial number terms seats can h;
  own = λ _ _ place before e there.
      own_started lobby desk place (record {
        serial = serial;
        terms = terms;
        seats = seats;
      }) before (same_Some desk place e) there;
  others = λ _ _ place low other.
      let d = can.is_desk in
      get-set_other lobby.games (desk - 1) (place - 1) (Some (record { serial = serial; terms = terms; seats = seats }))
      (λ e. other (ap Some (omega (arith, d))));
}

by_members : (b : Bool) (sessions : List ℕ) (requests : List Request) (new : Request) → Contains sessions new.by
    → All (λ request. Contains sessions request.by) requests
    → All (λ request. Contains sessions request.by) (with_request b requests new)
by_members true sessions requests new there h = h
by_members false sessions requests new there h = All-push (λ request. Contains sessions request.by) requests new h there

formed_asked : (lobby : LobbyState) (from to number : ℕ) → CanAsk lobby from to number → IsWellFormed lobby
    → IsWellFormed (asked_of lobby from to number)
formed_asked lobby from to number can h =
    let line = member_with_line (ask_line lobby from) in
    kept lobby (change_first (is_session to) line lobby.members) lobby.challenges lobby.games lobby.started
    (asked lobby.shelf from number)
    (map-change_first_same (λ m. m.session) (is_session to) line (λ _. refl) lobby.members)
    (map-change_first_same (λ m. key_of m.name) (is_session to) line (λ _. refl) lobby.members)
    h.challenges h.games h.serials
    (All-change_first (HasSeats lobby.games) (is_session to) line (λ _ seats. seats) lobby.members h.places)
    (record {
      sound = IsShelf-asked lobby.shelf from number can.lies h.shelf.sound;
      members =
          by_members (asks lobby.shelf from number) (sessions_in lobby.members) lobby.shelf.requests (record {
            by = from;
            game = number;
          }) can.by h.shelf.members;
    })
    (record { few = h.counted.few; room = h.counted.room; orders = h.counted.orders }) h

pub keeps_asked : (lobby : LobbyState) (from to number : ℕ) → CanAsk lobby from to number
    → KeepsPlan lobby (Ask from to number)
keeps_asked lobby from to number can = record {
  is_desk = tt;
  formed = λ _ _ _ h. formed_asked lobby from to number can h;
  own = λ _ _ place before e there. cc;
  others = λ _ _ place low other. refl;
}

-- lines put in place of those of a member, which are these with one more, are that line put behind them
pub lines-put : (line : List ℕ) (lines : List (List ℕ)) (p : Member → Bool) (members : List Member)
    → lines ≡ with_one_more line (lines_in (find p members))
    → change_first p (with_lines lines) members ≡ change_first p (member_with_line line) members
lines-put line lines p [] e = refl
lines-put line lines p (member ∷ members) e =
    elim (p member) as (λ b. lines ≡ with_one_more line (lines_in (cond b (Some member) (find p members)))
    → cond b (with_lines lines member ∷ members) (member ∷ change_first p (with_lines lines) members)
    ≡ cond b (member_with_line line member ∷ members) (member ∷ change_first p (member_with_line line) members)) [
      | true ↦ λ own. ap (λ ls. with_lines ls member ∷ members) own
      | false ↦ λ later. ap (λ ms. member ∷ ms) (lines-put line lines p members later)
    ] e

-- the numbers of stored games are from 1 on
pub used-positive : (games : List Shelved) (number : ℕ) → AreInOrder games → is_used games number ≡ true → 1 ≤ number
used-positive games zero rise there =
    absurd (let bad : false ≡ true = sym (unused_above games 0 0 (omega arith) rise) ∙ there in cc)
used-positive games (suc n) rise there = omega arith
