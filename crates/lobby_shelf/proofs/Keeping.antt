-- What holds of every shelf is kept by each change of it.
use Rattle.std.proofs.Common.{◌≡◌, ℕ, ◌+◌, ◌^◌, ◌<◌, ◌≤◌, Bool, true, false, not, cond, List, [], ◌∷◌, ◌++◌, length, refl, ap, inl, inr, arith}
use Rattle.std.specs.Prelude.{◌==◌, nat_lt, All}
use Rattle.std.specs.List.{filter}
use Rattle.std.proofs.lemmas.Bool.{eqb-false}
use Rattle.std.proofs.lemmas.List.Elements.{All-nil, All-cons, All-head, All-tail, All-append, All-filter, All-push, All-weaker}
use Rattle.std.proofs.lemmas.List.Sums.{count_by-le-length, length-filter}
use Rattle.collections.proofs.Rising.{first_gap-within}
use Rattle.game_records.specs.Replays.{Replays}
use Rattle.game_records.specs.declared.stored_game.StoredGame.{StoredGame}
use Rattle.lobby_shelf.specs.declared.order.Order.{Order}
use Rattle.lobby_shelf.specs.declared.request.Request.{Request}
use Rattle.lobby_shelf.specs.declared.shelved.Shelved.{Shelved}
use Rattle.lobby_shelf.specs.Facts.{IsShelf, OrdersRise}
use Rattle.lobby_shelf.specs.Numbers.{RiseAbove, has_number, is_above, is_below, is_used, next_number, number_of, with_game, without_game}
use Rattle.lobby_shelf.specs.Shelf.{ShelfState, asked, asks, empty, game_order, most_stored, ordered, removal_order, saved, shelved, taken_off, with_request, with_stored}
use Rattle.lobby_shelf.proofs.Requests.{AreOnce-filter, AreOnce-push, is_used-with, is_used-without}
use Rattle.lobby_shelf.proofs.Rising.{RiseAbove-filter, RiseAbove-with, before_or_behind, next_number-least, unused_on, with_game-behind, with_game-before}

OrdersRise-weaker : (low lower made : ℕ) (orders : List Order) → lower ≤ low → OrdersRise low made orders
    → OrdersRise lower made orders
OrdersRise-weaker low lower made [] h rise = let top : low ≤ made = rise in omega (arith, top, h)
OrdersRise-weaker low lower made (order ∷ orders) h rise = (let above = rise.0 in omega (arith, above, h), rise.1)

pub OrdersRise-push : (low made : ℕ) (orders : List Order) (new : Order) → new.number ≡ made + 1
    → OrdersRise low made orders
    → OrdersRise low (made + 1) (orders ++ new ∷ [])
OrdersRise-push low made [] new is rise = let top : low ≤ made = rise in (omega (arith, top, is), omega (arith, is))
OrdersRise-push low made (order ∷ orders) new is rise = (rise.0, OrdersRise-push order.number made orders new is rise.1)

kept : (t : Bool) (low made : ℕ) (order : Order) (rest : List Order) → low < order.number
    → OrdersRise order.number made rest
    → OrdersRise low made (cond t (order ∷ rest) rest)
kept true low made order rest above rise = (above, rise)
kept false low made order rest above rise = OrdersRise-weaker order.number low made rest (omega (arith, above)) rise

pub OrdersRise-filter : (p : Order → Bool) (low made : ℕ) (orders : List Order) → OrdersRise low made orders
    → OrdersRise low made (filter p orders)
OrdersRise-filter p low made [] rise = rise
OrdersRise-filter p low made (order ∷ orders) rise =
    kept (p order) low made order (filter p orders) rise.0 (OrdersRise-filter p order.number made orders rise.1)

-- what passes the test has more than each item has
pub filter_step : {X : Type 0} (Q : X → Type 0) (b : Bool) (x : X) (xs : List X) → (b ≡ true → Q x) → All Q xs
    → All Q (cond b (x ∷ xs) xs)
filter_step Q true x xs head tail = All-cons Q x xs (head refl) tail
filter_step Q false x xs head tail = tail

pub All-filter_passing : {X : Type 0} (P Q : X → Type 0) (p : X → Bool) → ((x : X) → p x ≡ true → P x → Q x)
    → (xs : List X)
    → All P xs → All Q (filter p xs)
All-filter_passing P Q p step [] h = All-nil Q
All-filter_passing P Q p step (x ∷ xs) h =
    filter_step Q (p x) x (filter p xs) (λ e. step x e (All-head P x xs h))
    (All-filter_passing P Q p step xs (All-tail P x xs h))

pub length-with : (new : Shelved) (low : ℕ) (games : List Shelved) → is_used games new.number ≡ false
    → RiseAbove low games
    → length (with_game new games) ≡ length games + 1
length-with new low [] unused rise = refl
length-with new low (row ∷ games) unused rise =
    elim (before_or_behind row games new.number unused) [
      | inl h ↦
          let rest = length-with new row.number games (unused_on row games new.number unused) rise.2 in
          let same = ap (λ (l : List Shelved). length l) (with_game-behind new row games h) in
          omega (arith, rest, same)
      | inr h ↦
          let same = ap (λ (l : List Shelved). length l) (with_game-before new row games (h, rise.1, rise.2)) in
          omega (arith, same)
    ]

pub IsShelf-empty : IsShelf empty
IsShelf-empty = record {
  room = omega arith;
  numbers = tt;
  replay = All-nil (λ row. Replays row.game);
  orders = omega arith;
  requests = All-nil (λ request. is_used [] request.game ≡ true);
  once = tt;
}

pub IsShelf-with_stored : (shelf : ShelfState) (number : ℕ) (game : StoredGame) → 0 < number → number < 2 ^ 64
    → is_used shelf.games number ≡ false → length shelf.games < most_stored → Replays game → IsShelf shelf
    → IsShelf (with_stored shelf number game)
IsShelf-with_stored shelf number game positive fits unused room replays is =
    let new : Shelved = record { number = number; game = game } in
    let P : Shelved → Type 0 = λ row. Replays row.game in
    let long = length-with new 0 shelf.games unused is.numbers in
    record {
      room = omega (arith, long, room);
      numbers = RiseAbove-with new 0 shelf.games positive fits unused is.numbers;
      replay = All-append P (filter (is_below number) shelf.games) (new ∷ filter (is_above number) shelf.games)
          (All-filter (is_below number) P shelf.games is.replay)
          (All-cons P new (filter (is_above number) shelf.games) replays
          (All-filter (is_above number) P shelf.games is.replay));
      orders = is.orders;
      requests = All-weaker (λ request. is_used shelf.games request.game ≡ true)
          (λ request. is_used (with_game new shelf.games) request.game ≡ true)
          (λ request there. is_used-with new 0 shelf.games request.game unused is.numbers there) shelf.requests
          is.requests;
      once = is.once;
    }

pub IsShelf-ordered : (shelf : ShelfState) (order : Order) → order.number ≡ shelf.made + 1 → IsShelf shelf
    → IsShelf (ordered shelf order)
IsShelf-ordered shelf order next is = record {
  room = is.room;
  numbers = is.numbers;
  replay = is.replay;
  orders = OrdersRise-push 0 shelf.made shelf.orders order next is.orders;
  requests = is.requests;
  once = is.once;
}

pub next_number-fits : (games : List Shelved) → length games ≤ most_stored → next_number games < 2 ^ 64
next_number-fits games room = let within = first_gap-within number_of games 1 in omega (arith, within, room)

pub IsShelf-shelved : (shelf : ShelfState) (game : StoredGame) → length shelf.games < most_stored → Replays game
    → IsShelf shelf
    → IsShelf (shelved shelf game)
IsShelf-shelved shelf game room replays is =
    let number = next_number shelf.games in
    let least = next_number-least shelf.games is.numbers in
    IsShelf-ordered (with_stored shelf number game) (game_order shelf game) refl
    (IsShelf-with_stored shelf number game least.positive (next_number-fits shelf.games is.room) least.unused room
    replays is)

not_not : (a b : ℕ) → not (a == b) ≡ true → a ≡ b → ⊥
not_not a b h =
    eqb-false a b
    (elim (a == b) as (λ t. not t ≡ true → t ≡ false) [
      | true ↦ λ bad. (let e : false ≡ true = bad in cc)
      | false ↦ λ _. refl
    ] h)

-- the shelf without a game and the requests for it
abbrev without : ShelfState → ℕ → ShelfState
without shelf number = record shelf {
  games = without_game number shelf.games;
  requests = filter (λ request. not (request.game == number)) shelf.requests;
}

pub IsShelf-taken_off : (shelf : ShelfState) (number : ℕ) → IsShelf shelf → IsShelf (taken_off shelf number)
IsShelf-taken_off shelf number is =
    let some = length-filter (λ row. not (has_number number row)) shelf.games in
    let most = count_by-le-length (λ row. not (has_number number row)) shelf.games in
    let room = is.room in
    IsShelf-ordered (without shelf number) (removal_order shelf number) refl
    (record {
      room = omega (arith, some, most, room);
      numbers = RiseAbove-filter (λ row. not (has_number number row)) 0 shelf.games is.numbers;
      replay = All-filter (λ row. not (has_number number row)) (λ row. Replays row.game) shelf.games is.replay;
      orders = is.orders;
      requests = All-filter_passing (λ request. is_used shelf.games request.game ≡ true)
          (λ request. is_used (without_game number shelf.games) request.game ≡ true)
          (λ request. not (request.game == number))
          (λ request stays there.
          is_used-without number shelf.games request.game (not_not request.game number stays) there)
          shelf.requests is.requests;
      once = AreOnce-filter (λ request. not (request.game == number)) shelf.requests is.once;
    })

pub IsShelf-saved : (shelf : ShelfState) (upto : ℕ) → IsShelf shelf → IsShelf (saved shelf upto)
IsShelf-saved shelf upto is = record {
  room = is.room;
  numbers = is.numbers;
  replay = is.replay;
  orders = OrdersRise-filter (λ order. nat_lt upto order.number) 0 shelf.made shelf.orders is.orders;
  requests = is.requests;
  once = is.once;
}

-- some requests go
pub IsShelf-fewer : (shelf : ShelfState) (p : Request → Bool) → IsShelf shelf
    → IsShelf (record shelf { requests = filter p shelf.requests })
IsShelf-fewer shelf p is = record {
  room = is.room;
  numbers = is.numbers;
  replay = is.replay;
  orders = is.orders;
  requests = All-filter p (λ request. is_used shelf.games request.game ≡ true) shelf.requests is.requests;
  once = AreOnce-filter p shelf.requests is.once;
}

pub IsShelf-asked : (shelf : ShelfState) (by game : ℕ) → is_used shelf.games game ≡ true → IsShelf shelf
    → IsShelf (asked shelf by game)
IsShelf-asked shelf by game there is =
    let new : Request = record { by = by; game = game } in
    elim (asks shelf by game)
    as (λ t. asks shelf by game ≡ t → IsShelf (record shelf { requests = with_request t shelf.requests new })) [
      | true ↦ λ _. is
      | false ↦ λ none. record {
        room = is.room;
        numbers = is.numbers;
        replay = is.replay;
        orders = is.orders;
        requests = All-push (λ request. is_used shelf.games request.game ≡ true) shelf.requests new is.requests there;
        once = AreOnce-push shelf.requests new none is.once;
      }
    ] refl
