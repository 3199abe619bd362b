-- The shelf of a lobby: its requests are by members, and the counts of games, orders and places.
use Rattle.std.proofs.Common.{◌≡◌, ℕ, ◌+◌, Bool, not, eqb, List, [], ◌∷◌, ◌++◌, Option, filter, length-append, arith}
use Rattle.std.specs.Prelude.{Contains}
use Rattle.std.proofs.lemmas.List.Elements.{All-filter, All-weaker}
use Rattle.fics_words.specs.declared.account.Account.{Account}
use Rattle.lobby_shelf.specs.Shelf.{ShelfState, account_order, ordered, without_requests}
use Rattle.lobby_shelf.specs.declared.order.Order.{Order}
use Rattle.lobby_shelf.specs.declared.request.Request.{Request}
use Rattle.lobby_shelf.proofs.Keeping.{IsShelf-fewer, IsShelf-ordered}
use Rattle.lobby_state.specs.declared.game.ListedGame.{ListedGame}
use Rattle.lobby_state.specs.WellFormed.{AreCounted, IsShelfOf}
use Rattle.lobby_state.proofs.Lists.{All-filter_passing, Contains-filter}

-- some requests to resume go
pub IsShelfOf-fewer : (sessions : List ℕ) (shelf : ShelfState) (test : Request → Bool) → IsShelfOf sessions shelf
    → IsShelfOf sessions (record shelf { requests = filter test shelf.requests })
IsShelfOf-fewer sessions shelf test h = record {
  sound = IsShelf-fewer shelf test h.sound;
  members = All-filter test (λ request. Contains sessions request.by) shelf.requests h.members;
}

-- there are more members
pub IsShelfOf-more : (sessions more : List ℕ) (shelf : ShelfState) → ((s : ℕ) → Contains sessions s → Contains more s)
    → IsShelfOf sessions shelf → IsShelfOf more shelf
IsShelfOf-more sessions more shelf wider h = record {
  sound = h.sound;
  members = All-weaker (λ (request : Request). Contains sessions request.by) (λ request. Contains more request.by)
      (λ request there. wider request.by there) shelf.requests h.members;
}

-- a member goes with its requests
pub IsShelfOf-without : (sessions : List ℕ) (session : ℕ) (shelf : ShelfState) → IsShelfOf sessions shelf
    → IsShelfOf (filter (λ s. not (eqb s session)) sessions) (without_requests session shelf)
IsShelfOf-without sessions session shelf h =
    let stays : ℕ → Bool = λ s. not (eqb s session) in
    record {
      sound = IsShelf-fewer shelf (λ request. not (eqb request.by session)) h.sound;
      members =
          All-filter_passing (λ (request : Request). Contains sessions request.by)
          (λ request. Contains (filter stays sessions) request.by)
          (λ request. not (eqb request.by session))
          (λ request passes there. Contains-filter stays sessions request.by passes there) shelf.requests h.members;
    }

-- an order is made
pub IsShelfOf-ordered : (sessions : List ℕ) (shelf : ShelfState) (order : Order) → order.number ≡ shelf.made + 1
    → IsShelfOf sessions shelf
    → IsShelfOf sessions (ordered shelf order)
IsShelfOf-ordered sessions shelf order next h =
    record { sound = IsShelf-ordered shelf order next h.sound; members = h.members }

-- an account comes, with an order or without
pub AreCounted-account : (accounts : List Account) (account : Account) (games : List (Option ListedGame)) (started : ℕ)
    (shelf : ShelfState)
    → AreCounted accounts games started shelf → AreCounted (accounts ++ account ∷ []) games started shelf
AreCounted-account accounts account games started shelf h =
    let long = length-append accounts (account ∷ []) in
    let orders = h.orders in
    record { few = h.few; room = h.room; orders = omega (arith, long, orders) }

pub AreCounted-new_account : (accounts : List Account) (account : Account) (games : List (Option ListedGame))
    (started : ℕ) (shelf : ShelfState)
    → AreCounted accounts games started shelf
    → AreCounted (accounts ++ account ∷ []) games started (ordered shelf (account_order shelf account))
AreCounted-new_account accounts account games started shelf h =
    let long = length-append accounts (account ∷ []) in
    let orders = h.orders in
    record { few = h.few; room = h.room; orders = omega (arith, long, orders) }
