-- A game that begins is sound.
use Rattle.std.proofs.Common.{◌≡◌, ℕ, ◌≤◌, ◌^◌, List, [], ◌∷◌, map, All, Option, Some, None, IfSome, arith}
use Rattle.std.specs.Prelude.{flat_map, option_to_list}
use Rattle.std.proofs.lemmas.List.Elements.{All-nil, All-cons, All-append}
use Rattle.chess_model.specs.declared.variant.Terms.{Terms}
use Rattle.fics_words.specs.declared.seats.Opponents.{Opponents}
use Rattle.fics_words.specs.declared.seats.Seats.{Seats}
use Rattle.game_board.specs.Board.{Board, new_board}
use Rattle.style12_writer.specs.declared.item.Item.{Item}
use Rattle.desk_boards.specs.Boards.{board_numbers, new_boards, latest}
use Rattle.linked_desk.specs.declared.ended.Ended.{Ended}
use Rattle.linked_desk.specs.declared.occasion.Occasion.{Occasion}
use Rattle.linked_desk.specs.declared.occasion.Occasion.TheVariants.{Start}
use Rattle.linked_desk.specs.Hands.{first_hands}
use Rattle.linked_desk.specs.Seating.{MayPlay, announced_board, game_begun, board_item, first_items, opening_items, game_opened}
use Rattle.linked_desk.specs.Seats.{pairs_of}
use Rattle.linked_desk.specs.Sound.{IsSoundGame, FitsWhy, NamesWinner}
use Rattle.desk_boards.specs.Sound.{AreSoundBoards, GoOn}
use Rattle.linked_desk.specs.Views.{each_board}
use Rattle.linked_desk.proofs.Holding.{names_first}
use Rattle.linked_desk.proofs.Keeps.{All-each_board}
use Rattle.desk_boards.proofs.StaySound.{sound_start}
use Rattle.desk_boards.proofs.GoingOn.{go_start}

-- an item that is shown beside a board, if there is one
All-option : {X : Type 0} (P : X → Type 0) (x : Option X) → IfSome x P → All P (option_to_list x)
All-option P None h = All-nil P
All-option P (Some x) h = All-cons P x [] h (All-nil P)

names_first_items : (desk : ℕ) (players : Opponents) (b : Board) → All NamesWinner (first_items desk players b)
names_first_items desk players b =
    All-cons NamesWinner (board_item desk players b) (option_to_list (first_hands desk b)) tt
    (All-option NamesWinner (first_hands desk b) (names_first desk b))

-- and of all the boards
pub names_shown : (desk : ℕ) (pairs : List Opponents) (boards : List Board) →
    All NamesWinner (flat_map (λ (items : List Item). items) (each_board (first_items desk) pairs boards))
names_shown desk [] boards = All-nil NamesWinner
names_shown desk (players ∷ pairs) [] = All-nil NamesWinner
names_shown desk (players ∷ pairs) (b ∷ boards) =
    All-append NamesWinner (first_items desk players b)
    (flat_map (λ (items : List Item). items) (each_board (first_items desk) pairs boards))
    (names_first_items desk players b) (names_shown desk pairs boards)

names_opening : (occasion : Occasion) (desk : ℕ) (terms : Terms) (pairs : List Opponents) (boards : List Board) →
    All NamesWinner (opening_items occasion desk terms pairs boards)
names_opening occasion desk terms pairs boards =
    All-append NamesWinner (each_board (announced_board occasion desk terms) pairs boards)
    (flat_map (λ (items : List Item). items) (each_board (first_items desk) pairs boards))
    (All-each_board NamesWinner (announced_board occasion desk terms) pairs boards (λ players b. tt))
    (names_shown desk pairs boards)

-- a game that begins at sound boards is sound, where it goes on or has this end
pub IsSound-begun : (occasion : Occasion) (desk serial : ℕ) (terms : Terms) (seats : Seats) (boards : List Board)
    (moment : ℕ) (end : Option Ended)
    → MayPlay terms seats →
    AreSoundBoards terms boards → latest boards ≤ moment → moment ≤ 2 ^ 48 → IfSome end (λ e. FitsWhy e.why e.winner) →
    (end ≡ None → GoOn boards)
    → IsSoundGame (record (game_begun occasion desk serial terms seats boards moment) { ended = end })
IsSound-begun occasion desk serial terms seats boards moment end seated sound order timely names going = record {
  seated = seated;
  boards = sound;
  going = going;
  order = order;
  moment = timely;
  winners = names_opening occasion desk terms (pairs_of seats) boards;
  ended = names;
}

latest_from : (numbers : List ℕ) (terms : Terms) (moment : ℕ)
    → latest (map (λ number. new_board number terms moment) numbers) ≤ moment
latest_from [] terms moment = omega arith
latest_from (n ∷ ns) terms moment = let rest = latest_from ns terms moment in omega arith

pub IsSound-opened : (desk serial : ℕ) (terms : Terms) (seats : Seats) (moment : ℕ) → MayPlay terms seats
    → moment ≤ 2 ^ 48 → IsSoundGame (game_opened desk serial terms seats moment)
IsSound-opened desk serial terms seats moment seated timely =
    IsSound-begun Start desk serial terms seats (new_boards terms moment) moment None seated (sound_start terms moment)
    (latest_from (board_numbers terms.variant) terms moment) timely tt (λ runs. go_start terms moment)
