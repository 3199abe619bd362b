-- What a move at a desk keeps.
use Rattle.std.proofs.Common.{◌≡◌, ◌≤◌, ◌^◌, ℕ, true, List, All, Option, Some, None, IfSome, Result, Ok, Err, refl, sym, subst, arith}
use Rattle.std.specs.Prelude.{slice_get}
use Rattle.std.specs.Option.{option_map}
use Rattle.std.proofs.lemmas.List.Elements.{All-push}
use Rattle.chess_model.specs.declared.man.Man.{Man}
use Rattle.chess_model.specs.declared.moves.Move.{Move}
use Rattle.chess_model.specs.declared.moves.MoveWord.{MoveWord}
use Rattle.clock_ledger.specs.Span.{IsStamp}
use Rattle.fics_words.specs.declared.refusal.Refusal.{Refusal}
use Rattle.game_board.specs.Board.{Board}
use Rattle.game_board.specs.Play.{play_after}
use Rattle.offer_book.specs.Offers.{after_half_move, where_stand}
use Rattle.style12_writer.specs.declared.item.Item.{Item}
use Rattle.style12_writer.specs.declared.item.Item.TheVariants as item
use Rattle.style12_writer.specs.declared.view.BoardView.{BoardView}
use Rattle.fics_words.specs.Boards.{other_number, board_place}
use Rattle.desk_boards.specs.Boards.{reply_at, latest, boards_after, changed_at, told_answer}
use Rattle.fics_words.specs.declared.board_number.BoardNumber.{BoardNumber}
use Rattle.desk_boards.proofs.BoardLists.{latest-changed_at}
use Rattle.desk_boards.proofs.Pairs.{same_told}
use Rattle.linked_desk.specs.declared.ended.Ended.{Ended}
use Rattle.linked_desk.specs.Desk.{GameState, seat_of, moment_at}
use Rattle.linked_desk.specs.Finish.{end_at, finished}
use Rattle.linked_desk.specs.Hands.{hands_at, partner_hands_at}
use Rattle.linked_desk.specs.Playing.{seat_word, captured_man, game_moved, with_cleared, moved_by, move_effect}
use Rattle.linked_desk.specs.Seats.{board_of, colour_at}
use Rattle.linked_desk.specs.Sound.{IsSoundGame, FitsWhy, NamesWinner}
use Rattle.desk_boards.specs.Sound.{GoOn}
use Rattle.linked_desk.specs.Views.{feed_with, views_of}
use Rattle.linked_desk.proofs.Finishing.{IsSound-with_end, end_on-names, goes_on_at, occupant-finished}
use Rattle.linked_desk.proofs.Holding.{names_hands_at, names_partner_hands_at}
use Rattle.linked_desk.proofs.Keeps.{Follows, Keeps, IsSound-later, and_then, if_there, stays, timely_at}
use Rattle.linked_desk.proofs.Telling.{told_of, with_hands-told}
use Rattle.desk_boards.proofs.StaySound.{sound_play}
use Rattle.desk_boards.proofs.GoingOn.{go_played}
use Rattle.collections.proofs.Tests.{none_found}

-- who is to move thinks from no later moment than that of the act
begin-played : (b : Board) (moment : ℕ) (stamp : Option ℕ) (answer : Result Move Refusal) → b.begin ≤ moment
    → (play_after b moment stamp answer).begin ≤ moment
begin-played b moment stamp (Ok m) h = omega arith
begin-played b moment stamp (Err cause) h = h

-- the game with the half-move played, before anybody is told
abbrev pub played : GameState → ℕ → BoardNumber → Option ℕ → Result Move Refusal → GameState
played g moment board stamp answer =
    record g { boards = boards_after g.boards board (moment_at g moment) stamp answer; last = moment_at g moment }

order_played : (g : GameState) (moment : ℕ) (board : BoardNumber) (stamp : Option ℕ) (answer : Result Move Refusal)
    → latest g.boards ≤ g.last →
    latest (boards_after g.boards board (moment_at g moment) stamp answer) ≤ moment_at g moment
order_played g moment board stamp answer order =
    let after : Board → Board = λ b. play_after b (moment_at g moment) stamp answer in
    let tell : Board → Board = λ b. told_answer b answer in
    latest-changed_at (changed_at g.boards (board_place board) after) (board_place (other_number board))
    (moment_at g moment) tell
    (λ b h.
    let same : (told_answer b answer).begin ≡ b.begin = same_told (λ c. c.begin) b answer (λ T. refl) in
    omega (arith, same, h))
    (latest-changed_at g.boards (board_place board) (moment_at g moment) after
    (λ b. begin-played b (moment_at g moment) stamp answer) (omega (arith, order)))

-- the game once a seat's word was played, which goes on or has this end
IsSound-played : (g : GameState) (moment seat : ℕ) (word : MoveWord) (stamp : Option ℕ) (end : Option Ended)
    → moment ≤ 2 ^ 48 → IfSome stamp IsStamp → g.ended ≡ None →
    IfSome end (λ e. FitsWhy e.why e.winner) →
    (end ≡ None → GoOn (boards_after g.boards (board_of seat) (moment_at g moment) stamp (seat_word g seat word)))
    → IsSoundGame g →
    IsSoundGame (record (played g moment (board_of seat) stamp (seat_word g seat word)) { ended = end })
IsSound-played g moment seat word stamp end timely stamped runs names going s = record {
  seated = s.seated;
  boards =
      sound_play g.terms g.boards (board_of seat) (moment_at g moment) (colour_at seat) word stamp s.boards
      (s.going runs) (omega (arith, s.order))
      (timely_at g moment timely s) stamped;
  going = going;
  order = order_played g moment (board_of seat) stamp (seat_word g seat word) s.order;
  moment = timely_at g moment timely s;
  winners = s.winners;
  ended = names;
}

-- a feed with one item more that, if it is an end, names its winner
names_with : (feed : List Item) (x : Option Item) → IfSome x NamesWinner → All NamesWinner feed
    → All NamesWinner (feed_with feed x)
names_with feed None h all = all
names_with feed (Some x) h all = All-push NamesWinner feed x all h

names_view : (view : Option BoardView) → IfSome (option_map item.Board view) NamesWinner
names_view None = tt
names_view (Some view) = tt

names_told : (desk : ℕ) (g : GameState) (board : BoardNumber) (man : Option Man) → All NamesWinner g.feed
    → All NamesWinner (told_of desk g board man).feed
names_told desk g board man names =
    let shown : List Item =
    feed_with g.feed (option_map item.Board (slice_get (views_of desk g) (board_place board))) in
    names_with (feed_with shown (hands_at desk g board man)) (partner_hands_at desk g board man)
    (names_partner_hands_at desk g board man)
    (names_with shown (hands_at desk g board man) (names_hands_at desk g board man)
    (names_with g.feed (option_map item.Board (slice_get (views_of desk g) (board_place board)))
    (names_view (slice_get (views_of desk g) (board_place board))) names))

-- a game that is told goes on or has its end as before
IsSound-told_of : (desk : ℕ) (g : GameState) (board : BoardNumber) (man : Option Man) (end : Option Ended)
    → IsSoundGame (record g { ended = end }) →
    IsSoundGame (record (told_of desk g board man) { ended = end })
IsSound-told_of desk g board man end s =
    IsSound-later (record g { ended = end }) (told_of desk g board man).feed g.viewers g.remarks g.last g.offers g.tally
    (omega arith) s.moment
    (names_told desk g board man s.winners) s

-- the man that a seat's word captures, if it does
abbrev captured_of : GameState → ℕ → MoveWord → Option Man
captured_of g seat word =
    captured_man (reply_at (slice_get g.boards (board_place (board_of seat))) (seat_word g seat word))

-- what is offered has no part in it
IsSound-with_cleared : (seat : ℕ) (g : GameState) → IsSoundGame g → IsSoundGame (with_cleared seat g)
IsSound-with_cleared seat g s =
    IsSound-later g g.feed g.viewers g.remarks g.last (where_stand (after_half_move seat g.offers.standing) g.offers)
    g.tally (omega arith) s.moment s.winners s

moved_follows : {conditions : Type 0} (desk : ℕ) (g : GameState) (moment seat : ℕ) (word : MoveWord) (stamp : Option ℕ)
    → (conditions → moment ≤ 2 ^ 48) →
    (conditions → IfSome stamp IsStamp) → (conditions → g.ended ≡ None)
    → Follows conditions g (game_moved desk g moment (board_of seat) stamp (seat_word g seat word))
moved_follows {conditions = conditions} desk g moment seat word stamp timely stamped runs =
    let board : BoardNumber = board_of seat in
    let after : GameState = played g moment board stamp (seat_word g seat word) in
    let man : Option Man = captured_of g seat word in
    let told : GameState = told_of desk after board man in
    let end : Option Ended = end_at after board in
    let names : IfSome end (λ e. FitsWhy e.why e.winner) =
    end_on-names board (slice_get after.boards (board_place board)) in
    subst (λ (h : GameState). Follows conditions g (finished desk h moment board))
    (sym (with_hands-told desk after board man))
    (record {
      players = occupant-finished desk told moment board;
      sound = λ c s.
          let going : end ≡ None → GoOn after.boards = λ none.
          go_played g.terms g.boards board (moment_at g moment) (colour_at seat) word stamp s.boards (s.going (runs c))
          (goes_on_at board (slice_get after.boards (board_place board)) none) in
          IsSound-with_end desk told moment end names (timely c) (runs c)
          (IsSound-told_of desk after board man end
          (IsSound-played g moment seat word stamp end (timely c) (stamped c) (runs c) names going s));
    })

pub Keeps-move_effect : (desk : ℕ) (g : GameState) (session moment : ℕ) (word : MoveWord) (stamp : Option ℕ) →
    Keeps g moment (IfSome stamp IsStamp) true (move_effect desk g session moment word stamp)
Keeps-move_effect desk g session moment word stamp = record {
  step = if_there (λ seat. moved_by desk g moment seat word stamp) (seat_of g session) stays (λ seat.
      and_then (record { players = refl; sound = λ _ s. IsSound-with_cleared seat g s })
      (moved_follows desk (with_cleared seat g) moment seat word stamp (λ c. c.0) (λ c. c.1)
      (λ c. none_found g.ended g.ended refl c.2.1.0)));
  tells = λ s. tt;
  memory = refl;
}
