-- A half-move clears offers, whatever it brings.
use Rattle.std.proofs.Common.{◌≡◌, ℕ, Option, Some, None, Result, refl, sym, subst, ◌∙◌}
use Rattle.std.specs.Prelude.{slice_get}
use Rattle.chess_model.specs.declared.man.Man.{Man}
use Rattle.chess_model.specs.declared.moves.Move.{Move}
use Rattle.chess_model.specs.declared.moves.MoveWord.{MoveWord}
use Rattle.fics_words.specs.declared.refusal.Refusal.{Refusal}
use Rattle.offer_book.specs.Laws.{ClearsForTheMove}
use Rattle.offer_book.specs.Offers.{OfferBook, after_half_move}
use Rattle.offer_book.proofs.Meaning.{clears_for_the_move}
use Rattle.style12_writer.specs.declared.item.Item.{Item}
use Rattle.style12_writer.specs.declared.view.BoardView.{BoardView}
use Rattle.linked_desk.specs.declared.ended.Ended.{Ended}
use Rattle.fics_words.specs.Boards.{board_place}
use Rattle.desk_boards.specs.Boards.{reply_at}
use Rattle.fics_words.specs.declared.board_number.BoardNumber.{BoardNumber}
use Rattle.linked_desk.specs.Desk.{GameState}
use Rattle.linked_desk.specs.Finish.{end_at, with_end}
use Rattle.linked_desk.specs.Hands.{hands_at, partner_hands_at}
use Rattle.linked_desk.specs.OfferLaws.{IsCleared}
use Rattle.linked_desk.specs.Playing.{captured_man, held_moved, game_moved, moved_by, seat_word, shown_moved, with_cleared, with_hands}
use Rattle.linked_desk.specs.Seats.{board_of}
use Rattle.linked_desk.specs.Views.{views_of, game_with_item, with_view}
use Rattle.linked_desk.proofs.KeepsMove.{played}

same_with_view : (g : GameState) (view : Option BoardView) → (with_view g view).offers ≡ g.offers
same_with_view g None = refl
same_with_view g (Some view) = refl

same_with_item : (g : GameState) (x : Option Item) → (game_with_item g x).offers ≡ g.offers
same_with_item g None = refl
same_with_item g (Some x) = refl

same_with_end : (desk : ℕ) (g : GameState) (moment : ℕ) (end : Option Ended)
    → (with_end desk g moment end).offers ≡ g.offers
same_with_end desk g moment None = refl
same_with_end desk g moment (Some e) = refl

-- a half-move changes no offer beside those that it clears
same_moved : (desk : ℕ) (g : GameState) (moment : ℕ) (board : BoardNumber) (stamp : Option ℕ)
    (answer : Result Move Refusal)
    → (game_moved desk g moment board stamp answer).offers ≡ g.offers
same_moved desk g moment board stamp answer =
    let after : GameState = played g moment board stamp answer in
    let shown : GameState = shown_moved desk g moment board stamp answer in
    let held : GameState = held_moved desk g moment board stamp answer in
    let man : Option Man = captured_man (reply_at (slice_get g.boards (board_place board)) answer) in
    let own : GameState = with_hands desk board man shown in
    same_with_end desk held moment (end_at held board)
    ∙ same_with_item own (partner_hands_at desk own board man)
    ∙ same_with_item shown (hands_at desk shown board man)
    ∙ same_with_view after (slice_get (views_of desk after) (board_place board))

pub cleared_by_move : (desk : ℕ) (g : GameState) (moment seat : ℕ) (word : MoveWord) (stamp : Option ℕ)
    → IsCleared (moved_by desk g moment (Some seat) word stamp).offers.standing seat
cleared_by_move desk g moment seat word stamp =
    let clears : ClearsForTheMove g.offers.standing seat = clears_for_the_move g.offers.standing seat in
    let cleared : IsCleared (after_half_move seat g.offers.standing) seat =
    record { takebacks = λ number. clears.takebacks number; opponent = clears.opponent } in
    subst (λ (book : OfferBook). IsCleared book.standing seat)
    (sym (same_moved desk (with_cleared seat g) moment (board_of seat) stamp (seat_word g seat word))) cleared
