-- The boards of a game behind a half-move.
use Rattle.std.proofs.Common.{◌≡◌, ◌≢◌, ℕ, Bool, true, false, if◌then◌else◌, List, Option, Some, None, Result, Ok, refl, ap, ◌∙◌, arith}
use Rattle.std.specs.Prelude.{◌&&◌, IfSome, slice_get}
use Rattle.std.specs.Option.{option_map, option_zip}
use Rattle.std.proofs.lemmas.Option.{slice_get_within}
use Rattle.chess_model.specs.declared.man.Man.{Man}
use Rattle.chess_model.specs.declared.moves.Move.{Move}
use Rattle.fics_words.specs.declared.refusal.Refusal.{Refusal}
use Rattle.game_board.specs.Charges.{is_timed}
use Rattle.clock_ledger.specs.declared.charges.Charge.{Charge}
use Rattle.game_board.specs.Board.{Board, has_moved, to_move}
use Rattle.game_board.specs.Play.{next_charge, play_after, with_half_move}
use Rattle.histories.proofs.Parts.{get_set_else, get_set_same}
use Rattle.style12_writer.specs.declared.item.Item.{Item}
use Rattle.style12_writer.specs.declared.view.BoardView.{BoardView}
use Rattle.fics_words.specs.Boards.{other_number, board_place}
use Rattle.desk_boards.specs.Boards.{boards_after, changed_at, reply_at, set_board, told_answer}
use Rattle.fics_words.specs.declared.board_number.BoardNumber.{BoardNumber}
use Rattle.fics_words.specs.declared.board_number.BoardNumber.TheVariants.{First, Second}
use Rattle.linked_desk.specs.declared.ended.Ended.{Ended}
use Rattle.linked_desk.specs.Desk.{GameState, moment_at}
use Rattle.linked_desk.specs.Finish.{end_at, with_end}
use Rattle.linked_desk.specs.Hands.{hands_at, partner_hands_at}
use Rattle.linked_desk.specs.Playing.{captured_man, held_moved, game_moved, shown_moved, with_hands}
use Rattle.linked_desk.specs.Views.{views_of, game_with_item, with_view}

-- ---- what is told changes no board

same_with_view : (g : GameState) (view : Option BoardView) → (with_view g view).boards ≡ g.boards
same_with_view g None = refl
same_with_view g (Some view) = refl

same_with_item : (g : GameState) (x : Option Item) → (game_with_item g x).boards ≡ g.boards
same_with_item g None = refl
same_with_item g (Some x) = refl

same_with_end : (desk : ℕ) (g : GameState) (moment : ℕ) (end : Option Ended)
    → (with_end desk g moment end).boards ≡ g.boards
same_with_end desk g moment None = refl
same_with_end desk g moment (Some e) = refl

pub boards_moved : (desk : ℕ) (g : GameState) (moment : ℕ) (board : BoardNumber) (stamp : Option ℕ)
    (answer : Result Move Refusal)
    → (game_moved desk g moment board stamp answer).boards
    ≡ boards_after g.boards board (moment_at g moment) stamp answer
boards_moved desk g moment board stamp answer =
    let after : GameState =
    record g { boards = boards_after g.boards board (moment_at g moment) stamp answer; last = moment_at g moment } in
    let shown : GameState = shown_moved desk g moment board stamp answer in
    let held : GameState = held_moved desk g moment board stamp answer in
    let man : Option Man = captured_man (reply_at (slice_get g.boards (board_place board)) answer) in
    let own : GameState = with_hands desk board man shown in
    same_with_end desk held moment (end_at held board)
    ∙ same_with_item own (partner_hands_at desk own board man)
    ∙ same_with_item shown (hands_at desk shown board man)
    ∙ same_with_view after (slice_get (views_of desk after) (board_place board))

-- ---- one board is changed

changed_here : (boards : List Board) (k : ℕ) (change : Board → Board) (b : Board) → slice_get boards k ≡ Some b
    → slice_get (changed_at boards k change) k ≡ Some (change b)
changed_here boards k change b e =
    ap (λ (o : Option Board). slice_get (set_board boards k (option_map change o)) k) e
    ∙ get_set_same boards k (change b) (slice_get_within boards k b e)

set_else : (boards : List Board) (k j : ℕ) (o : Option Board) → j ≢ k
    → slice_get (set_board boards k o) j ≡ slice_get boards j
set_else boards k j None other = refl
set_else boards k j (Some b) other = get_set_else boards k j b other

changed_else : (boards : List Board) (k j : ℕ) (change : Board → Board) → j ≢ k
    → slice_get (changed_at boards k change) j ≡ slice_get boards j
changed_else boards k j change other = set_else boards k j (option_map change (slice_get boards k)) other

other_differs : (board : BoardNumber) → board_place board ≢ board_place (other_number board)
other_differs First e = omega (arith, e)
other_differs Second e = omega (arith, e)

-- the board has the half-move
pub board_after : (boards : List Board) (board : BoardNumber) (moment : ℕ) (stamp : Option ℕ) (b : Board) (m : Move)
    → slice_get boards (board_place board) ≡ Some b
    → slice_get (boards_after boards board moment stamp (Ok m)) (board_place board)
    ≡ Some (with_half_move b m moment stamp)
board_after boards board moment stamp b m e =
    changed_else (changed_at boards (board_place board) (λ x. play_after x moment stamp (Ok m)))
    (board_place (other_number board))
    (board_place board) (λ x. told_answer x (Ok m)) (other_differs board)
    ∙ changed_here boards (board_place board) (λ x. play_after x moment stamp (Ok m)) b e

-- what it is charged
abbrev IsCharged : Board → ℕ → Option Charge → Type 0
IsCharged b moment charge = IfSome charge (λ c. (c.begin ≡ b.begin) × (c.end ≡ moment))

charged_if : (is : Bool) (b : Board) (moment : ℕ) (stamp : Option ℕ)
    → IsCharged b moment
    (if is then Some (record { begin = b.begin; end = moment; client = option_zip b.kept stamp }) else None)
charged_if true b moment stamp = (refl, refl)
charged_if false b moment stamp = tt

pub charged_so : (b : Board) (moment : ℕ) (stamp : Option ℕ) → IsCharged b moment (next_charge b moment stamp)
charged_so b moment stamp = charged_if (is_timed b.terms && has_moved (to_move b) b.list) b moment stamp
