-- The game with one item more, if there is one, is the game with that item in its feed.
use Rattle.std.proofs.Common.{◌≡◌, ℕ, Option, Some, None, refl, ap, sym, ◌∙◌}
use Rattle.std.specs.Prelude.{option_map, slice_get, Result}
use Rattle.chess_model.specs.declared.man.Man.{Man}
use Rattle.chess_model.specs.declared.moves.Move.{Move}
use Rattle.fics_words.specs.declared.refusal.Refusal.{Refusal}
use Rattle.style12_writer.specs.declared.item.Item.{Item}
use Rattle.style12_writer.specs.declared.item.Item.TheVariants as item
use Rattle.style12_writer.specs.declared.view.BoardView.{BoardView}
use Rattle.fics_words.specs.Boards.{board_place}
use Rattle.desk_boards.specs.Boards.{boards_after, reply_at}
use Rattle.fics_words.specs.declared.board_number.BoardNumber.{BoardNumber}
use Rattle.linked_desk.specs.Desk.{GameState, moment_at}
use Rattle.linked_desk.specs.Finish.{finished}
use Rattle.linked_desk.specs.Hands.{hands_at, partner_hands_at}
use Rattle.linked_desk.specs.Playing.{captured_man, game_moved, with_hands, with_partner_hands}
use Rattle.linked_desk.specs.Views.{feed_with, views_of, with_board_item, game_with_item, with_view}

with_item-feed : (g : GameState) (x : Option Item) → game_with_item g x ≡ record g { feed = feed_with g.feed x }
with_item-feed g None = refl
with_item-feed g (Some x) = refl

with_view-feed : (g : GameState) (v : Option BoardView)
    → with_view g v ≡ record g { feed = feed_with g.feed (option_map item.Board v) }
with_view-feed g None = refl
with_view-feed g (Some v) = refl

-- a game whose feed has its board, then the hands there, then those of the partner's board, if there are any
abbrev pub told_of : ℕ → GameState → BoardNumber → Option Man → GameState
told_of desk g board man = record g {
  feed = feed_with
      (feed_with (feed_with g.feed (option_map item.Board (slice_get (views_of desk g) (board_place board))))
      (hands_at desk g board man))
      (partner_hands_at desk g board man);
}

pub with_hands-told : (desk : ℕ) (g : GameState) (board : BoardNumber) (man : Option Man) →
    with_partner_hands desk board man (with_hands desk board man (with_board_item desk board g))
    ≡ told_of desk g board man
with_hands-told desk g board man =
    let shown : GameState =
    record g { feed = feed_with g.feed (option_map item.Board (slice_get (views_of desk g) (board_place board))) } in
    let held : GameState = record shown { feed = feed_with shown.feed (hands_at desk g board man) } in
    ap (λ (s : GameState). with_partner_hands desk board man (with_hands desk board man s))
    (with_view-feed g (slice_get (views_of desk g) (board_place board)))
    ∙ ap (λ (s : GameState). with_partner_hands desk board man s) (with_item-feed shown (hands_at desk g board man))
    ∙ with_item-feed held (partner_hands_at desk g board man)

-- the game that stands once a half-move was played and told, and has ended if it brings that
pub finished-moved : (desk : ℕ) (g base told new : GameState) (moment : ℕ) (board at : BoardNumber) (stamp : Option ℕ)
    (answer : Result Move Refusal) (man : Option Man) →
    new ≡ finished desk told moment at → told ≡ told_of desk base at man →
    base
    ≡ record g { boards = boards_after g.boards board (moment_at g moment) stamp answer; last = moment_at g moment } →
    man ≡ captured_man (reply_at (slice_get g.boards (board_place board)) answer) → at ≡ board
    → new ≡ game_moved desk g moment board stamp answer
finished-moved desk g base told new moment board at stamp answer man ends tells plays takes same =
    let played : GameState =
    record g { boards = boards_after g.boards board (moment_at g moment) stamp answer; last = moment_at g moment } in
    let captured : Option Man = captured_man (reply_at (slice_get g.boards (board_place board)) answer) in
    ends
    ∙ ap (λ (s : GameState). finished desk s moment at) tells
    ∙ (λ i. finished desk (told_of desk (plays i) (same i) (takes i)) moment (same i))
    ∙ ap (λ (s : GameState). finished desk s moment board) (sym (with_hands-told desk played board captured))
