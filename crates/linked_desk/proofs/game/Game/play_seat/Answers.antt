use Rattle.std.proofs.Common.{◌≡◌, List, Option, Result, refl, ap, sym, rules, ◌∙◌}
use Rattle.std.specs.Prelude.{option_map, slice_get}
use Rattle.chess_model.specs.declared.man.Man.{Man}
use Rattle.chess_model.specs.declared.moves.Move.{Move}
use Rattle.fics_words.specs.Effect.{first_cause, refused_by}
use Rattle.fics_words.specs.declared.refusal.Refusal.{Refusal}
use Rattle.style12_writer.specs.declared.item.Item.{Item}
use Rattle.style12_writer.specs.declared.item.Item.TheVariants as item
use Rattle.fics_words.specs.Boards.{board_place}
use Rattle.desk_boards.specs.Boards.{boards_after, reply_at, word_at}
use Rattle.fics_words.specs.declared.board_number.BoardNumber.{BoardNumber}
use Rattle.linked_desk.specs.Desk.{GameState, moment_at}
use Rattle.linked_desk.specs.Playing.{captured_man, seat_word, with_cleared}
use Rattle.linked_desk.specs.Seats.{board_of}
use Rattle.linked_desk.specs.Views.{feed_with, views_of}
use Rattle.linked_desk.specs.Hands.{hands_at}
use Rattle.linked_desk.proofs.Telling.{finished-moved, told_of}
use Rattle.linked_desk.proofs.game.Game.play_seat.Goals as goal

pub returns : goal.returns
returns c =
    let g : GameState = c.args.self.now in
    let at : BoardNumber = c.board_of-board.result in
    let man : Option Man = c.in_ok-captured.captured in
    let held : GameState = record {
      serial = c.self.inside.serial;
      terms = c.self.inside.terms;
      seats = c.self.inside.seats;
      boards = c.self.inside.boards;
      feed = c.self.inside.feed.items;
      viewers = c.self.inside.feed.viewers;
      remarks = c.self.inside.remarks;
      last = c.self.inside.last;
      ended = c.self.inside.ended;
      offers = c.self.inside.offers;
      tally = c.self.inside.tally;
    } in
    let view : held ≡ g = c.self.view_is in
    let played : GameState =
    record held { boards = c.play.new.self; last = c.max-now.result; offers = c.moved.new.self } in
    let told : GameState =
    record played { feed = c.add_some-3.new.feed.items; viewers = c.add_some-3.new.feed.viewers } in
    let same : at ≡ board_of c.args.seat = c.board_of-board.ensures in
    let answer : word_at (slice_get held.boards (board_place at)) c.colour_at.result c.args.word.now
    ≡ seat_word g c.args.seat c.args.word.now =
    λ i. word_at (slice_get (view i).boards (board_place (same i))) (c.colour_at.ensures i) c.args.word.now in
    let last : c.max-now.result ≡ moment_at g c.args.moment = search rules in
    let boards : c.play.new.self
    ≡ boards_after g.boards (board_of c.args.seat) (moment_at g c.args.moment) c.args.stamp
    (seat_word g c.args.seat c.args.word.now) =
    c.play.ensures.after ∙ (λ i. boards_after (view i).boards (same i) (last i) c.args.stamp (answer i)) in
    let offers : c.moved.new.self ≡ (with_cleared c.args.seat g).offers =
    c.moved.ensures ∙ ap (λ (s : GameState). (with_cleared c.args.seat s).offers) view in
    let captured : man
    ≡ captured_man
    (reply_at (slice_get g.boards (board_place (board_of c.args.seat))) (seat_word g c.args.seat c.args.word.now)) =
    ap captured_man c.in_ok-captured.ensures.reply
    ∙ (λ i. captured_man (reply_at (slice_get (view i).boards (board_place (same i))) (answer i))) in
    let shown : List Item =
    feed_with held.feed (option_map item.Board (slice_get (views_of c.args.desk played) (board_place at))) in
    let one : c.add_some.new.feed.items ≡ shown =
    c.add_some.ensures.items ∙ (λ i. feed_with (c.in_ok-reserve.ensures.ok i).items (c.board_item-item.ensures i)) in
    let two : c.add_some-2.new.feed.items ≡ feed_with shown (hands_at c.args.desk played at man) =
    c.add_some-2.ensures.items ∙ (λ i. feed_with (one i) (c.hands_at-own.ensures i)) in
    let items : c.add_some-3.new.feed.items ≡ (told_of c.args.desk played at man).feed =
    c.add_some-3.ensures.items ∙ (λ i. feed_with (two i) (c.partner_hands_at-partner.ensures i)) in
    let viewers : c.add_some-3.new.feed.viewers ≡ held.viewers =
    c.add_some-3.ensures.viewers ∙ c.add_some-2.ensures.viewers ∙ c.add_some.ensures.viewers
    ∙ (λ i. (c.in_ok-reserve.ensures.ok i).viewers) in (
      ap (λ (a : Result Move Refusal). first_cause (refused_by a)) (sym answer) ∙ c.in_ok-captured.ensures.refused,
      refl,
      finished-moved c.args.desk (with_cleared c.args.seat g) played told c.finish.new.self c.args.moment
          (board_of c.args.seat) at c.args.stamp
          (seat_word g c.args.seat c.args.word.now) man c.finish.ensures
          (λ i. record played { feed = items i; viewers = viewers i })
          (λ i. record (view i) { boards = boards i; last = last i; offers = offers i })
          captured same,
    )
