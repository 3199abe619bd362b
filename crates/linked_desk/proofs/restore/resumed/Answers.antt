use Rattle.std.proofs.Common.{◌≡◌, ℕ, Option, None, Some, List, ◌++◌, refl, sym, ap, subst, ◌∙◌}
use Rattle.std.specs.Option.{option_map}
use Rattle.std.specs.Prelude.{IsSome, IfSome}
use Rattle.game_board.specs.Board.{Board}
use Rattle.game_records.specs.declared.stored_game.StoredGame.{StoredGame}
use Rattle.game_records.specs.Replays.{Replays}
use Rattle.desk_boards.specs.Halves.{last_board}
use Rattle.desk_boards.specs.Replaying.{replayed}
use Rattle.fics_words.specs.declared.seats.Seats.{Seats}
use Rattle.style12_writer.specs.declared.item.Item.{Item}
use Rattle.linked_desk.specs.declared.occasion.Occasion.TheVariants.{Resumption}
use Rattle.linked_desk.specs.Restore.{finished_at, game_resumed}
use Rattle.linked_desk.specs.Seating.{game_begun, game_begins_at, opening_items, shown_items}
use Rattle.linked_desk.specs.Seats.{pairs_of}
use Rattle.linked_desk.proofs.Opening.{announced_first}
use Rattle.linked_desk.proofs.Restored.{numbers_replayed, order_replayed}
use Rattle.linked_desk.proofs.restore.resumed.Goals as goal

none_or_some : (o : Option (List Board)) → IsSome o → o ≡ None → ⊥
none_or_some None some none = absurd cc
none_or_some (Some boards) some none = cc

pub returns-in_default-clause-replays : goal.returns-in_default-clause-replays
returns-in_default-clause-replays c = (
  λ yes. absurd cc,
  λ r. absurd (none_or_some c.in_ok-boards.field-0 (c.in_ok-boards.ensures.replays.1 r) c.in_default.is),
)

pub game_at-game-requires-clause-order : goal.game_at-game-requires-clause-order
game_at-game-requires-clause-order c =
    let g : StoredGame = c.args.stored.now in
    let r : Replays g =
    c.in_ok-boards.ensures.replays.0 (subst (λ (o : Option (List Board)). IsSome o) (sym c.in-Some.is) refl) in
    let found : replayed g.terms g.halves c.args.moment ≡ Some c.in-Some.boards =
    subst (λ (o : Option (List Board)). IfSome o (λ boards. replayed g.terms g.halves c.args.moment ≡ Some boards))
    c.in-Some.is c.in_ok-boards.ensures.boards in
    order_replayed g c.args.moment c.in-Some.boards r found

pub returns-clause-replays : goal.returns-clause-replays
returns-clause-replays c = (
  λ yes. c.in_ok-boards.ensures.replays.0 (subst (λ (o : Option (List Board)). IsSome o) (sym c.in-Some.is) refl),
  λ r. refl,
)

pub returns-clause-game : goal.returns-clause-game
returns-clause-game c =
    let g : StoredGame = c.args.stored.now in
    let desk : ℕ = c.args.desk in
    let seats : Seats = c.args.seats.now in
    let boards : List Board = c.in-Some.boards in
    let r : Replays g =
    c.in_ok-boards.ensures.replays.0 (subst (λ (o : Option (List Board)). IsSome o) (sym c.in-Some.is) refl) in
    let found : replayed g.terms g.halves c.args.moment ≡ Some boards =
    subst (λ (o : Option (List Board)). IfSome o (λ bs. replayed g.terms g.halves c.args.moment ≡ Some bs)) c.in-Some.is
    c.in_ok-boards.ensures.boards in
    let told : c.show_each.new.feed.items ≡ opening_items Resumption desk g.terms (pairs_of seats) boards =
    c.show_each.ensures.items
    ∙ ap (λ (items : List Item). items ++ shown_items desk (pairs_of seats) boards) c.in_ok-feed.ensures.items
    ∙ announced_first Resumption desk g.terms seats boards c.requires.pairs
    (numbers_replayed g c.args.moment boards r found) in
    let begins : c.game_at-game.result ≡ game_begun Resumption desk c.args.serial g.terms seats boards c.args.moment =
    c.game_at-game.ensures
    ∙ ap (λ (items : List Item). game_begins_at c.args.serial g.terms seats boards items c.args.moment) told in
    let board : c.last_board.result ≡ last_board g.halves = c.last_board.ensures ∙ ap last_board c.as_slice.ensures in
    λ yes. ap Some (c.finish_at.ensures ∙ (λ i. finished_at desk (begins i) c.args.moment (board i)))
    ∙ sym (ap (option_map (game_resumed desk c.args.serial g seats c.args.moment)) found)
