-- What a restored game has of the stored one, and of the game that was left.
use Rattle.std.proofs.Common.{◌≡◌, ℕ, List, length, All, Option, Some, None, refl, sym, ap, subst, ◌∙◌}
use Rattle.std.proofs.lemmas.List.{length-map}
use Rattle.std.proofs.lemmas.List.Elements.{All-weaker}
use Rattle.std.specs.Prelude.{slice_get}
use Rattle.std.specs.Option.{option_map}
use Rattle.chess_model.specs.declared.man.Colour.{Colour}
use Rattle.chess_model.specs.declared.variant.Terms.{Terms}
use Rattle.chess_model.specs.Position.{position_after}
use Rattle.fics_words.specs.declared.seats.Seats.{Seats}
use Rattle.game_board.specs.Board.{Board, position_of}
use Rattle.game_board.specs.Charges.{clock_of, remaining_of}
use Rattle.clock_ledger.specs.Clock as clock
use Rattle.game_records.specs.declared.stored_game.StoredGame.{StoredGame}
use Rattle.game_records.specs.Replays.{Replays, without_charges}
use Rattle.desk_boards.specs.Boards.{board_numbers}
use Rattle.fics_words.specs.declared.board_number.BoardNumber.{BoardNumber}
use Rattle.desk_boards.specs.Halves.{halves_of, last_board, list_on}
use Rattle.desk_boards.specs.Laws.{IsFreshlyPut}
use Rattle.desk_boards.specs.Replaying.{replayed}
use Rattle.desk_boards.specs.Sound.{AreSoundBoards}
use Rattle.desk_boards.proofs.BoardLists.{All-at}
use Rattle.desk_boards.proofs.Pairs.{number_at}
use Rattle.desk_boards.proofs.SoundHalves.{all_of, each_of}
use Rattle.linked_desk.specs.declared.ended.Ended.{Ended}
use Rattle.linked_desk.specs.declared.occasion.Occasion.TheVariants.{Resumption}
use Rattle.linked_desk.specs.Desk.{DeskState, GameState}
use Rattle.linked_desk.specs.Finish.{end_at, with_end}
use Rattle.linked_desk.specs.Restore.{finished_at, restored, game_resumed}
use Rattle.linked_desk.specs.Seating.{game_begun, uncoloured}
use Rattle.linked_desk.specs.ShelfLaws.{Gets, GoesOnFrom, IsAsBefore, IsOnAgain, ResumingRestores}
use Rattle.linked_desk.specs.Shelve.{names_seated, stored_of}
use Rattle.linked_desk.specs.Sound.{IsSoundGame}
use Rattle.linked_desk.proofs.Shelved.{shelved_replays}
use Rattle.desk_boards.proofs.Replayed.{replayed_at, replayed_exactly, replayed_fresh, some_is}
use Rattle.std.proofs.lemmas.Option.{same_Some}

-- an end changes neither the boards nor who plays
same-with_end : {X : Type 0} (of : GameState → X) (desk : ℕ) (g : GameState) (moment : ℕ) (end : Option Ended)
    → ((e : Ended) → of (with_end desk g moment (Some e)) ≡ of g) →
    of (with_end desk g moment end) ≡ of g
same-with_end of desk g moment None same = refl
same-with_end of desk g moment (Some e) same = same e

same-finished_at : {X : Type 0} (of : GameState → X) (desk : ℕ) (g : GameState) (moment : ℕ)
    (board : Option BoardNumber)
    → ((e : Ended) → of (with_end desk g moment (Some e)) ≡ of g) →
    of (finished_at desk g moment board) ≡ of g
same-finished_at of desk g moment None same = refl
same-finished_at of desk g moment (Some board) same = same-with_end of desk g moment (end_at g board) same

-- the boards of a game that replays
found : (g : StoredGame) (moment : ℕ) → Replays g
    → (boards : List Board) × (replayed g.terms g.halves moment ≡ Some boards)
found g moment r =
    some_is (replayed g.terms g.halves moment)
    ((replayed_exactly g.terms g.halves moment r.spelled.halves.each).1 r.played)

module _ (d : DeskState) (serial : ℕ) (g : StoredGame) (seats : Seats) (moment : ℕ) (boards : List Board)
    (is : replayed g.terms g.halves moment ≡ Some boards) where
  abbrev now : GameState
  now = game_resumed d.number serial g seats moment boards

  boards-now : now.boards ≡ boards
  boards-now =
      same-finished_at (λ (h : GameState). h.boards) d.number
      (game_begun Resumption d.number serial g.terms seats boards moment) moment (last_board g.halves) (λ e. refl)

  terms-now : now.terms ≡ g.terms
  terms-now =
      same-finished_at (λ (h : GameState). h.terms) d.number
      (game_begun Resumption d.number serial g.terms seats boards moment) moment (last_board g.halves) (λ e. refl)

  seats-now : now.seats ≡ seats
  seats-now =
      same-finished_at (λ (h : GameState). h.seats) d.number
      (game_begun Resumption d.number serial g.terms seats boards moment) moment (last_board g.halves) (λ e. refl)

  gets : (P : GameState → Type 0) → P now → Gets (restored d serial g seats moment) P
  gets P p = (
    record d { game = Some now },
    ap (option_map (λ (bs : List Board). record d { game = Some (game_resumed d.number serial g seats moment bs) })) is,
    (now, refl, p),
  )

  on_again : Replays g → names_seated seats ≡ g.names → IsOnAgain g moment now
  on_again r names = record {
    terms = terms-now;
    names = ap names_seated seats-now ∙ names;
    halves = ap halves_of boards-now ∙ (replayed_at g.terms g.halves moment boards r.spelled.halves.each is).made;
    begin = subst (All (λ (b : Board). b.begin ≡ moment)) (sym boards-now)
        (All-weaker (IsFreshlyPut moment) (λ (b : Board). b.begin ≡ moment) (λ b fresh. fresh.begin) boards
        (replayed_fresh g.terms g.halves moment boards r.spelled.halves.each is));
  }

stored : (d : DeskState) (serial : ℕ) (g : StoredGame) (seats : Seats) (moment : ℕ) → Replays g
    → names_seated seats ≡ g.names →
    Gets (restored d serial g seats moment) (IsOnAgain g moment)
stored d serial g seats moment r names =
    let boards = found g moment r in
    gets d serial g seats moment boards.0 boards.1 (IsOnAgain g moment)
    (on_again d serial g seats moment boards.0 boards.1 r names)

-- two boards in the same place, of games with the same half-moves, on the same terms but for the colour
position_same : (b c : Board) → c.terms ≡ uncoloured b.terms → c.all ≡ b.all → c.number ≡ b.number
    → position_of c ≡ position_of b
unfolding position_of
position_same b c terms all number = λ i. position_after (terms i).variant (all i) (number i)

clocks_same : (b c : Board) (colour : Colour) → c.terms ≡ uncoloured b.terms → c.list ≡ b.list
    → remaining_of c colour ≡ remaining_of b colour
clocks_same b c colour terms list = λ i. clock.remaining (clock_of (terms i) colour (list i))

as_before : (t : Terms) (before now : List Board) (place : ℕ) (b c : Board) → AreSoundBoards t before
    → AreSoundBoards (uncoloured t) now → halves_of now ≡ halves_of before →
    slice_get before place ≡ Some b → slice_get now place ≡ Some c → IsAsBefore b c
as_before t before now place b c s n halves here there =
    let of_b : b.terms ≡ t = All-at (λ (x : Board). x.terms ≡ t) before place b s.terms here in
    let of_c : c.terms ≡ uncoloured t = All-at (λ (x : Board). x.terms ≡ uncoloured t) now place c n.terms there in
    let terms : c.terms ≡ uncoloured b.terms = of_c ∙ sym (ap uncoloured of_b) in
    let number : c.number ≡ b.number =
    same_Some c.number b.number
    (sym (number_at t.variant now place c n.numbers there) ∙ number_at t.variant before place b s.numbers here) in
    let all : c.all ≡ b.all =
    sym
    (All-at (λ (x : Board). without_charges (halves_of now) ≡ x.all) now place c (all_of (uncoloured t) now n) there)
    ∙ ap without_charges halves
    ∙ All-at (λ (x : Board). without_charges (halves_of before) ≡ x.all) before place b (all_of t before s) here in
    let list : c.list ≡ b.list =
    sym
    (All-at (λ (x : Board). list_on x.number (halves_of now) ≡ x.list) now place c (each_of (uncoloured t) now n) there)
    ∙ (λ i. list_on (number i) (halves i))
    ∙ All-at (λ (x : Board). list_on x.number (halves_of before) ≡ x.list) before place b (each_of t before s) here in
    record {
      number = number;
      list = list;
      position = position_same b c terms all number;
      clocks = λ colour. clocks_same b c colour terms list;
    }

-- there are as many boards as the variant wants
as_many : (t : Terms) (boards : List Board) → AreSoundBoards t boards → length boards ≡ length (board_numbers t.variant)
as_many t boards s = sym (length-map boards (λ (b : Board). b.number)) ∙ ap length s.numbers

kept : (d : DeskState) (serial : ℕ) (g : GameState) (seats : Seats) (moment : ℕ) → IsSoundGame g
    → names_seated seats ≡ names_seated g.seats →
    Gets (restored d serial (stored_of g) seats moment) (GoesOnFrom g)
kept d serial g seats moment s names =
    let r : Replays (stored_of g) = shelved_replays g s in
    let there = found (stored_of g) moment r in
    let boards : List Board = there.0 in
    let sound : AreSoundBoards (uncoloured g.terms) boards =
    (replayed_at (uncoloured g.terms) (halves_of g.boards) moment boards r.spelled.halves.each there.1).sound in
    let halves : halves_of boards ≡ halves_of g.boards =
    (replayed_at (uncoloured g.terms) (halves_of g.boards) moment boards r.spelled.halves.each there.1).made in
    let same = boards-now d serial (stored_of g) seats moment boards there.1 in
    gets d serial (stored_of g) seats moment boards there.1 (GoesOnFrom g)
    (record {
      terms = terms-now d serial (stored_of g) seats moment boards there.1;
      names = ap names_seated (seats-now d serial (stored_of g) seats moment boards there.1) ∙ names;
      many = ap length same ∙ as_many (uncoloured g.terms) boards sound ∙ sym (as_many g.terms g.boards s.boards);
      boards = λ place b c here at.
          as_before g.terms g.boards boards place b c s.boards sound halves here
          (sym (ap (λ (bs : List Board). slice_get bs place) same) ∙ at);
    })

pub resuming_restores : ResumingRestores
resuming_restores = record {
  stored = stored;
  kept = kept;
}
