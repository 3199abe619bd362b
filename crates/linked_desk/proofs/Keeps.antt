-- What an act keeps of the game at a desk, and what is shared by the acts that end it.
use Rattle.std.proofs.Common.{◌≡◌, ◌≤◌, ◌^◌, ℕ, ◌==◌, Bool, true, false, if◌then◌else◌, List, [], ◌∷◌, ◌++◌, Option, Some, None, refl, ◌∙◌, All, arith}
use Rattle.std.specs.Prelude.{◌↔◌, IfSome, IsSome, IsTrue}
use Rattle.std.specs.Option.{option_map}
use Rattle.std.proofs.lemmas.List.Elements.{All-nil, All-cons, All-append, All-push}
use Rattle.chess_model.specs.declared.man.Colour.{Colour}
use Rattle.chess_model.specs.Placement.{opposite}
use Rattle.fics_words.specs.declared.seats.Opponents.{Opponents}
use Rattle.fics_words.specs.Effect.{Effect, NoneHolds}
use Rattle.observer_feed.specs.declared.cursor.Cursor.{Cursor}
use Rattle.offer_book.specs.Offers.{OfferBook}
use Rattle.style12_writer.specs.declared.item.Item.{Item}
use Rattle.style12_writer.specs.declared.item.Item.TheVariants as item
use Rattle.style12_writer.specs.declared.view.BoardView.{BoardView}
use Rattle.style12_writer.specs.EndLine.{is_decisive}
use Rattle.game_board.specs.Board.{Board}
use Rattle.fics_words.specs.Boards.{board_number}
use Rattle.linked_desk.specs.declared.acts.DeskReply.{DeskReply}
use Rattle.linked_desk.specs.declared.ended.Ended.{Ended}
use Rattle.linked_desk.specs.Desk.{GameState, moment_at, occupant}
use Rattle.linked_desk.specs.Ends.{end_item, end_items, ended_by}
use Rattle.linked_desk.specs.Seats.{pairs_of}
use Rattle.linked_desk.specs.Sound.{FitsWhy, NamesWinner, IsSoundGame, TellsWinners}
use Rattle.linked_desk.specs.Views.{each_board, with_view, game_with_item}

-- a game that follows another one: they play in it who did, and under these conditions it is sound where that one is
pub record Follows (conditions : Type 0) (old new : GameState) : Type 0 where
  pub players : occupant new ≡ occupant old
  pub sound : conditions → IsSoundGame old → IsSoundGame new

-- the game after an act follows the one before, where the moment and the act's numbers fit and no cause of a refusal
-- holds; the act tells ends with their winners; and it may run out of memory only where it says so
pub record Keeps (g : GameState) (moment : ℕ) (fits : Type 0) (needs : Bool)
    (effect : Effect GameState DeskReply) : Type 0 where
  pub step : Follows ((moment ≤ 2 ^ 48) × fits × NoneHolds effect.causes) g effect.after
  pub tells : IsSoundGame g → TellsWinners effect.reply
  pub memory : effect.memory ≡ needs

-- a game stays sound in which nothing changes but what is told and offered, who looks on, and the moment
pub IsSound-later : (g : GameState) (feed : List Item) (viewers : List Cursor) (remarks last : ℕ) (offers : OfferBook)
    (tally : List ℕ) →
    g.last ≤ last → last ≤ 2 ^ 48 → All NamesWinner feed → IsSoundGame g →
    IsSoundGame
    (record g { feed = feed; viewers = viewers; remarks = remarks; last = last; offers = offers; tally = tally })
IsSound-later g feed viewers remarks last offers tally later moment winners s = record {
  seated = s.seated;
  boards = s.boards;
  going = s.going;
  order = omega (arith, s.order, later);
  moment = moment;
  winners = winners;
  ended = s.ended;
}

-- an act's moment is no earlier than that of the last act, and no later than the last one that the server knows
pub timely_at : (g : GameState) (moment : ℕ) → moment ≤ 2 ^ 48 → IsSoundGame g → moment_at g moment ≤ 2 ^ 48
timely_at g moment timely s = omega (arith, timely, s.moment)

-- what each board and its players have, the list of them has
pub All-each_board : {T : Type 0} (P : T → Type 0) (of : Opponents → Board → T) (pairs : List Opponents)
    (boards : List Board) →
    ((players : Opponents) (b : Board) → P (of players b)) → All P (each_board of pairs boards)
All-each_board P of [] boards h = All-nil P
All-each_board P of (players ∷ pairs) [] h = All-nil P
All-each_board P of (players ∷ pairs) (b ∷ boards) h =
    All-cons P (of players b) (each_board of pairs boards) (h players b) (All-each_board P of pairs boards h)

-- at the other board of a pair a winner is named exactly where one is named
names_other : (decisive : Bool) (winner : Option Colour) → (IsSome winner ↔ IsTrue decisive)
    → IsSome (option_map opposite winner) ↔ IsTrue decisive
names_other decisive None h = h
names_other decisive (Some c) h = h

names_by : (own decisive : Bool) (winner : Option Colour) → (IsSome winner ↔ IsTrue decisive) →
    IsSome (if own then winner else option_map opposite winner) ↔ IsTrue decisive
names_by true decisive winner h = h
names_by false decisive winner h = names_other decisive winner h

-- an end names its winner at each board
end_item-names : (desk : ℕ) (e : Ended) → FitsWhy e.why e.winner → (players : Opponents) (b : Board)
    → NamesWinner (end_item desk e players b)
end_item-names desk e h players b = names_by (b.number == board_number e.board) (is_decisive e.why) e.winner h

-- a game that has ended is sound, whatever stands on its boards
pub IsSound-over : (g : GameState) (e : Ended) → FitsWhy e.why e.winner → IsSoundGame g
    → IsSoundGame (record g { ended = Some e })
IsSound-over g e names s = record {
  seated = s.seated;
  boards = s.boards;
  going = λ runs. absurd cc;
  order = s.order;
  moment = s.moment;
  winners = s.winners;
  ended = names;
}

-- so it is once the end is told
pub IsSound-told_end : (desk : ℕ) (g : GameState) (moment : ℕ) (e : Ended) → FitsWhy e.why e.winner → moment ≤ 2 ^ 48 →
    IsSoundGame (record g { ended = Some e }) → IsSoundGame (ended_by desk g moment e)
IsSound-told_end desk g moment e names timely s =
    IsSound-later (record g { ended = Some e }) (g.feed ++ end_items desk g e) g.viewers g.remarks (moment_at g moment)
    g.offers g.tally (omega arith)
    (omega (arith, timely, s.moment))
    (All-append NamesWinner g.feed (end_items desk g e) s.winners
    (All-each_board NamesWinner (end_item desk e) (pairs_of g.seats) g.boards (end_item-names desk e names))) s

pub IsSound-ended_by : (desk : ℕ) (g : GameState) (moment : ℕ) (e : Ended) → FitsWhy e.why e.winner → moment ≤ 2 ^ 48
    → IsSoundGame g →
    IsSoundGame (ended_by desk g moment e)
IsSound-ended_by desk g moment e names timely s =
    IsSound-told_end desk g moment e names timely (IsSound-over g e names s)

-- ---- steps

module _ {conditions : Type 0} where
  -- nothing changes
  pub stays : {g : GameState} → Follows conditions g g
  stays = record { players = refl; sound = λ _ s. s }

  -- one step is made after the other
  pub and_then : {one two three : GameState} → Follows conditions one two → Follows conditions two three
      → Follows conditions one three
  and_then first second =
      record { players = second.players ∙ first.players; sound = λ c s. second.sound c (first.sound c s) }

  -- one who has no seat does nothing
  pub if_there : {g : GameState} (after : Option ℕ → GameState) (seat : Option ℕ) → Follows conditions g (after None) →
      ((number : ℕ) → Follows conditions g (after (Some number))) → Follows conditions g (after seat)
  if_there after None none some = none
  if_there after (Some number) none some = some number

  pub either : {g one another : GameState} (b : Bool) → Follows conditions g one → Follows conditions g another
      → Follows conditions g (if b then one else another)
  either true h k = h
  either false h k = k

  -- one item more that, if it is an end, names its winner
  pub item_follows : (g : GameState) (x : Option Item) → IfSome x NamesWinner
      → Follows conditions g (game_with_item g x)
  item_follows g None names = stays
  item_follows g (Some x) names = record {
    players = refl;
    sound = λ _ s.
        IsSound-later g (g.feed ++ x ∷ []) g.viewers g.remarks g.last g.offers g.tally (omega arith) s.moment
        (All-push NamesWinner g.feed x s.winners names) s;
  }

  pub view_follows : (g : GameState) (view : Option BoardView) → Follows conditions g (with_view g view)
  view_follows g None = stays
  view_follows g (Some view) = item_follows g (Some (item.Board view)) tt

module _ {conditions : Type 0} (g : GameState) (moment : ℕ) (timely : conditions → moment ≤ 2 ^ 48) where
  -- the game ends
  pub ended_follows : (desk : ℕ) (e : Ended) → FitsWhy e.why e.winner → Follows conditions g (ended_by desk g moment e)
  ended_follows desk e names =
      record { players = refl; sound = λ c s. IsSound-ended_by desk g moment e names (timely c) s }

  -- others look on
  pub viewers_follow : (viewers : List Cursor)
      → Follows conditions g (record g { viewers = viewers; last = moment_at g moment })
  viewers_follow viewers = record {
    players = refl;
    sound = λ c s.
        IsSound-later g g.feed viewers g.remarks (moment_at g moment) g.offers g.tally (omega arith)
        (timely_at g moment (timely c) s) s.winners s;
  }
