-- What holds of the game at a desk in every state.
use Rattle.std.specs.Prelude.{◌≡◌, ◌≤◌, ◌↔◌, IsSome, IsTrue, IfSome, All, Option, None, Result, Ok, Err}
use Rattle.clock_ledger.specs.Charges.{last_moment}
use Rattle.chess_model.specs.declared.man.Colour.{Colour}
use Rattle.chess_model.specs.declared.why.Why.{Why}
use Rattle.fics_words.specs.declared.refusal.Refusal.{Refusal}
use Rattle.style12_writer.specs.declared.item.Item.{Item}
use Rattle.style12_writer.specs.declared.item.Item.TheVariants.{End}
use Rattle.style12_writer.specs.EndLine.{is_decisive}
use Rattle.linked_desk.specs.declared.acts.DeskReply.{DeskReply}
use Rattle.linked_desk.specs.declared.acts.DeskReply.TheVariants.{Done, Items}
use Rattle.desk_boards.specs.Boards.{latest}
use Rattle.desk_boards.specs.Sound.{AreSoundBoards, GoOn}
use Rattle.linked_desk.specs.Desk.{GameState, DeskState}
use Rattle.linked_desk.specs.Seating.{MayPlay}

-- a winner is named exactly where a game that ends so is won by somebody
abbrev pub FitsWhy : Why → Option Colour → Type 0
FitsWhy why winner = IsSome winner ↔ IsTrue (is_decisive why)

-- an end that is told names its winner
abbrev pub NamesWinner : Item → Type 0
NamesWinner (End view why winner own) = FitsWhy why winner
NamesWinner _ = Unit {0}

-- what holds of a game
pub record IsSoundGame (g : GameState) : Type 0 where
  -- these players may play on these terms
  pub seated : MayPlay g.terms g.seats
  -- the boards are those of such a game: each list is a true score, and the half-moves of all can be played again
  pub boards : AreSoundBoards g.terms g.boards
  -- while the game runs no board is at an end
  pub going : g.ended ≡ None → GoOn g.boards
  -- nobody is thinking from a moment later than that of the last act, which was no later than the server's last moment
  pub order : latest g.boards ≤ g.last
  pub moment : g.last ≤ last_moment
  -- each end in the feed names its winner
  pub winners : All NamesWinner g.feed
  pub ended : IfSome g.ended (λ e. FitsWhy e.why e.winner)

-- and so for the game at a desk, if there is one
abbrev pub HasSoundGame : DeskState → Type 0
HasSoundGame d = IfSome d.game IsSoundGame

-- each end that a reply tells names its winner
abbrev pub TellsWinners : DeskReply → Type 0
TellsWinners (Items items over) = All NamesWinner items
TellsWinners Done = Unit {0}

-- and so an answer
abbrev pub AnswersSoundly : Result DeskReply Refusal → Type 0
AnswersSoundly (Ok reply) = TellsWinners reply
AnswersSoundly (Err cause) = Unit {0}
