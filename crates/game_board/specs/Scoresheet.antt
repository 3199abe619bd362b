-- What the list of a board tells of the game, as a score sheet does: half-moves that were allowed, with times that
-- follow one another (FIDE 6.2: a clock runs while its player is to move; that the first half-move of each colour is
-- free is FICS's, and so is that half-moves may be taken back, after which the player to move thinks anew). A game that
-- was adjourned goes on with the times that were used (FIDE Laws, Guidelines I), and the player to move is thinking since
-- it was resumed.
use Rattle.std.specs.Prelude.{◌≡◌, ◌≢◌, ℕ, ◌+◌, ◌*◌, ◌≤◌, ◌↔◌, pos, ◌-ℤ◌, IsTrue, IfSome, IsSome, List, length, map, Some, slice_get}
use Rattle.std.specs.List.{sum_by}
use Rattle.chess_model.specs.declared.man.Colour.{Colour}
use Rattle.chess_model.specs.declared.variant.Terms.{Terms}
use Rattle.chess_model.specs.declared.variant.Variant.TheVariants.{Bughouse}
use Rattle.chess_model.specs.MoveList.{moves_of}
use Rattle.chess_model.specs.Allowed.{IsLegal}
use Rattle.clock_ledger.specs.Charges.{amount, AreStamps}
use Rattle.clock_ledger.specs.Clock.{start_of}
use Rattle.clock_ledger.specs.Span.{IsStamp}
use Rattle.game_board.specs.declared.played.Played.{Played}
use Rattle.game_board.specs.Board.{Board, half_moves}
use Rattle.game_board.specs.Charges.{charges_of, is_timed, remaining_of}

-- moments that don't fall
abbrev pub DontFall : List ℕ → Type 0
DontFall moments = (k i j : ℕ) → slice_get moments k ≡ Some i → slice_get moments (k + 1) ≡ Some j → i ≤ j

-- what is charged for the k-th half-move, counted from 0, where `moments` are the moment of the start and then that of
-- each half-move, and `since` those since which the player of each half-move was thinking. The first `resumed` half-moves
-- were made on another day, before the game was adjourned, and each came with the charge that it had then. Such a charge
-- promises that it stands where one belongs, doesn't end before it begins and has stamps for the client's times, so that
-- its amount comes off the clock as that of every other charge; its moments are those of the other day, and where they
-- lie beside the moments of this board isn't said
pub record IsCharged (terms : Terms) (resumed : ℕ) (since moments : List ℕ) (k : ℕ) (p : Played) : Type 0 where
  -- a charge stands exactly where the game is timed and the half-move isn't the first of its colour
  pub stands : IsSome p.charge ↔ (IsTrue (is_timed terms) × (2 ≤ k))
  -- it ends no earlier than it begins
  pub ordered : IfSome p.charge (λ c. c.begin ≤ c.end)
  -- of a half-move that was made on this board it begins at the moment since which the player was thinking, and ends at
  -- the half-move's own
  pub begins : resumed ≤ k → IfSome p.charge (λ c. slice_get since k ≡ Some c.begin)
  pub ends : resumed ≤ k → IfSome p.charge (λ c. slice_get moments (k + 1) ≡ Some c.end)
  -- where it keeps the client's two times, they are stamps
  pub stamped : IfSome p.charge (λ c. AreStamps c.client)

-- the list of a board is a true score of its game
pub record IsTrueScore (b : Board) : Type 0 where
  -- the moment of the start, and then that of each half-move of the list; that of one that came with its charge is the
  -- moment since which the player to move was thinking when it came
  pub moments : List ℕ
  pub each : length moments ≡ length b.list + 1
  pub dont_fall : DontFall moments
  -- the moment since which the player of each half-move was thinking, and then that since which the player to move is
  pub since : List ℕ
  pub of_each : length since ≡ length b.list + 1
  pub thinking : slice_get since (length b.list) ≡ Some b.begin
  -- it isn't before the moment of the half-move before, and not after the half-move's own
  pub not_before : (k i j : ℕ) → slice_get moments k ≡ Some i → slice_get since k ≡ Some j → i ≤ j
  pub not_after : (k i j : ℕ) → slice_get since k ≡ Some i → slice_get moments (k + 1) ≡ Some j → i ≤ j
  -- as many half-moves were played as the list has, and those that were taken back; where there is none of these, each
  -- player was thinking since the moment of the half-move before
  pub played : length b.list ≤ b.played
  pub unless_taken_back : b.played ≡ length b.list → since ≡ moments
  -- those that came with their charges are the first ones of the list
  pub resumed : b.resumed ≤ length b.list
  -- where the client has acknowledged the board since `b.begin`, it did so with a stamp
  pub kept : IfSome b.kept IsStamp
  pub charged : (k : ℕ) (p : Played) → slice_get b.list k ≡ Some p → IsCharged b.terms b.resumed since moments k p
  -- each half-move of the game, on all its boards, was allowed after those before it; the list has those of this board,
  -- and but in bughouse there are no others
  pub legal : IsLegal b.terms.variant b.all
  pub own : moves_of b.number b.all ≡ map (λ p. p.what) b.list
  pub alone : b.terms.variant ≢ Bughouse → b.all ≡ half_moves b.number b.list
  -- a clock shows the time at the start, and the increment for each charge of its colour, less the sum of these charges
  pub clocks : (c : Colour) → IsTrue (is_timed b.terms) →
      remaining_of b c
      ≡ (pos (start_of b.terms.minutes b.terms.increment + b.terms.increment * 1000 * length (charges_of c b.list))
      -ℤ pos (sum_by amount (charges_of c b.list)))
