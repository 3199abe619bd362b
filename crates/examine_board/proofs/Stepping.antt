-- The next half-move of an exam is laid on the boards.
use Rattle.std.proofs.Common.{◌≡◌, ℕ, ◌+◌, ◌<◌, ◌≤◌, List, [], ◌∷◌, ◌++◌, length, take, Option, Some, None, refl, sym, ap, subst, ◌∙◌, add-one}
use Rattle.std.specs.Prelude.{IfSome, IsSome, slice_get}
use Rattle.chess_model.specs.declared.variant.Terms.{Terms}
use Rattle.chess_model.specs.Allowed.{Allowed}
use Rattle.game_board.specs.Board.{Board, position_of}
use Rattle.game_records.specs.declared.stored_game.Half.{Half}
use Rattle.fics_words.specs.Boards.{board_number, numbered_board, board_place}
use Rattle.fics_words.specs.declared.board_number.BoardNumber.{BoardNumber}
use Rattle.desk_boards.specs.Halves.{played_of}
use Rattle.desk_boards.specs.Replaying.{boards_put}
use Rattle.desk_boards.proofs.Pairs.{number_of-numbered}
use Rattle.game_records.specs.Bounds as bounds
use Rattle.examine_board.specs.Exam.{board_after, boards_of_halves}
use Rattle.examine_board.specs.Laid.{MayLie}
use Rattle.examine_board.proofs.Boards.{board_there, boards_laid}
use Rattle.examine_board.proofs.Lists.{take-next}

there_some : (o : Option Board) (b : Board) → o ≡ Some b → IsSome o
there_some None b e = cc
there_some (Some a) b e = refl

there_if : (P : Board → Type 0) (o : Option Board) (b : Board) → o ≡ Some b → P b → IfSome o P
there_if P o b e p = subst (λ (x : Option Board). IfSome x P) (sym e) p

allowed_on : (t : Terms) (halves : List Half) (h : Half) → MayLie t halves h
    → Allowed (position_of (board_after t halves h.board)) h.what
unfolding position_of
allowed_on t halves h lies = lies.allowed

module _ (t : Terms) (halves : List Half) (h : Half) (board : BoardNumber) (boards : List Board)
    (on : numbered_board h.board ≡ Some board) (lies : MayLie t halves h)
    (are : boards ≡ boards_of_halves t halves) where
  own : board_number board ≡ h.board
  own = number_of-numbered h.board board on

  there : slice_get boards (board_place board) ≡ Some (board_after t halves h.board)
  there =
      ap (λ (bs : List Board). slice_get bs (board_place board)) are
      ∙ board_there t halves board (subst (λ (n : ℕ). n ≤ bounds.boards t.variant) (sym own) lies.last)
      ∙ ap (λ (n : ℕ). Some (board_after t halves n)) own

  pub lay_board : IsSome (slice_get boards (board_place board))
  lay_board = there_some (slice_get boards (board_place board)) (board_after t halves h.board) there

  pub lay_allowed : IfSome (slice_get boards (board_place board)) (λ b. Allowed (position_of b) h.what)
  lay_allowed =
      there_if (λ b. Allowed (position_of b) h.what) (slice_get boards (board_place board))
      (board_after t halves h.board)
      there (allowed_on t halves h lies)

  pub lay_room : IfSome (slice_get boards (board_place board)) (λ b. b.played < 1200)
  lay_room =
      there_if (λ b. b.played < 1200) (slice_get boards (board_place board)) (board_after t halves h.board) there
      lies.room

  pub lay_short : IfSome (slice_get boards (board_place board)) (λ b. length b.list < 1200)
  lay_short =
      there_if (λ b. length b.list < 1200) (slice_get boards (board_place board)) (board_after t halves h.board) there
      lies.room

  pub laid : (new : List Board) → new ≡ boards_put boards board (played_of h)
      → new ≡ boards_of_halves t (halves ++ h ∷ [])
  laid new put =
      put ∙ ap (λ (bs : List Board). boards_put bs board (played_of h)) are
      ∙ boards_laid t halves h board (sym own) lies.last

-- the first half-moves with the next one
pub next_first : (list : List Half) (point : ℕ) (h : Half) → slice_get list point ≡ Some h
    → take point list ++ h ∷ [] ≡ take (point + 1) list
next_first list point h there = sym (take-next point list h there) ∙ ap (λ k. take k list) (sym (add-one point))
