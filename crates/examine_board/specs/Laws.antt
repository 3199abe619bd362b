-- What the definitions mean for who examines a game.
use Rattle.std.specs.Prelude.{◌≡◌, ℕ, ◌≤◌, List, length, Ok}
use Rattle.game_records.specs.declared.stored_game.Half.{Half}
use Rattle.examine_board.specs.Exam.{ExamState}
use Rattle.examine_board.specs.Same.{Share, shared_length}
use Rattle.examine_board.specs.Steps.{backed, forwarded}

pub record StepsAreUndone : Type 0 where
  -- n back after n forward is where the exam was
  pub back : (e after : ExamState) (n : ℕ) → forwarded e n ≡ Ok after → backed after n ≡ Ok e
  -- and so is n forward after n back; no more half-moves are on the boards than are looked at
  pub forward : (e after : ExamState) (n : ℕ) → e.point ≤ length e.list → backed e n ≡ Ok after →
      forwarded after n ≡ Ok e
  -- neither changes the half-moves
  pub forward_keeps : (e after : ExamState) (n : ℕ) → forwarded e n ≡ Ok after → after.list ≡ e.list
  pub back_keeps : (e after : ExamState) (n : ℕ) → backed e n ≡ Ok after → after.list ≡ e.list

pub record KeepsTheMost : Type 0 where
  -- two lists share as many half-moves as that, from the first one on
  pub shared : (halves others : List Half) → Share halves others (shared_length halves others)
  -- and no more
  pub most : (halves others : List Half) (n : ℕ) → Share halves others n → n ≤ shared_length halves others
