use Rattle.std.proofs.Common.{◌≡◌, ℕ, ◌%◌, ◌==◌, if◌then◌else◌, ap, arith}
use Rattle.fics_words.specs.Boards.{board_number}
use Rattle.fics_words.specs.declared.board_number.BoardNumber.{BoardNumber}
use Rattle.fics_words.specs.declared.board_number.BoardNumber.TheVariants.{First, Second}
use Rattle.linked_desk.specs.Desk.{game_number}
use Rattle.linked_desk.specs.Sight.{board_shown_as}
use Rattle.linked_desk.proofs.laws.boards_are_known_by_their_games.Goals as goal

known : (desk : ℕ) (board : BoardNumber) → board_shown_as (game_number desk (board_number board)) ≡ board
known desk First =
    let odd : game_number desk 1 % 2 ≡ 1 = omega arith in ap (λ (n : ℕ). if n == 0 then Second else First) odd
known desk Second =
    let even : game_number desk 2 % 2 ≡ 0 = omega arith in ap (λ (n : ℕ). if n == 0 then Second else First) even

pub returns : goal.returns
returns c = known
