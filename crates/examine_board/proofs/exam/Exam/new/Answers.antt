use Rattle.std.proofs.Common.{ap, refl, ◌∙◌}
use Rattle.desk_boards.specs.Boards.{new_boards}
use Rattle.examine_board.proofs.Held.{holds_opened}
use Rattle.examine_board.proofs.exam.Exam.new.Goals as goal

pub invariant_of-result : goal.invariant_of-result
invariant_of-result c =
    holds_opened c.args.game.now _ c.requires refl (c.in_ok-names.ensures ∙ c.as_slice.ensures)
    (c.in_ok-stored.ensures ∙ c.as_slice-2.ensures) c.len-shared.ensures c.in_ok-branch.ensures refl
    (c.in_ok-boards.ensures.boards ∙ ap (new_boards c.args.game.now.terms) c.new-2.ensures)
