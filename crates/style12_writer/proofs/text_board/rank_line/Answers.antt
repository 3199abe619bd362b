use Rattle.std.proofs.Common.{List, ℕ, ◌++◌, ◌∙◌, ap}
use Rattle.style12_writer.specs.Board.{rank_text}
use Rattle.style12_writer.proofs.text_board.rank_line.Goals as goal

pub returns : goal.returns
returns c =
    let written =
    c.put_squares.ensures.text
    ∙ ap (λ (front : List ℕ). front ++ rank_text c.args.men.now c.args.rank) c.new-line.ensures in
    rw written at c.finish.ensures
