use Rattle.std.proofs.Common.{List, ap, ◌∙◌, arith, ◌++◌, take}
use Rattle.std.specs.Prelude.{map}
use Rattle.game_board.specs.Board.{Board}
use Rattle.game_board.specs.Rewind.{rewound}
use Rattle.examine_board.specs.Exam.{ExamState}
use Rattle.examine_board.proofs.Boards.{boards_rewound}
use Rattle.examine_board.proofs.exam.Exam.rewind.Goals as goal

pub invariant_of-self : goal.invariant_of-self
invariant_of-self c =
    let i = c.self.inside in
    record {
      shared = c.self.invariant.shared;
      few = c.self.invariant.few;
      point = omega arith;
      boards =
          c.rewind.ensures ∙ ap (λ (bs : List Board). map rewound bs) c.self.invariant.boards
          ∙ boards_rewound i.terms (take i.point (take i.shared i.stored ++ i.branch));
      stored = c.self.invariant.stored;
      list = c.self.invariant.list;
      names = c.self.invariant.names;
    }

pub returns : goal.returns
returns c = ap (λ (e : ExamState). record e { point = 0 }) c.self.view_is
