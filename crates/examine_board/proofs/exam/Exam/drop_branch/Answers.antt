use Rattle.std.proofs.Common.{◌≡◌, ◌≤◌, ◌++◌, length, take, sym, ap, subst, ◌∙◌, arith}
use Rattle.examine_board.specs.Exam.{ExamState, boards_of_halves, present}
use Rattle.examine_board.specs.Laid.{CanBeLaid}
use Rattle.examine_board.proofs.Held.{whole}
use Rattle.examine_board.proofs.exam.Exam.drop_branch.Goals as goal

pub invariant_of-self : goal.invariant_of-self
invariant_of-self c =
    let i = c.self.inside in
    let shared = c.len-self-inside.ensures in
    let all : take c.len-self-inside.result i.stored ++ c.truncate.new.self ≡ i.stored =
    (λ j. take (shared j) i.stored ++ c.truncate.ensures j) ∙ whole i.stored in
    let within : i.point ≤ length i.stored =
    subst (λ (e : ExamState). e.point ≤ length e.stored) (sym c.self.view_is) c.requires.within in
    let same : take i.point (take i.shared i.stored ++ i.branch) ≡ take i.point i.stored =
    subst (λ (e : ExamState). present e ≡ take e.point e.stored) (sym c.self.view_is) c.requires.same in
    let many = ap length all in
    record {
      shared = omega (arith, shared);
      few = c.self.invariant.few;
      point = omega (arith, within, many);
      boards = c.self.invariant.boards ∙ ap (boards_of_halves i.terms) (same ∙ ap (take i.point) (sym all));
      stored = c.self.invariant.stored;
      list = subst (CanBeLaid i.terms) (sym all) c.self.invariant.stored;
      names = c.self.invariant.names;
    }

pub returns : goal.returns
returns c =
    let i = c.self.inside in
    let all : take c.len-self-inside.result i.stored ++ c.truncate.new.self ≡ i.stored =
    (λ j. take (c.len-self-inside.ensures j) i.stored ++ c.truncate.ensures j) ∙ whole i.stored in
    (λ j. record { terms = i.terms; names = i.names; stored = i.stored; list = all j; point = i.point })
    ∙ ap (λ (e : ExamState). record e { list = e.stored }) c.self.view_is
