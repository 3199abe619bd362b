use Rattle.std.proofs.Common.{◌≡◌, ℕ, ◌≤◌, length, take, sym, ap, subst, ◌∙◌}
use Rattle.examine_board.specs.Exam.{ExamState, present}
use Rattle.examine_board.specs.Same.{shared_length}
use Rattle.examine_board.proofs.Shared.{shared_low, shared_same, shared_within}
use Rattle.examine_board.proofs.exam.Exam.revert.Goals as goal

pub go_back-requires : goal.go_back-requires
go_back-requires c = subst (λ (k : ℕ). k ≤ c.args.self.now.point) (sym c.kept-kept.ensures) (shared_low c.args.self.now)

pub drop_branch-requires-clause-within : goal.drop_branch-requires-clause-within
drop_branch-requires-clause-within c =
    let e = c.args.self.now in
    let there : c.go_back.new.self ≡ record e { point = shared_length (present e) e.stored } =
    c.go_back.ensures ∙ ap (λ (k : ℕ). record e { point = k }) c.kept-kept.ensures in
    subst (λ (x : ExamState). x.point ≤ length x.stored) (sym there) (shared_within e)

pub drop_branch-requires-clause-same : goal.drop_branch-requires-clause-same
drop_branch-requires-clause-same c =
    let e = c.args.self.now in
    let there : c.go_back.new.self ≡ record e { point = shared_length (present e) e.stored } =
    c.go_back.ensures ∙ ap (λ (k : ℕ). record e { point = k }) c.kept-kept.ensures in
    subst (λ (x : ExamState). present x ≡ take x.point x.stored) (sym there) (shared_same e)
