use Rattle.std.proofs.Common.{◌≡◌, ◌∷◌, [], true, sym, ap, subst, ◌∙◌}
use Rattle.std.specs.Option.{option_copied, option_to_list}
use Rattle.chess_model.specs.Tests.{has_drops}
use Rattle.examine_board.specs.Exam.{ExamState, boards_of_halves, present}
use Rattle.examine_board.proofs.Shown.{hands_of_one, hands_of_two}
use Rattle.examine_board.proofs.exam.Exam.put_hands.Goals as goal

pub returns-in_ok-push-2 : goal.returns-in_ok-push-2
returns-in_ok-push-2 c =
    let e = c.args.self.now in
    let has : has_drops c.self.inside.terms.variant ≡ true = sym c.has_drops.ensures ∙ c.if-not-has_drops.false in
    let both : c.both.result.0.now ∷ c.in-Some.second.now ∷ [] ≡ boards_of_halves e.terms (present e) =
    subst (λ (x : ExamState). c.both.result.0.now ∷ c.in-Some.second.now ∷ [] ≡ boards_of_halves x.terms (present x))
    c.self.view_is
    (ap (λ o. c.both.result.0.now ∷ option_to_list (option_copied o)) (sym c.in-Some.is) ∙ sym c.both.ensures
    ∙ c.self.invariant.boards) in
    hands_of_two e c.args.lines.now c.push.new.self c.push-in-Some.new.self c.in_ok-hands_line.field-0
    c.in_ok-hands_line-2.field-0 c.both.result.0.now c.in-Some.second.now both
    (subst (λ (x : ExamState). has_drops x.terms.variant ≡ true) c.self.view_is has) c.in_ok-hands_line.ensures
    c.in_ok-hands_line-2.ensures c.in_ok-push.ensures.ok c.in_ok-push-2.ensures.ok

pub returns-in_default : goal.returns-in_default
returns-in_default c =
    let e = c.args.self.now in
    let has : has_drops c.self.inside.terms.variant ≡ true = sym c.has_drops.ensures ∙ c.if-not-has_drops.false in
    let one : c.both.result.0.now ∷ [] ≡ boards_of_halves e.terms (present e) =
    subst (λ (x : ExamState). c.both.result.0.now ∷ [] ≡ boards_of_halves x.terms (present x)) c.self.view_is
    (ap (λ o. c.both.result.0.now ∷ option_to_list (option_copied o)) (sym c.in_default.is) ∙ sym c.both.ensures
    ∙ c.self.invariant.boards) in
    hands_of_one e c.args.lines.now c.push.new.self c.in_ok-hands_line.field-0 c.both.result.0.now one
    (subst (λ (x : ExamState). has_drops x.terms.variant ≡ true) c.self.view_is has) c.in_ok-hands_line.ensures
    c.in_ok-push.ensures.ok
