use Rattle.std.proofs.Common.{◌≡◌, ◌++◌, true, false, take, sym, ap, subst, ◌∙◌}
use Rattle.chess_model.specs.Result.{result, is_end}
use Rattle.game_board.specs.Board.{Board, position_of}
use Rattle.game_board.specs.Play.{move_answer}
use Rattle.fics_words.specs.declared.board_number.BoardNumber.TheVariants.{First}
use Rattle.examine_board.specs.Exam.{ExamState, board_on}
use Rattle.examine_board.specs.Play.{is_pair, position}
use Rattle.examine_board.proofs.Words.{Going, answer_over, answer_pair, first_is, going, going_answer, going_lies, going_room, position_is}
use Rattle.examine_board.proofs.exam.Exam.resolve.Goals as goal

pub returns-then-is_pair-clause-answer : goal.returns-then-is_pair-clause-answer
returns-then-is_pair-clause-answer c =
    let i = c.self.inside in
    let pair : is_pair i.terms.variant ≡ true = sym c.is_pair.ensures ∙ c.if-is_pair.true in
    answer_pair c.args.self.now c.args.word.now
    (subst (λ (e : ExamState). is_pair e.terms.variant ≡ true) c.self.view_is pair)

pub returns-then-is_end-clause-answer : goal.returns-then-is_end-clause-answer
returns-then-is_end-clause-answer c =
    let i = c.self.inside in
    let e = c.args.self.now in
    let b : Board = c.both.result.0.now in
    let single : is_pair i.terms.variant ≡ false = sym c.is_pair.ensures ∙ c.if-is_pair.false in
    let is : b ≡ board_on e First =
    subst (λ (x : ExamState). b ≡ board_on x First) c.self.view_is
    (first_is i.terms (take i.point (take i.shared i.stored ++ i.branch)) b _
    (sym c.both.ensures ∙ c.self.invariant.boards)) in
    let over : is_end (result (position e)) ≡ true =
    ap (λ p. is_end (result p)) (sym (position_is e b is)) ∙ ap is_end (sym c.state.ensures) ∙ sym c.is_end.ensures
    ∙ c.if-is_end.true in
    answer_over e c.args.word.now (subst (λ (x : ExamState). is_pair x.terms.variant ≡ false) c.self.view_is single)
    over

pub returns-clause-answer : goal.returns-clause-answer
returns-clause-answer c =
    let i = c.self.inside in
    let b : Board = c.both.result.0.now in
    let v : ExamState =
    record {
      terms = i.terms;
      names = i.names;
      stored = i.stored;
      list = take i.shared i.stored ++ i.branch;
      point = i.point;
    } in
    let single : is_pair i.terms.variant ≡ false = sym c.is_pair.ensures ∙ c.if-is_pair.false in
    let on : is_end (result (position_of b)) ≡ false =
    ap is_end (sym c.state.ensures) ∙ sym c.is_end.ensures ∙ c.if-is_end.false in
    let g =
    subst (λ (x : ExamState). Going x b) c.self.view_is
    (going v b _ single on (sym c.both.ensures ∙ c.self.invariant.boards) c.self.invariant.list
    c.self.invariant.point) in
    c.resolve.ensures.answer ∙ ap (λ k. move_answer b k c.args.word.now) c.to_move.ensures
    ∙ going_answer c.args.self.now c.args.word.now b g

pub returns-clause-lies : goal.returns-clause-lies
returns-clause-lies c =
    let i = c.self.inside in
    let b : Board = c.both.result.0.now in
    let v : ExamState =
    record {
      terms = i.terms;
      names = i.names;
      stored = i.stored;
      list = take i.shared i.stored ++ i.branch;
      point = i.point;
    } in
    let single : is_pair i.terms.variant ≡ false = sym c.is_pair.ensures ∙ c.if-is_pair.false in
    let on : is_end (result (position_of b)) ≡ false =
    ap is_end (sym c.state.ensures) ∙ sym c.is_end.ensures ∙ c.if-is_end.false in
    let g =
    subst (λ (x : ExamState). Going x b) c.self.view_is
    (going v b _ single on (sym c.both.ensures ∙ c.self.invariant.boards) c.self.invariant.list
    c.self.invariant.point) in
    going_lies c.args.self.now b c.resolve.result g c.resolve.ensures.allowed c.resolve.ensures.short

pub returns-clause-room : goal.returns-clause-room
returns-clause-room c =
    let i = c.self.inside in
    let b : Board = c.both.result.0.now in
    let v : ExamState =
    record {
      terms = i.terms;
      names = i.names;
      stored = i.stored;
      list = take i.shared i.stored ++ i.branch;
      point = i.point;
    } in
    let single : is_pair i.terms.variant ≡ false = sym c.is_pair.ensures ∙ c.if-is_pair.false in
    let on : is_end (result (position_of b)) ≡ false =
    ap is_end (sym c.state.ensures) ∙ sym c.is_end.ensures ∙ c.if-is_end.false in
    let g =
    subst (λ (x : ExamState). Going x b) c.self.view_is
    (going v b _ single on (sym c.both.ensures ∙ c.self.invariant.boards) c.self.invariant.list
    c.self.invariant.point) in
    going_room c.args.self.now b c.resolve.result g c.resolve.ensures.short
