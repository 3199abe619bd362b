use Rattle.std.proofs.Common.{◌≡◌, ◌++◌, List, take, ap, ◌∙◌, arith}
use Rattle.game_records.specs.declared.stored_game.Half.{Half}
use Rattle.examine_board.specs.Exam.{ExamState, present}
use Rattle.examine_board.proofs.Held.{cut_here, cut_there, is_cut}
use Rattle.examine_board.proofs.exam.Exam.cut.Goals as goal

pub invariant_of-self : goal.invariant_of-self
invariant_of-self c =
    let i = c.self.inside in
    let list : List Half = take i.shared i.stored ++ i.branch in
    let left : List Half = take i.point i.stored ++ c.truncate.new.self in
    let cut =
    is_cut i.terms i.boards list left i.point c.self.invariant.point c.self.invariant.boards c.self.invariant.list
    (cut_here i.shared i.point i.stored i.branch c.truncate.new.self c.self.invariant.shared c.if-self.true
    c.truncate.ensures) in
    record {
      shared = omega (arith, c.self.invariant.shared, c.if-self.true);
      few = c.self.invariant.few;
      point = cut.within;
      boards = cut.are;
      stored = c.self.invariant.stored;
      list = cut.laid;
      names = c.self.invariant.names;
    }

pub invariant_of-self-2 : goal.invariant_of-self-2
invariant_of-self-2 c =
    let i = c.self.inside in
    let list : List Half = take i.shared i.stored ++ i.branch in
    let left : List Half = take i.shared i.stored ++ c.truncate-2.new.self in
    let cut =
    is_cut i.terms i.boards list left i.point c.self.invariant.point c.self.invariant.boards c.self.invariant.list
    (cut_there i.shared i.point i.stored i.branch c.truncate-2.new.self c.self.invariant.shared
    (omega (arith, c.if-self.false)) c.truncate-2.ensures) in
    record {
      shared = c.self.invariant.shared;
      few = c.self.invariant.few;
      point = cut.within;
      boards = cut.are;
      stored = c.self.invariant.stored;
      list = cut.laid;
      names = c.self.invariant.names;
    }

pub returns-clause-after : goal.returns-clause-after
returns-clause-after c =
    let i = c.self.inside in
    let left : take i.shared i.stored ++ c.truncate-2.new.self ≡ take i.point (take i.shared i.stored ++ i.branch) =
    cut_there i.shared i.point i.stored i.branch c.truncate-2.new.self c.self.invariant.shared
    (omega (arith, c.if-self.false)) c.truncate-2.ensures in
    (λ j. record { terms = i.terms; names = i.names; stored = i.stored; list = left j; point = i.point })
    ∙ ap (λ (e : ExamState). record e { list = present e }) c.self.view_is

pub returns-then-self-clause-end : goal.returns-then-self-clause-end
returns-then-self-clause-end c =
    let i = c.self.inside in
    let list : List Half = take i.shared i.stored ++ i.branch in
    let left : List Half = take i.point i.stored ++ c.truncate.new.self in
    let cut =
    is_cut i.terms i.boards list left i.point c.self.invariant.point c.self.invariant.boards c.self.invariant.list
    (cut_here i.shared i.point i.stored i.branch c.truncate.new.self c.self.invariant.shared c.if-self.true
    c.truncate.ensures) in
    cut.end

pub returns-clause-end : goal.returns-clause-end
returns-clause-end c =
    let i = c.self.inside in
    let list : List Half = take i.shared i.stored ++ i.branch in
    let left : List Half = take i.shared i.stored ++ c.truncate-2.new.self in
    let cut =
    is_cut i.terms i.boards list left i.point c.self.invariant.point c.self.invariant.boards c.self.invariant.list
    (cut_there i.shared i.point i.stored i.branch c.truncate-2.new.self c.self.invariant.shared
    (omega (arith, c.if-self.false)) c.truncate-2.ensures) in
    cut.end
