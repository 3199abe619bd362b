use Rattle.std.proofs.Common.{◌≡◌, ◌+◌, List, ◌++◌, take, sym, ap, subst, ◌∙◌, arith}
use Rattle.std.specs.Prelude.{slice_get, Some}
use Rattle.std.proofs.lemmas.Option.{slice_get_within}
use Rattle.game_records.specs.declared.stored_game.Half.{Half}
use Rattle.examine_board.specs.Exam.{ExamState, boards_of_halves}
use Rattle.examine_board.specs.Laid.{MayLie}
use Rattle.examine_board.proofs.Stepping.{laid, lay_allowed, lay_board, lay_room, lay_short, next_first}
use Rattle.examine_board.proofs.exam.Exam.step.Goals as goal
use Rattle.desk_boards.proofs.Replayed.{chargeable}

pub lay-requires-clause-there : goal.lay-requires-clause-there
lay-requires-clause-there c =
    let i = c.self.inside in
    let lies =
    subst (λ (e : ExamState). MayLie e.terms (take i.point e.list) c.half-half.result) (sym c.self.view_is)
    c.half-half.ensures.lies in
    lay_board i.terms (take i.point (take i.shared i.stored ++ i.branch)) c.half-half.result c.in-Some.board i.boards
    (sym c.of.ensures ∙ c.in-Some.is) lies c.self.invariant.boards

pub lay-requires-clause-allowed : goal.lay-requires-clause-allowed
lay-requires-clause-allowed c =
    let i = c.self.inside in
    let lies =
    subst (λ (e : ExamState). MayLie e.terms (take i.point e.list) c.half-half.result) (sym c.self.view_is)
    c.half-half.ensures.lies in
    lay_allowed i.terms (take i.point (take i.shared i.stored ++ i.branch)) c.half-half.result c.in-Some.board i.boards
    (sym c.of.ensures ∙ c.in-Some.is) lies c.self.invariant.boards

pub lay-requires-clause-room : goal.lay-requires-clause-room
lay-requires-clause-room c =
    let i = c.self.inside in
    let lies =
    subst (λ (e : ExamState). MayLie e.terms (take i.point e.list) c.half-half.result) (sym c.self.view_is)
    c.half-half.ensures.lies in
    lay_room i.terms (take i.point (take i.shared i.stored ++ i.branch)) c.half-half.result c.in-Some.board i.boards
    (sym c.of.ensures ∙ c.in-Some.is) lies c.self.invariant.boards

pub lay-requires-clause-short : goal.lay-requires-clause-short
lay-requires-clause-short c =
    let i = c.self.inside in
    let lies =
    subst (λ (e : ExamState). MayLie e.terms (take i.point e.list) c.half-half.result) (sym c.self.view_is)
    c.half-half.ensures.lies in
    lay_short i.terms (take i.point (take i.shared i.stored ++ i.branch)) c.half-half.result c.in-Some.board i.boards
    (sym c.of.ensures ∙ c.in-Some.is) lies c.self.invariant.boards

pub lay-requires-clause-sound : goal.lay-requires-clause-sound
lay-requires-clause-sound c = chargeable c.half-half.result.charge c.half-half.ensures.lies.charge

pub invariant_of-self : goal.invariant_of-self
invariant_of-self c =
    let i = c.self.inside in
    let list : List Half = take i.shared i.stored ++ i.branch in
    let h : Half = c.half-half.result in
    let lies =
    subst (λ (e : ExamState). MayLie e.terms (take i.point e.list) h) (sym c.self.view_is) c.half-half.ensures.lies in
    let there : slice_get list i.point ≡ Some h =
    subst (λ (e : ExamState). slice_get e.list i.point ≡ Some h) (sym c.self.view_is) c.half-half.ensures.half in
    let new =
    laid i.terms (take i.point list) h c.in-Some.board i.boards (sym c.of.ensures ∙ c.in-Some.is) lies
    c.self.invariant.boards c.lay.new.self c.lay.ensures.after in
    let low = slice_get_within list i.point h there in
    record {
      shared = c.self.invariant.shared;
      few = c.self.invariant.few;
      point = omega (arith, low);
      boards = new ∙ ap (boards_of_halves i.terms) (next_first list i.point h there);
      stored = c.self.invariant.stored;
      list = c.self.invariant.list;
      names = c.self.invariant.names;
    }

pub returns : goal.returns
returns c = ap (λ (e : ExamState). record e { point = e.point + 1 }) c.self.view_is
