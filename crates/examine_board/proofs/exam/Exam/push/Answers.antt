use Rattle.std.proofs.Common.{◌≡◌, ◌++◌, ◌∷◌, [], List, length, take, sym, ap, subst, ◌∙◌, arith, append_assoc, length-append}
use Rattle.std.proofs.lemmas.List.{take-append-le}
use Rattle.game_records.specs.declared.stored_game.Half.{Half}
use Rattle.examine_board.specs.Exam.{ExamState, boards_of_halves}
use Rattle.examine_board.specs.Laid.{CanBeLaid, MayLie}
use Rattle.examine_board.specs.Play.{uncharged}
use Rattle.examine_board.proofs.Laying.{CanBeLaid-more}
use Rattle.examine_board.proofs.exam.Exam.push.Goals as goal

pub push-requires : goal.push-requires
push-requires c =
    let i = c.self.inside in
    let many : length (take i.shared i.stored ++ i.branch) ≡ length c.args.self.now.list =
    ap (λ (e : ExamState). length e.list) c.self.view_is in
    omega (arith, many, c.requires.room, length-append (take i.shared i.stored) i.branch)

pub invariant_of-self : goal.invariant_of-self
invariant_of-self c =
    let i = c.self.inside in
    let h : Half = uncharged c.args.what in
    let list : List Half = take i.shared i.stored ++ i.branch in
    let longer : take i.shared i.stored ++ c.push.new.self ≡ list ++ h ∷ [] =
    ap (λ (l : List Half). take i.shared i.stored ++ l) c.push.ensures
    ∙ sym (append_assoc (take i.shared i.stored) i.branch (h ∷ [])) in
    let lies : MayLie i.terms list h =
    subst (λ (e : ExamState). MayLie e.terms e.list h) (sym c.self.view_is) c.requires.lies in
    let many = ap length longer ∙ length-append list (h ∷ []) in
    record {
      shared = c.self.invariant.shared;
      few = c.self.invariant.few;
      point = omega (arith, many, c.self.invariant.point);
      boards =
          c.self.invariant.boards
          ∙ ap (boards_of_halves i.terms)
          (sym (take-append-le i.point list (h ∷ []) c.self.invariant.point) ∙ ap (take i.point) (sym longer));
      stored = c.self.invariant.stored;
      list = subst (CanBeLaid i.terms) (sym longer) (CanBeLaid-more i.terms list h c.self.invariant.list lies);
      names = c.self.invariant.names;
    }

pub returns : goal.returns
returns c =
    let i = c.self.inside in
    let h : Half = uncharged c.args.what in
    let longer : take i.shared i.stored ++ c.push.new.self ≡ (take i.shared i.stored ++ i.branch) ++ h ∷ [] =
    ap (λ (l : List Half). take i.shared i.stored ++ l) c.push.ensures
    ∙ sym (append_assoc (take i.shared i.stored) i.branch (h ∷ [])) in
    (λ j. record { terms = i.terms; names = i.names; stored = i.stored; list = longer j; point = i.point })
    ∙ ap (λ (e : ExamState). record e { list = e.list ++ h ∷ [] }) c.self.view_is
