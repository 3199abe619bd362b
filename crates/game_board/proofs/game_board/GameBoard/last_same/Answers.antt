use Rattle.std.proofs.Common.{◌≡◌, ◌≢◌, ◌-◌, ◌<◌, inl, inr, true, false, List, length, Some, get_or, sym, ap, subst, ◌∙◌, arith}
use Rattle.std.specs.Prelude.{slice_get}
use Rattle.std.proofs.lemmas.Bool.{cases_eq}
use Rattle.std.proofs.lemmas.Option.{slice_get-get_or}
use Rattle.chess_model.specs.declared.variant.Variant.TheVariants.{Bughouse}
use Rattle.chess_model.specs.Position.{Position}
use Rattle.chess_model.specs.Claims.{same_position}
use Rattle.variant_rules.specs.Undos.{IsUndoOf}
use Rattle.game_board.specs.declared.played.Step.{Step}
use Rattle.game_board.specs.Board.{Board, position_of}
use Rattle.game_board.specs.Steps.{position_at, AreSteps}
use Rattle.variant_rules.proofs.SquareTests.{unlike}
use Rattle.game_board.proofs.Steps.{undo_at}
use Rattle.game_board.proofs.game_board.GameBoard.last_same.Goals as goal
use Rattle.game_board.proofs.Thirds.{not_pair}

pub unmake-requires : goal.unmake-requires
unmake-requires c =
    let b = c.args.self.now in
    let i = c.self.inside in
    let k = c.loop-k.k in
    let step : Step = get_or c.as_slice.result.now (k - 1) c.index-as_slice-k.result in
    let all : AreSteps b.terms.variant b.number b.list i.steps =
    subst (λ (x : Board). x.terms.variant ≢ Bughouse → AreSteps x.terms.variant x.number x.list i.steps) c.self.view_is
    c.self.invariant.steps (not_pair b.terms.variant c.requires.claims) in
    let within : k - 1 < length c.as_slice.result.now =
    omega (
      arith,
      ap length c.as_slice.ensures.items,
      all.each,
      c.requires.within,
      c.loop-k.invariant.within,
      c.loop-k-test.true,
    ) in
    let kept : slice_get i.steps (k - 1) ≡ Some step =
    ap (λ (l : List Step). slice_get l (k - 1)) (sym c.as_slice.ensures.items)
    ∙ slice_get-get_or c.as_slice.result.now (k - 1) c.index-as_slice-k.result within in (
      position_at b.terms.variant b.number b.list (k - 1),
      undo_at b.terms.variant b.number b.list i.steps k step c.loop-k.past all (omega (arith, c.loop-k-test.true)) kept
          c.loop-k.invariant.past,
    )

pub returns-then-is_same_position-clause-found : goal.returns-then-is_same_position-clause-found
returns-then-is_same_position-clause-found c =
    let b = c.args.self.now in
    let i = c.self.inside in
    let k = c.loop-k.k in
    let step : Step = get_or c.as_slice.result.now (k - 1) c.index-as_slice-k.result in
    let all : AreSteps b.terms.variant b.number b.list i.steps =
    subst (λ (x : Board). x.terms.variant ≢ Bughouse → AreSteps x.terms.variant x.number x.list i.steps) c.self.view_is
    c.self.invariant.steps (not_pair b.terms.variant c.requires.claims) in
    let within : k - 1 < length c.as_slice.result.now =
    omega (
      arith,
      ap length c.as_slice.ensures.items,
      all.each,
      c.requires.within,
      c.loop-k.invariant.within,
      c.loop-k-test.true,
    ) in
    let kept : slice_get i.steps (k - 1) ≡ Some step =
    ap (λ (l : List Step). slice_get l (k - 1)) (sym c.as_slice.ensures.items)
    ∙ slice_get-get_or c.as_slice.result.now (k - 1) c.index-as_slice-k.result within in
    let undo : IsUndoOf step.undo (position_at b.terms.variant b.number b.list (k - 1)) c.loop-k.past =
    undo_at b.terms.variant b.number b.list i.steps k step c.loop-k.past all (omega (arith, c.loop-k-test.true)) kept
    c.loop-k.invariant.past in (
      omega (arith, c.loop-k.invariant.within, c.loop-k-test.true),
      ap (λ (p : Position). same_position p c.unmake.new.self) (sym c.position.ensures)
          ∙ sym c.if-is_same_position.ensures,
      c.unmake.ensures (position_at b.terms.variant b.number b.list (k - 1)) undo,
    )

pub loop-k-preserved : goal.loop-k-preserved
loop-k-preserved c =
    let b = c.args.self.now in
    let i = c.self.inside in
    let k = c.loop-k.k in
    let step : Step = get_or c.as_slice.result.now (k - 1) c.index-as_slice-k.result in
    let all : AreSteps b.terms.variant b.number b.list i.steps =
    subst (λ (x : Board). x.terms.variant ≢ Bughouse → AreSteps x.terms.variant x.number x.list i.steps) c.self.view_is
    c.self.invariant.steps (not_pair b.terms.variant c.requires.claims) in
    let within : k - 1 < length c.as_slice.result.now =
    omega (
      arith,
      ap length c.as_slice.ensures.items,
      all.each,
      c.requires.within,
      c.loop-k.invariant.within,
      c.loop-k-test.true,
    ) in
    let kept : slice_get i.steps (k - 1) ≡ Some step =
    ap (λ (l : List Step). slice_get l (k - 1)) (sym c.as_slice.ensures.items)
    ∙ slice_get-get_or c.as_slice.result.now (k - 1) c.index-as_slice-k.result within in
    let undo : IsUndoOf step.undo (position_at b.terms.variant b.number b.list (k - 1)) c.loop-k.past =
    undo_at b.terms.variant b.number b.list i.steps k step c.loop-k.past all (omega (arith, c.loop-k-test.true)) kept
    c.loop-k.invariant.past in
    let past = c.unmake.ensures (position_at b.terms.variant b.number b.list (k - 1)) undo in
    let other : same_position (position_of b) (position_at b.terms.variant b.number b.list (k - 1)) ≡ false =
    ap (same_position (position_of b)) (sym past)
    ∙ ap (λ (p : Position). same_position p c.unmake.new.self) (sym c.position.ensures)
    ∙ sym c.if-is_same_position.ensures in
    record {
      within = omega (arith, c.loop-k.invariant.within);
      past = past;
      none = λ j from to same. elim (cases_eq j (k - 1)) [
        | inl here ↦
            unlike (sym same
            ∙ (ap (λ n. same_position (position_of b) (position_at b.terms.variant b.number b.list n)) here ∙ other))
        | inr later ↦ c.loop-k.invariant.none j (omega (arith, from, later)) to same
      ];
    }
