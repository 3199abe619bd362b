use Rattle.std.proofs.Common.{ap, sym, ◌∙◌, Some, set-set}
use Rattle.std.specs.Prelude.{slice_set}
use Rattle.chess_model.specs.Placement.{Placement}
use Rattle.bitboard_core.proofs.bits.Bits.place.Goals as goal
use Rattle.bitboard_core.proofs.bits.Bits.place.Goals.{then-is_some, else-is_some}

pub returns-in-Some : goal.returns-in-Some
returns-in-Some c =
    let come = λ (P : Placement). slice_set P c.args.s (Some c.in-Some.m) in
    let here = ap (slice_set c.args.self.now c.args.s) (sym c.in-Some.is) in
    elim c.if-is_some.branch [
      | then-is_some w ↦
          c.put.ensures ∙ ap come (w.self-is ∙ w.lift.ensures.left)
          ∙ set-set c.args.self.now c.args.s _ (Some c.in-Some.m) ∙ here
      | else-is_some w ↦ c.put.ensures ∙ ap come w.self-is ∙ here
    ]
