use Rattle.std.proofs.Common.{inl, inr, w64}
use Rattle.std.specs.Int.{bit_not}
use Rattle.bitboard_core.proofs.SetLemmas.{Has-and_both}
use Rattle.variant_rules.proofs.SightLemmas.{free-bit}
use Rattle.variant_rules.proofs.CheckLemmas.{has_or_not}
use Rattle.variant_rules.proofs.position.Position.free_squares.Goals as goal

pub returns : goal.returns
returns c k t lt out allowed =
    let p = c.args.self.now in
    let occupied = c.occupied_squares.result in
    elim (has_or_not (bit_not w64 occupied) t) [
      | inr left ↦
          free-bit p.men occupied t c.occupied_squares.type_inv c.occupied_squares.ensures lt left allowed.move.free
      | inl free ↦ elim (has_or_not c.args.guard.now.answers t) [
        | inl here ↦ out (Has-and_both (bit_not w64 occupied) c.args.guard.now.answers t free here)
        | inr left ↦ c.requires.guarded.shields k t lt left allowed.move.free allowed.safe
      ]
    ]
