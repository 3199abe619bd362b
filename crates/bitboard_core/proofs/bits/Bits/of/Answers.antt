use Rattle.std.proofs.Common.{ℕ, ◌+◌, ◌∙◌, sym, ap, subst}
use Rattle.std.specs.Prelude.{slice_set}
use Rattle.chess_model.specs.Placement.{Placement, man_at}
use Rattle.bitboard_core.proofs.CopyLemmas.{IsCopiedBelow, copied-none, copied-more, copied-all}
use Rattle.bitboard_core.proofs.bits.Bits.of.Goals as goal

pub loop-s-init : goal.loop-s-init
loop-s-init c = rw c.empty-bits.ensures (copied-none c.args.squares.now)

pub loop-s-preserved : goal.loop-s-preserved
loop-s-preserved c =
    let P = c.args.squares.now in
    let s = c.loop-s.s in
    let here = c.place.ensures ∙ ap (λ (a : ℕ). slice_set c.loop-s.bits a (man_at P s)) c.square_of.ensures in
    subst (λ (copy : Placement). IsCopiedBelow P copy (s + 1)) (sym here)
    (copied-more P c.loop-s.bits s c.loop-s-test.true c.loop-s.invariant)

pub returns : goal.returns
returns c = copied-all c.args.squares.now c.loop-s.bits c.loop-s.s c.told-squares c.loop-s-test.false c.loop-s.invariant
