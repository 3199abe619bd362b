use Rattle.bitboard_core.proofs.BitsLemmas.{kept_lift}
use Rattle.bitboard_core.proofs.bits.Bits.lift.Goals as goal

pub invariant_of-self : goal.invariant_of-self
invariant_of-self c =
    kept_lift c.self.inside c.number-at.result c.place_of-place.result c.unwrap-man.result c.self.invariant
    c.number-at.ensures.within c.unwrap-man.ensures c.place_of-place.ensures.within c.place_of-place.ensures.value
