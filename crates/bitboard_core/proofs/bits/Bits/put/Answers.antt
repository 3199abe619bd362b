use Rattle.std.proofs.Common.{◌≡◌, ◌∙◌, None}
use Rattle.chess_model.specs.Placement.{man_at}
use Rattle.bitboard_core.proofs.BitsLemmas.{kept_put, marked_put, unmarked_put}
use Rattle.bitboard_core.proofs.bits.Bits.put.Goals as goal

pub invariant_of-self : goal.invariant_of-self
invariant_of-self c =
    let b = c.self.inside in
    let s = c.number-at.result in
    let free : man_at b.squares s ≡ None =
    (λ i. man_at (c.self.view_is i) (c.number-at.ensures.value i)) ∙ c.requires in
    kept_put b s c.place_of-place.result c.args.man _ c.self.invariant c.number-at.ensures.within free
    c.place_of-place.ensures.within c.place_of-place.ensures.value
    (marked_put b.squares s c.args.man b.promoted c.self.invariant.squares c.number-at.ensures.within c.if-man.true
    c.self.invariant.promoted)

pub invariant_of-self-else-man : goal.invariant_of-self-else-man
invariant_of-self-else-man c =
    let b = c.self.inside in
    let s = c.number-at.result in
    let free : man_at b.squares s ≡ None =
    (λ i. man_at (c.self.view_is i) (c.number-at.ensures.value i)) ∙ c.requires in
    kept_put b s c.place_of-place.result c.args.man b.promoted c.self.invariant c.number-at.ensures.within free
    c.place_of-place.ensures.within c.place_of-place.ensures.value
    (unmarked_put b.squares s c.args.man b.promoted c.self.invariant.squares c.number-at.ensures.within free
    c.if-man.false c.self.invariant.promoted)
