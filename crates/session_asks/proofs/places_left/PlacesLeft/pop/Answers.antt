use Rattle.std.proofs.Common.{◌+◌, ◌<◌, ◌∷◌, length, drop, sym, ap, ◌∙◌, arith}
use Rattle.std.proofs.lemmas.List.{drop_more}
use Rattle.simul_control.specs.declared.place.Place.{Place}
use Rattle.session_asks.proofs.places_left.PlacesLeft.pop.Goals as goal

pub returns-clause-first : goal.returns-clause-first
returns-clause-first c =
    let rows = c.self.inside.places.rows in
    let at = c.self.inside.taken in
    let inside : at < length rows = omega (arith, c.len.ensures.count, c.if-self-len.false) in
    sym c.self.view_is ∙ drop_more rows at c.place-place.result inside
    ∙ ap (λ (place : Place). place ∷ drop (at + 1) rows) (sym (c.place-place.ensures c.place-place.result))
