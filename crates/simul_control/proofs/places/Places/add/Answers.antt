use Rattle.std.proofs.Common.{◌≡◌, ℕ, [], ◌∷◌, ◌++◌, ap, cond, None, Some, ◌∙◌}
use Rattle.fics_words.specs.declared.refusal.Refusal.TheVariants.{SimulFull}
use Rattle.simul_control.specs.Places.{with_place}
use Rattle.simul_control.specs.declared.place.Place.{Place}
use Rattle.simul_control.proofs.Field.{HoldsPlaces-add, after-add, places_in-add, room-add}
use Rattle.simul_control.proofs.places.Places.add.Goals as goal

-- the place, by the number of its desk
abbrev numbered : Place → ℕ → Place
numbered place number = record { desk = number; serial = place.serial; seat = place.seat }

numbered-is : (place : Place) (number : ℕ) → number ≡ place.desk → numbered place number ≡ place
numbered-is place number e = λ i. numbered place (e i)

pub invariant_of-self : goal.invariant_of-self
invariant_of-self c =
    HoldsPlaces-add c.self.inside (numbered c.args.place c.get.result) c.self.invariant c.if-self-ge-MOST.false
    c.get.ensures.desk

pub returns-clause-makes : goal.returns-clause-makes
returns-clause-makes c = (
  ap (λ b. cond b (Some SimulFull) None)
      (room-add c.self.inside c.args.place c.args.self.now c.self.view_is c.self.invariant c.if-self-ge-MOST.false),
  places_in-add c.self.inside (numbered c.args.place c.get.result) c.args.self.now c.self.view_is c.self.invariant
      c.if-self-ge-MOST.false
      ∙ ap (λ (place : Place). record c.args.self.now { rows = c.args.self.now.rows ++ place ∷ [] })
      (numbered-is c.args.place c.get.result c.get.ensures.value),
)

pub returns-clause-after : goal.returns-clause-after
returns-clause-after c =
    after-add c.self.inside (numbered c.args.place c.get.result) c.args.self.now c.self.view_is c.self.invariant
    c.if-self-ge-MOST.false
    ∙ ap (λ (place : Place). with_place place c.args.self.now)
    (numbered-is c.args.place c.get.result c.get.ensures.value)
