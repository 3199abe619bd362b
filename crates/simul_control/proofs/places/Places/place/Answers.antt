use Rattle.std.proofs.Common.{◌∙◌, ◌<◌, ap, get_or, length, subst, sym}
use Rattle.simul_control.specs.Places.{PlaceList}
use Rattle.simul_control.proofs.Field.{desk-held, get-held}
use Rattle.simul_control.proofs.places.Places.place.Goals as goal

pub new-requires : goal.new-requires
new-requires c =
    desk-held c.self.inside c.args.at 0 c.self.invariant
    (subst (λ (l : PlaceList). c.args.at < length l.rows) (sym c.self.view_is) c.requires)

pub returns : goal.returns
returns c = λ other.
    (λ j.
    record {
      desk = c.new.ensures j;
      serial = get_or c.self.inside.serials c.args.at 0;
      seat = get_or c.self.inside.seats c.args.at 0;
    })
    ∙ get-held c.self.inside c.args.at 0 0 0 other c.self.invariant
    (subst (λ (l : PlaceList). c.args.at < length l.rows) (sym c.self.view_is) c.requires)
    ∙ ap (λ (l : PlaceList). get_or l.rows c.args.at other) c.self.view_is
