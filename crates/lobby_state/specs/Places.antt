-- The places of a member: the words of the crate below, passed on.
pub use Rattle.simul_control.specs.Places.{AreAtDesks, Makes, PlaceList, gives_nowhere, is_at, is_elsewhere, are_places_full}
pub use Rattle.simul_control.specs.Places.{no_places, present_at, switching, turning_place, with_place, without_desk}
