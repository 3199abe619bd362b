-- What a Find tells.
use Rattle.std.proofs.Common.{◌≡◌, ℕ, zero, suc, List, [], ◌∷◌, Option, None, Some, IfSome, refl, arith}
use Rattle.std.specs.Prelude.{slice_get}
use Rattle.std.proofs.lemmas.List.Elements.{All-nil, All-tail, All-weaker}
use Rattle.lobby_state.specs.declared.member.Member.{Member}
use Rattle.simul_control.specs.declared.place.Place.{Place}
use Rattle.lobby_state.specs.Desks.{IsDesk}
use Rattle.lobby_state.specs.Find.{found, present_of}
use Rattle.lobby_state.specs.Keeps.{TellsDesks}
use Rattle.lobby_state.specs.Lobby.{LobbyState, is_named, named, places_in}
use Rattle.lobby_state.specs.Places.{AreAtDesks}
use Rattle.lobby_state.specs.WellFormed.{HasSeats, IsSeatOf, IsWellFormed}
use Rattle.lobby_state.proofs.WellFormed.{find-has}

-- a place that is found is at a desk
pub found_is : (place : Option Place) → IfSome place (λ p. IsDesk p.desk) → TellsDesks (found place)
found_is None h = tt
found_is (Some place) h = h

-- the places of a named member are at desks
named_at_desks : (lobby : LobbyState) (name : List ℕ) (member : Option Member) → named lobby name ≡ member
    → IsWellFormed lobby
    → AreAtDesks (places_in member).rows
named_at_desks lobby name None is h = All-nil (λ place. IsDesk place.desk)
named_at_desks lobby name (Some member) is h =
    All-weaker (IsSeatOf lobby.games member.session) (λ place. IsDesk place.desk) (λ place seat. seat.desk)
    member.places.rows
    (find-has (HasSeats lobby.games) (is_named name) lobby.members member h.places is)

row_at_desk : (rows : List Place) (at : ℕ) → AreAtDesks rows → IfSome (slice_get rows at) (λ p. IsDesk p.desk)
row_at_desk [] at h = tt
row_at_desk (p ∷ rows) zero h = h 0 p (omega arith)
row_at_desk (p ∷ rows) (suc at) h = row_at_desk rows at (All-tail (λ place. IsDesk place.desk) p rows h)

pub tells_found : (lobby : LobbyState) (name : List ℕ) → IsWellFormed lobby
    → TellsDesks (found (present_of (named lobby name)))
tells_found lobby name h =
    found_is (present_of (named lobby name))
    (row_at_desk (places_in (named lobby name)).rows (places_in (named lobby name)).at
    (named_at_desks lobby name (named lobby name) refl h))
