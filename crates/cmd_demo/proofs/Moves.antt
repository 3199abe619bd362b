-- The half-moves of a session, from its place.
use Rattle.std.proofs.Common.{◌≡◌, ℕ, List, [], Option, Some, None, slice_get, ap, ◌∙◌}
use Rattle.linked_desk.specs.Desk.{DeskState}
use Rattle.lobby_state.specs.Lobby.{LobbyState, places_of}
use Rattle.one_server.specs.declared.part.Part.{Part}
use Rattle.one_server.specs.declared.part.Part.TheVariants.{Lobby as TheLobby, Desk as ADesk}
use Rattle.simul_control.specs.declared.place.Place.{Place}
use Rattle.cmd_demo.specs.Turns.{moves_at, moves_from_place, moves_in, moves_of_session, place_in, present_of}

at_place : (session : ℕ) (parts : List Part) (lobby : LobbyState) (place : Option Place)
    → slice_get parts 0 ≡ Some (TheLobby lobby) → present_of (places_of lobby session) ≡ place
    → moves_of_session session parts ≡ moves_from_place place parts
unfolding moves_of_session
at_place session parts lobby place first present =
    ap (λ (part : Option Part). moves_from_place (place_in part session) parts) first
    ∙ ap (λ (p : Option Place). moves_from_place p parts) present

-- a session that plays nowhere has none
pub no_place : (session : ℕ) (parts : List Part) (lobby : LobbyState) → slice_get parts 0 ≡ Some (TheLobby lobby)
    → present_of (places_of lobby session) ≡ None
    → moves_of_session session parts ≡ []
no_place session parts lobby first present = at_place session parts lobby None first present

-- and else it has those of its seat at its desk
pub at_desk : (session : ℕ) (parts : List Part) (lobby : LobbyState) (place : Place) (desk : DeskState)
    → slice_get parts 0 ≡ Some (TheLobby lobby)
    → present_of (places_of lobby session) ≡ Some place → slice_get parts place.desk ≡ Some (ADesk desk)
    → moves_of_session session parts ≡ moves_at place.seat desk
at_desk session parts lobby place desk first present there =
    at_place session parts lobby (Some place) first present ∙ ap (moves_in place.seat) there
