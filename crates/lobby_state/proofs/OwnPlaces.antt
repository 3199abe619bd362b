-- What a change of a member's own places keeps, where the list of them stays.
use Rattle.std.proofs.Common.{◌≡◌, ℕ, List, Option, None, Some, refl, sym, subst}
use Rattle.std.specs.Prelude.{All}
use Rattle.std.proofs.lemmas.Bool.{eqb-true}
use Rattle.std.proofs.lemmas.List.Elements.{All-nil}
use Rattle.fics_words.specs.Handle.{key_of}
use Rattle.tables.specs.Rows.{change_first}
use Rattle.lobby_state.specs.declared.member.Member.{Member}
use Rattle.lobby_state.specs.GoBoard.{gone_to}
use Rattle.lobby_state.specs.Lobby.{LobbyState, is_session, member_of, places_in, places_of}
use Rattle.lobby_state.specs.OwnPlaces.{placed, with_places}
use Rattle.lobby_state.specs.Places.{PlaceList}
use Rattle.lobby_state.specs.WellFormed.{HasSeats, IsSeatOf, IsWellFormed}
use Rattle.lobby_state.proofs.Follows.{Follows}
use Rattle.lobby_state.proofs.LinesKept.{kept_change, same_lines}
use Rattle.lobby_state.proofs.Lists.{All-change_first_passing, find-passes, map-change_first_same}
use Rattle.lobby_state.proofs.WellFormed.{find-has, kept}
use Rattle.simul_control.specs.declared.place.Place.{Place}

-- the member of the session has other places, which are seats of its own
formed_placed : (lobby : LobbyState) (session : ℕ) (places : PlaceList) → All (IsSeatOf lobby.games session) places.rows
    → IsWellFormed lobby
    → IsWellFormed (placed lobby session places)
formed_placed lobby session places seats h =
    let own = is_session session in
    let put = with_places places in
    kept lobby (change_first own put lobby.members) lobby.challenges lobby.games lobby.started lobby.shelf
    (map-change_first_same (λ m. m.session) own put (λ _. refl) lobby.members)
    (map-change_first_same (λ m. key_of m.name) own put (λ _. refl) lobby.members)
    h.challenges h.games h.serials
    (All-change_first_passing (HasSeats lobby.games) own put
    (λ m passes _.
    subst (λ (s : ℕ). All (IsSeatOf lobby.games s) places.rows) (sym (eqb-true m.session session passes)) seats)
    lobby.members h.places) h.shelf h.counted h

-- the places that the session has are seats of its own
own_seats : (lobby : LobbyState) (session : ℕ) (found : Option Member) → member_of lobby session ≡ found
    → IsWellFormed lobby
    → All (IsSeatOf lobby.games session) (places_in found).rows
own_seats lobby session None is h = All-nil (IsSeatOf lobby.games session)
own_seats lobby session (Some member) is h =
    subst (λ (s : ℕ). All (IsSeatOf lobby.games s) member.places.rows)
    (eqb-true member.session session (find-passes (is_session session) lobby.members member is))
    (find-has (HasSeats lobby.games) (is_session session) lobby.members member h.places is)

pub placed_follows : {conditions silent : Type 0} (lobby : LobbyState) (session : ℕ) (places : PlaceList)
    → places.rows ≡ (places_of lobby session).rows
    → Follows conditions silent lobby (placed lobby session places)
placed_follows lobby session places same = record {
  formed = λ _ h. formed_placed lobby session places
      (subst (λ (rows : List Place). All (IsSeatOf lobby.games session) rows) (sym same)
      (own_seats lobby session (member_of lobby session) refl h))
      h;
  games = refl;
  lines = λ own.
      kept_change (is_session session) (with_places places) (λ m. same_lines m (with_places places m) refl refl) own
      lobby.members;
  store = λ _. refl;
}

-- the list of places stays where another one is the present one
pub rows_gone : (found : Option ℕ) (places : PlaceList) → (gone_to found places).rows ≡ places.rows
rows_gone None places = refl
rows_gone (Some at) places = refl
