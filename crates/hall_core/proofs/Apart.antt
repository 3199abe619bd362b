-- The parts of a whole state are a lobby and desks.
use Rattle.std.proofs.Common.{◌≡◌, ℕ, suc, List, [], ◌∷◌, ◌++◌, map, length, refl, ◌∙◌, arith}
use Rattle.std.specs.List.{slice_get}
use Rattle.std.specs.declared.option.Option.TheVariants.{Some}
use Rattle.linked_desk.specs.Desk.{DeskState}
use Rattle.lobby_state.specs.Desks.{desks as desk_count}
use Rattle.lobby_state.specs.Lobby.{LobbyState}
use Rattle.one_server.specs.declared.part.Part.{Part}
use Rattle.one_server.specs.declared.part.Part.TheVariants.{Lobby as TheLobby, Desk as ADesk}
use Rattle.one_server.specs.Whole.{IsInPlace, IsWhole}

behind_first : (lobby : LobbyState) (i : ℕ) (part : Part) → IsInPlace lobby (suc i) part
    → (desk : DeskState) × (part ≡ ADesk desk)
behind_first lobby i (TheLobby other) e = absurd (omega (arith, e))
behind_first lobby i (ADesk desk) e = (desk, refl)

all_desks : (parts : List Part)
    → ((i : ℕ) (part : Part) → slice_get parts i ≡ Some part → (desk : DeskState) × (part ≡ ADesk desk))
    → (desks : List DeskState) × (parts ≡ map ADesk desks)
all_desks [] h = ([], refl)
all_desks (part ∷ parts) h =
    let one = h 0 part refl in
    let more = all_desks parts (λ i p e. h (suc i) p e) in
    (one.0 ∷ more.0, λ i. one.1 i ∷ more.1 i)

-- behind the first part of a whole state there are desks, as many as a hall has
pub behind : (one : Part) (parts : List Part) → IsWhole (one ∷ parts)
    → (desks : List DeskState) × (parts ≡ map ADesk desks) × (length parts ≡ desk_count)
behind one parts whole =
    let there = all_desks parts (λ i part e. behind_first whole.lobby i part (whole.places (suc i) part e)) in
    (there.0, there.1, omega (arith, whole.count))

-- the next of the parts is a desk
desk_next : (taken all : List DeskState) (next : Part) (rest : List Part)
    → map ADesk taken ++ next ∷ rest ≡ map ADesk all → (desk : DeskState) × (next ≡ ADesk desk)
desk_next [] [] next rest e = absurd cc
desk_next [] (desk ∷ all) next rest e = (desk, cc)
desk_next (one ∷ taken) [] next rest e = absurd cc
desk_next (one ∷ taken) (desk ∷ all) next rest e = desk_next taken all next rest cc

pub next_desk : (one : Part) (tail : List Part) (taken : List DeskState) (next : Part) (rest : List Part)
    → IsWhole (one ∷ tail) → map ADesk taken ++ next ∷ rest ≡ tail → (desk : DeskState) × (next ≡ ADesk desk)
next_desk one tail taken next rest whole e =
    let there = behind one tail whole in
    desk_next taken there.0 next rest (e ∙ there.1)

-- the first one is the lobby
pub first_lobby : (first : Part) (tail : List Part) → IsWhole (first ∷ tail)
    → (lobby : LobbyState) × (first ≡ TheLobby lobby)
first_lobby first tail whole =
    let e : Some first ≡ Some (TheLobby whole.lobby) = whole.first in
    let same : first ≡ TheLobby whole.lobby = cc in
    (whole.lobby, same)
