-- A whole state stays whole where its lobby or one of its desks is written anew as an act does it.
use Rattle.std.proofs.Common.{◌≡◌, ◌≢◌, ℕ, ◌-◌, ◌<◌, ◌≤◌, ◌⊎◌, zero, suc, List, [], ◌∷◌, length, set, refl, ap, sym, subst, ◌∙◌, inl, inr, arith, length-set}
use Rattle.std.specs.List.{slice_get}
use Rattle.std.specs.declared.option.Option.{Option}
use Rattle.std.specs.declared.option.Option.TheVariants.{Some}
use Rattle.histories.proofs.Parts.{get_set_same, get_set_else, get_within, slice_get_length}
use Rattle.lobby_state.specs.declared.game.ListedGame.{ListedGame}
use Rattle.lobby_state.specs.Desks.{IsDesk}
use Rattle.lobby_state.specs.Lobby.{LobbyState}
use Rattle.lobby_state.specs.WellFormed.{IsWellFormed}
use Rattle.linked_desk.specs.Desk.{DeskState}
use Rattle.linked_desk.specs.Sound.{HasSoundGame}
use Rattle.one_server.specs.declared.part.Part.{Part}
use Rattle.one_server.specs.declared.part.Part.TheVariants.{Lobby as TheLobby, Desk as ADesk}
use Rattle.one_server.specs.Desks.{listed_game}
use Rattle.one_server.specs.Whole.{IsListed, IsInPlace, IsWhole}

-- what stands at a number after a write: what was written there, and elsewhere what stood there
pub after_write : {T : Type 0} (xs : List T) (i j : ℕ) (v x : T) → slice_get (set xs i v) j ≡ Some x
    → ((j ≡ i) × (v ≡ x)) ⊎ ((j ≢ i) × (slice_get xs j ≡ Some x))
after_write [] i j v x e = absurd (cc)
after_write (y ∷ ys) zero zero v x e = inl (refl, cc)
after_write (y ∷ ys) zero (suc j) v x e = inr ((λ z. omega arith), e)
after_write (y ∷ ys) (suc i) zero v x e = inr ((λ z. omega arith), e)
after_write (y ∷ ys) (suc i) (suc j) v x e = elim (after_write ys i j v x e) [
  | inl h ↦ inl (ap suc h.0, h.1)
  | inr h ↦ inr ((λ z. h.0 (omega arith)), h.1)
]

same_lobby : (one another : LobbyState) → Some (TheLobby one) ≡ Some (TheLobby another) → one ≡ another
same_lobby one another e = cc

-- the lobby of a whole state is the one that stands first
pub first_is : (xs : List Part) (lobby : LobbyState) (w : IsWhole xs) → slice_get xs 0 ≡ Some (TheLobby lobby)
    → w.lobby ≡ lobby
first_is xs lobby w e = same_lobby w.lobby lobby (sym w.first ∙ e)

pub formed_is : (xs : List Part) (lobby : LobbyState) → IsWhole xs → slice_get xs 0 ≡ Some (TheLobby lobby)
    → IsWellFormed lobby
formed_is xs lobby w e = subst IsWellFormed (first_is xs lobby w e) w.formed

pub place_is : (xs : List Part) (lobby : LobbyState) → IsWhole xs → slice_get xs 0 ≡ Some (TheLobby lobby)
    → (place : ℕ) (part : Part) → slice_get xs place ≡ Some part → IsInPlace lobby place part
place_is xs lobby w e place part h =
    subst (λ (l : LobbyState). IsInPlace l place part) (first_is xs lobby w e) (w.places place part h)

-- a desk's number has its desk
desk_there : (lobby : LobbyState) (number : ℕ) (part : Part) → IsDesk number → IsInPlace lobby number part
    → (desk : DeskState) × (part ≡ ADesk desk)
desk_there lobby number (TheLobby other) d h = absurd (omega arith)
desk_there lobby number (ADesk desk) d h = (desk, refl)

pub desk_at : (xs : List Part) (number : ℕ) → IsWhole xs → IsDesk number
    → (desk : DeskState) × (slice_get xs number ≡ Some (ADesk desk))
desk_at xs number w d =
    let inside : number < length xs = omega (arith, w.count) in
    let found = get_within xs number inside in
    let is = desk_there w.lobby number found.0 d (w.places number found.0 found.1) in
    (is.0, found.1 ∙ ap Some is.1)

-- a part stays in place where the lobby lists the same game at its number
listed_still : (lobby other : LobbyState) (place : ℕ) (part : Part)
    → (1 ≤ place → slice_get other.games (place - 1) ≡ slice_get lobby.games (place - 1))
    → IsInPlace lobby place part → IsInPlace other place part
listed_still lobby other place (TheLobby another) same h = h
listed_still lobby other place (ADesk desk) same h =
    (h.0, record { numbered = h.1.numbered; sound = h.1.sound; listed = same h.0 ∙ h.1.listed })

at_front : (lobby : LobbyState) (place : ℕ) (other : LobbyState) (part : Part) → place ≡ 0 → TheLobby other ≡ part
    → IsInPlace lobby place part
at_front lobby place other part e is = subst (IsInPlace lobby place) is e

-- the lobby is written anew, and lists the same games
pub whole_lobby : (xs : List Part) (lobby new : LobbyState) → IsWhole xs → slice_get xs 0 ≡ Some (TheLobby lobby)
    → IsWellFormed new → new.games ≡ lobby.games
    → IsWhole (set xs 0 (TheLobby new))
whole_lobby xs lobby new w e formed games = record {
  count = length-set xs 0 (TheLobby new) ∙ w.count;
  lobby = new;
  first = get_set_same xs 0 (TheLobby new) (omega (arith, w.count));
  formed = formed;
  places = λ place part h. elim (after_write xs 0 place (TheLobby new) part h) [
    | inl here ↦ at_front new place new part here.0 here.1
    | inr there ↦ listed_still lobby new place part
        (λ z. ap (λ (gs : List (Option ListedGame)). slice_get gs (place - 1)) games)
        (place_is xs lobby w e place part there.1)
  ];
}

-- a desk is written anew, for which the lobby lists what it listed before
pub whole_desk : (xs : List Part) (number : ℕ) (desk new : DeskState) → IsWhole xs
    → slice_get xs number ≡ Some (ADesk desk) → new.number ≡ desk.number → listed_game new ≡ listed_game desk
    → HasSoundGame new
    → IsWhole (set xs number (ADesk new))
whole_desk xs number desk new w e numbered game sound =
    let place : (1 ≤ number) × IsListed w.lobby number desk = w.places number (ADesk desk) e in
    record {
      count = length-set xs number (ADesk new) ∙ w.count;
      lobby = w.lobby;
      first = get_set_else xs number 0 (ADesk new) (λ z. omega (arith, place.0)) ∙ w.first;
      formed = w.formed;
      places = λ at part h. elim (after_write xs number at (ADesk new) part h) [
        | inl here ↦ subst (IsInPlace w.lobby at) here.1
            (subst (λ (n : ℕ). IsInPlace w.lobby n (ADesk new)) (sym here.0) (
              place.0,
              record {
                numbered = numbered ∙ place.1.numbered;
                sound = sound;
                listed = place.1.listed ∙ ap Some (sym game);
              },
            ))
        | inr there ↦ w.places at part there.1
      ];
    }

-- the lobby and a desk are written anew, and the lobby lists at the desk's number what the desk is in use for now
pub whole_both : (xs : List Part) (lobby other : LobbyState) (number : ℕ) (desk new : DeskState) → IsWhole xs
    → slice_get xs 0 ≡ Some (TheLobby lobby) → slice_get xs number ≡ Some (ADesk desk)
    → IsWellFormed other → other.games ≡ set lobby.games (number - 1) (listed_game new) → new.number ≡ desk.number
    → HasSoundGame new
    → IsWhole (set (set xs 0 (TheLobby other)) number (ADesk new))
whole_both xs lobby other number desk new w e d formed games numbered sound =
    let place : (1 ≤ number) × IsListed lobby number desk = place_is xs lobby w e number (ADesk desk) d in
    let inside : number - 1 < length lobby.games =
    slice_get_length lobby.games (number - 1) (listed_game desk) place.1.listed in
    let front : List Part = set xs 0 (TheLobby other) in
    record {
      count = length-set front number (ADesk new) ∙ (length-set xs 0 (TheLobby other) ∙ w.count);
      lobby = other;
      first = get_set_else front number 0 (ADesk new) (λ z. omega (arith, place.0))
          ∙ get_set_same xs 0 (TheLobby other) (omega (arith, w.count));
      formed = formed;
      places = λ at part h. elim (after_write front number at (ADesk new) part h) [
        | inl here ↦ subst (IsInPlace other at) here.1 (subst (λ (n : ℕ). IsInPlace other n (ADesk new)) (sym here.0) (
          place.0,
          record {
            numbered = numbered ∙ place.1.numbered;
            sound = sound;
            listed = ap (λ (gs : List (Option ListedGame)). slice_get gs (number - 1)) games
                ∙ get_set_same lobby.games (number - 1) (listed_game new) inside;
          },
        ))
        | inr there ↦ elim (after_write xs 0 at (TheLobby other) part there.1) [
          | inl front_part ↦ at_front other at other part front_part.0 front_part.1
          | inr elsewhere ↦ listed_still lobby other at part
              (λ one. ap (λ (gs : List (Option ListedGame)). slice_get gs (at - 1)) games
              ∙ get_set_else lobby.games (number - 1) (at - 1) (listed_game new)
              (λ same. there.0 (omega (arith, place.0, same, one))))
              (place_is xs lobby w e at part elsewhere.1)
        ]
      ];
    }
