-- The parts with which a hall opens.
use Rattle.std.proofs.Common.{◌≡◌, ℕ, ◌+◌, List, [], ◌∷◌, ◌++◌, map, refl, ap, sym, subst, ◌∙◌}
use Rattle.linked_desk.specs.Desk.{DeskState}
use Rattle.lobby_state.specs.Desks.{desks as desk_count}
use Rattle.lobby_state.specs.Lobby.{LobbyState}
use Rattle.lobby_state.specs.WellFormed.{IsWellFormed}
use Rattle.one_server.specs.declared.part.Part.{Part}
use Rattle.one_server.specs.declared.part.Part.TheVariants.{Lobby as TheLobby, Desk as ADesk}
use Rattle.one_server.specs.Desks.{vacant}
use Rattle.one_server.specs.Whole.{IsOpening, IsWhole, opened_server, parts_with, vacant_from}
use Rattle.histories.specs.History.{calls_of, Legal}
use Rattle.one_server.specs.declared.act.Timed.{Timed}
use Rattle.one_server.specs.declared.reply.Reply.{Reply}
use Rattle.one_server.specs.House.{house}
use Rattle.one_server.specs.Running.{Log}
use Rattle.turn_table.specs.declared.view.View.{View}
use Rattle.turn_table.specs.Passes.{PassStanding}
use Rattle.turn_table.specs.Views.{new_view}
use Rattle.hall_core.specs.Passes.{IsHallPass}
use Rattle.one_server.proofs.Serving.{vacant_push, whole_opening}

-- one more vacant desk behind the others
pub parts_push : (lobby : LobbyState) (slot : ℕ) (parts new : List Part) (desk : DeskState)
    → parts ≡ parts_with lobby (vacant_from 1 slot) → desk ≡ vacant (slot + 1) → new ≡ parts ++ ADesk desk ∷ []
    → new ≡ parts_with lobby (vacant_from 1 (slot + 1))
parts_push lobby slot parts new desk e d n =
    let desks : List Part = map ADesk (vacant_from 1 slot) in
    n ∙ ap (λ ps. ps ++ ADesk desk ∷ []) e
    ∙ ap (λ ps. TheLobby lobby ∷ ps) (vacant_push slot desks (desks ++ ADesk desk ∷ []) desk refl d refl)

pub is_opened : (lobby : LobbyState) → parts_with lobby (vacant_from 1 desk_count) ≡ opened_server lobby
unfolding opened_server
is_opened lobby = refl

-- a hall opens in a whole state
pub whole_parts : (lobby : LobbyState) (parts : List Part) → IsWellFormed lobby → IsOpening lobby
    → parts ≡ opened_server lobby
    → IsWhole parts
whole_parts lobby parts formed opening e = subst IsWhole (is_opened lobby ∙ sym e) (whole_opening lobby formed opening)

-- its first pass
pub opens_hall : (lobby : LobbyState) (parts : List Part) (p : PassStanding Part Timed Reply) → IsWellFormed lobby
    → IsOpening lobby → parts ≡ opened_server lobby → p.view ≡ new_view parts → IsHallPass p
opens_hall lobby parts p formed opening e view =
    let opens : p.view.opening ≡ parts = ap (λ (x : View Part Timed Reply). x.opening) view in
    let seen : p.view.seen ≡ [] = ap (λ (x : View Part Timed Reply). x.seen) view in
    let made : p.view.made ≡ [] = ap (λ (x : View Part Timed Reply). x.made) view in
    let legal : Legal house p.view.opening [] = tt in
    record {
      idle = ap (λ (x : View Part Timed Reply). x.held) view;
      opens = (lobby, opening, opens ∙ e);
      whole = subst IsWhole (sym opens) (whole_parts lobby parts formed opening e);
      known = record {
        legal = subst (λ (log : Log). Legal house p.view.opening log) (sym seen) legal;
        own = made ∙ ap (calls_of p.view.number) (sym seen);
      };
    }
