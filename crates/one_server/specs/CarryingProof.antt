-- A plan that the lobby gave can be carried out at its desk.
use Rattle.std.proofs.Common.{◌≡◌, ℕ, ◌-◌, Bool, true, false, cond, List, [], ◌∷◌, All, refl, ap, sym, subst, ◌∙◌}
use Rattle.std.specs.List.{slice_get}
use Rattle.std.specs.Option.{option_map}
use Rattle.std.specs.Prelude.{IfSome, IsSome, Option, None, Some, find}
use Rattle.std.proofs.lemmas.List.Elements.{All-head, All-tail}
use Rattle.chess_model.specs.declared.variant.Terms.{Terms}
use Rattle.fics_words.specs.Handle.{key_of}
use Rattle.fics_words.specs.Seats.{seat_list}
use Rattle.game_records.specs.declared.stored_game.StoredGame.{StoredGame}
use Rattle.game_records.specs.Replays.{Replays}
use Rattle.lobby_shelf.specs.Numbers.{row_game, has_number, stored_game}
use Rattle.lobby_shelf.specs.declared.shelved.Shelved.{Shelved}
use Rattle.linked_desk.specs.Desk.{GameState, DeskState, occupant}
use Rattle.linked_desk.specs.Seating.{HasPairsFor}
use Rattle.linked_desk.specs.Shelve.{stored_of}
use Rattle.linked_desk.specs.Sound.{IsSoundGame}
use Rattle.linked_desk.proofs.Shelved.{shelved_replays}
use Rattle.lobby_state.specs.declared.acts.Plan.{Plan}
use Rattle.lobby_state.specs.declared.acts.Plan.TheVariants.{Start, Clear, Resume, Ask}
use Rattle.lobby_state.specs.declared.game.ListedGame.{ListedGame}
use Rattle.lobby_state.specs.Lobby.{LobbyState, game_at, listed_game_in}
use Rattle.lobby_state.specs.Planned.{IsPlanned}
use Rattle.lobby_state.specs.Plans.{desk_of}
use Rattle.lobby_state.specs.Reserve.{CanShelve}
use Rattle.lobby_state.specs.WellFormed.{IsWellFormed}
use Rattle.one_server.specs.Clearing.{was_adjourned}
use Rattle.one_server.specs.Desks.{listing, listed_game}
use Rattle.one_server.specs.Plans.{CanCarry}
use Rattle.one_server.specs.StartingProof.{all_differ, pairs_for}
use Rattle.one_server.specs.Whole.{IsListed}

-- each game on the shelf replays, by its number too
row_replays : (number : ℕ) (row : Shelved) (games : List Shelved) (game : StoredGame) (here : Bool) → Replays row.game
    → (row_game (find (has_number number) games) ≡ Some game → Replays game)
    → row_game (cond here (Some row) (find (has_number number) games)) ≡ Some game → Replays game
row_replays number row games game true own rest e = let same : row.game ≡ game = cc in subst Replays same own
row_replays number row games game false own rest e = rest e

pub stored_replays : (number : ℕ) (games : List Shelved) (game : StoredGame)
    → All (λ (row : Shelved). Replays row.game) games
    → stored_game games number ≡ Some game → Replays game
stored_replays number [] game all e = absurd cc
stored_replays number (row ∷ games) game all e =
    row_replays number row games game (has_number number row)
    (All-head (λ (row : Shelved). Replays row.game) row games all)
    (stored_replays number games game (All-tail (λ (row : Shelved). Replays row.game) row games all)) e

-- a desk for which the lobby lists nothing is vacant
vacant_in : (game : Option GameState) → None ≡ option_map listing (option_map occupant game) → game ≡ None
vacant_in None e = refl
vacant_in (Some g) e = absurd cc

nothing_listed : (game : Option ListedGame) → Some None ≡ Some game → None ≡ game
nothing_listed game e = cc

vacant_by : (desk : DeskState) → Some None ≡ Some (listed_game desk) → desk.game ≡ None
vacant_by desk e = vacant_in desk.game (nothing_listed (listed_game desk) e)

-- a game that was adjourned replays, and its desk is in use
shelving : (lobby : LobbyState) (session number serial : ℕ) (game : Option GameState) (adjourned : Bool)
    → IfSome game IsSoundGame
    → game_at lobby number ≡ option_map listing (option_map occupant game)
    → CanShelve lobby (Clear session number serial) (cond adjourned (option_map stored_of game) None)
shelving lobby session number serial game false sound listed = tt
shelving lobby session number serial None true sound listed = tt
shelving lobby session number serial (Some g) true sound listed =
    (shelved_replays g sound, subst IsSome (sym listed) refl)

pub carried_by : (lobby : LobbyState) (plan : Plan) (number : ℕ) (desk : DeskState) → IsWellFormed lobby
    → desk_of plan ≡ Some number → IsListed lobby number desk → IsPlanned lobby plan
    → CanCarry lobby plan desk
carried_by lobby (Start own serial terms seats) number desk formed o listed planned =
    let same : own ≡ number = cc in
    record {
      vacant = vacant_by desk (sym planned.is_free ∙ ap (λ n. slice_get lobby.games (n - 1)) same ∙ listed.listed);
      sessions = all_differ (λ p. p.session) (seat_list seats) planned.apart.sessions;
      names = all_differ (λ p. key_of p.name) (seat_list seats) planned.apart.handles;
      pairs = pairs_for terms.variant seats.first seats.second planned.boards;
    }
carried_by lobby (Clear session own serial) number desk formed o listed planned =
    let same : own ≡ number = cc in
    shelving lobby session own serial desk.game (was_adjourned desk) listed.sound
    (ap (λ (n : ℕ). game_at lobby n) same ∙ ap listed_game_in listed.listed)
carried_by lobby (Resume own serial stored terms seats) number desk formed o listed planned =
    let same : own ≡ number = cc in
    record {
      game = planned.game;
      lies = planned.lies;
      replays = stored_replays stored lobby.shelf.games planned.game formed.shelf.sound.replay planned.lies;
      vacant = vacant_by desk (sym planned.is_free ∙ ap (λ n. slice_get lobby.games (n - 1)) same ∙ listed.listed);
      sessions = all_differ (λ p. p.session) (seat_list seats) planned.apart.sessions;
      names = all_differ (λ p. key_of p.name) (seat_list seats) planned.apart.handles;
      players = planned.names;
      pairs =
          subst (λ (t : Terms). HasPairsFor t seats) planned.its_terms
          (pairs_for terms.variant seats.first seats.second planned.boards);
    }
carried_by lobby (Ask from to stored) number desk formed o listed planned = tt
