-- A whole state stays whole where a game leaves the shelf and goes on at a desk.
use Rattle.std.proofs.Common.{◌≡◌, ℕ, ◌-◌, ◌≤◌, true, List, set, refl, ap, sym, subst, ◌∙◌}
use Rattle.std.specs.List.{slice_get}
use Rattle.std.specs.Option.{option_map}
use Rattle.std.specs.Prelude.{IfSome, unwrap_or}
use Rattle.std.specs.declared.option.Option.{Option}
use Rattle.std.specs.declared.option.Option.TheVariants.{None, Some}
use Rattle.clock_ledger.specs.Charges.{last_moment}
use Rattle.chess_model.specs.declared.variant.Terms.{Terms}
use Rattle.fics_words.specs.declared.seats.Seats.{Seats}
use Rattle.game_board.specs.Board.{Board}
use Rattle.game_records.specs.declared.stored_game.StoredGame.{StoredGame}
use Rattle.game_records.specs.Replays.{Replays}
use Rattle.desk_boards.specs.Replaying.{replayed}
use Rattle.linked_desk.specs.Desk.{DeskState, GameState, occupant_of}
use Rattle.linked_desk.specs.Restore.{restored, game_resumed}
use Rattle.linked_desk.specs.Seating.{AllDiffer, HasPairsFor, names_of}
use Rattle.linked_desk.specs.Shelve.{names_seated}
use Rattle.linked_desk.specs.Sound.{HasSoundGame}
use Rattle.linked_desk.proofs.KeepsRestored.{players_restored, sound_restored}
use Rattle.linked_desk.proofs.Resuming.{resuming_restores}
use Rattle.lobby_state.specs.declared.acts.Plan.{Plan}
use Rattle.lobby_state.specs.declared.acts.Plan.TheVariants.{Resume}
use Rattle.lobby_state.specs.declared.game.ListedGame.{ListedGame}
use Rattle.lobby_state.specs.Lobby.{LobbyState}
use Rattle.lobby_state.specs.Planned.{IsPlanned}
use Rattle.lobby_state.specs.Plans.{committed}
use Rattle.lobby_state.specs.WellFormed.{IsWellFormed}
use Rattle.lobby_state.proofs.KeepsPlans.{IsWellFormed-committed}
use Rattle.one_server.specs.declared.part.Part.{Part}
use Rattle.one_server.specs.declared.part.Part.TheVariants.{Lobby as TheLobby, Desk as ADesk}
use Rattle.one_server.specs.CarryingProof.{carried_by}
use Rattle.one_server.specs.Desks.{listing, listed_game}
use Rattle.one_server.specs.Resuming.{CanResumeAt, resume_desk, desk_with_game}
use Rattle.one_server.specs.Whole.{IsWhole}
use Rattle.one_server.specs.WholeProof.{formed_is, place_is, whole_both}

-- the desk at which a game is resumed keeps its number, and has a sound game of this serial and these terms with these
-- players
record HasResumed (number serial : ℕ) (terms : Terms) (seats : Seats) (desk : DeskState) : Type 0 where
  numbered : desk.number ≡ number
  listed : listed_game desk ≡ Some (record { serial = serial; terms = terms; seats = seats })
  sound : HasSoundGame desk

numbered_if : (desk : DeskState) (make : List Board → GameState) (found : Option (List Board)) (new : DeskState)
    → option_map (λ (boards : List Board). record desk { game = Some (make boards) }) found ≡ Some new
    → new.number ≡ desk.number
numbered_if desk make None new is = absurd cc
numbered_if desk make (Some boards) new is =
    let same : record desk { game = Some (make boards) } ≡ new = cc in
    ap (λ (d : DeskState). d.number) (sym same)

has_resumed : (desk : DeskState) (serial : ℕ) (game : StoredGame) (seats : Seats) (moment : ℕ) → Replays game
    → names_seated seats ≡ game.names → HasPairsFor game.terms seats
    → AllDiffer (names_of seats) → moment ≤ last_moment
    → HasResumed desk.number serial game.terms seats (unwrap_or (restored desk serial game seats moment) desk)
has_resumed desk serial game seats moment replays players pairs names timely =
    let found = resuming_restores.stored desk serial game seats moment replays players in
    let is : restored desk serial game seats moment ≡ Some found.0 = found.1 in
    subst (λ (o : Option DeskState). HasResumed desk.number serial game.terms seats (unwrap_or o desk))
    (sym is) (record {
      numbered = numbered_if desk (game_resumed desk.number serial game seats moment)
          (replayed game.terms game.halves moment) found.0 is;
      listed =
          ap (option_map listing)
          (subst (λ (o : Option DeskState). IfSome o
          (λ e. occupant_of e ≡ Some (record { serial = serial; terms = game.terms; seats = seats })))
          is (players_restored desk serial game seats moment));
      sound = subst (λ (o : Option DeskState). IfSome o HasSoundGame) is
          (sound_restored desk serial game seats moment replays pairs names timely);
    })

resumed_at : (lobby : LobbyState) (desk : DeskState) (serial stored : ℕ) (seats : Seats) (moment : ℕ)
    (c : CanResumeAt lobby desk stored seats) → moment ≤ last_moment
    → HasResumed desk.number serial c.game.terms seats (resume_desk lobby desk serial stored seats moment)
resumed_at lobby desk serial stored seats moment c timely =
    subst (λ (o : Option StoredGame). HasResumed desk.number serial c.game.terms seats
    (desk_with_game desk serial o seats moment)) (sym c.lies)
    (has_resumed desk serial c.game seats moment c.replays c.players c.pairs c.names timely)

same_game : (one another : StoredGame) → Some one ≡ Some another → one ≡ another
same_game one another e = cc

-- what a Resume leaves is whole
pub stays_resumed : (xs : List Part) (lobby : LobbyState) (number serial stored : ℕ) (terms : Terms) (seats : Seats)
    (desk : DeskState) (moment : ℕ) → IsWhole xs
    → slice_get xs 0 ≡ Some (TheLobby lobby) → slice_get xs number ≡ Some (ADesk desk)
    → IsPlanned lobby (Resume number serial stored terms seats) → moment ≤ last_moment
    → IsWhole (set (set xs 0 (TheLobby (committed lobby (Resume number serial stored terms seats) None true))) number
    (ADesk (resume_desk lobby desk serial stored seats moment)))
stays_resumed xs lobby number serial stored terms seats desk moment w e d p timely =
    let plan : Plan = Resume number serial stored terms seats in
    let formed : IsWellFormed lobby = formed_is xs lobby w e in
    let c : CanResumeAt lobby desk stored seats =
    carried_by lobby plan number desk formed refl (place_is xs lobby w e number (ADesk desk) d).1 p in
    let there = resumed_at lobby desk serial stored seats moment c timely in
    let own : terms ≡ c.game.terms =
    p.its_terms ∙ ap (λ (g : StoredGame). g.terms) (same_game p.game c.game (sym p.lies ∙ c.lies)) in
    let listed : listed_game (resume_desk lobby desk serial stored seats moment)
    ≡ Some (record { serial = serial; terms = terms; seats = seats }) =
    there.listed ∙ ap (λ (t : Terms). Some (record { serial = serial; terms = t; seats = seats })) (sym own) in
    whole_both xs lobby (committed lobby plan None true) number desk
    (resume_desk lobby desk serial stored seats moment) w e d
    (IsWellFormed-committed lobby plan None true p tt formed)
    (ap (λ (g : Option ListedGame). set lobby.games (number - 1) g) (sym listed)) there.numbered there.sound
