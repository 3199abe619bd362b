-- The server of one lobby and 128 desks keeps the laws of a server of parts: each act finds its parts, and leaves a
-- whole state.
use Rattle.std.proofs.Common.{◌≡◌, ◌≢◌, ℕ, ◌-◌, ◌<◌, ◌≤◌, Bool, true, false, cond, ◌&&◌, List, length, set, refl, ap, sym, subst, ◌∙◌, arith}
use Rattle.std.specs.List.{slice_get}
use Rattle.std.specs.Option.{option_map}
use Rattle.std.specs.Prelude.{IfSome}
use Rattle.std.specs.declared.option.Option.{Option}
use Rattle.std.specs.declared.option.Option.TheVariants.{None, Some}
use Rattle.std.specs.declared.result.Result.{Result}
use Rattle.std.specs.declared.result.Result.TheVariants.{Ok, Err}
use Rattle.clock_ledger.specs.Charges.{last_moment}
use Rattle.fics_words.specs.declared.refusal.Refusal.{Refusal}
use Rattle.game_records.specs.declared.stored_game.StoredGame.{StoredGame}
use Rattle.histories.specs.Core.{Lawful, after}
use Rattle.histories.proofs.Parts.{get_set_else}
use Rattle.histories.proofs.Steps.{after_alone, after_together}
use Rattle.linked_desk.specs.declared.acts.DeskAct.{DeskAct}
use Rattle.linked_desk.specs.Acts.{desk_after}
use Rattle.linked_desk.specs.Desk.{DeskState}
use Rattle.linked_desk.proofs.KeepsActs.{number-desk_after, players-desk_after, sound-desk_after}
use Rattle.linked_desk.proofs.KeepsStart.{IsSound-opened}
use Rattle.lobby_state.specs.declared.acts.Plan.{Plan}
use Rattle.lobby_state.specs.declared.acts.Plan.TheVariants.{Start, Clear, Resume, Ask}
use Rattle.lobby_state.specs.declared.acts.PairAct.{PairAct}
use Rattle.lobby_state.specs.Acts.{lobby_after}
use Rattle.lobby_state.specs.Desks.{IsDesk}
use Rattle.lobby_state.specs.Plans.{NamesDesk, plan_of, desk_of, committed}
use Rattle.lobby_state.specs.Lobby.{LobbyState}
use Rattle.lobby_state.specs.Planned.{IsPlanned}
use Rattle.lobby_state.specs.Reserve.{CanShelve}
use Rattle.lobby_state.specs.WellFormed.{IsWellFormed}
use Rattle.lobby_state.proofs.KeepsActs.{IsWellFormed-lobby_after, games-lobby_after}
use Rattle.lobby_state.proofs.KeepsPlans.{plan_of-is, desk_of-is, IsWellFormed-committed}
use Rattle.one_server.specs.declared.act.Act.{Act}
use Rattle.one_server.specs.declared.act.Act.TheVariants.{Lobby, Desk, Pair}
use Rattle.one_server.specs.declared.act.Timed.{Timed}
use Rattle.one_server.specs.declared.part.Part.{Part}
use Rattle.one_server.specs.declared.part.Part.TheVariants.{Lobby as TheLobby, Desk as ADesk}
use Rattle.one_server.specs.Acts.{first_part, second_part, planned_desk, FitsAct}
use Rattle.one_server.specs.Desks.{listing, listed_game, has_ended, nobody_looks_on, desk_emptied}
use Rattle.one_server.specs.House.{house, pair_lobby, pair_desk}
use Rattle.one_server.specs.CarryingProof.{carried_by}
use Rattle.one_server.specs.Clearing.{kept_at}
use Rattle.one_server.specs.Plans.{alone_lobby, plan_desk, plan_lobby}
use Rattle.one_server.specs.ResumedProof.{stays_resumed}
use Rattle.one_server.specs.Whole.{IsWhole}
use Rattle.one_server.specs.StartingProof.{may_play}
use Rattle.one_server.specs.WholeProof.{formed_is, place_is, desk_at, whole_lobby, whole_desk, whole_both}

-- a desk act leaves the game that the desk is in use for
pub keeps_game : (desk : DeskState) (session moment serial : ℕ) (act : DeskAct)
    → listed_game (desk_after desk session moment serial act) ≡ listed_game desk
keeps_game desk session moment serial act = ap (option_map listing) (players-desk_after desk session moment serial act)

first_in : (xs : List Part) (act : Act) → IsWhole xs → FitsAct act → first_part act < length xs
first_in xs (Lobby act) w f = omega (arith, w.count)
first_in xs (Desk number serial act) w f = omega (arith, w.count, f.0)
first_in xs (Pair act) w f = omega (arith, w.count)

planned_in : (lobby : LobbyState) (session : ℕ) (act : PairAct) (r : Result Plan Refusal) (s : ℕ) → IsWellFormed lobby
    → NamesDesk act
    → plan_of lobby session act ≡ r → planned_desk r ≡ Some s → IsDesk s
planned_in lobby session act (Err cause) s formed f is e = absurd cc
planned_in lobby session act (Ok plan) s formed f is e =
    subst (λ (d : Option ℕ). IfSome d IsDesk) e (desk_of-is lobby plan (plan_of-is lobby session act plan formed f is))

second_in : (xs : List Part) (session : ℕ) (act : Act) (part : Part) (s : ℕ) → IsWhole xs → FitsAct act
    → slice_get xs (first_part act) ≡ Some part
    → second_part part session act ≡ Some s → (s < length xs) × (s ≢ first_part act)
second_in xs session (Lobby act) (TheLobby lobby) s w f e h = absurd cc
second_in xs session (Desk number serial act) (TheLobby lobby) s w f e h = absurd cc
second_in xs session (Pair act) (TheLobby lobby) s w f e h =
    let d : IsDesk s = planned_in lobby session act (plan_of lobby session act) s (formed_is xs lobby w e) f refl h in
    (omega (arith, d, w.count), λ z. omega (arith, d))
second_in xs session (Lobby act) (ADesk desk) s w f e h = absurd cc
second_in xs session (Desk number serial act) (ADesk desk) s w f e h = absurd cc
second_in xs session (Pair act) (ADesk desk) s w f e h = absurd cc

-- a desk that is cleared is free, whether a game goes on the shelf or not
games_put_away : (lobby : LobbyState) (session number serial : ℕ) (kept : Option StoredGame)
    → (committed lobby (Clear session number serial) kept true).games ≡ set lobby.games (number - 1) None
games_put_away lobby session number serial None = refl
games_put_away lobby session number serial (Some game) = refl

-- what a Clear leaves is whole, by whether the game has ended and whether nobody looks on
stays_cleared : (xs : List Part) (lobby : LobbyState) (session number serial : ℕ) (desk : DeskState) → IsWhole xs
    → slice_get xs 0 ≡ Some (TheLobby lobby)
    → slice_get xs number ≡ Some (ADesk desk) → IsDesk number → (kept : Option StoredGame)
    → CanShelve lobby (Clear session number serial) kept → (is_over is_alone : Bool)
    → IsWhole
    (set (set xs 0 (TheLobby (cond is_over (committed lobby (Clear session number serial) kept is_alone) lobby))) number
    (ADesk (cond (is_over && is_alone) (desk_emptied desk) desk)))
stays_cleared xs lobby session number serial desk w e d p kept can true true =
    whole_both xs lobby (committed lobby (Clear session number serial) kept true) number desk (desk_emptied desk) w e d
    (IsWellFormed-committed lobby (Clear session number serial) kept true p can (formed_is xs lobby w e))
    (games_put_away lobby session number serial kept) refl tt
stays_cleared xs lobby session number serial desk w e d p kept can true false =
    let new = committed lobby (Clear session number serial) kept false in
    whole_desk (set xs 0 (TheLobby new)) number desk desk
    (whole_lobby xs lobby new w e
    (IsWellFormed-committed lobby (Clear session number serial) kept false p can (formed_is xs lobby w e)) refl)
    (get_set_else xs 0 number (TheLobby new) (λ z. omega (arith, p)) ∙ d) refl refl
    (place_is xs lobby w e number (ADesk desk) d).1.sound
stays_cleared xs lobby session number serial desk w e d p kept can false is_alone =
    whole_desk (set xs 0 (TheLobby lobby)) number desk desk
    (whole_lobby xs lobby lobby w e (formed_is xs lobby w e) refl)
    (get_set_else xs 0 number (TheLobby lobby) (λ z. omega (arith, p)) ∙ d) refl refl
    (place_is xs lobby w e number (ADesk desk) d).1.sound

-- what a plan leaves is whole
stays_planned : (xs : List Part) (lobby : LobbyState) (plan : Plan) (number : ℕ) (desk : DeskState) (moment : ℕ)
    → IsWhole xs → slice_get xs 0 ≡ Some (TheLobby lobby)
    → desk_of plan ≡ Some number → slice_get xs number ≡ Some (ADesk desk) → IsPlanned lobby plan → moment ≤ last_moment
    → IsWhole (set (set xs 0 (TheLobby (plan_lobby lobby plan desk))) number (ADesk (plan_desk lobby plan desk moment)))
stays_planned xs lobby (Start own serial terms seats) number desk moment w e o d p timely =
    let plan : Plan = Start own serial terms seats in
    let same : own ≡ number = cc in
    subst (λ (n : ℕ).
    IsWhole (set (set xs 0 (TheLobby (plan_lobby lobby plan desk))) n (ADesk (plan_desk lobby plan desk moment))))
    same
    (whole_both xs lobby (plan_lobby lobby plan desk) own desk (plan_desk lobby plan desk moment) w e
    (subst (λ (n : ℕ). slice_get xs n ≡ Some (ADesk desk)) (sym same) d)
    (IsWellFormed-committed lobby plan None true p tt (formed_is xs lobby w e)) refl refl
    (IsSound-opened desk.number serial terms seats moment (may_play terms seats p.are_terms p.apart p.boards) timely))
stays_planned xs lobby (Clear session own serial) number desk moment w e o d p timely =
    let plan : Plan = Clear session own serial in
    let same : own ≡ number = cc in
    let there = subst (λ (n : ℕ). slice_get xs n ≡ Some (ADesk desk)) (sym same) d in
    let can : CanShelve lobby plan (kept_at desk) =
    carried_by lobby plan own desk (formed_is xs lobby w e) refl (place_is xs lobby w e own (ADesk desk) there).1 p in
    subst (λ (n : ℕ).
    IsWhole (set (set xs 0 (TheLobby (plan_lobby lobby plan desk))) n (ADesk (plan_desk lobby plan desk moment))))
    same
    (stays_cleared xs lobby session own serial desk w e there p (kept_at desk) can (has_ended desk serial)
    (nobody_looks_on desk))
stays_planned xs lobby (Resume own serial stored terms seats) number desk moment w e o d p timely =
    let plan : Plan = Resume own serial stored terms seats in
    let same : own ≡ number = cc in
    subst (λ (n : ℕ).
    IsWhole (set (set xs 0 (TheLobby (plan_lobby lobby plan desk))) n (ADesk (plan_desk lobby plan desk moment))))
    same
    (stays_resumed xs lobby own serial stored terms seats desk moment w e
    (subst (λ (n : ℕ). slice_get xs n ≡ Some (ADesk desk)) (sym same) d) p timely)
stays_planned xs lobby (Ask from to stored) number desk moment w e o d p timely = absurd cc

-- and so is what a plan leaves that needs the lobby alone
stays_asked : (xs : List Part) (lobby : LobbyState) (plan : Plan) → IsWhole xs → slice_get xs 0 ≡ Some (TheLobby lobby)
    → IsPlanned lobby plan
    → IsWhole (set xs 0 (TheLobby (alone_lobby lobby plan)))
stays_asked xs lobby (Ask from to stored) w e p =
    whole_lobby xs lobby (committed lobby (Ask from to stored) None true) w e
    (IsWellFormed-committed lobby (Ask from to stored) None true p tt (formed_is xs lobby w e)) refl
stays_asked xs lobby _ w e p = whole_lobby xs lobby lobby w e (formed_is xs lobby w e) refl

-- what a pair act leaves is whole: nothing is done where there is no plan
module _ (xs : List Part) (session moment : ℕ) (act : PairAct) (lobby : LobbyState) (w : IsWhole xs)
    (e : slice_get xs 0 ≡ Some (TheLobby lobby)) (f : NamesDesk act) (timely : moment ≤ last_moment) where
  abbrev timed : Timed
  timed = record { moment = moment; act = Pair act }

  stays_left : (r : Result Plan Refusal) → plan_of lobby session act ≡ r
      → IsWhole (set xs 0 (TheLobby (pair_lobby lobby r None)))
  stays_left (Err cause) is = whole_lobby xs lobby lobby w e (formed_is xs lobby w e) refl
  stays_left (Ok plan) is =
      stays_asked xs lobby plan w e (plan_of-is lobby session act plan (formed_is xs lobby w e) f is)

  stays_alone : (r : Result Plan Refusal) → plan_of lobby session act ≡ r → planned_desk r ≡ None
      → IsWhole (after house xs session timed)
  stays_alone r is none =
      let alone : after house xs session timed
      ≡ set xs 0 (TheLobby (pair_lobby lobby (plan_of lobby session act) None)) =
      after_alone house xs session timed (TheLobby lobby) e (ap planned_desk is ∙ none) in
      subst IsWhole (sym (alone ∙ ap (λ p. set xs 0 (TheLobby (pair_lobby lobby p None))) is)) (stays_left r is)

  stays_with : (plan : Plan) (number : ℕ) → plan_of lobby session act ≡ Ok plan → desk_of plan ≡ Some number
      → IsWhole (after house xs session timed)
  stays_with plan number is o =
      let planned : IsPlanned lobby plan = plan_of-is lobby session act plan (formed_is xs lobby w e) f is in
      let d : IsDesk number = subst (λ (x : Option ℕ). IfSome x IsDesk) o (desk_of-is lobby plan planned) in
      let found = desk_at xs number w d in
      let both : after house xs session timed
      ≡ set (set xs 0 (TheLobby (pair_lobby lobby (plan_of lobby session act) (Some (ADesk found.0))))) number
      (ADesk (pair_desk lobby (plan_of lobby session act) found.0 moment)) =
      after_together house xs session timed (TheLobby lobby) (ADesk found.0) number e (ap planned_desk is ∙ o)
      found.1 in
      let carried : set (set xs 0 (TheLobby (pair_lobby lobby (plan_of lobby session act) (Some (ADesk found.0)))))
      number (ADesk (pair_desk lobby (plan_of lobby session act) found.0 moment))
      ≡ set (set xs 0 (TheLobby (plan_lobby lobby plan found.0))) number (ADesk (plan_desk lobby plan found.0 moment)) =
      ap (λ r.
      set (set xs 0 (TheLobby (pair_lobby lobby r (Some (ADesk found.0))))) number
      (ADesk (pair_desk lobby r found.0 moment)))
      is in
      subst IsWhole (sym (both ∙ carried))
      (stays_planned xs lobby plan number found.0 moment w e o found.1 planned timely)

  stays_plan : (plan : Plan) (number : Option ℕ) → plan_of lobby session act ≡ Ok plan → desk_of plan ≡ number
      → IsWhole (after house xs session timed)
  stays_plan plan None is o = stays_alone (Ok plan) is o
  stays_plan plan (Some number) is o = stays_with plan number is o

  stays_pair : (r : Result Plan Refusal) → plan_of lobby session act ≡ r → IsWhole (after house xs session timed)
  stays_pair (Err cause) is = stays_alone (Err cause) is refl
  stays_pair (Ok plan) is = stays_plan plan (desk_of plan) is refl

stays_act : (xs : List Part) (session moment : ℕ) (act : Act) → IsWhole xs → FitsAct act → moment ≤ last_moment
    → IsWhole (after house xs session (record { moment = moment; act = act }))
stays_act xs session moment (Lobby act) w f timely =
    let timed : Timed = record { moment = moment; act = Lobby act } in
    let alone : after house xs session timed ≡ set xs 0 (TheLobby (lobby_after w.lobby session act)) =
    after_alone house xs session timed (TheLobby w.lobby) w.first refl in
    subst IsWhole (sym alone)
    (whole_lobby xs w.lobby (lobby_after w.lobby session act) w w.first
    (IsWellFormed-lobby_after w.lobby session act f w.formed) (games-lobby_after w.lobby session act))
stays_act xs session moment (Desk number serial act) w f timely =
    let timed : Timed = record { moment = moment; act = Desk number serial act } in
    let found = desk_at xs number w f.0 in
    let alone : after house xs session timed ≡ set xs number (ADesk (desk_after found.0 session moment serial act)) =
    after_alone house xs session timed (ADesk found.0) found.1 refl in
    subst IsWhole (sym alone)
    (whole_desk xs number found.0 (desk_after found.0 session moment serial act) w found.1
    (number-desk_after found.0 session moment serial act) (keeps_game found.0 session moment serial act)
    (sound-desk_after found.0 session moment serial act timely f.1 (w.places number (ADesk found.0) found.1).1.sound))
stays_act xs session moment (Pair act) w f timely =
    stays_pair xs session moment act w.lobby w w.first f timely (plan_of w.lobby session act) refl

pub house_lawful : Lawful house
house_lawful = record {
  first_in = λ xs timed w f. first_in xs timed.act w f.act;
  second_in = λ xs session timed part s w f e h. second_in xs session timed.act part s w f.act e h;
  stays = λ xs session timed w f. stays_act xs session timed.moment timed.act w f.act f.moment;
}
