-- What each pair act and each plan keeps, and what follows of the plans that a lobby gives, for all of them alike.
use Rattle.std.proofs.Common.{◌≡◌, ℕ, Option, Result, Ok, subst}
use Rattle.std.specs.Prelude.{Bool, IfOk, IfSome}
use Rattle.fics_words.specs.declared.refusal.Refusal.{Refusal}
use Rattle.lobby_state.specs.declared.acts.PairAct.{PairAct}
use Rattle.lobby_state.specs.declared.acts.PairAct.TheVariants.{Accept, Play, Clear, Resume}
use Rattle.lobby_state.specs.declared.acts.Plan.{Plan}
use Rattle.lobby_state.specs.declared.acts.Plan.TheVariants.{Start, Clear as Clearing, Resume as Resuming, Ask}
use Rattle.lobby_state.specs.Keeps.{KeepsPlan}
use Rattle.lobby_state.specs.Desks.{IsDesk}
use Rattle.lobby_state.specs.Lobby.{LobbyState}
use Rattle.lobby_state.specs.Planned.{IsPlanned}
use Rattle.lobby_state.specs.Plans.{NamesDesk, committed, desk_of, plan_effect, plan_of}
use Rattle.game_records.specs.declared.stored_game.StoredGame.{StoredGame}
use Rattle.lobby_state.specs.Reserve.{CanShelve}
use Rattle.lobby_state.specs.WellFormed.{IsWellFormed}
use Rattle.lobby_state.proofs.KeepsAccept.{keeps_accept}
use Rattle.lobby_state.proofs.KeepsClear.{keeps_cleared}
use Rattle.lobby_state.proofs.KeepsPlay.{keeps_play}
use Rattle.lobby_state.proofs.KeepsResume.{keeps_resume}
use Rattle.lobby_state.proofs.KeepsResumed.{keeps_asked, keeps_resumed}
use Rattle.lobby_state.proofs.KeepsStart.{keeps_started}
use Rattle.lobby_state.proofs.Refusals.{holds_of_answer}
use Rattle.lobby_state.proofs.StartPlans.{CanPlan}

-- the table: what each pair act keeps
pub keeps_pair : (lobby : LobbyState) (session : ℕ) (act : PairAct) → NamesDesk act
    → CanPlan lobby (plan_effect lobby session act)
keeps_pair lobby session (Accept name) names = keeps_accept lobby session name
keeps_pair lobby session (Play number) names = keeps_play lobby session number
keeps_pair lobby session (Clear desk serial) names = λ _ _. names
keeps_pair lobby session (Resume name) names = keeps_resume lobby session name

-- and what each plan keeps
pub keeps_plan : (lobby : LobbyState) (plan : Plan) → IsPlanned lobby plan → KeepsPlan lobby plan
keeps_plan lobby (Start desk serial terms seats) can = keeps_started lobby desk serial terms seats can
keeps_plan lobby (Clearing session desk serial) is_desk = keeps_cleared lobby session desk serial is_desk
keeps_plan lobby (Resuming desk serial number terms seats) can = keeps_resumed lobby desk serial number terms seats can
keeps_plan lobby (Ask from to number) can = keeps_asked lobby from to number can

-- a plan that the lobby gave can be carried out in it
pub IfOk-plan_of : (lobby : LobbyState) (session : ℕ) (act : PairAct) → NamesDesk act → IsWellFormed lobby
    → IfOk (plan_of lobby session act) (IsPlanned lobby)
IfOk-plan_of lobby session act names h =
    holds_of_answer (IsPlanned lobby) (plan_effect lobby session act)
    (λ none. keeps_pair lobby session act names none h)

pub plan_of-is : (lobby : LobbyState) (session : ℕ) (act : PairAct) (plan : Plan) → IsWellFormed lobby → NamesDesk act
    → plan_of lobby session act ≡ Ok plan → IsPlanned lobby plan
plan_of-is lobby session act plan h names e =
    subst (λ (r : Result Plan Refusal). IfOk r (IsPlanned lobby)) e (IfOk-plan_of lobby session act names h)

-- its desk, if it has one, is a desk of the hall
pub desk_of-is : (lobby : LobbyState) (plan : Plan) → IsPlanned lobby plan → IfSome (desk_of plan) IsDesk
desk_of-is lobby plan can = (keeps_plan lobby plan can).is_desk

-- a lobby in which a plan was carried out is well-formed
pub IsWellFormed-committed : (lobby : LobbyState) (plan : Plan) (game : Option StoredGame) (is_cleared : Bool)
    → IsPlanned lobby plan
    → CanShelve lobby plan game → IsWellFormed lobby → IsWellFormed (committed lobby plan game is_cleared)
IsWellFormed-committed lobby plan game is_cleared can shelving h =
    (keeps_plan lobby plan can).formed game is_cleared shelving h
