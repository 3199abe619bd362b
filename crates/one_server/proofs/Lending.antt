-- In a whole state an act finds the parts that it is to be lent.
use Rattle.std.proofs.Common.{◌≡◌, ℕ, List, refl, sym, subst, ◌∙◌}
use Rattle.std.specs.List.{slice_get}
use Rattle.std.specs.Prelude.{IfSome, IsSome}
use Rattle.std.specs.declared.option.Option.{Option}
use Rattle.std.specs.declared.option.Option.TheVariants.{Some}
use Rattle.std.specs.declared.result.Result.{Result}
use Rattle.std.specs.declared.result.Result.TheVariants.{Ok, Err}
use Rattle.fics_words.specs.declared.refusal.Refusal.{Refusal}
use Rattle.linked_desk.specs.Desk.{DeskState}
use Rattle.lobby_state.specs.declared.acts.PairAct.{PairAct}
use Rattle.lobby_state.specs.declared.acts.Plan.{Plan}
use Rattle.lobby_state.specs.Desks.{IsDesk}
use Rattle.lobby_state.specs.Plans.{NamesDesk, plan_of, desk_of}
use Rattle.lobby_state.specs.Lobby.{LobbyState}
use Rattle.lobby_state.specs.Planned.{IsPlanned}
use Rattle.lobby_state.proofs.KeepsPlans.{plan_of-is, desk_of-is}
use Rattle.one_server.specs.declared.act.Act.{Act}
use Rattle.one_server.specs.declared.act.Act.TheVariants.{Lobby, Desk, Pair}
use Rattle.one_server.specs.declared.part.Part.{Part}
use Rattle.one_server.specs.declared.part.Part.TheVariants.{Lobby as TheLobby, Desk as ADesk}
use Rattle.one_server.specs.Acts.{FitsAct, first_part, planned_desk, second_part}
use Rattle.one_server.specs.CarryingProof.{carried_by}
use Rattle.one_server.specs.Lent.{AreBothOf, IsCarried, IsFirstOf}
use Rattle.one_server.specs.Whole.{IsWhole}
use Rattle.one_server.specs.WholeProof.{desk_at, formed_is, place_is}
use Rattle.one_server.proofs.Serving.{front}

-- what stands first is the lobby, and what stands at a desk's number is a desk
pub lends_first : (parts : List Part) (act : Act) (one : Part) → IsWhole parts → FitsAct act
    → slice_get parts (first_part act) ≡ Some one → IsFirstOf one act
lends_first parts (Lobby act) one w f e =
    subst (λ (p : Part). IsFirstOf p (Lobby act)) (front (TheLobby w.lobby) one (sym w.first ∙ e)) tt
lends_first parts (Pair act) one w f e =
    subst (λ (p : Part). IsFirstOf p (Pair act)) (front (TheLobby w.lobby) one (sym w.first ∙ e)) tt
lends_first parts (Desk number serial act) one w f e =
    let found = desk_at parts number w f.0 in
    subst (λ (p : Part). IsFirstOf p (Desk number serial act)) (front (ADesk found.0) one (sym found.1 ∙ e)) tt

some_is : (o : Option ℕ) (number : ℕ) → o ≡ Some number → IsSome o
some_is o number e = subst IsSome (sym e) refl

-- a plan is carried out at the desk with its number
lends_carried : (parts : List Part) (lobby : LobbyState) (session : ℕ) (act : PairAct) (two : Part) (number : ℕ)
    (r : Result Plan Refusal)
    → IsWhole parts → NamesDesk act
    → slice_get parts 0 ≡ Some (TheLobby lobby) → plan_of lobby session act ≡ r → planned_desk r ≡ Some number
    → slice_get parts number ≡ Some two
    → (desk : DeskState) × (two ≡ ADesk desk) × IsCarried lobby r desk
lends_carried parts lobby session act two number (Err cause) w names e is s t = absurd cc
lends_carried parts lobby session act two number (Ok plan) w names e is s t =
    let planned : IsPlanned lobby plan = plan_of-is lobby session act plan (formed_is parts lobby w e) names is in
    let own = desk_of-is lobby plan planned in
    let d : IsDesk number = subst (λ (x : Option ℕ). IfSome x IsDesk) s own in
    let found = desk_at parts number w d in
    let place = place_is parts lobby w e number (ADesk found.0) found.1 in (
      found.0,
      front two (ADesk found.0) (sym t ∙ found.1),
      (
        some_is (desk_of plan) number s,
        own,
        carried_by lobby plan number found.0 (formed_is parts lobby w e) s place.1 planned,
      ),
    )

lends_pair : (parts : List Part) (lobby : LobbyState) (session : ℕ) (act : PairAct) (two : Part) (number : ℕ)
    → IsWhole parts → NamesDesk act → slice_get parts 0 ≡ Some (TheLobby lobby)
    → planned_desk (plan_of lobby session act) ≡ Some number → slice_get parts number ≡ Some two
    → AreBothOf (TheLobby lobby) two session (Pair act)
lends_pair parts lobby session act two number w names e s t =
    let h = lends_carried parts lobby session act two number (plan_of lobby session act) w names e refl s t in
    subst (λ (p : Part). AreBothOf (TheLobby lobby) p session (Pair act)) (sym h.1) h.2

pub lends_second : (parts : List Part) (session : ℕ) (act : Act) (one two : Part) (number : ℕ) → IsWhole parts
    → FitsAct act → slice_get parts (first_part act) ≡ Some one
    → second_part one session act ≡ Some number → slice_get parts number ≡ Some two → AreBothOf one two session act
lends_second parts session (Pair act) (TheLobby lobby) two number w f e s t =
    lends_pair parts lobby session act two number w f e s t
lends_second parts session (Lobby act) (TheLobby lobby) two number w f e s t = absurd cc
lends_second parts session (Desk desk serial act) (TheLobby lobby) two number w f e s t = absurd cc
lends_second parts session act (ADesk desk) two number w f e s t = absurd cc
