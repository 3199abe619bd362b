-- Acts that tell no orders as saved lead a store along, from state to state of the server.
use Rattle.std.proofs.Common.{◌≡◌, ℕ, true, false, cond, List, [], ◌∷◌, Option, None, Some, set, slice_get, refl, sym, ap, subst, ◌∙◌, arith}
use Rattle.std.specs.Prelude.{IfSome, Result, Ok, Err}
use Rattle.std.specs.List.{AllByRecursion}
use Rattle.fics_words.specs.declared.refusal.Refusal.{Refusal}
use Rattle.histories.specs.declared.entry.Entry.{Entry}
use Rattle.histories.specs.Core.{after}
use Rattle.histories.specs.History.{Legal, state}
use Rattle.histories.proofs.Parts.{get_set_else, get_set_same, slice_get_length}
use Rattle.histories.proofs.Steps.{after_alone, after_together}
use Rattle.linked_desk.specs.Desk.{DeskState}
use Rattle.lobby_state.specs.declared.acts.PairAct.{PairAct}
use Rattle.lobby_state.specs.declared.acts.Plan.{Plan}
use Rattle.lobby_state.specs.declared.acts.Plan.TheVariants.{Start, Clear, Resume, Ask}
use Rattle.lobby_state.specs.Acts.{lobby_after}
use Rattle.lobby_state.specs.Lobby.{LobbyState}
use Rattle.lobby_state.specs.Desks.{IsDesk}
use Rattle.lobby_state.specs.Planned.{IsPlanned}
use Rattle.lobby_state.specs.Plans.{NamesDesk, committed, desk_of, plan_of}
use Rattle.lobby_state.proofs.KeepsPlans.{desk_of-is, plan_of-is}
use Rattle.lobby_store.specs.Agreeing.{LeadsAlong}
use Rattle.lobby_store.proofs.LeadingAlong.{leads_act, leads_nowhere, leads_plan, leads_then}
use Rattle.one_server.specs.declared.act.Act.{Act}
use Rattle.one_server.specs.declared.act.Act.TheVariants.{Lobby, Desk, Pair}
use Rattle.one_server.specs.declared.act.Timed.{Timed}
use Rattle.one_server.specs.declared.part.Part.{Part}
use Rattle.one_server.specs.declared.part.Part.TheVariants.{Lobby as TheLobby, Desk as ADesk}
use Rattle.one_server.specs.declared.reply.Reply.{Reply}
use Rattle.one_server.specs.Acts.{IsEvent, planned_desk}
use Rattle.one_server.specs.Desks.{has_ended, nobody_looks_on}
use Rattle.one_server.specs.House.{house, pair_lobby}
use Rattle.one_server.specs.LawfulProof.{house_lawful}
use Rattle.one_server.specs.CarryingProof.{carried_by}
use Rattle.one_server.specs.Clearing.{kept_at}
use Rattle.one_server.specs.Plans.{alone_lobby, plan_lobby}
use Rattle.one_server.specs.Running.{Log}
use Rattle.one_server.specs.Whole.{IsWhole}
use Rattle.one_server.specs.WholeProof.{desk_at, place_is}
use Rattle.steward_core.specs.Agreement.{SaysSaved}

-- from the lobby of the one state to that of the other
pub record LeadsParts (xs ys : List Part) : Type 0 where
  pub old : LobbyState
  pub new : LobbyState
  pub there : slice_get xs 0 ≡ Some (TheLobby old)
  pub there_now : slice_get ys 0 ≡ Some (TheLobby new)
  pub leads : LeadsAlong old new

abbrev pub lobby_in : LobbyState → Option Part → LobbyState
lobby_in other (Some (TheLobby lobby)) = lobby
lobby_in other _ = other

-- the lobby of a state is one
pub one_lobby : (xs : List Part) (one other : LobbyState) → slice_get xs 0 ≡ Some (TheLobby one)
    → slice_get xs 0 ≡ Some (TheLobby other) → one ≡ other
one_lobby xs one other p q = ap (lobby_in one) (sym p ∙ q)

parts_then : (xs ys zs : List Part) → LeadsParts xs ys → LeadsParts ys zs → LeadsParts xs zs
parts_then xs ys zs p q = record {
  old = p.old;
  new = q.new;
  there = p.there;
  there_now = q.there_now;
  leads =
      leads_then p.old p.new q.new p.leads
      (subst (λ (l : LobbyState). LeadsAlong l q.new) (one_lobby ys q.old p.new q.there p.there_now) q.leads);
}

pub put_lobby : (xs : List Part) (old new : LobbyState) → slice_get xs 0 ≡ Some (TheLobby old)
    → slice_get (set xs 0 (TheLobby new)) 0 ≡ Some (TheLobby new)
put_lobby xs old new e = get_set_same xs 0 (TheLobby new) (slice_get_length xs 0 (TheLobby old) e)

module _ (xs : List Part) (w : IsWhole xs) (session moment : ℕ) where
  abbrev timed : Act → Timed
  timed act = record { moment = moment; act = act }

  leads_planned : (plan : Plan) (number : ℕ) (desk : DeskState) → desk_of plan ≡ Some number
      → slice_get xs number ≡ Some (ADesk desk) → IsPlanned w.lobby plan
      → LeadsAlong w.lobby (plan_lobby w.lobby plan desk)
  leads_planned (Start own serial terms seats) number desk o d p =
      leads_plan w.lobby (Start own serial terms seats) None true w.formed p tt
  leads_planned (Clear by own serial) number desk o d p =
      let can =
      carried_by w.lobby (Clear by own serial) number desk w.formed o
      (place_is xs w.lobby w w.first number (ADesk desk) d).1 p in
      elim (has_ended desk serial)
      as (λ t.
      LeadsAlong w.lobby
      (cond t (committed w.lobby (Clear by own serial) (kept_at desk) (nobody_looks_on desk)) w.lobby)) [
        | true ↦ leads_plan w.lobby (Clear by own serial) (kept_at desk) (nobody_looks_on desk) w.formed p can
        | false ↦ leads_nowhere w.lobby
      ]
  leads_planned (Resume own serial stored terms seats) number desk o d p =
      leads_plan w.lobby (Resume own serial stored terms seats) None true w.formed p tt
  leads_planned (Ask from to stored) number desk o d p = leads_plan w.lobby (Ask from to stored) None true w.formed p tt

  leads_alone : (plan : Plan) → IsPlanned w.lobby plan → LeadsAlong w.lobby (alone_lobby w.lobby plan)
  leads_alone (Ask from to stored) p = leads_plan w.lobby (Ask from to stored) None true w.formed p tt
  leads_alone _ p = leads_nowhere w.lobby

  leads_left : (act : PairAct) (r : Result Plan Refusal) → NamesDesk act → plan_of w.lobby session act ≡ r
      → LeadsAlong w.lobby (pair_lobby w.lobby r None)
  leads_left act (Err cause) names is = leads_nowhere w.lobby
  leads_left act (Ok plan) names is = leads_alone plan (plan_of-is w.lobby session act plan w.formed names is)

  pair_alone : (act : PairAct) (r : Result Plan Refusal) → NamesDesk act → plan_of w.lobby session act ≡ r
      → planned_desk r ≡ None
      → LeadsParts xs (after house xs session (timed (Pair act)))
  pair_alone act r names is none =
      let new = pair_lobby w.lobby r None in
      let alone : after house xs session (timed (Pair act))
      ≡ set xs 0 (TheLobby (pair_lobby w.lobby (plan_of w.lobby session act) None)) =
      after_alone house xs session (timed (Pair act)) (TheLobby w.lobby) w.first (ap planned_desk is ∙ none) in
      record {
        old = w.lobby;
        new = new;
        there = w.first;
        there_now =
            ap (λ (l : List Part). slice_get l 0)
            (alone ∙ ap (λ (p : Result Plan Refusal). set xs 0 (TheLobby (pair_lobby w.lobby p None))) is)
            ∙ put_lobby xs w.lobby new w.first;
        leads = leads_left act r names is;
      }

  pair_with : (act : PairAct) (plan : Plan) (number : ℕ) → NamesDesk act → plan_of w.lobby session act ≡ Ok plan
      → desk_of plan ≡ Some number
      → LeadsParts xs (after house xs session (timed (Pair act)))
  pair_with act plan number names is o =
      let planned : IsPlanned w.lobby plan = plan_of-is w.lobby session act plan w.formed names is in
      let is_desk : IsDesk number = subst (λ (x : Option ℕ). IfSome x IsDesk) o (desk_of-is w.lobby plan planned) in
      let found = desk_at xs number w is_desk in
      let new = plan_lobby w.lobby plan found.0 in
      let both =
      after_together house xs session (timed (Pair act)) (TheLobby w.lobby) (ADesk found.0) number w.first
      (ap planned_desk is ∙ o) found.1 in
      record {
        old = w.lobby;
        new = new;
        there = w.first;
        there_now = ap (λ (l : List Part). slice_get l 0) both
            ∙ get_set_else
            (set xs 0 (TheLobby (pair_lobby w.lobby (plan_of w.lobby session act) (Some (ADesk found.0))))) number 0 _
            (λ z. omega (arith, is_desk))
            ∙ ap
            (λ (p : Result Plan Refusal).
            slice_get (set xs 0 (TheLobby (pair_lobby w.lobby p (Some (ADesk found.0))))) 0)
            is
            ∙ put_lobby xs w.lobby new w.first;
        leads = leads_planned plan number found.0 o found.1 planned;
      }

  pair_plan : (act : PairAct) (plan : Plan) (number : Option ℕ) → NamesDesk act → plan_of w.lobby session act ≡ Ok plan
      → desk_of plan ≡ number
      → LeadsParts xs (after house xs session (timed (Pair act)))
  pair_plan act plan None names is o = pair_alone act (Ok plan) names is o
  pair_plan act plan (Some number) names is o = pair_with act plan number names is o

  pair_step : (act : PairAct) (r : Result Plan Refusal) → NamesDesk act → plan_of w.lobby session act ≡ r
      → LeadsParts xs (after house xs session (timed (Pair act)))
  pair_step act (Err cause) names is = pair_alone act (Err cause) names is refl
  pair_step act (Ok plan) names is = pair_plan act plan (desk_of plan) names is refl

  pub leads_step : (act : Act) → IsEvent (timed act) → (SaysSaved act → ⊥)
      → LeadsParts xs (after house xs session (timed act))
  leads_step (Lobby act) fits other =
      let new = lobby_after w.lobby session act in
      let alone : after house xs session (timed (Lobby act)) ≡ set xs 0 (TheLobby new) =
      after_alone house xs session (timed (Lobby act)) (TheLobby w.lobby) w.first refl in
      record {
        old = w.lobby;
        new = new;
        there = w.first;
        there_now = ap (λ (l : List Part). slice_get l 0) alone ∙ put_lobby xs w.lobby new w.first;
        leads = leads_act w.lobby session act other;
      }
  leads_step (Desk number serial act) fits other =
      let is_desk = fits.act.0 in
      let found = desk_at xs number w is_desk in
      let alone = after_alone house xs session (timed (Desk number serial act)) (ADesk found.0) found.1 refl in
      record {
        old = w.lobby;
        new = w.lobby;
        there = w.first;
        there_now =
            ap (λ (l : List Part). slice_get l 0) alone ∙ get_set_else xs number 0 _ (λ z. omega (arith, is_desk))
            ∙ w.first;
        leads = leads_nowhere w.lobby;
      }
  leads_step (Pair act) fits other = pair_step act (plan_of w.lobby session act) fits.act refl

pub leads_log : (xs : List Part) (es : Log) → IsWhole xs → Legal house xs es
    → AllByRecursion (λ (e : Entry Timed Reply). SaysSaved e.act.act → ⊥) es
    → LeadsParts xs (state house xs es) × IsWhole (state house xs es)
leads_log xs [] whole legal none = (
  record {
    old = whole.lobby;
    new = whole.lobby;
    there = whole.first;
    there_now = whole.first;
    leads = leads_nowhere whole.lobby;
  },
  whole,
)
leads_log xs (e ∷ es) whole legal none =
    let ys = after house xs e.session e.act in
    let step = leads_step xs whole e.session e.act.moment e.act.act legal.0 none.0 in
    let rest = leads_log ys es (house_lawful.stays xs e.session e.act whole legal.0) legal.2 none.1 in
    (parts_then xs ys (state house ys es) step rest.0, rest.1)
