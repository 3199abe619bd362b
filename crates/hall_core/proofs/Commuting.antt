-- Acts without a common part commute, and may stand in either order in a history.
use Rattle.std.proofs.Common.{◌≡◌, ◌≢◌, ℕ, ◌⊎◌, inl, inr, List, ◌∷◌, ◌≤◌, ap, sym, subst, ◌∙◌, arith}
use Rattle.std.specs.List.{slice_get}
use Rattle.std.specs.Option.{option_and_then}
use Rattle.std.specs.declared.option.Option.{Option}
use Rattle.std.specs.declared.option.Option.TheVariants.{None, Some}
use Rattle.histories.specs.Core.{Touches}
use Rattle.histories.specs.History.{state, Legal}
use Rattle.histories.proofs.Steps.{replies_commute, states_commute}
use Rattle.histories.proofs.Histories.{state-append, legal-append, legal_front, legal_back}
use Rattle.linked_desk.specs.declared.acts.DeskAct.{DeskAct}
use Rattle.lobby_state.specs.declared.acts.LobbyAct.{LobbyAct}
use Rattle.lobby_state.specs.declared.acts.PairAct.{PairAct}
use Rattle.lobby_state.specs.Lobby.{LobbyState}
use Rattle.lobby_state.specs.Plans.{plan_of}
use Rattle.one_server.specs.declared.act.Act.{Act}
use Rattle.one_server.specs.declared.act.Act.TheVariants.{Lobby, Desk, Pair}
use Rattle.one_server.specs.declared.part.Part.{Part}
use Rattle.one_server.specs.declared.part.Part.TheVariants.{Lobby as TheLobby, Desk as ADesk}
use Rattle.one_server.specs.Acts.{first_part, second_part, planned_desk}
use Rattle.one_server.specs.House.{house}
use Rattle.hall_core.specs.Apart.{Call, Commute, ApartCommute, DesksCommute, LobbyCommutes, PairCommutes, NobodyCanTell}

pub apart_commute : ApartCommute
apart_commute parts one other apart =
    let replies = replies_commute house parts one.session one.timed other.session other.timed apart in
    record {
      one_reply = replies.0;
      other_reply = replies.1;
      state = states_commute house parts one.session one.timed other.session other.timed apart;
    }

desk_alone : (one : Option Part) (k desk serial s : ℕ) (act : DeskAct)
    → option_and_then (λ (p : Part). second_part p k (Desk desk serial act)) one ≡ Some s → ⊥
desk_alone None k desk serial s act h = cc
desk_alone (Some (TheLobby lobby)) k desk serial s act h = cc
desk_alone (Some (ADesk d)) k desk serial s act h = cc

lobby_alone : (one : Option Part) (k s : ℕ) (act : LobbyAct)
    → option_and_then (λ (p : Part). second_part p k (Lobby act)) one ≡ Some s → ⊥
lobby_alone None k s act h = cc
lobby_alone (Some (TheLobby lobby)) k s act h = cc
lobby_alone (Some (ADesk d)) k s act h = cc

-- a desk act touches its desk alone
desk_touched : (parts : List Part) (call : Call) (desk serial s : ℕ) (act : DeskAct)
    → call.timed.act ≡ Desk desk serial act → Touches house parts call.session call.timed s → s ≡ desk
desk_touched parts call desk serial s act e (inl h) = h ∙ ap first_part e
desk_touched parts call desk serial s act e (inr h) =
    absurd (desk_alone (slice_get parts desk) call.session desk serial s act
    (subst (λ (a : Act).
    option_and_then (λ (p : Part). second_part p call.session a) (slice_get parts (first_part a)) ≡ Some s)
    e h))

-- a lobby act touches the lobby alone
lobby_touched : (parts : List Part) (call : Call) (s : ℕ) (act : LobbyAct) → call.timed.act ≡ Lobby act
    → Touches house parts call.session call.timed s → s ≡ 0
lobby_touched parts call s act e (inl h) = h ∙ ap first_part e
lobby_touched parts call s act e (inr h) =
    absurd (lobby_alone (slice_get parts 0) call.session s act
    (subst (λ (a : Act).
    option_and_then (λ (p : Part). second_part p call.session a) (slice_get parts (first_part a)) ≡ Some s)
    e h))

-- a pair act touches the lobby and the desk of its plan
pair_touched : (parts : List Part) (lobby : LobbyState) (call : Call) (s : ℕ) (act : PairAct)
    → slice_get parts 0 ≡ Some (TheLobby lobby) → call.timed.act ≡ Pair act
    → Touches house parts call.session call.timed s → (s ≡ 0) ⊎ (planned_desk (plan_of lobby call.session act) ≡ Some s)
pair_touched parts lobby call s act there e (inl h) = inl (h ∙ ap first_part e)
pair_touched parts lobby call s act there e (inr h) =
    inr
    (subst (λ (o : Option Part). option_and_then (λ (p : Part). second_part p call.session (Pair act)) o ≡ Some s) there
    (subst (λ (a : Act).
    option_and_then (λ (p : Part). second_part p call.session a) (slice_get parts (first_part a)) ≡ Some s)
    e h))

pub desks_commute : DesksCommute
desks_commute parts one other desk desk' serial serial' act act' differ e e' =
    apart_commute parts one other
    (λ s t u.
    differ (sym (desk_touched parts one desk serial s act e t) ∙ desk_touched parts other desk' serial' s act' e' u))

pub lobby_commutes : LobbyCommutes
lobby_commutes parts one other desk serial act act' is e e' =
    apart_commute parts one other (λ s t u.
    let z : s ≡ 0 = lobby_touched parts one s act e t in
    let d : s ≡ desk = desk_touched parts other desk serial s act' e' u in
    omega (arith, is))

other_desk : (planned : Option ℕ) (desk s : ℕ) → planned ≢ Some desk → 1 ≤ desk → s ≡ desk
    → (s ≡ 0) ⊎ (planned ≡ Some s) → ⊥
other_desk planned desk s differ low d (inl z) = omega arith
other_desk planned desk s differ low d (inr p) = differ (p ∙ ap (λ (n : ℕ). Some n) d)

pub pair_commutes : PairCommutes
pair_commutes parts lobby one other desk serial act act' there differ is e e' =
    apart_commute parts one other (λ s t u.
    other_desk (planned_desk (plan_of lobby one.session act)) desk s differ is.0
    (desk_touched parts other desk serial s act' e' u)
    (pair_touched parts lobby one s act there e t))

pub nobody_can_tell : NobodyCanTell
nobody_can_tell opening before rest one other apart legal =
    let now : List Part = state house opening before in
    let both : Commute now (record {
      session = one.session;
      timed = one.act;
    }) (record { session = other.session; timed = other.act }) =
    apart_commute now (record {
      session = one.session;
      timed = one.act;
    }) (record { session = other.session; timed = other.act }) apart in
    let l : Legal house now (one ∷ other ∷ rest) = legal_back house opening before (one ∷ other ∷ rest) legal in
    let swapped : Legal house now (other ∷ one ∷ rest) = (
      l.2.0,
      sym both.other_reply ∙ l.2.1,
      (l.0, both.one_reply ∙ l.1, subst (λ (xs : List Part). Legal house xs rest) both.state l.2.2),
    ) in (
      legal-append house opening before (other ∷ one ∷ rest)
          (legal_front house opening before (one ∷ other ∷ rest) legal) swapped,
      state-append house opening before (other ∷ one ∷ rest)
          ∙ (ap (λ (xs : List Part). state house xs rest) (sym both.state)
          ∙ sym (state-append house opening before (one ∷ other ∷ rest))),
    )
