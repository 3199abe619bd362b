-- A hall that opened with what was loaded, and what was promised of it from the load on.
use Rattle.std.proofs.Common.{◌≡◌, ℕ, ◌⊎◌, inl, inr, Bool, List, [], take, refl, sym, ap, subst, ◌∙◌}
use Rattle.std.specs.Prelude.{IfSome, slice_get}
use Rattle.std.specs.declared.option.Option.{Option}
use Rattle.std.specs.declared.option.Option.TheVariants.{None, Some}
use Rattle.std.specs.Io.KnownBytes.{Appends}
use Rattle.std.proofs.KnownBytes.{Appends-trans}
use Rattle.edge_traits.specs.Door.{DoorTale}
use Rattle.edge_traits.specs.Calls.{Calls, noted}
use Rattle.edge_traits.specs.declared.call_log.Request.TheVariants.{Load}
use Rattle.edge_traits.specs.declared.keeper.Kept.{Kept}
use Rattle.edge_traits.specs.declared.keeper.Kept.TheVariants.{Done}
use Rattle.lobby_load.specs.Calling.{LoadsOnce}
use Rattle.edge_traits.specs.Faults.{Rose}
use Rattle.edge_traits.specs.Keeper.{Stays}
use Rattle.edge_traits.specs.Pairs.{Records}
use Rattle.edge_traits.specs.Sink.{AppendsFront, OnWriteFailed, UnlessWriteFailed, Wrote}
use Rattle.edge_traits.specs.declared.sink.Sent.{Sent}
use Rattle.edge_traits.specs.declared.sink.Sent.TheVariants as sent
use Rattle.lobby_shelf.specs.declared.order.Order.{Order}
use Rattle.lobby_shelf.specs.Wanted.{table_with}
use Rattle.histories.specs.History.{state}
use Rattle.lobby_load.specs.Loaded.{HasLoaded, IsAtOpening}
use Rattle.lobby_state.specs.Lobby.{LobbyState}
use Rattle.lobby_store.specs.Agreeing.{wanted_by}
use Rattle.lobby_store.specs.Carrying.{held}
use Rattle.one_server.specs.declared.part.Part.{Part}
use Rattle.one_server.specs.declared.part.Part.TheVariants.{Lobby as TheLobby}
use Rattle.one_server.specs.House.{house}
use Rattle.one_server.specs.Whole.{opened_server}
use Rattle.hall_core.specs.Passes.{PassState}
use Rattle.steward_core.proofs.StatesLead.{one_lobby}
use Rattle.serve_turn.specs.Stopping.{serving_status}
use Rattle.serve_turn.specs.declared.end.ServeEnd.{ServeEnd}
use Rattle.serve_turn.specs.declared.end.ServeEnd.TheVariants.{DoorFault, WriteFault}
use Rattle.steward_core.specs.declared.turn.StewardEnd.{StewardEnd}
use Rattle.serve_call.specs.Opening.{HasServedFrom, IsLoaded}
use Rattle.serve_core.specs.Ends.{EndsServing}
use Rattle.serve_core.specs.Serving.{AgreesIn, HasServedAll, TellsAgreed}
use Rattle.serve_core.specs.Text.{Says, SaysText, ready_text, whole_text}
use Rattle.serve_core.specs.Outside.{Sheet}
use Rattle.edge_traits.specs.Calls.{Store}
use Rattle.cmd_lines.proofs.Rounds.{Rose-since}

-- ---- nothing was written at the load

module _ (old mid new : Option (List ℕ)) (none : Appends old mid []) where
  pub appends_from : (bytes : List ℕ) → Appends mid new bytes → Appends old new bytes
  appends_from bytes p = Appends-trans old mid new [] bytes none p

  pub front_from : (bytes : List ℕ) → AppendsFront mid new bytes → AppendsFront old new bytes
  front_from bytes p = (p.0, appends_from (take p.0 bytes) p.1)

wrote_from : (said : Sent) (old mid new : Option (List ℕ)) (bytes : List ℕ) → Appends old mid []
    → Wrote mid new bytes said → Wrote old new bytes said
wrote_from sent.All old mid new bytes none p = appends_from old mid new none bytes p
wrote_from sent.Failed old mid new bytes none p = front_from old mid new none bytes p
wrote_from sent.Memory old mid new bytes none p = front_from old mid new none bytes p

module _ (end : ServeEnd) (last : StewardEnd) (before mid later : Sheet) (none : Appends before.written mid.written [])
    (same : mid.faults ≡ before.faults) where
  says_from : (text : List ℕ) (said : Sent) (now : Sheet) → Says text said mid now → Says text said before now
  says_from text said now p = record {
    wrote = wrote_from said before.written mid.written now.written text none p.wrote;
    cause = subst (λ (n : ℕ). OnWriteFailed said (Rose n now.faults)) same p.cause;
    calm = subst (λ (n : ℕ). UnlessWriteFailed said (now.faults ≡ n)) same p.calm;
  }

  text_from : (short : Bool) (count : ℕ) (door : Option DoorTale) → SaysText end short last door count mid later
      → SaysText end short last door count before later
  text_from short count door (inl p) =
      inl (record {
        none_taken = p.none_taken;
        said = p.said;
        supply = p.supply;
        unwritten = p.unwritten;
        ready = says_from ready_text p.said later p.ready;
        ends = p.ends;
        shortage = p.shortage;
      })
  text_from short count door (inr p) = inr (record {
    why = p.why;
    stopped = p.stopped;
    mid = p.mid;
    ready = says_from ready_text sent.All p.mid p.ready;
    said = p.said;
    closed = p.closed;
    supply = p.supply;
    ends = p.ends;
    shortage = p.shortage;
  })

-- ---- the table stayed at the load

agrees_from : (told told' now : Option Records) (opening parts : List Part) → Stays told told'
    → IfSome told' (λ table. AgreesIn table opening → TellsAgreed now parts)
    → IfSome told (λ table. AgreesIn table opening → TellsAgreed now parts)
agrees_from None told' now opening parts stays p = tt
agrees_from (Some table) None now opening parts stays p = absurd stays
agrees_from (Some table) (Some table') now opening parts stays p =
    subst (λ (t : Records). AgreesIn t opening → TellsAgreed now parts) stays p

-- ---- what was loaded agrees

first_part : (lobby : LobbyState) → slice_get (opened_server lobby) 0 ≡ Some (TheLobby lobby)
unfolding opened_server
first_part lobby = refl

loaded_agrees : (table : Records) (lobby : LobbyState) → IsAtOpening lobby → HasLoaded table lobby
    → AgreesIn table (opened_server lobby)
loaded_agrees table lobby at loads other there key =
    let same : other ≡ lobby = one_lobby (opened_server lobby) other lobby there (first_part lobby) in
    let none : other.shelf.orders ≡ [] = ap (λ (l : LobbyState). l.shelf.orders) same ∙ at.no_orders in
    ap (λ (orders : List Order). table_with (held table) orders key) none
    ∙ sym (loads key)
    ∙ ap (λ (l : LobbyState). wanted_by l key) (sym same)

agreed_by : (told now : Option Records) (lobby : LobbyState) (opening parts : List Part) → IsAtOpening lobby
    → IfSome told (λ table. HasLoaded table lobby) → opening ≡ opened_server lobby
    → IfSome told (λ table. AgreesIn table opening → TellsAgreed now parts)
    → IfSome told (λ table. TellsAgreed now parts)
agreed_by None now lobby opening parts at loads is p = tt
agreed_by (Some table) now lobby opening parts at loads is p =
    p (subst (AgreesIn table) (sym is) (loaded_agrees table lobby at loads))

-- the table that is told agrees at the end
pub table_agrees : (shows : ℕ → Bool) (lobby : LobbyState) (end : ServeEnd) (door : Option DoorTale)
    (before later : Sheet) (old loaded new : Store) (pass : PassState)
    → IsLoaded old loaded lobby
    → HasServedAll shows (opened_server lobby) end door before later loaded new pass
    → IfSome old.table (λ table. TellsAgreed new.table (state house pass.opening pass.seen))
table_agrees shows lobby end door before later old loaded new pass loads p =
    let parts = state house pass.opening pass.seen in
    agreed_by old.table new.table lobby pass.opening parts loads.opening loads.holds p.hall.opens
    (agrees_from old.table loaded.table new.table pass.opening parts loads.stays p.store)

-- ---- what was promised once the hall was open is promised from before the load on

-- the load of a store that was opened: this lobby was loaded, and nothing was written
pub record Opens (lobby : LobbyState) (old loaded : Store) (before mid : Sheet) : Type 0 where
  pub loads : IsLoaded old loaded lobby
  pub silent : Appends before.written mid.written []
  pub calm : mid.faults ≡ before.faults

module _ {lobby : LobbyState} {old loaded : Store} {before mid : Sheet}
    (opens : Opens lobby old loaded before mid) where
  served_on : {shows : ℕ → Bool} {end : ServeEnd} {door : Option DoorTale} {later : Sheet} {new : Store}
      {pass : PassState}
      → HasServedAll shows (opened_server lobby) end door mid later loaded new pass
      → HasServedAll shows (opened_server lobby) end door before later loaded new pass
  served_on {end} {door} {later} {pass} p =
      record {
        last = p.last;
        hall = p.hall;
        links = p.links;
        steward = p.steward;
        store = p.store;
        text = text_from end p.last before mid later opens.silent opens.calm pass.short pass.splits door p.text;
      }

  pub has_served : {shows : ℕ → Bool} {status : ℕ} {end : ServeEnd} {door : Option DoorTale} {later : Sheet}
      {new : Store} {pass : PassState}
      → status ≡ serving_status end → HasServedAll shows (opened_server lobby) end door mid later loaded new pass
      → HasServedFrom shows status door before later old new pass
  has_served {end} ends p = (lobby, loaded, opens.loads, end, ends, served_on p)

  pub leaves_agreed : {shows : ℕ → Bool} {end : ServeEnd} {door : Option DoorTale} {later : Sheet} {new : Store}
      {pass : PassState}
      → HasServedAll shows (opened_server lobby) end door mid later loaded new pass
      → IfSome old.table (λ table. TellsAgreed new.table (state house pass.opening pass.seen))
  leaves_agreed {shows} {end} {door} {later} {new} {pass} p =
      table_agrees shows lobby end door before later old loaded new pass opens.loads (served_on p)

  pub ends_on : {end : ServeEnd} {door door' : ℕ} {later : Sheet} {new : Store}
      → EndsServing end door door' mid later loaded new → EndsServing end door door' before later old new
  ends_on {end} {later} {new} p =
      let sink : Rose mid.faults later.faults → Rose before.faults later.faults =
      subst (λ n. Rose n later.faults) opens.calm in
      let keeper = Rose-since old.faults loaded.faults new.faults opens.loads.counted in
      record {
        door_fault = p.door_fault;
        write_fault = λ e. sink (p.write_fault e);
        keeper_fault = λ e. keeper (p.keeper_fault e);
        write_told =
            subst (λ n. (later.faults ≡ n) ⊎ ((end ≡ WriteFault) ⊎ (end ≡ DoorFault))) opens.calm p.write_told;
        complete = λ door none_written none_kept.
            p.complete door (λ rose. none_written (sink rose)) (λ rose. none_kept (keeper rose));
        text = λ clean. appends_from before.written mid.written later.written opens.silent whole_text (p.text clean);
        text_part = front_from before.written mid.written later.written opens.silent whole_text p.text_part;
      }

-- ---- a hall, if there is one

pub some_as : {H : Type 0} (o : Option H) (P Q : H → Type 0) → IfSome o P → ((h : H) → P h → Q h) → IfSome o Q
some_as None P Q p f = tt
some_as (Some h) P Q p f = f h p

-- the load of a store that was opened
pub load_done : (old new : Calls) → LoadsOnce old new (λ answer. answer ≡ Done) → new ≡ noted old Load Done
load_done old new p = subst (λ (answer : Kept). new ≡ noted old Load answer) p.2 p.1
