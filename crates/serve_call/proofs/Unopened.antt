-- A hall that wasn't opened for want of memory, behind a load that went well.
use Rattle.std.proofs.Common.{◌≡◌, ℕ, ◌⊎◌, inl, inr, List, [], Err, refl, sym, ap, subst, ◌∙◌}
use Rattle.std.specs.Prelude.{IfNone}
use Rattle.std.specs.declared.option.Option.{Option}
use Rattle.std.specs.declared.option.Option.TheVariants.{None, Some}
use Rattle.std.specs.Io.KnownBytes.{Appends, Keeps}
use Rattle.std.proofs.KnownBytes.{Appends-nil}
use Rattle.edge_traits.specs.Faults.{Rose}
use Rattle.edge_traits.specs.Keeper.{Stays}
use Rattle.edge_traits.specs.Pairs.{Records}
use Rattle.edge_traits.specs.declared.keeper.Kept.TheVariants.{Done}
use Rattle.lobby_load.specs.Calling.{FailsAt, LoadsOnce}
use Rattle.lobby_load.specs.Refused.{OnReadFault, OnWriteFault, UnlessWriteFault}
use Rattle.lobby_load.specs.Telling.{TellsBadRecord}
use Rattle.lobby_load.specs.declared.refusals.StoreFault.{StoreFault}
use Rattle.lobby_load.specs.declared.refusals.StoreFault.TheVariants as unopened
use Rattle.serve_call.proofs.Opening.{Opens}
use Rattle.serve_call.specs.Opening.{CallsUnopened, IsUnopened, StaysUnopened}
use Rattle.serve_core.specs.Ends.{EndsServing}
use Rattle.lobby_state.specs.Lobby.{LobbyState}
use Rattle.serve_core.specs.Outside.{Sheet}
use Rattle.edge_traits.specs.Calls.{Calls, Store}
use Rattle.serve_turn.specs.Stopping.{serving_status}
use Rattle.serve_turn.specs.declared.end.ServeEnd.{ServeEnd}
use Rattle.serve_turn.specs.declared.end.ServeEnd.TheVariants.{DoorFault, Memory, WriteFault}

pub none_as : {H : Type 0} {A B : Type 0} (o : Option H) → (A → B) → IfNone o A → IfNone o B
none_as None f p = f p
none_as (Some h) f p = tt

nothing_written : (old mid new : Option (List ℕ)) → Appends old mid [] → Keeps mid new → Appends old new []
nothing_written None mid new none kept = tt
nothing_written (Some x) None new none kept = absurd none
nothing_written (Some x) (Some y) None none kept = absurd kept
nothing_written (Some x) (Some y) (Some z) none kept = kept ∙ none

no_fault : (end : ServeEnd) (before mid later : ℕ) → end ≡ Memory → mid ≡ before
    → (later ≡ mid) ⊎ ((end ≡ WriteFault) ⊎ (end ≡ DoorFault)) → later ≡ before
no_fault end before mid later is same (inl e) = e ∙ same
no_fault end before mid later is same (inr (inl e)) = (let bad : Memory ≡ WriteFault = sym is ∙ e in cc)
no_fault end before mid later is same (inr (inr e)) = (let bad : Memory ≡ DoorFault = sym is ∙ e in cc)

-- what was promised of no hall is promised from before the load on
pub none_opened : {H : Type 0} {lobby : LobbyState} {old loaded new : Store} {before mid later : Sheet}
    {end : ServeEnd} {door door' status : ℕ} (hall : Option H)
    → Opens lobby old loaded before mid → status ≡ serving_status end
    → EndsServing end door door' mid later loaded new
    → IfNone hall ((end ≡ Memory) × Keeps mid.written later.written) → IfNone hall (new ≡ loaded)
    → IfNone hall (IsUnopened status old new before later)
none_opened {old} {loaded} {new} {before} {mid} {later} {end} None opens ends serves p kept = (
  unopened.Memory,
  ends ∙ ap serving_status p.0,
  record {
    wrote = inl (nothing_written before.written mid.written later.written opens.silent p.1);
    keeper_fault = λ e. cc;
    write_fault = λ e. cc;
    write_calm = no_fault end before.faults mid.faults later.faults p.0 opens.calm serves.write_told;
    table = subst (Stays old.table) (sym (ap (λ (s : Store). s.table) kept)) opens.loads.stays;
    called = inr (Done, ap (λ (s : Store). s.calls) kept ∙ opens.loads.called, λ failed. cc);
  },
)
none_opened (Some h) opens ends serves p kept = tt

-- a store that wasn't opened
calls_unopened : (fault : StoreFault) (old new : Calls) → LoadsOnce old new (FailsAt fault)
    → CallsUnopened fault old new
calls_unopened unopened.BadRecord old new p = p
calls_unopened unopened.KeeperFault old new p = p
calls_unopened unopened.WriteFault old new p = p
calls_unopened unopened.Memory old new p = inr p

pub unopened_by : (fault : StoreFault) (old new : Store) (before after : Sheet)
    → TellsBadRecord {A = LobbyState} old.table before.written after.written (Err fault)
    → OnReadFault {A = LobbyState} (Err fault) (Rose old.faults new.faults)
    → OnWriteFault {A = LobbyState} (Err fault) (Rose before.faults after.faults)
    → UnlessWriteFault {A = LobbyState} (Err fault) (after.faults ≡ before.faults) → Stays old.table new.table
    → LoadsOnce old.calls new.calls (FailsAt fault) → StaysUnopened fault old new before after
unopened_by fault old new before after wrote read write calm stays called = record {
  wrote = wrote;
  keeper_fault = λ e.
      subst (λ (f : StoreFault). OnReadFault {A = LobbyState} (Err f) (Rose old.faults new.faults)) e read;
  write_fault = λ e.
      subst (λ (f : StoreFault). OnWriteFault {A = LobbyState} (Err f) (Rose before.faults after.faults)) e write;
  write_calm = calm;
  table = stays;
  called = calls_unopened fault old.calls new.calls called;
}

-- memory ran out before the keeper was called
stays_same : (table : Option Records) → Stays table table
stays_same None = tt
stays_same (Some table) = refl

pub unasked : (store : Store) (sheet : Sheet) → StaysUnopened unopened.Memory store store sheet sheet
unasked store sheet = record {
  wrote = inl (Appends-nil sheet.written);
  keeper_fault = λ e. cc;
  write_fault = λ e. cc;
  write_calm = refl;
  table = stays_same store.table;
  called = inl refl;
}
