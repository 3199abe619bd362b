use Rattle.std.proofs.Common.{◌≡◌, List, ℕ, Err, sym, subst}
use Rattle.edge_traits.specs.declared.keeper.Kept.TheVariants.{Done}
use Rattle.lobby_state.specs.Lobby.{LobbyState}
use Rattle.lobby_load.specs.Calling.{FailsAt, LoadsAt, LoadsOnce}
use Rattle.lobby_load.specs.Refused.{OnBadRecord}
use Rattle.lobby_load.specs.Telling.{IsFirstBad, TellsKey}
use Rattle.lobby_load.specs.declared.refusals.LoadRefusal.{LoadRefusal}
use Rattle.lobby_load.proofs.Told.{tells_of, told_at}
use Rattle.lobby_load.proofs.opening.open_store.Goals as goal

pub returns-in-Err-BadRecord-clause-tells : goal.returns-in-Err-BadRecord-clause-tells
returns-in-Err-BadRecord-clause-tells g c =
    let told = g.P.Keeper.table c.args.keeper.now in
    let old = g.K.Sink.written c.args.sink.now in
    let new = g.K.Sink.written c.tell.new.sink in
    let key = c.in-Err-BadRecord.key in
    let first : IsFirstBad told key =
    subst (λ (r : LoadRefusal). OnBadRecord {A = Unit {0}} (Err r) (IsFirstBad told)) c.in-Err-BadRecord.field-0-is
    c.in-Err-BadRecord.ensures.bad in
    tells_of LobbyState told old new key c.tell.result first
    (subst (λ (bytes : List ℕ). TellsKey bytes old new c.tell.result) c.as_slice.ensures c.tell.ensures.tells)

pub returns-in-Err-BadRecord-clause-called : goal.returns-in-Err-BadRecord-clause-called
returns-in-Err-BadRecord-clause-called g c =
    let old = g.P.Keeper.calls c.args.keeper.now in
    let new = g.P.Keeper.calls c.load.new.keeper in
    let called : LoadsOnce old new (λ answer. answer ≡ Done) =
    subst (λ (r : LoadRefusal). LoadsOnce old new (LoadsAt {A = Unit {0}} (Err r))) c.in-Err-BadRecord.field-0-is
    c.in-Err-BadRecord.ensures.called in (
      called.0,
      called.1,
      subst (FailsAt c.tell.result) (sym called.2)
          (told_at c.as_slice.result.now (g.K.Sink.written c.args.sink.now) (g.K.Sink.written c.tell.new.sink)
          c.tell.result
          c.tell.ensures.tells),
    )
