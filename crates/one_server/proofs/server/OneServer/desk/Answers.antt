use Rattle.std.proofs.Common.{◌≡◌, ℕ, Some, List, length, slice_get, ap, sym, ◌∙◌, arith}
use Rattle.lobby_state.specs.Desks.{desks as desk_count}
use Rattle.one_server.specs.declared.part.Part.{Part}
use Rattle.one_server.specs.Server.{parts_in}
use Rattle.one_server.specs.WholeProof.{desk_at}
use Rattle.one_server.proofs.Stepping.{count_of_desks, read_there}
use Rattle.one_server.proofs.Serving.{no_desk, whole_now}
use Rattle.one_server.proofs.server.OneServer.desk.Goals as goal

pub bounds-as_slice-get : goal.bounds-as_slice-get
bounds-as_slice-get c =
    let count : length c.self.inside.desks ≡ desk_count =
    count_of_desks c.self.inside.lobby c.self.inside.desks (whole_now _ _ _ c.self.invariant) in
    let same : length c.as_slice.result.now ≡ length c.self.inside.desks = ap length c.as_slice.ensures in
    omega (arith, count, same, c.get.ensures.desk)

pub unreachable-requires : goal.unreachable-requires
unreachable-requires c =
    let whole = whole_now _ _ _ c.self.invariant in
    let found = desk_at _ c.get.result whole c.get.ensures.desk in
    let there =
    read_there c.self.inside.lobby c.self.inside.desks c.as_slice.result.now c.get.result
    c.index-as_slice-get.result whole c.get.ensures.desk c.as_slice.ensures c.index-as_slice-get.is in
    no_desk c.in-Lobby.field-0 found.0 (sym found.1 ∙ there ∙ ap Some c.in-Lobby.is)

pub returns : goal.returns
returns c =
    let there =
    read_there c.self.inside.lobby c.self.inside.desks c.as_slice.result.now c.get.result
    c.index-as_slice-get.result (whole_now _ _ _ c.self.invariant) c.get.ensures.desk c.as_slice.ensures
    c.index-as_slice-get.is in
    ap (λ (n : ℕ). slice_get (parts_in c.args.self.now) n) (sym c.get.ensures.value)
    ∙ ap (λ (ps : List Part). slice_get ps c.get.result) (ap parts_in (sym c.self.view_is) ∙ c.self.invariant.state)
    ∙ there ∙ ap Some c.in-Desk.is
