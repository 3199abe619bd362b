use Rattle.std.proofs.Common.{◌≡◌, List, None, Some, IfOk, sym, ap, subst, ◌∙◌}
use Rattle.chess_model.specs.declared.moves.Move.{Move}
use Rattle.lobby_state.specs.Lobby.{places_of}
use Rattle.one_server.specs.Server.{parts_in}
use Rattle.cmd_demo.specs.Turns.{present_of}
use Rattle.cmd_demo.proofs.Moves.{at_desk, no_place}
use Rattle.cmd_demo.proofs.turns.moves_of.Goals as goal

pub returns-in_default : goal.returns-in_default
returns-in_default c =
    let present : present_of (places_of c.lobby.result.now c.args.session) ≡ None =
    ap present_of (sym c.places.ensures) ∙ sym c.present.ensures ∙ c.in_default.is in
    c.new.ensures.items
    ∙ sym (no_place c.args.session (parts_in c.args.server.now) c.lobby.result.now c.lobby.ensures present)

pub returns : goal.returns
returns c =
    let present : present_of (places_of c.lobby.result.now c.args.session) ≡ Some c.in-Some.place =
    ap present_of (sym c.places.ensures) ∙ sym c.present.ensures ∙ c.in-Some.is in
    let moves =
    at_desk c.args.session (parts_in c.args.server.now) c.lobby.result.now c.in-Some.place c.desk.result.now
    c.lobby.ensures present c.desk.ensures in
    subst (λ (all : List Move). IfOk c.moves_at.result (λ found. found.items ≡ all)) (sym moves) c.moves_at.ensures
