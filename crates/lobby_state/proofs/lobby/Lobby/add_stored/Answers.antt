use Rattle.std.proofs.Common.{◌≡◌, None, sym, subst}
use Rattle.lobby_shelf.specs.Numbers.{stored_game}
use Rattle.lobby_state.specs.Lobby.{LobbyState}
use Rattle.lobby_state.proofs.KeepsResumed.{unused-stored}
use Rattle.lobby_state.proofs.KeepsStoring.{IsWellFormed-storing}
use Rattle.lobby_state.proofs.lobby.Lobby.add_stored.Goals as goal

pub add_stored-requires-clause-unused : goal.add_stored-requires-clause-unused
add_stored-requires-clause-unused c =
    let lobby = c.self.inside.roster in
    unused-stored lobby.shelf.games c.args.number
    (subst (λ (l : LobbyState). stored_game l.shelf.games c.args.number ≡ None) (sym c.self.view_is) c.requires.unused)

pub invariant_of-self : goal.invariant_of-self
invariant_of-self c =
    let lobby = c.self.inside.roster in
    let unused = unused-stored lobby.shelf.games c.args.number
    (subst (λ (l : LobbyState). stored_game l.shelf.games c.args.number ≡ None) (sym c.self.view_is)
    c.requires.unused) in
    IsWellFormed-storing lobby c.args.number c.args.game c.add_stored.new.self c.add_stored.result c.requires.positive
    c.ranges.number.fits unused
    c.requires.replays c.self.invariant c.add_stored.ensures
