use Rattle.std.proofs.Common.{Option, ap, sym, subst, ◌∙◌}
use Rattle.std.specs.Prelude.{All}
use Rattle.lobby_state.specs.declared.game.ListedGame.{ListedGame}
use Rattle.lobby_state.specs.Clear.{PlaysThere}
use Rattle.lobby_state.specs.Lobby.{LobbyState, game_at}
use Rattle.lobby_state.specs.WellFormed.{HasSeats}
use Rattle.lobby_state.proofs.GettingUp.{all_play}
use Rattle.lobby_state.proofs.roster.Roster.clear.Goals as goal

pub get_up-requires : goal.get_up-requires
get_up-requires c =
    let inside = c.self.inside in
    let seats = subst (λ (l : LobbyState). All (HasSeats l.games) l.members) (sym c.self.view_is) c.requires in
    let game = ap (λ (l : LobbyState). game_at l c.args.desk) c.self.view_is ∙ sym c.game-game.ensures in
    subst (λ (game : Option ListedGame). All (PlaysThere c.args.desk game) inside.members) game
    (all_play inside.games c.args.desk inside.members seats)
