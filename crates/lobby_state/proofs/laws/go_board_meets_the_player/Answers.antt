use Rattle.lobby_state.proofs.Meeting.{meets_player}
use Rattle.lobby_state.proofs.laws.go_board_meets_the_player.Goals as goal

pub returns : goal.returns
returns c = meets_player c.args.lobby.now c.args.session c.args.name
