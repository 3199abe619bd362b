use Rattle.std.proofs.Common.{◌≡◌, ap, ◌∙◌, arith}
use Rattle.lobby_state.specs.Games.{games_lines, lines_to}
use Rattle.lobby_state.proofs.roster.Roster.games_lines.Goals as goal

pub returns : goal.returns
unfolding games_lines
returns c =
    let all : c.loop-slot.slot ≡ 128 = omega (arith, c.loop-slot.auto.slot-end, c.loop-slot-test.false) in
    c.loop-slot.invariant ∙ ap (lines_to c.args.self.now) all
