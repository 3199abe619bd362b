use Rattle.std.proofs.Common.{◌≡◌, ap, ◌∙◌, arith}
use Rattle.lobby_state.specs.InUse.{desks_in_use, rows_to}
use Rattle.lobby_state.proofs.roster.Roster.desks_in_use.Goals as goal

pub returns : goal.returns
unfolding desks_in_use
returns c =
    let all : c.loop-slot.slot ≡ 128 = omega (arith, c.loop-slot.auto.slot-end, c.loop-slot-test.false) in
    c.loop-slot.invariant ∙ ap (rows_to c.args.self.now) all
