use Rattle.std.proofs.Common.{arith}
use Rattle.turn_table.proofs.Looking.{sees}
use Rattle.turn_table.proofs.steps.look.Goals as goal

pub load-requires : goal.load-requires
load-requires g c =
    let t = c.requires.table in (
      t.same,
      omega (arith, c.requires.count, t.words),
      sees g.S.Served.core g.S.Served.lawful c.args.table.now.key.value.items c.args.seat.now.id c.args.seat.now.me
          c.requires.alive c.args.table.now.table_id.slots c.args.count,
    )
