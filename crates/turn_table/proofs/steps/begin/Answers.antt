use Rattle.std.proofs.Common.{arith}
use Rattle.turn_table.proofs.Beginning.{begins}
use Rattle.turn_table.proofs.steps.begin.Goals as goal

pub load-requires : goal.load-requires
load-requires g c =
    let t = c.requires.table in (
      t.same,
      omega (arith, c.requires.count, t.words),
      rw c.requires.meant
          (begins g.S.Served.core g.S.Served.lawful c.args.table.now.key.value.items c.args.act.now c.requires.fits
          c.args.seat.now.id c.args.seat.now.me c.requires.alive c.requires.idle c.args.table.now.table_id.slots
          c.args.count),
    )
