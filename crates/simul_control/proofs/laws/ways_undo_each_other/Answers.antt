use Rattle.std.proofs.Common.{length}
use Rattle.simul_control.proofs.Circle.{back, on}
use Rattle.simul_control.proofs.laws.ways_undo_each_other.Goals as goal

pub returns : goal.returns
returns c = record {
  back = back (length c.args.places.now.rows) c.args.places.now.at c.len-count.ensures.present;
  on = on (length c.args.places.now.rows) c.args.places.now.at c.len-count.ensures.present;
}
