use Rattle.std.proofs.Common.{sym}
use Rattle.variant_rules.proofs.sights.side_with.Goals as goal

pub returns : goal.returns
returns c P size men = record {
  pawns = c.written.ensures _ P c.args.man size men.pawns (sym c.is_man_of.ensures);
  knights = c.written-2.ensures _ P c.args.man size men.knights (sym c.is_man_of-2.ensures);
  bishops = c.written-3.ensures _ P c.args.man size men.bishops (sym c.is_man_of-3.ensures);
  rooks = c.written-4.ensures _ P c.args.man size men.rooks (sym c.is_man_of-4.ensures);
  queens = c.written-5.ensures _ P c.args.man size men.queens (sym c.is_man_of-5.ensures);
  kings = c.written-6.ensures _ P c.args.man size men.kings (sym c.is_man_of-6.ensures);
}
