use Rattle.variant_rules.proofs.WholeList.{listed}
use Rattle.variant_rules.proofs.position.Position.moves.Goals as goal

pub returns : goal.returns
returns c =
    listed c.args.self.now _ c.add_plain_moves.new.out.items c.add_castling.new.out.items c.add_castling-2.new.out.items
    c.add_drops.new.out.items
    c.in_ok-out.ensures.items c.in_ok-add_plain_moves.ensures c.in_ok-add_castling.ensures
    c.in_ok-add_castling-2.ensures c.in_ok-add_drops.ensures
