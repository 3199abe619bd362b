use Rattle.std.proofs.Common.{rules, below_more}
use Rattle.chess_model.specs.Squares.{along}
use Rattle.chess_model.specs.Attacked.{IsAttacked}
use Rattle.rules_plain.proofs.allowed.is_unattacked_way.Goals as goal

pub loop-k-preserved : goal.loop-k-preserved
loop-k-preserved c =
    let here : ¬ IsAttacked c.args.men.now c.args.by (along c.args.a c.args.b c.loop-k.k) =
    rw (← c.stepped.ensures) (search rules) in
    below_more _ _ c.loop-k.invariant here
