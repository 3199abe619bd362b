use Rattle.std.proofs.Common.{arith, ◌≡◌, ap, ◌∙◌, length}
use Rattle.chess_model.specs.Placement.{array_of}
use Rattle.chess_model.specs.Census.{men_on, men_in}
use Rattle.chess_model.proofs.Arrays.{length-array, men_at_start}
use Rattle.variant_rules.proofs.position.Position.start.Goals as goal

pub invariant_of-result : goal.invariant_of-result
invariant_of-result c =
    let array : c.of-men.result ≡ array_of c.args.v = c.of-men.ensures ∙ c.array_for.ensures in
    record {
      squares = ap length array ∙ length-array c.args.v;
      men = λ other.
          omega (arith, ap men_on array, men_at_start c.args.v, ap men_in c.empty.ensures, ap men_in c.empty-2.ensures);
    }
